use Rattle.gft_dial.proofs.DialLemmas.{Opened}
use Rattle.gft_dial.proofs.dialling.dial_all.Given as goal

abbrev pub invariant-loop-number : goal.invariant-loop-number
invariant-loop-number g l = Opened g.K.Out.OutLane.state l.channels l.places (g.K.Link.state l.initial.link) l.initial.stripes l.number (g.K.Link.state l.link) l.stripes
