use Rattle.std.proofs.Common.{◌≡◌, ◌-◌, ◌++◌, cond, take, arith, ap, ◌∙◌}
use Rattle.std.proofs.lemmas.List.{length-take-le}
use Rattle.gft_eblock.proofs.FeedLemmas.{data_more, data_none}
use Rattle.gft_eblock.specs.declared.channel.State.TheVariants.{Header, EodWaits}
use Rattle.gft_eblock.specs.Arrivals.{data_at}
use Rattle.gft_eblock.proofs.channel.take_data.Goals as goal
use Rattle.gft_eblock.proofs.channel.take_data.Goals.{then-eod, else-eod}

pub returns-then-len-left-clause-carried : goal.returns-then-len-left-clause-carried
returns-then-len-left-clause-carried c shift taken later =
    let front = take c.min-len.result c.args.piece.now in
    data_more c.args.offset c.args.left c.min-len.result c.args.eod shift taken front later
    (length-take-le c.min-len.result c.args.piece.now (omega (arith, c.min-len.ensures))) (omega arith)

pub returns-clause-carried : goal.returns-clause-carried
returns-clause-carried c shift taken later =
    let len = c.min-len.result in
    let front = take len c.args.piece.now in
    let state : c.if-eod.result ≡ cond c.args.eod EodWaits Header =
    elim c.if-eod.branch [ then-eod w ↦ rw (w.if-eod.true, w.result-is) | else-eod w ↦ rw (w.if-eod.false, w.result-is) ] in
    data_more c.args.offset c.args.left len c.args.eod shift taken front later
    (length-take-le len c.args.piece.now (omega (arith, c.min-len.ensures))) (omega (arith, c.min-len.ensures))
    ∙ ap (λ rest. data_at c.args.offset front ++ rest) (rw state (data_none _ (c.args.left - len) c.args.eod shift _ later (omega (arith, c.min-len.ensures))))
