use Rattle.std.proofs.Common.{rules, append_assoc}
use Rattle.gft_command.proofs.RowLemmas.{value_text}
use Rattle.gft_command.proofs.forms.written.Goals as goal

pub returns : goal.returns
returns g c =
    value_text c.args.verb.now _ (g.F.Form.value_in c.args.value.now) c.requires.verb (search (rules, append_assoc)) (g.met.F.Form.is_spaced c.args.value.now) c.requires.fits c.in_ok-append.ensures.read
