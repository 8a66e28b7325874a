use Rattle.std.proofs.Common.{◌≡◌, ◌+◌, ◌-◌, sym, ap, ◌∙◌, arith}
use Rattle.gft_core.specs.Kept.{byte_at}
use Rattle.gft_core.proofs.KeptLemmas.{byte_at-below, byte_at-get}
use Rattle.gft_core.proofs.taken.byte_at.Goals as goal

pub returns-then-offset-start : goal.returns-then-offset-start
returns-then-offset-start c = sym (byte_at-below c.args.start c.args.bytes.now c.args.offset (omega (arith, c.if-offset-start.true)))

pub returns : goal.returns
returns c =
    let place = c.args.offset - c.args.start in
    let same : c.args.start + place ≡ c.args.offset = omega (arith, c.if-offset-start.false) in
    c.nth.ensures ∙ sym (byte_at-get c.args.start place c.args.bytes.now) ∙ ap (byte_at c.args.start c.args.bytes.now) same
