use Rattle.std.proofs.Common.{◌≡◌, sym}
use Rattle.std.proofs.lemmas.Bool.{lt-ltb, ltb-true}
use Rattle.gft_base.specs.Words.{Lacks, line_feed}
use Rattle.gft_reply.proofs.FitsLemmas.{line_feed_in, not_writable, short_enough, whole_of, writable}
use Rattle.gft_reply.proofs.written.line_fits.Goals as goal

pub returns-then-is_some : goal.returns-then-is_some
returns-then-is_some c =
    let found = line_feed_in c.args.line.now c.split_first.result.0.now c.split_first.result.1 c.split_first.ensures.parts (sym c.if-is_some.ensures) in
    (λ h. absurd (cc h), λ h. absurd (not_writable c.args.at c.args.code c.args.line.now c.split_first.result.0.now found.0 found.1 h))

pub returns : goal.returns
returns c =
    let text = c.args.line.now in
    let whole = whole_of (text ≡ c.split_first.result.0.now) c.split_first.result.1 (sym c.if-is_some.ensures) c.split_first.ensures.whole in
    let lacks : Lacks line_feed text = rw whole c.split_first.ensures.apart in
    let len = c.front_len.ensures.len c.args.code in
    (λ h. writable c.args.at c.args.code c.front_len.result text len lacks (ltb-true _ _ h), λ h. lt-ltb _ _ (short_enough c.args.at c.args.code c.front_len.result text len h))
