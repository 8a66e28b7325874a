use Rattle.std.proofs.Common.{sym, ◌∙◌, arith}
use Rattle.gft_journal.proofs.tests.complete_whole.Goals as goal

pub complete-requires-clause-whole : goal.complete-requires-clause-whole
complete-requires-clause-whole g c κs within = λ read told x.
    let on = c.in_ok-found.ensures.found in
    let finds = on.finds read (sym on.read ∙ told) in (
      λ covers. c.end-len.ensures.below x ((finds.ranges x).1 covers),
      λ lt. (finds.ranges x).0 (c.covers-is_whole.ensures.each.0 c.if-not-is_whole.false x (omega arith, lt)),
    )
