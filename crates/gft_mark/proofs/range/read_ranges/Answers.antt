use Rattle.gft_mark.proofs.RangeLemmas.{range-empty, range-list, range-unnamed}
use Rattle.gft_mark.proofs.range.read_ranges.Goals as goal

pub returns-in_default-clause-none : goal.returns-in_default-clause-none
returns-in_default-clause-none c = λ refused. range-unnamed c.args.reply.now (rw c.line_at.ensures at c.in_default.ensures)

pub returns-in-Ok-clause-none : goal.returns-in-Ok-clause-none
returns-in-Ok-clause-none c = λ refused.
    range-empty c.args.reply.now c.in-Some.list.now c.in-Ok.set.ranges (rw (← c.line_at.ensures) c.in-Some.ensures) c.in-Ok.ensures.list (c.some_ranges.ensures.none refused)

pub returns-in-Err-BadList-clause-none : goal.returns-in-Err-BadList-clause-none
returns-in-Err-BadList-clause-none c = λ refused ranges is.
    let none = rw c.in-Err-BadList.field-0-is at c.in-Err-BadList.ensures.none in
    none ranges (range-list c.args.reply.now c.in-Some.list.now ranges (rw (← c.line_at.ensures) c.in-Some.ensures) is)

pub returns-in-Err-TooMany-clause-none : goal.returns-in-Err-TooMany-clause-none
returns-in-Err-TooMany-clause-none c = λ refused ranges is.
    let none = rw c.in-Err-TooMany.field-0-is at c.in-Err-TooMany.ensures.none in
    none ranges (range-list c.args.reply.now c.in-Some.list.now ranges (rw (← c.line_at.ensures) c.in-Some.ensures) is)
