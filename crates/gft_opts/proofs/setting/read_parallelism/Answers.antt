use Rattle.std.proofs.Common.{refl}
use Rattle.gft_opts.proofs.SettingLemmas.{three_numbers, three_ordered, three_read}
use Rattle.gft_opts.proofs.setting.read_parallelism.Goals as goal

pub returns-in_err-most-2 : goal.returns-in_err-most-2
returns-in_err-most-2 c = rw c.from_residual-in_err-most-2.ensures (λ start is.
    let one = rw c.in_ok-behind.was at c.split_first.ensures.parts in
    let two = rw c.in_ok-most.was at c.split_first-2.ensures.parts in
    let three = three_numbers c.args.text.now _ c.in_ok-behind.field-0.now _ c.in_ok-most.field-0.now start one two is in
    c.in_err-most-2.ensures three.high three.most_is)

pub returns-then-not-are_ordered : goal.returns-then-not-are_ordered
returns-then-not-are_ordered c = λ start is.
    let one = rw c.in_ok-behind.was at c.split_first.ensures.parts in
    let two = rw c.in_ok-most.was at c.split_first-2.ensures.parts in
    let three = three_numbers c.args.text.now _ c.in_ok-behind.field-0.now _ c.in_ok-most.field-0.now start one two is in
    absurd (cc (c.if-not-are_ordered.ensures.1 (three_ordered _ _ _ start _ _ _ three c.in_ok-start.ensures c.in_ok-least.ensures c.in_ok-most-2.ensures)))

pub returns : goal.returns
returns c =
    let one = rw c.in_ok-behind.was at c.split_first.ensures.parts in
    let two = rw c.in_ok-most.was at c.split_first-2.ensures.parts in
    let ordered = c.if-not-are_ordered.ensures.0 refl in
    three_read c.args.text.now _ c.in_ok-behind.field-0.now _ c.in_ok-most.field-0.now c.in_ok-start.start one two (record {
      low = c.in_ok-least.least;
      high = c.in_ok-most-2.most;
      start_is = c.in_ok-start.ensures;
      least_is = c.in_ok-least.ensures;
      most_is = c.in_ok-most-2.ensures;
      some = ordered.0;
      above = ordered.1;
      below = ordered.2;
      limited = ordered.3;
    })
