use Rattle.std.proofs.Common.{◌+◌, ◌++◌, List, ℕ, length, ap, ◌∙◌, arith}
use Rattle.gft_text.proofs.LineLemmas.{bool_byte-cond, feed-carries, feed-overruns, feed-short-at, held, items_short, overlong-stays}
use Rattle.gft_text.specs.Lines.{line_begun}
use Rattle.gft_text.proofs.lines.Lines.feed.Goals as goal

pub returns-clause-carried : goal.returns-clause-carried
returns-clause-carried c =
    let inside = c.self.inside in
    let len = rw c.deref.ensures.value at c.begun_len-begun.ensures.len in
    let kept = rw c.deref.ensures.value at c.begun_len-begun.ensures.kept in
    let items = c.in_ok-replace_end.ensures.ok ∙ ap (λ (x : List ℕ). x ++ c.up_to_line_feed-whole.result.0.now) kept in
    let first = line_begun (held inside.bytes.items inside.whole) in
    let short = items_short c.args.piece.now _ first _ _ _ c.up_to_line_feed-whole.ensures items (omega arith) (omega arith) (λ e. omega arith) in
    rw (← c.self.view_is) (feed-carries inside.bytes.items inside.whole c.args.piece.now _ _ _ _ _ c.self.invariant.0 c.up_to_line_feed-whole.ensures items (omega arith) short (ap (λ (n : ℕ). length c.up_to_line_feed-whole.result.0.now + n) (c.from.ensures ∙ bool_byte-cond _)))

pub returns-then-len-eq-LINE_LIMIT-clause-too_long : goal.returns-then-len-eq-LINE_LIMIT-clause-too_long
returns-then-len-eq-LINE_LIMIT-clause-too_long c = λ _.
    let inside = c.self.inside in
    let len = rw c.deref.ensures.value at c.begun_len-begun.ensures.len in
    let kept = rw c.deref.ensures.value at c.begun_len-begun.ensures.kept in
    let items = c.in_ok-replace_end.ensures.ok ∙ ap (λ (x : List ℕ). x ++ c.up_to_line_feed-whole.result.0.now) kept in
    rw (← c.self.view_is) (feed-overruns inside.bytes.items inside.whole c.args.piece.now _ _ _ _ c.self.invariant.0 (omega arith) c.up_to_line_feed-whole.ensures items (omega arith) (omega arith))

pub returns-then-begun-eq-LINE_LIMIT-clause-too_long : goal.returns-then-begun-eq-LINE_LIMIT-clause-too_long
returns-then-begun-eq-LINE_LIMIT-clause-too_long c = λ _.
    let inside = c.self.inside in
    let len = rw c.deref.ensures.value at c.begun_len-begun.ensures.len in
    rw (← c.self.view_is) (overlong-stays inside.bytes.items inside.whole c.args.piece.now c.self.invariant.0 (omega arith))

pub returns-clause-refused : goal.returns-clause-refused
returns-clause-refused c =
    let inside = c.self.inside in
    let len = rw c.deref.ensures.value at c.begun_len-begun.ensures.len in
    let kept = rw c.deref.ensures.value at c.begun_len-begun.ensures.kept in
    let items = c.in_ok-replace_end.ensures.ok ∙ ap (λ (x : List ℕ). x ++ c.up_to_line_feed-whole.result.0.now) kept in
    let first = line_begun (held inside.bytes.items inside.whole) in
    let short = items_short c.args.piece.now _ first _ _ _ c.up_to_line_feed-whole.ensures items (omega arith) (omega arith) (λ e. omega arith) in
    λ long lacks. absurd (feed-short-at inside.bytes.items inside.whole c.args.self.now c.args.piece.now _ _ _ _ c.self.view_is c.up_to_line_feed-whole.ensures items (omega arith) short long lacks)
