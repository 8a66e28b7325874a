use Rattle.std.proofs.Common.{ℕ, List, length, length-append, ◌∷◌, ◌++◌, append_assoc, refl, ap, ◌∙◌, arith}
use Rattle.std.specs.Option.{option_copied}
use Rattle.std.specs.Str.Lines.{strip_carriage_return}
use Rattle.gft_base.specs.Words.{line_feed}
use Rattle.gft_text.specs.Words.{told}
use Rattle.gft_reply.specs.declared.taking.Taken.{Taken}
use Rattle.gft_reply.specs.ReplyStream.{heard}
use Rattle.gft_reply.specs.Taking.{heard_behind}
use Rattle.gft_reply.proofs.PieceLemmas.{line-split, piece-held, piece-line, piece-overlong, piece-then_ok}
use Rattle.gft_reply.proofs.TakingLemmas.{split_whole}
use Rattle.gft_reply.proofs.taking.take_piece.Goals as goal

pub returns-then-saturating_add-ge-LINE_LIMIT-clause-takes :
    goal.returns-then-saturating_add-ge-LINE_LIMIT-clause-takes
returns-then-saturating_add-ge-LINE_LIMIT-clause-takes c = λ later.
    let held = c.args.held.now.items in
    let front = c.split_first.result.0.now in
    piece-overlong c.args.begun.now held c.args.piece.now front (held ++ front) (option_copied c.split_first.result.1) later c.requires c.split_first.ensures.parts c.split_first.ensures.apart refl (omega (arith, length-append held front))

pub returns-in_default-clause-takes : goal.returns-in_default-clause-takes
returns-in_default-clause-takes c =
    let whole = rw c.in_default.is at c.split_first.ensures.whole in
    piece-held c.args.begun.now c.args.held.now.items c.args.piece.now c.split_first.result.0.now c.extend_from_slice.new.self.items c.requires c.split_first.ensures.apart whole c.in_ok-extend_from_slice.ensures.items (omega (arith, ap length c.in_ok-extend_from_slice.ensures.items, length-append c.args.held.now.items c.split_first.result.0.now))

pub returns-in-Refused-clause-takes : goal.returns-in-Refused-clause-takes
returns-in-Refused-clause-takes c = λ later.
    let front = c.split_first.result.0.now in
    let behind = c.in-Some.behind.now in
    let split = line-split c.args.held.now.items c.args.piece.now front behind (split_whole line_feed c.args.piece.now front behind (rw c.in-Some.is at c.split_first.ensures.parts)) in
    let spelt = ap (λ (x : List ℕ). x ++ later) split ∙ append_assoc (c.args.held.now.items ++ front) (line_feed ∷ behind) later in
    ap (λ (x : List ℕ). heard (told x) c.args.begun.now) spelt ∙ piece-line c.args.begun.now c.take_line.new.begun c.args.held.now.items front c.extend_from_slice.new.self.items c.without_return.result.now (behind ++ later) c.in_ok-take_line.field-0 c.requires c.split_first.ensures.apart c.in_ok-extend_from_slice.ensures.items (omega (arith, ap length c.in_ok-extend_from_slice.ensures.items, length-append c.args.held.now.items c.split_first.result.0.now)) (c.without_return.ensures ∙ ap strip_carriage_return c.deref.ensures.value) c.in_ok-take_line.ensures.heard ∙ ap (λ (t : Taken). heard_behind t c.take_line.new.begun (heard (told (behind ++ later)))) c.in-Refused.is

pub returns-in-Ended-clause-takes : goal.returns-in-Ended-clause-takes
returns-in-Ended-clause-takes c =
    let front = c.split_first.result.0.now in
    let behind = c.in-Some.behind.now in
    let split = line-split c.args.held.now.items c.args.piece.now front behind (split_whole line_feed c.args.piece.now front behind (rw c.in-Some.is at c.split_first.ensures.parts)) in
    record {
      front = c.args.held.now.items ++ front;
      rest = behind;
      bytes_are = split;
      left_is = refl;
      carried = λ later.
          piece-line c.args.begun.now c.take_line.new.begun c.args.held.now.items front c.extend_from_slice.new.self.items c.without_return.result.now later c.in_ok-take_line.field-0 c.requires c.split_first.ensures.apart c.in_ok-extend_from_slice.ensures.items (omega (arith, ap length c.in_ok-extend_from_slice.ensures.items, length-append c.args.held.now.items c.split_first.result.0.now)) (c.without_return.ensures ∙ ap strip_carriage_return c.deref.ensures.value) c.in_ok-take_line.ensures.heard ∙ ap (λ (t : Taken). heard_behind t c.take_line.new.begun (heard (told later))) c.in-Ended.is;
    }

pub returns-in-Open-clause-takes : goal.returns-in-Open-clause-takes
returns-in-Open-clause-takes c =
    let front = c.split_first.result.0.now in
    let behind = c.in-Some.behind.now in
    let split = line-split c.args.held.now.items c.args.piece.now front behind (split_whole line_feed c.args.piece.now front behind (rw c.in-Some.is at c.split_first.ensures.parts)) in
    piece-then_ok c.args.begun.now c.take_line.new.begun c.take_rest-in-Open.new.begun (c.args.held.now.items ++ front) behind (c.args.held.now.items ++ c.args.piece.now) c.take_rest-in-Open.new.held.items c.take_rest-in-Open.result split
    (λ later.
    piece-line c.args.begun.now c.take_line.new.begun c.args.held.now.items front c.extend_from_slice.new.self.items c.without_return.result.now later c.in_ok-take_line.field-0 c.requires c.split_first.ensures.apart c.in_ok-extend_from_slice.ensures.items (omega (arith, ap length c.in_ok-extend_from_slice.ensures.items, length-append c.args.held.now.items c.split_first.result.0.now)) (c.without_return.ensures ∙ ap strip_carriage_return c.deref.ensures.value) c.in_ok-take_line.ensures.heard ∙ ap (λ (t : Taken). heard_behind t c.take_line.new.begun (heard (told later))) c.in-Open.is)
    c.take_rest-in-Open.ensures.takes
