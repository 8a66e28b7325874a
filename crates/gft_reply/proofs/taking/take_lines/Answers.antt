use Rattle.std.proofs.Common.{◌≡◌, ℕ, List, [], ◌∷◌, ◌++◌, append_assoc, refl, ap, ◌∙◌, arith}
use Rattle.std.specs.Option.{option_copied}
use Rattle.gft_base.specs.Words.{line_feed}
use Rattle.gft_text.specs.Words.{told}
use Rattle.gft_reply.specs.declared.taking.Taken.{Taken}
use Rattle.gft_reply.specs.ReplyStream.{heard}
use Rattle.gft_reply.specs.Taking.{heard_behind}
use Rattle.gft_reply.proofs.TakingLemmas.{Grows-then, heard-bytes, heard-line, heard-overlong, split_whole}
use Rattle.gft_reply.proofs.taking.take_lines.Goals as goal

pub returns-then-line-ge-LINE_LIMIT-clause-stops :
    goal.returns-then-line-ge-LINE_LIMIT-clause-stops
returns-then-line-ge-LINE_LIMIT-clause-stops c = λ later.
    let kept = c.loop-rest.invariant in
    heard-overlong c.args.begun.now c.loop-rest.begun kept.0 c.args.bytes.now c.loop-rest.rest.now c.split_first.result.0.now (option_copied c.split_first.result.1) later kept.1 kept.2 c.split_first.ensures.parts c.split_first.ensures.apart (omega arith)

pub returns-in-Refused-clause-stops : goal.returns-in-Refused-clause-stops
returns-in-Refused-clause-stops c = λ later.
    let kept = c.loop-rest.invariant in
    let behind = c.in-Some.behind.now in
    let rest_is = split_whole line_feed c.loop-rest.rest.now c.split_first.result.0.now behind (rw c.in-Some.is at c.split_first.ensures.parts) in
    heard-bytes c.args.begun.now c.loop-rest.begun c.take_line.new.begun kept.0 c.args.bytes.now c.loop-rest.rest.now c.split_first.result.0.now behind c.without_return.result.now later c.in_ok-take_line.field-0 kept.1 rest_is kept.2 c.split_first.ensures.apart (omega arith) c.without_return.ensures c.in_ok-take_line.ensures.heard ∙ ap (λ (t : Taken). heard_behind t c.take_line.new.begun (heard (told (behind ++ later)))) c.in-Refused.is

pub returns-in-Ended-clause-stops : goal.returns-in-Ended-clause-stops
returns-in-Ended-clause-stops c =
    let kept = c.loop-rest.invariant in
    let line = c.split_first.result.0.now in
    let behind = c.in-Some.behind.now in
    let rest_is = split_whole line_feed c.loop-rest.rest.now line behind (rw c.in-Some.is at c.split_first.ensures.parts) in
    record {
      front = kept.0 ++ line;
      rest = behind;
      bytes_are =
          let spelt : kept.0 ++ (line ++ line_feed ∷ behind) ≡ (kept.0 ++ line) ++ line_feed ∷ behind = simp append_assoc refl in
          kept.1 ∙ ap (λ (x : List ℕ). kept.0 ++ x) rest_is ∙ spelt;
      left_is = refl;
      carried = λ later.
          heard-line c.args.begun.now c.loop-rest.begun c.take_line.new.begun kept.0 line c.without_return.result.now later c.in_ok-take_line.field-0 kept.2 c.split_first.ensures.apart (omega arith) c.without_return.ensures c.in_ok-take_line.ensures.heard ∙ ap (λ (t : Taken). heard_behind t c.take_line.new.begun (heard (told later))) c.in-Ended.is;
    }

pub loop-rest-preserved : goal.loop-rest-preserved
loop-rest-preserved c =
    let kept = c.loop-rest.invariant in
    let line = c.split_first.result.0.now in
    let behind = c.in-Some.behind.now in
    let rest_is = split_whole line_feed c.loop-rest.rest.now line behind (rw c.in-Some.is at c.split_first.ensures.parts) in
    let done : List ℕ = (kept.0 ++ line) ++ line_feed ∷ [] in
    let spelt : kept.0 ++ (line ++ line_feed ∷ behind) ≡ done ++ behind = simp append_assoc refl in (
      done,
      kept.1 ∙ ap (λ (x : List ℕ). kept.0 ++ x) rest_is ∙ spelt,
      λ later.
          let front : done ++ later ≡ (kept.0 ++ line) ++ line_feed ∷ later = simp append_assoc refl in
          ap (λ (x : List ℕ). heard (told x) c.args.begun.now) front ∙ heard-line c.args.begun.now c.loop-rest.begun c.take_line.new.begun kept.0 line c.without_return.result.now later c.in_ok-take_line.field-0 kept.2 c.split_first.ensures.apart (omega arith) c.without_return.ensures c.in_ok-take_line.ensures.heard ∙ ap (λ (t : Taken). heard_behind t c.take_line.new.begun (heard (told later))) c.in-Open.is,
      Grows-then c.args.begun.now c.loop-rest.begun c.take_line.new.begun kept.3 c.in_ok-take_line.ensures.grows,
    )
