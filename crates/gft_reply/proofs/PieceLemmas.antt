-- A piece behind the held part of a line.
use Rattle.std.proofs.Common.{◌≡◌, ℕ, ◌<◌, ◌≤◌, List, [], ◌∷◌, ◌++◌, length, Option, Result, Ok, Err, eqb, false, append_assoc, refl, sym, ap, ◌∙◌}
use Rattle.std.specs.Result.{IfOk}
use Rattle.std.specs.Str.Lines.{strip_carriage_return}
use Rattle.std.proofs.lemmas.List.Elements.{All-append}
use Rattle.gft_base.specs.Words.{Lacks, parts_at, parts_left, line_feed}
use Rattle.gft_base.proofs.Lemmas.{parts_front}
use Rattle.gft_text.specs.Words.{told}
use Rattle.gft_text.specs.declared.TheConstants.{LINE_LIMIT}
use Rattle.gft_reply.specs.declared.reply.Reply.{Reply}
use Rattle.gft_reply.specs.declared.taking.Stop.{Stop}
use Rattle.gft_reply.specs.declared.taking.Stop.TheVariants as stop
use Rattle.gft_reply.specs.declared.taking.Taken.{Taken}
use Rattle.gft_reply.specs.ReplyStream.{Refused, heard}
use Rattle.gft_reply.specs.Taking.{StopsAt, TakesPiece, heard_behind}
use Rattle.gft_reply.proofs.TakingLemmas.{Does, heard-line, heard-overlong}

pub lacks-joined : (held front : List ℕ) → Lacks line_feed held → Lacks line_feed front → Lacks line_feed (held ++ front)
lacks-joined held front held_lacks front_lacks = All-append (λ b. eqb b line_feed ≡ false) held front held_lacks front_lacks

-- the held bytes and those up to the LF are one line
pub line-split : (held piece front behind : List ℕ) → piece ≡ front ++ line_feed ∷ behind → held ++ piece ≡ (held ++ front) ++ line_feed ∷ behind
line-split held piece front behind is = ap (λ (x : List ℕ). held ++ x) is ∙ sym (append_assoc held front (line_feed ∷ behind))

-- the line is too long
pub piece-overlong : (begun : Reply) (held piece front bytes : List ℕ) (left : Option (List ℕ)) (later : List ℕ) → Lacks line_feed held → parts_at line_feed piece ≡ front ∷ parts_left line_feed left → Lacks line_feed front → bytes ≡ held ++ front → LINE_LIMIT ≤ length bytes → heard (told ((held ++ piece) ++ later)) begun ≡ Refused ∷ []
piece-overlong begun held piece front bytes left later held_lacks same front_lacks is long =
    let whole : List ℕ = held ++ piece in
    let parts = parts_front line_feed held piece front (parts_left line_feed left) held_lacks same in
    heard-overlong begun begun [] whole whole (held ++ front) left later refl (λ later. refl) parts (lacks-joined held front held_lacks front_lacks) (rw (← is) long)

-- no LF came
pub piece-held : (begun : Reply) (held piece front bytes : List ℕ) → Lacks line_feed held → Lacks line_feed front → piece ≡ front → bytes ≡ held ++ front → length bytes < LINE_LIMIT → StopsAt begun (held ++ piece) bytes begun
piece-held begun held piece front bytes held_lacks front_lacks whole is short = record {
  done = [];
  bytes_are = ap (λ (x : List ℕ). held ++ x) whole ∙ sym is;
  single = rw is (lacks-joined held front held_lacks front_lacks);
  short = short;
  carried = λ later. refl;
}

-- the line was taken
pub piece-line : (begun new : Reply) (held front bytes text later : List ℕ) (taken : Taken) → Lacks line_feed held → Lacks line_feed front → bytes ≡ held ++ front → length bytes < LINE_LIMIT → text ≡ strip_carriage_return bytes → Does begun text taken new → heard (told ((held ++ front) ++ line_feed ∷ later)) begun ≡ heard_behind taken new (heard (told later))
piece-line begun new held front bytes text later taken held_lacks front_lacks is short text_is does =
    heard-line begun begun new [] (held ++ front) text later taken (λ later. refl) (lacks-joined held front held_lacks front_lacks) (rw (← is) short) (rw (← is) text_is) does

-- what is taken behind a line is taken behind it in all the bytes
pub piece-then : (old mid new : Reply) (line behind bytes kept : List ℕ) (stop : Stop) → bytes ≡ line ++ line_feed ∷ behind → ((later : List ℕ) → heard (told (line ++ line_feed ∷ later)) old ≡ heard (told later) mid) → TakesPiece mid behind stop new kept → TakesPiece old bytes stop new kept
piece-then old mid new line behind bytes kept stop.Refused is carried takes = λ later.
    let spelt : bytes ++ later ≡ line ++ line_feed ∷ (behind ++ later) = ap (λ (x : List ℕ). x ++ later) is ∙ append_assoc line (line_feed ∷ behind) later in
    ap (λ (x : List ℕ). heard (told x) old) spelt ∙ carried (behind ++ later) ∙ takes later
piece-then old mid new line behind bytes kept (stop.Open left) is carried takes = record {
  done = line ++ line_feed ∷ takes.done;
  bytes_are = is ∙ ap (λ (x : List ℕ). line ++ line_feed ∷ x) takes.bytes_are ∙ sym (append_assoc line (line_feed ∷ takes.done) kept);
  single = takes.single;
  short = takes.short;
  carried = λ later.
      ap (λ (x : List ℕ). heard (told x) old) (append_assoc line (line_feed ∷ takes.done) later) ∙ carried (takes.done ++ later) ∙ takes.carried later;
}
piece-then old mid new line behind bytes kept (stop.Ended left) is carried takes = record {
  front = line ++ line_feed ∷ takes.front;
  rest = takes.rest;
  bytes_are = is ∙ ap (λ (x : List ℕ). line ++ line_feed ∷ x) takes.bytes_are ∙ sym (append_assoc line (line_feed ∷ takes.front) (line_feed ∷ takes.rest));
  left_is = takes.left_is;
  carried = λ later.
      ap (λ (x : List ℕ). heard (told x) old) (append_assoc line (line_feed ∷ takes.front) (line_feed ∷ later)) ∙ carried (takes.front ++ line_feed ∷ later) ∙ takes.carried later;
}

pub piece-then_ok : {E : Type 0} (old mid new : Reply) (line behind bytes kept : List ℕ) (answer : Result Stop E) → bytes ≡ line ++ line_feed ∷ behind → ((later : List ℕ) → heard (told (line ++ line_feed ∷ later)) old ≡ heard (told later) mid) → IfOk answer (λ stop. TakesPiece mid behind stop new kept) → IfOk answer (λ stop. TakesPiece old bytes stop new kept)
piece-then_ok old mid new line behind bytes kept (Ok stop) is carried takes = piece-then old mid new line behind bytes kept stop is carried takes
piece-then_ok old mid new line behind bytes kept (Err error) is carried takes = tt
