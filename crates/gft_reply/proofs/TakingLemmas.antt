-- What the lines at the front of a stream tell.
use Rattle.std.proofs.Common.{◌≡◌, ℕ, ◌<◌, ◌≤◌, List, [], ◌∷◌, ◌++◌, length, Option, Some, None, append_assoc, append-nil, refl, sym, ap, ◌∙◌, arith}
use Rattle.std.specs.List.{join_with_byte}
use Rattle.std.specs.Str.Lines.{strip_carriage_return}
use Rattle.std.proofs.lemmas.List.Splits.{join_with_byte-slice_split}
use Rattle.gft_base.specs.Words.{parts_at, parts_left, Lacks, line_feed}
use Rattle.gft_text.specs.Words.{Told, told}
use Rattle.gft_text.specs.declared.TheConstants.{LINE_LIMIT}
use Rattle.gft_text.proofs.Lemmas.{told-line, told-overlong}
use Rattle.gft_base.proofs.Lemmas.{part_alone, parts_some}
use Rattle.gft_reply.specs.declared.reply.Reply.{Reply}
use Rattle.gft_reply.specs.declared.taking.Taken.{Taken}
use Rattle.gft_reply.specs.ReplyStream.{Heard, Refused, heard, part_behind, part_then}
use Rattle.gft_reply.specs.Taking.{Grows, heard_behind}

-- the first part, the separator and what stands behind it
pub split_whole : (c : ℕ) (text front behind : List ℕ) → parts_at c text ≡ front ∷ parts_at c behind → text ≡ front ++ c ∷ behind
split_whole c text front behind same =
    sym (join_with_byte-slice_split c text) ∙ ap (join_with_byte c) same ∙ whole (parts_at c behind) (parts_some c behind) (join_with_byte-slice_split c behind) where
      whole : (parts : List (List ℕ)) → 0 < length parts → join_with_byte c parts ≡ behind → join_with_byte c (front ∷ parts) ≡ front ++ c ∷ behind
      whole [] some is = absurd (omega (arith, some))
      whole (next ∷ parts) some is = ap (λ (x : List ℕ). front ++ c ∷ x) is

split_tail : (text front : List ℕ) (left : Option (List ℕ)) → parts_at line_feed text ≡ front ∷ parts_left line_feed left → (tail : List ℕ) × (text ≡ front ++ tail)
split_tail text front None same = ([], part_alone line_feed text front same ∙ sym (append-nil front))
split_tail text front (Some behind) same = (line_feed ∷ behind, split_whole line_feed text front behind same)

-- behind these bytes the reply that had begun is the new one
abbrev pub Carried : Reply → List ℕ → Reply → Type 0
Carried old done begun = (later : List ℕ) → heard (told (done ++ later)) old ≡ heard (told later) begun

-- the line does this to the reply that has begun
abbrev pub Does : Reply → List ℕ → Taken → Reply → Type 0
Does begun text taken new =
    (next : Reply → List Heard) → part_then begun (part_behind begun.lines begun.code text) next ≡ heard_behind taken new next

-- a line more was taken
pub heard-line : (old begun new : Reply) (done line text later : List ℕ) (taken : Taken) → Carried old done begun → Lacks line_feed line → length line < LINE_LIMIT → text ≡ strip_carriage_return line → Does begun text taken new → heard (told ((done ++ line) ++ line_feed ∷ later)) old ≡ heard_behind taken new (heard (told later))
heard-line old begun new done line text later taken carried lacks short text_is does =
    let spelt : (done ++ line) ++ line_feed ∷ later ≡ done ++ (line ++ line_feed ∷ later) = simp append_assoc refl in
    ap (λ (x : List ℕ). heard (told x) old) spelt ∙ carried (line ++ line_feed ∷ later) ∙ ap (λ (t : List Told). heard t begun) (told-line line later lacks short) ∙ ap (λ (x : List ℕ). part_then begun (part_behind begun.lines begun.code x) (heard (told later))) (sym text_is) ∙ does (heard (told later))

-- the same of the bytes that the line stands in
pub heard-bytes : (old begun new : Reply) (done bytes rest line behind text later : List ℕ) (taken : Taken) → bytes ≡ done ++ rest → rest ≡ line ++ line_feed ∷ behind → Carried old done begun → Lacks line_feed line → length line < LINE_LIMIT → text ≡ strip_carriage_return line → Does begun text taken new → heard (told (bytes ++ later)) old ≡ heard_behind taken new (heard (told (behind ++ later)))
heard-bytes old begun new done bytes rest line behind text later taken is rest_is carried lacks short text_is does =
    let spelt : bytes ++ later ≡ (done ++ line) ++ line_feed ∷ (behind ++ later) = simp (is, rest_is, append_assoc) refl in
    ap (λ (x : List ℕ). heard (told x) old) spelt ∙ heard-line old begun new done line text (behind ++ later) taken carried lacks short text_is does

pub Grows-then : (a b c : Reply) → Grows a b → Grows b c → Grows a c
Grows-then a b c first second =
    (first.0 ++ second.0, second.1 ∙ ap (λ (x : List (List ℕ)). x ++ second.0) first.1 ∙ append_assoc a.lines first.0 second.0)

-- a line that is too long is refused
pub heard-overlong : (old begun : Reply) (done bytes rest line : List ℕ) (left : Option (List ℕ)) (later : List ℕ) → bytes ≡ done ++ rest → Carried old done begun → parts_at line_feed rest ≡ line ∷ parts_left line_feed left → Lacks line_feed line → LINE_LIMIT ≤ length line → heard (told (bytes ++ later)) old ≡ Refused ∷ []
heard-overlong old begun done bytes rest line left later is carried same lacks long =
    let tail = split_tail rest line left same in
    let spelt : bytes ++ later ≡ done ++ (line ++ (tail.0 ++ later)) =
    ap (λ (x : List ℕ). x ++ later) (is ∙ ap (λ (x : List ℕ). done ++ x) tail.1) ∙ simp append_assoc refl in
    ap (λ (x : List ℕ). heard (told x) old) spelt ∙ carried (line ++ (tail.0 ++ later)) ∙ ap (λ (t : List Told). heard t begun) (told-overlong line (tail.0 ++ later) lacks long)
