-- Which lines can be written.
use Rattle.std.proofs.Common.{◌≡◌, ℕ, ◌+◌, ◌-◌, ◌/◌, ◌%◌, ◌<◌, ◌≤◌, true, false, eqb, List, [], ◌∷◌, ◌++◌, length, length-append, get_or, take, drop, Option, Some, None, Bor, append_assoc, refl, sym, ap, ◌∙◌, arith}
use Rattle.std.specs.List.{AllByRecursion}
use Rattle.std.specs.Option.{IfNone, is_some, option_copied}
use Rattle.std.proofs.lemmas.Bool.{both_ways, eq-eqb, ne_eqb}
use Rattle.std.proofs.lemmas.List.{take_all}
use Rattle.std.proofs.lemmas.List.Elements.{All-append, All-cons, All-nil}
use Rattle.std.proofs.Math.Seq.{get_or-append_seam}
use Rattle.gft_base.specs.Words.{parts_at, parts_left, Lacks, carriage_return, dash, digit_zero, line_feed, space}
use Rattle.gft_text.specs.declared.TheConstants.{LINE_LIMIT}
use Rattle.gft_reply.specs.declared.TheConstants.{LINE_COUNT_LIMIT}
use Rattle.gft_reply.specs.declared.reply.Reply.{Reply}
use Rattle.gft_reply.specs.declared.written.Place.{Place}
use Rattle.gft_reply.specs.declared.written.Place.TheVariants as place
use Rattle.gft_reply.specs.Written.{FitsReply, IsReplyLine, code_text, front_of, place_before, written_line, written_lines}
use Rattle.gft_reply.proofs.TakingLemmas.{split_whole}

pub line_feed_in : (text front : List ℕ) (left : Option (Bor (List ℕ))) → parts_at line_feed text ≡ front ∷ parts_left line_feed (option_copied left) → is_some left ≡ true → (behind : List ℕ) × (text ≡ front ++ line_feed ∷ behind)
line_feed_in text front None same some = absurd (cc some)
line_feed_in text front (Some behind) same some = (behind.now, split_whole line_feed text front behind.now same)

pub whole_of : (P : Type 0) (left : Option (Bor (List ℕ))) → is_some left ≡ false → IfNone left P → P
whole_of P None none fact = fact
whole_of P (Some behind) none fact = absurd (cc none)

-- a line that is two can't be written
pub not_writable : (at : Place) (code : ℕ) (text front behind : List ℕ) → text ≡ front ++ line_feed ∷ behind → IsReplyLine (written_line at code text) → ⊥
not_writable at code text front behind is writable =
    let before : List ℕ = front_of at code ++ front in
    let spelt : written_line at code text ≡ before ++ line_feed ∷ (behind ++ carriage_return ∷ []) =
    ap (λ (x : List ℕ). (front_of at code ++ x) ++ carriage_return ∷ []) is ∙ ap (λ (x : List ℕ). x ++ carriage_return ∷ []) (sym (append_assoc (front_of at code) front (line_feed ∷ behind))) ∙ append_assoc before (line_feed ∷ behind) (carriage_return ∷ []) in
    let len = ap length spelt ∙ length-append before (line_feed ∷ (behind ++ carriage_return ∷ [])) in
    let here = ap (λ (x : List ℕ). get_or x (length before) 0) spelt ∙ get_or-append_seam before line_feed (behind ++ carriage_return ∷ []) 0 in
    both_ways _ (writable.0 (length before) 0 (omega (arith, len))) (eq-eqb _ _ here)

digit_is_not : (d : ℕ) → eqb (digit_zero + d) line_feed ≡ false
digit_is_not d = ne_eqb (digit_zero + d) line_feed (λ e. omega (arith, e))

code_lacks : (code mark : ℕ) → eqb mark line_feed ≡ false → Lacks line_feed (code_text code ++ mark ∷ [])
code_lacks code mark apart =
    let P : ℕ → Type 0 = λ b. eqb b line_feed ≡ false in
    let ones : List ℕ = (digit_zero + code % 100 % 10) ∷ mark ∷ [] in
    let end = All-cons P (digit_zero + code % 100 % 10) (mark ∷ []) (digit_is_not (code % 100 % 10)) (All-cons P mark [] apart (All-nil P)) in
    All-cons P (digit_zero + code / 100) ((digit_zero + code % 100 / 10) ∷ ones) (digit_is_not (code / 100)) (All-cons P (digit_zero + code % 100 / 10) ones (digit_is_not (code % 100 / 10)) end)

front_lacks : (at : Place) (code : ℕ) → Lacks line_feed (front_of at code)
front_lacks place.First code = code_lacks code dash refl
front_lacks place.Inner code = All-cons (λ b. eqb b line_feed ≡ false) space [] refl (All-nil (λ b. eqb b line_feed ≡ false))
front_lacks place.Last code = code_lacks code space refl

front_short : (at : Place) (code : ℕ) → length (front_of at code) ≤ 4
front_short place.First code = omega arith
front_short place.Inner code = omega arith
front_short place.Last code = omega arith

line_len : (front text : List ℕ) → length ((front ++ text) ++ carriage_return ∷ []) ≡ length front + length text + 1
line_len front text = length-append (front ++ text) (carriage_return ∷ []) ∙ ap (λ (n : ℕ). n + 1) (length-append front text)

-- the length alone decides of a line without an LF
pub writable : (at : Place) (code front : ℕ) (text : List ℕ) → front ≡ length (front_of at code) → Lacks line_feed text → length text < LINE_LIMIT - 1 - front → IsReplyLine (written_line at code text)
writable at code front text is lacks short =
    let P : ℕ → Type 0 = λ b. eqb b line_feed ≡ false in
    let whole = All-append P (front_of at code ++ text) (carriage_return ∷ []) (All-append P (front_of at code) text (front_lacks at code) lacks) (All-cons P carriage_return [] refl (All-nil P)) in
    (whole, omega (arith, line_len (front_of at code) text))

pub short_enough : (at : Place) (code front : ℕ) (text : List ℕ) → front ≡ length (front_of at code) → IsReplyLine (written_line at code text) → length text < LINE_LIMIT - 1 - front
short_enough at code front text is line =
    omega (arith, line.1, line_len (front_of at code) text)

-- a text that has room in a line, wherever it stands
abbrev pub IsLineText : List ℕ → Type 0
IsLineText text = Lacks line_feed text × (length text + 5 < LINE_LIMIT)

lines-writable : (at : Place) (code : ℕ) (texts : List (List ℕ)) → AllByRecursion IsLineText texts → AllByRecursion IsReplyLine (written_lines at code texts)
lines-writable at code [] all = tt
lines-writable at code (text ∷ texts) all =
    let here : Place = place_before at texts in
    (writable here code (length (front_of here code)) text refl all.0.0 (omega (arith, all.0.1, front_short here code)), lines-writable place.Inner code texts all.1)

-- a reply of short texts has a text
pub FitsReply-short : (reply : Reply) → 100 ≤ reply.code → reply.code ≤ 599 → 0 < length reply.lines → length reply.lines < LINE_COUNT_LIMIT → AllByRecursion IsLineText reply.lines → FitsReply reply
FitsReply-short reply least most some few texts =
    record { least = least; most = most; some = some; few = few; lines = lines-writable place.First reply.code reply.lines texts }

-- what stands behind the first line
abbrev pub behind_first : List (List ℕ) → List (List ℕ)
behind_first rest = take (length rest - 1) (drop 1 rest)

behind_is : (line : List ℕ) (rest : List (List ℕ)) → behind_first (line ∷ rest) ≡ rest
behind_is line rest = take_all (length (line ∷ rest) - 1) rest (omega arith)

-- one line more was looked at
pub fit-more : (A : Type 0) (at here : Place) (code : ℕ) (rest : List (List ℕ)) (line text : List ℕ) → 1 ≤ length rest → line ≡ get_or rest 0 line → text ≡ line → here ≡ place_before at (behind_first rest) → IsReplyLine (written_line here code text) → (A → AllByRecursion IsReplyLine (written_lines at code rest)) → (AllByRecursion IsReplyLine (written_lines at code rest) → A) → (A → AllByRecursion IsReplyLine (written_lines place.Inner code (behind_first rest))) × (AllByRecursion IsReplyLine (written_lines place.Inner code (behind_first rest)) → A)
fit-more A at here code [] line text some line_is text_is here_is writable all back = absurd (omega (arith, some))
fit-more A at here code (x ∷ rest) line text some line_is text_is here_is writable all back =
    let behind = behind_is x rest in
    let place_is : here ≡ place_before at rest = here_is ∙ ap (place_before at) behind in
    let same = text_is ∙ line_is in
    let first : IsReplyLine (written_line (place_before at rest) code x) = rw (← place_is, ← same) writable in
    rw behind (λ h. (all h).1, λ h. back (first, h))
