-- A written reply is read again.
use Rattle.std.proofs.Common.{◌≡◌, ℕ, ◌+◌, ◌/◌, ◌%◌, ◌*◌, ◌<◌, ◌≤◌, Bool, true, false, List, [], ◌∷◌, ◌++◌, length, length-append, Some, None, append_assoc, refl, ap, ◌∙◌, arith}
use Rattle.std.specs.List.{AllByRecursion}
use Rattle.std.proofs.lemmas.Bool.{le-ltb}
use Rattle.gft_base.specs.Words.{dash, digit_zero, line_feed, space}
use Rattle.gft_text.specs.Words.{Told, Line, told}
use Rattle.gft_text.proofs.Lemmas.{told-line, without_return}
use Rattle.gft_reply.specs.declared.reply.Reply.{Reply}
use Rattle.gft_reply.specs.declared.TheConstants.{LINE_COUNT_LIMIT}
use Rattle.gft_reply.specs.Line.{digit_of, head_of, mark_of}
use Rattle.gft_reply.specs.ReplyStream.{Replied, heard, nothing, replies}
use Rattle.gft_reply.specs.Grammar.{IsHead, IsInner}
use Rattle.gft_reply.specs.declared.written.Place.{Place}
use Rattle.gft_reply.specs.declared.written.Place.TheVariants as place
use Rattle.gft_reply.specs.Written.{FitsReply, IsReplyLine, code_text, front_of, reply_text, spelled, written_line, written_lines}
use Rattle.gft_reply.proofs.GrammarLemmas.{first-closes, first-goes, line-closes, line-goes, reply_of}

digit : (first last d : ℕ) → first ≤ d → d ≤ last → digit_of first last (digit_zero + d) ≡ Some d
digit first last d low high =
    rw (le-ltb (digit_zero + d) (digit_zero + first) (omega arith), le-ltb (digit_zero + last) (digit_zero + d) (omega arith)) (ap Some (omega arith))

-- a written code is read again
pub head-written : (code mark : ℕ) (text : List ℕ) (ends : Bool) → 100 ≤ code → code ≤ 599 → mark_of mark ≡ Some ends → IsHead (code_text code ++ mark ∷ text) code text ends
head-written code mark text ends least most mark_is =
    let sum : 100 * (code / 100) + 10 * (code % 100 / 10) + code % 100 % 10 ≡ code = omega arith in
    rw (digit 1 5 (code / 100) (omega arith) (omega arith), digit 0 9 (code % 100 / 10) (omega arith) (omega arith), digit 0 9 (code % 100 % 10) (omega arith) (omega arith), mark_is) (ap (λ (n : ℕ). Some (record { code = n; text = text; ends = ends })) sum)

no_head : (text : List ℕ) → head_of (space ∷ text) ≡ None
no_head [] = refl
no_head (a ∷ []) = refl
no_head (a ∷ b ∷ []) = refl
no_head (a ∷ b ∷ c ∷ text) = refl

-- a line that begins with a space ends no reply
pub space-inner : (code : ℕ) (text : List ℕ) → IsInner code (space ∷ text)
space-inner code text closing head = cc (no_head text, head)

told-written : (at : Place) (code : ℕ) (text rest later : List ℕ) → IsReplyLine (written_line at code text) → told ((written_line at code text ++ line_feed ∷ rest) ++ later) ≡ Line (front_of at code ++ text) ∷ told (rest ++ later)
told-written at code text rest later writable =
    let line : List ℕ = written_line at code text in
    let spelt : (line ++ line_feed ∷ rest) ++ later ≡ line ++ line_feed ∷ (rest ++ later) = append_assoc line (line_feed ∷ rest) later in
    ap told spelt ∙ told-line line (rest ++ later) writable.0 writable.1 ∙ ap (λ (x : List ℕ). Line x ∷ told (rest ++ later)) (without_return (front_of at code ++ text))

heard-rest : (code : ℕ) (t : List ℕ) (ts : List (List ℕ)) (text : List ℕ) (texts : List (List ℕ)) (later : List ℕ) → 100 ≤ code → code ≤ 599 → AllByRecursion IsReplyLine (written_lines place.Inner code (text ∷ texts)) → length (t ∷ ts) + length (text ∷ texts) < LINE_COUNT_LIMIT → heard (told (spelled (written_lines place.Inner code (text ∷ texts)) ++ later)) (reply_of code (t ∷ ts)) ≡ Replied (reply_of code ((t ∷ ts) ++ text ∷ texts)) ∷ heard (told later) nothing
heard-rest code t ts text [] later least most writable short =
    ap (λ (x : List Told). heard x (reply_of code (t ∷ ts))) (told-written place.Last code text [] later writable.0) ∙ line-closes code t ts (code_text code ++ space ∷ text) text (heard (told later)) (head-written code space text true least most refl) (omega (arith, short))
heard-rest code t ts text (next ∷ texts) later least most writable short =
    let rest : List ℕ = spelled (written_lines place.Inner code (next ∷ texts)) in
    ap (λ (x : List Told). heard x (reply_of code (t ∷ ts))) (told-written place.Inner code text rest later writable.0) ∙ line-goes code t ts (space ∷ text) (heard (told (rest ++ later))) (space-inner code text) (omega (arith, short)) ∙ heard-rest code t (ts ++ text ∷ []) next texts later least most writable.1 (omega (arith, short, length-append ts (text ∷ []))) ∙ ap (λ (x : List (List ℕ)). Replied (reply_of code x) ∷ heard (told later) nothing) (append_assoc (t ∷ ts) (text ∷ []) (next ∷ texts))

heard-written : (code : ℕ) (texts : List (List ℕ)) (later : List ℕ) → 100 ≤ code → code ≤ 599 → 0 < length texts → length texts < LINE_COUNT_LIMIT → AllByRecursion IsReplyLine (written_lines place.First code texts) → heard (told (spelled (written_lines place.First code texts) ++ later)) nothing ≡ Replied (reply_of code texts) ∷ heard (told later) nothing
heard-written code [] later least most some few writable = absurd (omega (arith, some))
heard-written code (text ∷ []) later least most some few writable =
    ap (λ (x : List Told). heard x nothing) (told-written place.Last code text [] later writable.0) ∙ first-closes code (code_text code ++ space ∷ text) text (heard (told later)) (head-written code space text true least most refl)
heard-written code (text ∷ next ∷ texts) later least most some few writable =
    let more : List (List ℕ) = next ∷ texts in
    let rest : List ℕ = spelled (written_lines place.Inner code more) in
    ap (λ (x : List Told). heard x nothing) (told-written place.First code text rest later writable.0) ∙ first-goes code (code_text code ++ dash ∷ text) text (heard (told (rest ++ later))) (head-written code dash text false least most refl) ∙ heard-rest code text [] next texts later least most writable.1 (omega (arith, few))

-- what is written tells the same reply, and then comes what follows
pub replies-written : (reply : Reply) (later : List ℕ) → FitsReply reply → replies (reply_text reply ++ later) ≡ Replied reply ∷ replies later
unfolding replies
replies-written reply later fits =
    heard-written reply.code reply.lines later fits.least fits.most fits.some fits.few fits.lines
