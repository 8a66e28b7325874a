-- What one line does to the reply that has begun.
use Rattle.std.proofs.Common.{◌≡◌, ℕ, ◌+◌, ◌<◌, Bool, true, false, List, [], ◌∷◌, ◌++◌, length, length-append, map, Option, Some, None, append_assoc, refl, sym, ap, ◌∙◌, inl, inr, arith}
use Rattle.std.specs.List.{AllByRecursion}
use Rattle.std.proofs.lemmas.Bool.{lt-ltb, eq-eqb, eqb-true}
use Rattle.gft_text.specs.Words.{Told, Line}
use Rattle.gft_reply.specs.declared.reply.Reply.{Reply}
use Rattle.gft_reply.specs.declared.TheConstants.{LINE_COUNT_LIMIT}
use Rattle.gft_reply.specs.Line.{Part, closes, head_of, inner_part, later_part, without_space}
use Rattle.gft_reply.specs.ReplyStream.{Heard, Replied, heard, nothing, part_behind, part_then}
use Rattle.gft_reply.specs.Grammar.{IsHead, IsInner, IsReply}

-- a reply of this code and these lines
abbrev pub reply_of : ℕ → List (List ℕ) → Reply
reply_of code lines = record { code = code; lines = lines }

abbrev part : ℕ → List ℕ → Bool → Part
part code text ends = record { code = code; text = text; ends = ends }

pub first-closes : (code : ℕ) (line text : List ℕ) (next : Reply → List Heard) → IsHead line code text true → part_then nothing (head_of line) next ≡ Replied (reply_of code (text ∷ [])) ∷ next nothing
first-closes code line text next head = ap (λ (h : Option Part). part_then nothing h next) head

pub first-goes : (code : ℕ) (line text : List ℕ) (next : Reply → List Heard) → IsHead line code text false → part_then nothing (head_of line) next ≡ next (reply_of code (text ∷ []))
first-goes code line text next head = ap (λ (h : Option Part). part_then nothing h next) head

later-closes : (code : ℕ) (line text : List ℕ) → later_part code (Some (part code text true)) line ≡ part code text true
later-closes code line text = rw (eq-eqb code code refl) refl

pub line-closes : (code : ℕ) (t : List ℕ) (ts : List (List ℕ)) (line text : List ℕ) (next : Reply → List Heard) → IsHead line code text true → length (t ∷ ts) + 1 < LINE_COUNT_LIMIT → part_then (reply_of code (t ∷ ts)) (part_behind (t ∷ ts) code line) next ≡ Replied (reply_of code ((t ∷ ts) ++ text ∷ [])) ∷ next nothing
line-closes code t ts line text next head short =
    let begun : Reply = reply_of code (t ∷ ts) in
    ap (λ (h : Option Part). part_then begun (Some (later_part code h line)) next) head ∙ ap (λ (p : Part). part_then begun (Some p) next) (later-closes code line text) ∙ rw (lt-ltb (length (t ∷ ts) + 1) LINE_COUNT_LIMIT short) refl

no_close : (code : ℕ) (head : Part) (line : List ℕ) (b : Bool) → closes code head ≡ b → ((text : List ℕ) → ¬ Some head ≡ Some (part code text true)) → later_part code (Some head) line ≡ inner_part code line
no_close code head line false is inner = rw is refl
no_close code head line true is inner = absurd (inner head.text (ap Some (closed head is))) where
  closed : (head : Part) → closes code head ≡ true → head ≡ part code head.text true
  closed head is = parts head.ends head.code head.text is where
    parts : (ends : Bool) (c : ℕ) (text : List ℕ) → closes code (part c text ends) ≡ true → part c text ends ≡ part code text true
    parts true c text is = ap (λ (n : ℕ). part n text true) (eqb-true c code is)
    parts false c text is = cc

later-inner : (code : ℕ) (line : List ℕ) (h : Option Part) → ((text : List ℕ) → ¬ h ≡ Some (part code text true)) → later_part code h line ≡ inner_part code line
later-inner code line None inner = refl
later-inner code line (Some head) inner = no_close code head line (closes code head) refl inner

pub line-goes : (code : ℕ) (t : List ℕ) (ts : List (List ℕ)) (line : List ℕ) (next : Reply → List Heard) → IsInner code line → length (t ∷ ts) + 1 < LINE_COUNT_LIMIT → part_then (reply_of code (t ∷ ts)) (part_behind (t ∷ ts) code line) next ≡ next (reply_of code ((t ∷ ts) ++ without_space line ∷ []))
line-goes code t ts line next inner short =
    ap (λ (p : Part). part_then (reply_of code (t ∷ ts)) (Some p) next) (later-inner code line (head_of line) inner) ∙ rw (lt-ltb (length (t ∷ ts) + 1) LINE_COUNT_LIMIT short) refl

heard-later : (code : ℕ) (t : List ℕ) (ts inner : List (List ℕ)) (last closing : List ℕ) (rest : List Told) → AllByRecursion (IsInner code) inner → IsHead last code closing true → length (t ∷ ts) + length inner + 1 < LINE_COUNT_LIMIT → heard (map Line (inner ++ last ∷ []) ++ rest) (reply_of code (t ∷ ts)) ≡ Replied (reply_of code ((t ∷ ts) ++ (map without_space inner ++ closing ∷ []))) ∷ heard rest nothing
heard-later code t ts [] last closing rest goes_on closes short =
    line-closes code t ts last closing (heard rest) closes (omega arith)
heard-later code t ts (line ∷ inner) last closing rest goes_on closes short =
    let more : List (List ℕ) = ts ++ without_space line ∷ [] in
    let texts : List (List ℕ) = map without_space inner ++ closing ∷ [] in
    line-goes code t ts line (heard (map Line (inner ++ last ∷ []) ++ rest)) goes_on.0 (omega arith) ∙ heard-later code t more inner last closing rest goes_on.1 closes (omega (arith, length-append ts (without_space line ∷ []))) ∙ ap (λ (x : List (List ℕ)). Replied (reply_of code x) ∷ heard rest nothing) (append_assoc (t ∷ ts) (without_space line ∷ []) texts)

-- lines that are one reply are heard as it
pub heard-reply : (lines : List (List ℕ)) (reply : Reply) (rest : List Told) → IsReply lines reply → length lines < LINE_COUNT_LIMIT → heard (map Line lines ++ rest) nothing ≡ Replied reply ∷ heard rest nothing
heard-reply lines reply rest (inl one) short =
    ap (λ (x : List (List ℕ)). heard (map Line x ++ rest) nothing) one.lines_are ∙ first-closes reply.code one.line one.text (heard rest) one.head ∙ ap (λ (x : List (List ℕ)). Replied (reply_of reply.code x) ∷ heard rest nothing) (sym one.texts)
heard-reply lines reply rest (inr many) short =
    let len = ap length many.lines_are in
    let later_len = length-append many.inner (many.last ∷ []) in
    ap (λ (x : List (List ℕ)). heard (map Line x ++ rest) nothing) many.lines_are ∙ first-goes reply.code many.first many.opening (heard (map Line (many.inner ++ many.last ∷ []) ++ rest)) many.opens ∙ heard-later reply.code many.opening [] many.inner many.last many.closing rest many.goes_on many.closes (omega arith) ∙ ap (λ (x : List (List ℕ)). Replied (reply_of reply.code x) ∷ heard rest nothing) (sym many.texts)
