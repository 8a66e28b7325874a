-- When the parameters of ERET and ESTO stand in one line.
use Rattle.std.proofs.Common.{◌≡◌, ℕ, ◌+◌, ◌<◌, ◌^◌, eqb, false, true, List, [], ◌∷◌, ◌++◌, length, length-append, append_assoc, suc, refl, ap, ◌∙◌, subst, arith}
use Rattle.std.specs.Fmt.{decimal}
use Rattle.std.proofs.lemmas.List.Elements.{All-append, All-cons, All-nil}
use Rattle.gft_base.specs.Words.{Lacks}
use Rattle.gft_base.proofs.Lemmas.{IsNumber-decimal}
use Rattle.gft_opts.specs.Words.{eret_text, esto_text}
use Rattle.gft_opts.specs.declared.Eret.{Eret}
use Rattle.gft_opts.specs.declared.Esto.{Esto}
use Rattle.gft_command.specs.Parameters.{FitsBehind, FitsBytes}
use Rattle.gft_command.specs.Telnet.{doubled}
use Rattle.gft_command.proofs.PrintedLemmas.{IsPrinted, is_print, number_brief, printed_apart}
use Rattle.gft_command.proofs.TelnetLemmas.{doubled-append, doubled-plain}

pub lacks_behind : (front text : List ℕ) → Lacks 10 (front ++ text) → Lacks 10 text
lacks_behind [] text lacks = lacks
lacks_behind (b ∷ front) text lacks = lacks_behind front text (λ k d lt. lacks (suc k) d (omega (arith, lt)))

-- what stands in front has so many bytes, and none of them matters else
front_fits : (verb front text : List ℕ) → IsPrinted front → (FitsBytes verb (front ++ text) → FitsBehind verb (length front) text) × (FitsBehind verb (length front) text → FitsBytes verb (front ++ text))
front_fits verb front text printed =
    let line : doubled (front ++ text) ≡ front ++ doubled text = doubled-append front text ∙ ap (λ (x : List ℕ). x ++ doubled text) (doubled-plain front (printed_apart 255 front refl printed)) in
    let len = ap length line ∙ length-append front (doubled text) in
    (λ fits. (lacks_behind front text fits.0, omega (arith, fits.1, len)), λ fits. (All-append (λ x. eqb x 10 ≡ false) front text (printed_apart 10 front refl printed) fits.0, omega (arith, fits.1, len)))

printed_number : (n : ℕ) (behind : List ℕ) → n < 2 ^ 64 → IsPrinted behind → IsPrinted (decimal n ++ 32 ∷ behind)
printed_number n behind fits printed =
    All-append (λ x. is_print x ≡ true) (decimal n) (32 ∷ behind) (number_brief (decimal n) n (IsNumber-decimal n fits)).printed (All-cons (λ x. is_print x ≡ true) 32 behind refl printed)

eret_front : Eret → List ℕ
eret_front eret = 80 ∷ 32 ∷ (decimal eret.offset ++ 32 ∷ (decimal eret.size ++ 32 ∷ []))

pub eret_fits : (verb : List ℕ) (eret : Eret) (front : ℕ) → eret.offset < 2 ^ 64 → eret.size < 2 ^ 64 → front ≡ 4 + length (decimal eret.offset) + length (decimal eret.size) → (FitsBytes verb (eret_text eret) → FitsBehind verb front eret.path) × (FitsBehind verb front eret.path → FitsBytes verb (eret_text eret))
unfolding eret_front
eret_fits verb eret front offset size front_is =
    let o : List ℕ = decimal eret.offset in
    let s : List ℕ = decimal eret.size in
    let text : eret_front eret ++ eret.path ≡ eret_text eret = ap (λ (x : List ℕ). 80 ∷ 32 ∷ x) (append_assoc o (32 ∷ (s ++ 32 ∷ [])) eret.path ∙ ap (λ (x : List ℕ). o ++ 32 ∷ x) (append_assoc s (32 ∷ []) eret.path)) in
    let len : length (eret_front eret) ≡ front = omega (arith, front_is, length-append o (32 ∷ (s ++ 32 ∷ [])), length-append s (32 ∷ [])) in
    let P : ℕ → Type 0 = λ x. is_print x ≡ true in
    let printed : IsPrinted (eret_front eret) = All-cons P 80 (32 ∷ (o ++ 32 ∷ (s ++ 32 ∷ []))) refl (All-cons P 32 (o ++ 32 ∷ (s ++ 32 ∷ [])) refl (printed_number eret.offset (s ++ 32 ∷ []) offset (printed_number eret.size [] size (All-nil P)))) in
    let G : ℕ → Type 0 = λ n. (FitsBytes verb (eret_front eret ++ eret.path) → FitsBehind verb n eret.path) × (FitsBehind verb n eret.path → FitsBytes verb (eret_front eret ++ eret.path)) in
    let F : List ℕ → Type 0 = λ t. (FitsBytes verb t → FitsBehind verb front eret.path) × (FitsBehind verb front eret.path → FitsBytes verb t) in
    subst F text (subst G len (front_fits verb (eret_front eret) eret.path printed))

esto_front : Esto → List ℕ
esto_front esto = 65 ∷ 32 ∷ (decimal esto.offset ++ 32 ∷ [])

pub esto_fits : (verb : List ℕ) (esto : Esto) (front : ℕ) → esto.offset < 2 ^ 64 → front ≡ 3 + length (decimal esto.offset) → (FitsBytes verb (esto_text esto) → FitsBehind verb front esto.path) × (FitsBehind verb front esto.path → FitsBytes verb (esto_text esto))
unfolding esto_front
esto_fits verb esto front offset front_is =
    let o : List ℕ = decimal esto.offset in
    let text : esto_front esto ++ esto.path ≡ esto_text esto = ap (λ (x : List ℕ). 65 ∷ 32 ∷ x) (append_assoc o (32 ∷ []) esto.path) in
    let len : length (esto_front esto) ≡ front = omega (arith, front_is, length-append o (32 ∷ [])) in
    let P : ℕ → Type 0 = λ x. is_print x ≡ true in
    let printed : IsPrinted (esto_front esto) = All-cons P 65 (32 ∷ (o ++ 32 ∷ [])) refl (All-cons P 32 (o ++ 32 ∷ []) refl (printed_number esto.offset [] offset (All-nil P))) in
    let G : ℕ → Type 0 = λ n. (FitsBytes verb (esto_front esto ++ esto.path) → FitsBehind verb n esto.path) × (FitsBehind verb n esto.path → FitsBytes verb (esto_front esto ++ esto.path)) in
    let F : List ℕ → Type 0 = λ t. (FitsBytes verb t → FitsBehind verb front esto.path) × (FitsBehind verb front esto.path → FitsBytes verb t) in
    subst F text (subst G len (front_fits verb (esto_front esto) esto.path printed))

-- a test that says one fact says an equal one
pub both_ways_of : {A B C : Type 0} → (A → B) × (B → A) → (C → B) × (B → C) → (C → A) × (A → C)
both_ways_of same test = (λ c. same.1 (test.0 c), λ a. test.1 (same.0 a))
