-- The generated file, byte by byte and cut anywhere.
use Rattle.std.proofs.Common.{◌≡◌, ℕ, zero, suc, ◌+◌, ◌-◌, ◌*◌, ◌%◌, ◌/◌, ◌^◌, ◌<◌, ◌≤◌, List, [], ◌∷◌, ◌++◌, length, get_or, refl, sym, ap, ◌∙◌, arith, take}
use Rattle.gft_generated.specs.Generator.{generated, generated_byte, mixed}
use Rattle.gft_generated.proofs.StreamLemmas.{take_all}

pub mixed-same : (a b k : ℕ) → a % 4294967296 ≡ b % 4294967296 → mixed (a + k) ≡ mixed (b + k)
mixed-same a b k same = ap (λ (c : ℕ). c * 2654435761 % (2 ^ 32) / (2 ^ 24)) (omega (arith, same))

-- a list that has the file's bytes at each place is a part of the file
pub generated-each : (seed at : ℕ) (xs : List ℕ) → ((k : ℕ) → k < length xs → get_or xs k 0 ≡ mixed (seed + (at + k))) → xs ≡ generated seed at (length xs)
generated-each seed at [] each = refl
generated-each seed at (x ∷ xs) each =
    ap (λ (y : ℕ). y ∷ xs) (each 0 (omega arith) ∙ ap (λ (m : ℕ). mixed m) (omega arith))
    ∙ ap (λ (l : List ℕ). generated_byte seed at ∷ l) (generated-each seed (suc at) xs (λ k lt. each (suc k) (omega (arith, lt)) ∙ ap (λ (m : ℕ). mixed m) (omega arith)))

pub generated-at : (seed at n k : ℕ) → k < n → get_or (generated seed at n) k 0 ≡ mixed (seed + (at + k))
generated-at seed at zero k lt = absurd (omega (arith, lt))
generated-at seed at (suc n) zero lt = ap (λ (m : ℕ). mixed m) (omega arith)
generated-at seed at (suc n) (suc k) lt = generated-at seed (suc at) n k (omega (arith, lt)) ∙ ap (λ (m : ℕ). mixed m) (omega arith)

pub length-generated : (seed at n : ℕ) → length (generated seed at n) ≡ n
length-generated seed at zero = refl
length-generated seed at (suc n) = let h = length-generated seed (suc at) n in omega (arith, h)

pub generated-append : (seed at m n : ℕ) → generated seed at (m + n) ≡ generated seed at m ++ generated seed (at + m) n
generated-append seed at zero n =
    let none : 0 + n ≡ n = omega arith in
    let here : at ≡ at + 0 = omega arith in
    ap (λ (k : ℕ). generated seed at k) none ∙ ap (λ (a : ℕ). generated seed a n) here
generated-append seed at (suc m) n =
    let more : suc m + n ≡ suc (m + n) = omega arith in
    let further : suc at + m ≡ at + suc m = omega arith in
    ap (λ (k : ℕ). generated seed at k) more
    ∙ ap (λ (l : List ℕ). generated_byte seed at ∷ l)
    (generated-append seed (suc at) m n ∙ ap (λ (a : ℕ). generated seed (suc at) m ++ generated seed a n) further)

-- a buffer that was filled from a count that makes the same bytes
pub generated-whole : (seed at start : ℕ) (xs : List ℕ) (i n : ℕ) → i ≡ n → length xs ≡ n → start % 4294967296 ≡ (seed + at) % 4294967296
    → ((k : ℕ) → k < i → get_or xs k 0 ≡ mixed (start + k)) → xs ≡ generated seed at n
generated-whole seed at start xs i n all long same each =
    generated-each seed at xs (λ k lt. each k (omega (arith, lt, all, long)) ∙ mixed-same start (seed + at) k same ∙ ap (λ (m : ℕ). mixed m) (omega arith))
    ∙ ap (λ (m : ℕ). generated seed at m) long

pub generated-part : (seed at start : ℕ) (xs : List ℕ) (i n : ℕ) → i ≡ n → start % 4294967296 ≡ (seed + at) % 4294967296
    → xs ≡ generated seed at n → (k : ℕ) → k < i → get_or xs k 0 ≡ mixed (start + k)
generated-part seed at start xs i n all same is k lt =
    let far : seed + (at + k) ≡ seed + at + k = omega arith in
    ap (λ (l : List ℕ). get_or l k 0) is
    ∙ generated-at seed at n k (omega (arith, lt, all))
    ∙ ap (λ (m : ℕ). mixed m) far
    ∙ sym (mixed-same start (seed + at) k same)

-- a range's bytes are what a buffer got of them, and the rest
pub generated-cut : (seed start end count : ℕ) (buf more : List ℕ) → count ≤ end - start → buf ≡ generated seed start count
    → generated seed start (end - start) ≡ take count (buf ++ more) ++ generated seed (start + count) (end - (start + count))
generated-cut seed start end count buf more few is =
    let whole : end - start ≡ count + (end - (start + count)) = omega (arith, few) in
    let long : length buf ≡ count = ap length is ∙ length-generated seed start count in
    ap (λ (n : ℕ). generated seed start n) whole
    ∙ generated-append seed start count (end - (start + count))
    ∙ ap (λ (l : List ℕ). l ++ generated seed (start + count) (end - (start + count))) (sym is ∙ sym (take_all count buf more long))
