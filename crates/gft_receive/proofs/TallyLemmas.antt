-- The numbers of passes that booked all that came on their lanes.
use Rattle.std.proofs.Common.{◌≡◌, ◌⊎◌, ℕ, zero, suc, ◌+◌, ◌-◌, ◌^◌, ◌<◌, ◌≤◌, List, [], ◌∷◌, ◌++◌, length, Some, None, refl, ap, ◌∙◌, subst, ⊎_elim, inl, inr, arith}
use Rattle.std.specs.Prelude.{IsSome, Option, false, is_some, slice_get, sum_by}
use Rattle.std.proofs.lemmas.List.Sums.{sum_by-cons}
use Rattle.std.proofs.lemmas.Option.{none-some}
use Rattle.gft_eod.specs.declared.TheConstants.{MAX_EODS}
use Rattle.gft_eod.specs.Words.{IsWithin}
use Rattle.gft_eblock.specs.Words.{Arrival, At, Bad, Eod, Eof, eods, totals}
use Rattle.gft_drive.specs.Words.{sum_below}
use Rattle.gft_outside.specs.Words.{LaneInput, all_totals, first_of, lane_arrivals}
use Rattle.gft_pass.specs.declared.Cause.{Cause}
use Rattle.gft_pass.specs.declared.Numbers.{Numbers}
use Rattle.gft_pass.specs.Words.{causes, one}
use Rattle.gft_book.specs.Words.{more_bytes, one_eod, with_total}
use Rattle.gft_receive.specs.Booking.{numbers_after}
use Rattle.gft_receive.proofs.TableLemmas.{no_both}

-- ---- behind arrivals

-- their EODs, where they stand below the type's end
pub eods-after : (list : List Arrival) (n : Numbers) → (numbers_after list n).eods < 2 ^ 64 - 1 → (numbers_after list n).eods ≡ n.eods + eods list
eods-after [] n few = omega arith
eods-after (At offset value ∷ list) n few = eods-after list (more_bytes 1 n) few
eods-after (Eof total ∷ list) n few = eods-after list (with_total total n) few
eods-after (Bad refusal ∷ list) n few = eods-after list n few
eods-after (Eod ∷ list) n few = let later = eods-after list (one_eod n) few in omega (arith, later, few)

pub cause-after : (list : List Arrival) (n : Numbers) → (numbers_after list n).cause ≡ n.cause
cause-after [] n = refl
cause-after (At offset value ∷ list) n = cause-after list (more_bytes 1 n)
cause-after (Eof total ∷ list) n = cause-after list (with_total total n)
cause-after (Bad refusal ∷ list) n = cause-after list n
cause-after (Eod ∷ list) n = cause-after list (one_eod n)

total-stays : (list : List Arrival) (n : Numbers) → IsSome n.total → IsSome (numbers_after list n).total
total-stays [] n told = told
total-stays (At offset value ∷ list) n told = total-stays list (more_bytes 1 n) told
total-stays (Eof total ∷ list) n told = total-stays list (with_total total n) refl
total-stays (Bad refusal ∷ list) n told = total-stays list n told
total-stays (Eod ∷ list) n told = total-stays list (one_eod n) told

-- a total that they announce
pub total-after : (list : List Arrival) (n : Numbers) → IsSome (first_of (totals list)) → IsSome (numbers_after list n).total
total-after [] n told = absurd (no_both false told refl)
total-after (At offset value ∷ list) n told = total-after list (more_bytes 1 n) told
total-after (Eof total ∷ list) n told = total-stays list (with_total total n) refl
total-after (Bad refusal ∷ list) n told = total-after list n told
total-after (Eod ∷ list) n told = total-after list (one_eod n) told

-- ---- of all passes

pub few_counted : (total : Option ℕ) (counted : ℕ) → IsWithin total counted → counted ≤ MAX_EODS
few_counted None counted within = within
few_counted (Some total) counted within = let most = within.1 in let fits = within.2 in omega (arith, most, fits)

sum_shift : (f : ℕ → ℕ) (n : ℕ) → sum_below f (suc n) ≡ f 0 + sum_below (λ k. f (suc k)) n
sum_shift f zero = omega arith
sum_shift f (suc n) = omega (arith, sum_shift f n)

-- where each has its number, all have their sum
pub sum_numbers : (number : ℕ → ℕ) (counts : List Numbers) → ((k : ℕ) (n : Numbers) → slice_get counts k ≡ Some n → n.eods ≡ number k) → sum_by (λ (n : Numbers). n.eods) counts ≡ sum_below number (length counts)
sum_numbers number [] each = refl
sum_numbers number (n ∷ counts) each =
    let here : n.eods ≡ number 0 = each 0 n refl in
    let later = sum_numbers (λ k. number (suc k)) counts (λ k m at. each (suc k) m at) in
    omega (arith, here, later, sum_by-cons (λ (m : Numbers). m.eods) n counts, sum_shift number (length counts))

module _ {A : Type 0} where
  pub there : (l : List A) (k : ℕ) → k < length l → (x : A) × (slice_get l k ≡ Some x)
  there [] k lt = absurd (omega (arith, lt))
  there (x ∷ l) zero lt = (x, refl)
  there (x ∷ l) (suc k) lt = there l k (omega (arith, lt))

  -- one makes it true, or all are so
  pub one_or_all : (l : List A) (P : Type 0) (Q : ℕ → A → Type 0) → ((k : ℕ) (x : A) → slice_get l k ≡ Some x → P ⊎ Q k x) → P ⊎ ((k : ℕ) (x : A) → slice_get l k ≡ Some x → Q k x)
  one_or_all [] P Q each = inr (λ k x at. absurd (none-some x at))
  one_or_all (x ∷ l) P Q each = ⊎_elim
      (λ (p : P). inl p)
      (λ (here : Q 0 x). ⊎_elim
      (λ (p : P). inl p)
      (λ (later : (k : ℕ) (y : A) → slice_get l k ≡ Some y → Q (suc k) y). inr (both here later))
      (one_or_all l P (λ k y. Q (suc k) y) (λ k y at. each (suc k) y at)))
      (each 0 x refl)
    where
      same : (a b : A) → Some a ≡ Some b → a ≡ b
      same a b e = cc

      both : Q 0 x → ((k : ℕ) (y : A) → slice_get l k ≡ Some y → Q (suc k) y) → (k : ℕ) (y : A) → slice_get (x ∷ l) k ≡ Some y → Q k y
      both here later zero y at = subst (Q 0) (same x y at) here
      both here later (suc k) y at = later k y at

-- the pass that keeps the cause
pub record KeepsIt (counts : List Numbers) (cause : Cause) : Type 0 where
  pub lane : ℕ
  pub count : Numbers
  pub at : slice_get counts lane ≡ Some count
  pub kept : count.cause ≡ Some cause

-- or it is the teller's
pub keeper : (counts : List Numbers) (teller : Numbers) (cause : Cause) → causes (counts ++ teller ∷ []) ≡ cause ∷ [] → KeepsIt counts cause ⊎ (teller.cause ≡ Some cause)
keeper [] teller cause is = inr (cases teller.cause is)
  where
    cases : (o : Option Cause) → one o ++ [] ≡ cause ∷ [] → o ≡ Some cause
    cases None is' = absurd (let e = ap (λ (l : List Cause). length l) is' in omega (arith, e))
    cases (Some c) is' = ap (λ (l : List Cause). Some (head l)) is'
      where
        head : List Cause → Cause
        head [] = cause
        head (d ∷ l) = d
keeper (n ∷ counts) teller cause is = cases n.cause refl is (keeper counts teller cause)
  where
    head : List Cause → Cause
    head [] = cause
    head (c ∷ l) = c

    cases : (o : Option Cause) → n.cause ≡ o → one o ++ causes (counts ++ teller ∷ []) ≡ cause ∷ [] → (causes (counts ++ teller ∷ []) ≡ cause ∷ [] → KeepsIt counts cause ⊎ (teller.cause ≡ Some cause)) → KeepsIt (n ∷ counts) cause ⊎ (teller.cause ≡ Some cause)
    cases (Some c) here is' later = inl (record { lane = 0; count = n; at = refl; kept = here ∙ ap (λ (l : List Cause). Some (head l)) is' })
    cases None here is' later = ⊎_elim
        (λ (k : KeepsIt counts cause). inl (record { lane = suc k.lane; count = k.count; at = k.at; kept = k.kept }))
        (λ (mine : teller.cause ≡ Some cause). inr mine)
        (later is')

-- the lane that announces a total
pub record Announces (shift : ℕ) (lists : List (List LaneInput)) : Type 0 where
  pub lane : ℕ
  pub list : List LaneInput
  pub at : slice_get lists lane ≡ Some list
  pub told : IsSome (first_of (totals (lane_arrivals shift list)))

pub announcer : (shift : ℕ) (lists : List (List LaneInput)) → IsSome (first_of (all_totals shift lists)) → Announces shift lists
announcer shift [] told = absurd (no_both false told refl)
announcer shift (list ∷ lists) told = cases (totals (lane_arrivals shift list)) refl told (announcer shift lists)
  where
    cases : (ts : List ℕ) → totals (lane_arrivals shift list) ≡ ts → IsSome (first_of (ts ++ all_totals shift lists)) → (IsSome (first_of (all_totals shift lists)) → Announces shift lists) → Announces shift (list ∷ lists)
    cases (t ∷ ts) is told' later = record { lane = 0; list = list; at = refl; told = ap (λ (l : List ℕ). is_some (first_of l)) is }
    cases [] is told' later = let a = later told' in record { lane = suc a.lane; list = a.list; at = a.at; told = a.told }
