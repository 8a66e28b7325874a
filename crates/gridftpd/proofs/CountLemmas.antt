-- The count of EODs beside the arrivals.
use Rattle.std.proofs.Common.{◌≡◌, ◌≢◌, ℕ, suc, ◌+◌, ◌<◌, ◌≤◌, ◌⊎◌, List, [], ◌∷◌, ◌++◌, append-nil, append_assoc, ◌||◌, Bool, true, false, Option, Some, None, refl, sym, ap, ◌∙◌, subst, arith, inl, inr, if◌then◌else◌}
use Rattle.std.proofs.lemmas.Bool.{cases_lt, ltb-false, or_parts}
use Rattle.std.proofs.lemmas.Bool.Decides.{eqb_tells}
use Rattle.std.specs.Prelude.{nat_eq, nat_lt}
use Rattle.gft_eod.specs.declared.TheConstants.{MAX_EODS}
use Rattle.gft_eblock.specs.Words.{Arrival, Eof, Eod, totals, eods}
use Rattle.gft_eblock.proofs.Lemmas.{eods-append}
use Rattle.gft_outside.specs.Words.{first_of, AllAre, AreAgreed}
use Rattle.gridftpd.proofs.DoneLemmas.{SaysDone}
use Rattle.gft_eod.specs.declared.EodError.{EodError}
use Rattle.gft_eod.specs.declared.EodError.TheVariants.{BadTotal, TwoTotals}
use Rattle.gft_eod.specs.Words.{Count, eof_refusal, eod_refusal, totals_refusal}
use Rattle.gft_core.proofs.Lemmas.{else_none, eod_fits, eof_fits}
use Rattle.gridftpd.specs.Follows.{Counts}
use Rattle.gridftpd.proofs.ArrivalLemmas.{totals-append}

AllAre-append : (n : ℕ) (a b : List ℕ) → AllAre n a → AllAre n b → AllAre n (a ++ b)
AllAre-append n [] b all_a all_b = all_b
AllAre-append n (m ∷ a) b all_a all_b = (all_a.0, AllAre-append n a b all_a.1 all_b)

AllAre-front : (n : ℕ) (a b : List ℕ) → AllAre n (a ++ b) → AllAre n a
AllAre-front n [] b all = tt
AllAre-front n (m ∷ a) b all = (all.0, AllAre-front n a b all.1)

AllAre-back : (n : ℕ) (a b : List ℕ) → AllAre n (a ++ b) → AllAre n b
AllAre-back n [] b all = all
AllAre-back n (m ∷ a) b all = AllAre-back n a b all.1

-- the first of totals that are all one is that one
first_of-all : (n kept : ℕ) (list : List ℕ) → AllAre n list → first_of list ≡ Some kept → kept ≡ n
first_of-all n kept [] all first = absurd (cc)
first_of-all n kept (m ∷ list) all first = let same : Some m ≡ Some kept = first in let here : m ≡ kept = cc in sym here ∙ all.0

-- totals that agree are all the first
pub agreed_all : (n : ℕ) (list : List ℕ) → AreAgreed list → first_of list ≡ Some n → AllAre n list
agreed_all n [] agreed first = tt
agreed_all n (m ∷ list) agreed first = let here : m ≡ n = cc in (here, subst (λ k. AllAre k list) here agreed.2)

AreAgreed-more : (front : List ℕ) (n : ℕ) → 1 ≤ n → n ≤ MAX_EODS → AreAgreed front → (first_of front ≡ None) ⊎ (first_of front ≡ Some n) → AreAgreed (front ++ n ∷ [])
AreAgreed-more [] n low high agreed kept = (low, high, tt)
AreAgreed-more (m ∷ front) n low high agreed kept =
    let first : m ≡ n = elim kept [ inl none ↦ let never : Some m ≡ None = none in absurd (cc) | inr some ↦ let same : Some m ≡ Some n = some in cc ] in
    (agreed.0, agreed.1, AllAre-append m front (n ∷ []) agreed.2 (sym first, tt))

not_refused : (b : Bool) (error : EodError) (other : Option EodError) → (if b then Some error else other) ≡ None → b ≡ false
not_refused true error other taken = absurd (cc)
not_refused false error other taken = refl

-- a total that is taken may be announced
in_bounds : (n : ℕ) (other : Option EodError) → (if nat_eq n 0 || nat_lt MAX_EODS n then Some (BadTotal n) else other) ≡ None → (1 ≤ n) × (n ≤ MAX_EODS)
in_bounds n other taken =
    let parts = or_parts (nat_eq n 0) (nat_lt MAX_EODS n) (not_refused (nat_eq n 0 || nat_lt MAX_EODS n) (BadTotal n) other taken) in
    let some : 1 ≤ n = elim (eqb_tells n 0) [
      | inl same ↦ absurd (let a : nat_eq n 0 ≡ false = parts.0 in let b = same.0 in cc)
      | inr apart ↦ elim (cases_lt 0 n) [ inl above ↦ omega arith | inr none ↦ absurd (apart.1 (omega arith)) ]
    ] in
    (some, ltb-false MAX_EODS n parts.1)

-- the count of these arrivals: the first total, and the EODs
abbrev pub count_of : List Arrival → Count
count_of list = record { total = first_of (totals list); eods = eods list }

pub count_is : (list : List Arrival) (count : Count) → Counts list count → count_of list ≡ count
count_is list count counts =
    ap (λ (t : Option ℕ). let c : Count = record { total = t; eods = eods list } in c) (sym counts.total)
    ∙ ap (λ (n : ℕ). let c : Count = record { total = count.total; eods = n } in c) (sym counts.eods)

-- what brings no total and no EOD
pub Counts-same : (list brought : List Arrival) (count : Count) → Counts list count → totals brought ≡ [] → eods brought ≡ 0 → Counts (list ++ brought) count
Counts-same list brought count counts none zero =
    let same : totals (list ++ brought) ≡ totals list = totals-append list brought ∙ ap (λ ts. totals list ++ ts) none ∙ append-nil (totals list) in
    record {
      total = counts.total ∙ ap first_of (sym same);
      eods = omega (arith, counts.eods, eods-append list brought, zero);
      agreed = subst AreAgreed (sym same) counts.agreed;
    }

pub Counts-eod : (list : List Arrival) (old new : Count) → Counts list old → new.total ≡ old.total → new.eods ≡ old.eods + 1 → Counts (list ++ Eod ∷ []) new
Counts-eod list old new counts total more =
    let same : totals (list ++ Eod ∷ []) ≡ totals list = totals-append list (Eod ∷ []) ∙ append-nil (totals list) in
    record {
      total = total ∙ counts.total ∙ ap first_of (sym same);
      eods = omega (arith, counts.eods, eods-append list (Eod ∷ []), more);
      agreed = subst AreAgreed (sym same) counts.agreed;
    }

kept_total : (kept : Option ℕ) (taken n : ℕ) → totals_refusal kept taken n ≡ None → (kept ≡ None) ⊎ (kept ≡ Some n)
kept_total None taken n is = inl refl
kept_total (Some kept) taken n is = elim (eqb_tells kept n) [
  | inl same ↦ inr (ap (λ (m : ℕ). Some m) same.1)
  | inr apart ↦ let other : Some (TwoTotals kept n) ≡ None = rw apart.0 at is in absurd (cc)
]

-- an EOF that was taken
pub Counts-eof : (list : List Arrival) (n : ℕ) (old new : Count) → Counts list old → eof_refusal old n ≡ None → new.total ≡ Some n → new.eods ≡ old.eods → Counts (list ++ Eof n ∷ []) new
Counts-eof list n old new counts taken total same_eods =
    let all : totals (list ++ Eof n ∷ []) ≡ totals list ++ n ∷ [] = totals-append list (Eof n ∷ []) in
    let kept = kept_total old.total old.eods n (else_none (nat_eq n 0 || nat_lt MAX_EODS n) (BadTotal n) (totals_refusal old.total old.eods n) taken) in
    let either : (first_of (totals list) ≡ None) ⊎ (first_of (totals list) ≡ Some n) = elim kept [ inl none ↦ inl (sym counts.total ∙ none) | inr some ↦ inr (sym counts.total ∙ some) ] in
    let bounds = in_bounds n (totals_refusal old.total old.eods n) taken in
    record {
      total = total ∙ sym (first_then (totals list) n either) ∙ ap first_of (sym all);
      eods = omega (arith, counts.eods, same_eods, eods-append list (Eof n ∷ []));
      agreed = subst AreAgreed (sym all) (AreAgreed-more (totals list) n bounds.0 bounds.1 counts.agreed either);
    }
  where
    first_then : (front : List ℕ) (m : ℕ) → (first_of front ≡ None) ⊎ (first_of front ≡ Some m) → first_of (front ++ m ∷ []) ≡ Some m
    first_then [] m either = refl
    first_then (k ∷ front) m either = elim either [ inl none ↦ let no : Some k ≡ None = none in absurd (cc) | inr some ↦ some ]

-- the first EOD of a channel is never refused
eod_in : (list : List ℕ) (count : ℕ) → AreAgreed list → count ≡ 0 → eod_refusal (record { total = first_of list; eods = count }) ≡ None
eod_in [] count agreed none = eod_fits None count MAX_EODS (omega arith) (λ k is. let never : nothing_known ≡ Some k = is in absurd (cc)) (omega (arith, none))
  where
    nothing_known : Option ℕ
    nothing_known = None
eod_in (n ∷ list) count agreed none = eod_fits (Some n) count n agreed.1 (λ k is. let same : Some n ≡ Some k = is in cc) (omega (arith, none, agreed.0))

pub eod_taken : (list : List Arrival) (count : Count) → Counts list count → eods list ≡ 0 → eod_refusal count ≡ None
eod_taken list count counts none = subst (λ (c : Count). eod_refusal c ≡ None) (count_is list count counts) (eod_in (totals list) (eods list) counts.agreed none)

-- the count beside arrivals without an EOD refuses as beside their totals alone
pub refused_first : (list : List Arrival) (count : Count) (total : ℕ) (error : EodError) → Counts list count → eods list ≡ 0 → eof_refusal count total ≡ Some error → eof_refusal (record { total = first_of (totals list); eods = 0 }) total ≡ Some error
refused_first list count total error counts none refused =
    subst (λ n. eof_refusal (record { total = first_of (totals list); eods = n }) total ≡ Some error) none
    (subst (λ (c : Count). eof_refusal c total ≡ Some error) (sym (count_is list count counts)) refused)

-- ---- arrivals that are done are counted without a refusal

abbrev nothing : Option EodError
nothing = None

pub done_is_counted : (list more : List Arrival) (end : ℕ) (earlier later : List ℕ) (total : ℕ) (error : EodError) → SaysDone (list ++ more) end → totals list ≡ earlier ++ total ∷ later → eof_refusal (record { total = first_of earlier; eods = 0 }) total ≡ Some error → ⊥
done_is_counted list more end earlier later total error done split refused =
    let bounds = done.in_bounds in
    let low : 1 ≤ done.total = bounds.0 in
    let high : done.total ≤ MAX_EODS = bounds.1 in
    let all = AllAre-front done.total (totals list) (totals more) (subst (AllAre done.total) (totals-append list more) done.no_other) in
    let parts = subst (AllAre done.total) split all in
    let front = AllAre-front done.total earlier (total ∷ later) parts in
    let here : total ≡ done.total = (AllAre-back done.total earlier (total ∷ later) parts).0 in
    let fine = eof_fits (record { total = first_of earlier; eods = 0 }) total (omega arith) (omega arith) (λ m first. first_of-all done.total m earlier front first ∙ sym here) (omega arith) in
    let no : nothing ≡ Some error = sym fine ∙ refused in
    cc
