-- How one event more moves a transfer.
use Rattle.std.proofs.Common.{◌≡◌, ℕ, ◌+◌, ◌<◌, ◌≤◌, ◌↔◌, ◌||◌, List, [], ◌∷◌, Some, None, Bool, true, false, true≢false, refl, sym, ap, ◌∙◌, subst, eq-eqb, ne_eqb, ⊎_elim, arith}
use Rattle.std.specs.Prelude.{Option, if◌then◌else◌, nat_eq, nat_lt}
use Rattle.std.proofs.lemmas.Option.{none-some, same_Some}
use Rattle.std.proofs.lemmas.Bool.{le-ltb, lt-leb}
use mathlib.Core.Logic.{dite}
use native.Mathlib.Decide.{ℕ_discrete}
use Rattle.gft_eod.specs.declared.TheConstants.{MAX_EODS}
use Rattle.gft_eod.specs.Words.{Count, IsWithin, eods_refusal, totals_refusal, eof_refusal, eod_refusal}
use Rattle.gft_eod.specs.declared.EodError.{EodError}
use Rattle.gft_eod.specs.declared.EodError.TheVariants.{BadTotal, TwoTotals, TooManyEods}
use Rattle.gft_core.specs.declared.event.CoreEvent.{CoreEvent}
use Rattle.gft_core.specs.declared.event.CoreEvent.TheVariants.{Block, Eod, Eof, Mark}
use Rattle.gft_core.specs.declared.progress.Progress.{Progress}
use Rattle.gft_core.specs.declared.progress.Progress.TheVariants.{Idle, Counting, Failed}
use Rattle.gft_core.specs.Kept.{first_some, Booked}
use Rattle.gft_core.specs.Done.{since, total, AllPermit, Done}
use Rattle.gft_core.specs.Progress.{IsInProgress, CountsTransfer, Tells, IsSoundProgress, HasMet}
use Rattle.gft_core.proofs.OptionLemmas.{first_some-none, first_some_either}

-- ---- what the events of a transfer say

-- where all pass, the first total is the one
pub total_is : (transfer : List CoreEvent) (n k : ℕ) → AllPermit n transfer → total transfer ≡ Some k → k ≡ n
total_is [] n k pass t = absurd (none-some k t)
total_is (Eof new ∷ older) n k pass t =
    ⊎_elim (λ p. total_is older n k pass.0 p) (λ (p : Some new ≡ Some k). sym (same_Some new k p) ∙ pass.1) (first_some_either (total older) (Some new) k t)
total_is (e ∷ older) n k pass t = total_is older n k pass.0 (sym (first_some-none (total older)) ∙ t)

-- a broken transfer stays broken
pub broken_stays : (transfer : List CoreEvent) (e : CoreEvent) → ((n : ℕ) → ¬ IsInProgress transfer n) → (n : ℕ) → ¬ IsInProgress (e ∷ transfer) n
broken_stays transfer e broken n unbroken =
    broken n (record { in_bounds = unbroken.in_bounds; at_most = omega (arith, unbroken.at_most); passes = unbroken.passes.0 })

-- ---- events that count nothing

pub counts_block : (lane channel offset : ℕ) (bytes : List ℕ) (unanswered : Bool) (transfer : List CoreEvent) (count : Count) → CountsTransfer transfer count
    → CountsTransfer (Block lane channel offset bytes unanswered ∷ transfer) count
counts_block lane channel offset bytes unanswered transfer count c =
    record {
      total = first_some-none (total transfer) ∙ c.total;
      eods = omega (arith, c.eods);
      passes = λ n h. (c.passes n h, tt);
    }

pub Tells-block : (lane channel offset : ℕ) (bytes : List ℕ) (unanswered : Bool) (events : List CoreEvent) (progress : Progress) → Tells events progress
    → Tells (Block lane channel offset bytes unanswered ∷ events) progress
Tells-block lane channel offset bytes unanswered events Idle t = t
Tells-block lane channel offset bytes unanswered events (Counting count) t = (t.0, counts_block lane channel offset bytes unanswered (since events) count t.1)
Tells-block lane channel offset bytes unanswered events Failed t = broken_stays (since events) (Block lane channel offset bytes unanswered) t

pub counts_mark : (transfer : List CoreEvent) (count : Count) → CountsTransfer transfer count → CountsTransfer (Mark ∷ transfer) count
counts_mark transfer count c =
    record {
      total = first_some-none (total transfer) ∙ c.total;
      eods = omega (arith, c.eods);
      passes = λ n h. (c.passes n h, tt);
    }

pub Tells-mark : (events : List CoreEvent) (progress : Progress) → Tells events progress → Tells (Mark ∷ events) progress
Tells-mark events Idle t = t
Tells-mark events (Counting count) t = (t.0, counts_mark (since events) count t.1)
Tells-mark events Failed t = broken_stays (since events) Mark t

-- ---- an Eod

pub Counts-eod : (lane : ℕ) (transfer : List CoreEvent) (old new : Count) → new.total ≡ old.total → new.eods ≡ old.eods + 1 → CountsTransfer transfer old → CountsTransfer (Eod lane ∷ transfer) new
Counts-eod lane transfer old new same more c =
    record {
      total = first_some-none (total transfer) ∙ c.total ∙ sym same;
      eods = omega (arith, c.eods, more);
      passes = λ n h. (c.passes n (ap (λ o. first_some o (Some n)) (sym same) ∙ h), tt);
    }

-- an Eod that fits is taken
pub eod_fits : (known : Option ℕ) (taken n : ℕ) → n ≤ MAX_EODS → ((k : ℕ) → known ≡ Some k → k ≡ n) → taken + 1 ≤ n → eod_refusal (record { total = known; eods = taken }) ≡ None
eod_fits None taken n most is below = ap (λ (c : Bool). if c then Some (TooManyEods MAX_EODS) else None) (lt-leb MAX_EODS taken (omega arith))
eod_fits (Some k) taken n most is below =
    let k_is = is k refl in ap (λ (c : Bool). if c then Some (TooManyEods k) else None) (lt-leb k taken (omega arith))

known_is : (transfer : List CoreEvent) (count : Count) (n : ℕ) → CountsTransfer transfer count → AllPermit n transfer → (k : ℕ) → count.total ≡ Some k → k ≡ n
known_is transfer count n c pass k e = total_is transfer n k pass (c.total ∙ e)

pub broken-eod : (lane : ℕ) (transfer : List CoreEvent) (count : Count) (error : EodError) → eod_refusal count ≡ Some error → CountsTransfer transfer count → (n : ℕ) → ¬ IsInProgress (Eod lane ∷ transfer) n
broken-eod lane transfer count error refused c n unbroken =
    none-some error
    (sym (eod_fits count.total count.eods n unbroken.in_bounds.1 (known_is transfer count n c unbroken.passes.0) (omega (arith, c.eods, unbroken.at_most))) ∙ refused)

pub Tells-eod : (lane : ℕ) (events : List CoreEvent) (progress : Progress) → ((count : Count) → progress ≡ Counting count → ⊥) → Tells events progress → Tells (Eod lane ∷ events) progress
Tells-eod lane events Idle other t = t
Tells-eod lane events (Counting count) other t = absurd (other count refl)
Tells-eod lane events Failed other t = broken_stays (since events) (Eod lane) t

-- ---- an Eof

pub Tells-eof : (announced : ℕ) (events : List CoreEvent) (progress : Progress) → ((count : Count) → progress ≡ Counting count → ⊥) → Tells events progress → Tells (Eof announced ∷ events) progress
Tells-eof announced events Idle other t = t
Tells-eof announced events (Counting count) other t = absurd (other count refl)
Tells-eof announced events Failed other t = broken_stays (since events) (Eof announced) t

eods_fit : (taken new : ℕ) → taken ≤ new → eods_refusal taken new ≡ None
eods_fit taken new le = ap (λ (c : Bool). if c then Some (TooManyEods new) else None) (le-ltb new taken le)

totals_fit : (known : Option ℕ) (taken new : ℕ) → ((k : ℕ) → known ≡ Some k → k ≡ new) → taken ≤ new → totals_refusal known taken new ≡ None
totals_fit None taken new is le = eods_fit taken new le
totals_fit (Some k) taken new is le =
    ap (λ (c : Bool). if c then eods_refusal taken new else Some (TwoTotals k new)) (eq-eqb k new (is k refl)) ∙ eods_fit taken new le

-- an Eof that fits is taken
pub eof_fits : (count : Count) (new : ℕ) → 1 ≤ new → new ≤ MAX_EODS → ((k : ℕ) → count.total ≡ Some k → k ≡ new) → count.eods ≤ new → eof_refusal count new ≡ None
eof_fits count new some most is le =
    ap (λ (c : Bool). if c || nat_lt MAX_EODS new then Some (BadTotal new) else totals_refusal count.total count.eods new) (ne_eqb new 0 (λ e. omega arith))
    ∙ ap (λ (c : Bool). if c then Some (BadTotal new) else totals_refusal count.total count.eods new) (le-ltb MAX_EODS new most)
    ∙ totals_fit count.total count.eods new is le

pub broken-eof : (new : ℕ) (transfer : List CoreEvent) (count : Count) (error : EodError) → eof_refusal count new ≡ Some error → CountsTransfer transfer count → (n : ℕ) → ¬ IsInProgress (Eof new ∷ transfer) n
broken-eof new transfer count error refused c n unbroken =
    let is_n : new ≡ n = unbroken.passes.1 in
    none-some error
    (sym (eof_fits count new (omega (arith, unbroken.in_bounds.0)) (omega (arith, unbroken.in_bounds.1)) (λ k e. known_is transfer count n c unbroken.passes.0 k e ∙ sym is_n) (omega (arith, c.eods, unbroken.at_most))) ∙ refused)

pub else_none : (b : Bool) (error : EodError) (other : Option EodError) → (if b then Some error else other) ≡ None → other ≡ None
else_none true error other e = absurd (none-some error (sym e))
else_none false error other e = e

pub first_is : (known : Option ℕ) (taken new : ℕ) → totals_refusal known taken new ≡ None → first_some known (Some new) ≡ Some new
first_is None taken new fits = refl
first_is (Some k) taken new fits =
    dite (ℕ_discrete k new)
    (λ e. ap (λ (n : ℕ). Some n) e)
    (λ ne. let other : totals_refusal (Some k) taken new ≡ Some (TwoTotals k new) = ap (λ (c : Bool). if c then eods_refusal taken new else Some (TwoTotals k new)) (ne_eqb k new ne) in
    absurd (none-some (TwoTotals k new) (sym fits ∙ other)))

pub Counts-eof : (announced : ℕ) (transfer : List CoreEvent) (old new : Count) → eof_refusal old announced ≡ None → new.total ≡ Some announced → new.eods ≡ old.eods → CountsTransfer transfer old → CountsTransfer (Eof announced ∷ transfer) new
Counts-eof announced transfer old new fits kept same c =
    let is_first = first_is old.total old.eods announced (else_none (nat_eq announced 0 || nat_lt MAX_EODS announced) (BadTotal announced) (totals_refusal old.total old.eods announced) fits) in
    record {
      total = ap (λ o. first_some o (Some announced)) c.total ∙ is_first ∙ sym kept;
      eods = omega (arith, c.eods, same);
      passes = λ n h.
          let is_n : announced ≡ n = same_Some announced n (ap (λ o. first_some o (Some n)) (sym kept) ∙ h) in
          (c.passes n (subst (λ (m : ℕ). first_some old.total (Some m) ≡ Some m) is_n is_first), is_n);
    }

-- ---- a transfer that is done

pub done_where_met : (events : List CoreEvent) (progress : Progress) → Tells events progress → IsSoundProgress progress → HasMet progress → (end : ℕ) → ((x : ℕ) → Booked events x ↔ (x < end)) → Done events
done_where_met events Idle t sound met end whole = absurd met
done_where_met events (Counting count) t sound met end whole =
    let within = subst (λ (o : Option ℕ). IsWithin o count.eods) met sound in
    record {
      begun = t.0;
      number = count.eods;
      total = t.1.total ∙ met;
      in_bounds = (within.0, within.1);
      met = t.1.eods;
      passes = t.1.passes count.eods (ap (λ o. first_some o (Some count.eods)) met);
      whole = (end, whole);
    }
done_where_met events Failed t sound met end whole = absurd met

pub met_where_done : (events : List CoreEvent) (progress : Progress) → Tells events progress → Done events → HasMet progress
met_where_done events Idle t done = absurd (true≢false (sym done.begun ∙ t))
met_where_done events (Counting count) t done = sym t.1.total ∙ done.total ∙ ap (λ (n : ℕ). Some n) (sym done.met ∙ t.1.eods)
met_where_done events Failed t done =
    absurd (t done.number (record { in_bounds = done.in_bounds; at_most = omega (arith, done.met); passes = done.passes }))
