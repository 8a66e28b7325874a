-- The numbers of the passes, when those of one pass change.
use Rattle.std.proofs.Common.{◌≡◌, ◌≢◌, ◌⊎◌, ℕ, ◌+◌, List, length, set, replicate, Some, None, true, refl, sym, ap, ◌∙◌, subst, ⊎_elim, inl, inr, arith}
use Rattle.std.specs.Prelude.{Option}
use Rattle.std.proofs.lemmas.Option.{none-some}
use mathlib.Core.Logic.{dite}
use native.Mathlib.Decide.{ℕ_discrete}
use Rattle.gft_eod.specs.Words.{Count, IsCount, IsWithin}
use Rattle.gft_pass.specs.declared.Cause.{Cause}
use Rattle.gft_pass.specs.declared.Numbers.{Numbers}
use Rattle.gft_pass.specs.Words.{IsAt, causes, nothing, one}
use Rattle.gft_pass.proofs.Lemmas.{IsAt-nothing, IsAt-other, IsAt-same, IsAt-set, IsAt-set_or, causes-nothing, length-set, sum_by-nothing, sum_by-set}
use Rattle.gft_book.specs.Facts.{IsEnded, NumbersAgree}
use Rattle.gft_book.proofs.ChoiceLemmas.{off}

-- ---- all facts of the numbers

-- how the numbers of one pass, the count and the cause go together when they change
pub record ChangesNumbers (last : Type 0) (n m : Numbers) (count now : Count) (cause kept : Option Cause) : Type 0 where
  pub within : IsCount count → IsCount now
  pub teller : last → (n.bytes ≡ 0) × (n.eods ≡ 0) × (n.total ≡ None) → (m.bytes ≡ 0) × (m.eods ≡ 0) × (m.total ≡ None)
  pub eods : now.eods + n.eods ≡ count.eods + m.eods
  pub total : (total : ℕ) → count.total ≡ Some total → now.total ≡ Some total
  pub mine : (total : ℕ) → m.total ≡ Some total → now.total ≡ Some total
  pub told : (total : ℕ) → now.total ≡ Some total → (m.total ≡ Some total) ⊎ ((count.total ≡ Some total) × (m.total ≡ n.total))
  pub stopped : m.stopped ≡ true → IsEnded now kept
  pub still : IsEnded count cause → IsEnded now kept

pub NumbersAgree-set : (counts : List Numbers) (k : ℕ) (n m : Numbers) (count now : Count) (cause kept : Option Cause)
    → IsAt counts k n → ChangesNumbers (k + 1 ≡ length counts) n m count now cause kept → causes (set counts k m) ≡ one kept
    → NumbersAgree counts count cause → NumbersAgree (set counts k m) now kept
NumbersAgree-set counts k n m count now cause kept at change in_causes a =
    record {
      within = change.within a.within;
      teller = λ j p is_last there.
          let last : j + 1 ≡ length counts = is_last ∙ length-set counts k m in
          ⊎_elim
          (λ (x : (j ≡ k) × (m ≡ p)).
          let mine = change.teller (omega (arith, last, x.0)) (a.teller k n (omega (arith, last, x.0)) at) in
          subst (λ (q : Numbers). (q.bytes ≡ 0) × (q.eods ≡ 0) × (q.total ≡ None)) x.1 mine)
          (λ (x : (j ≢ k) × (IsAt counts j p)). a.teller j p last x.1)
          (IsAt-set_or counts k j m p there);
      eods = let sums = sum_by-set (λ (q : Numbers). q.eods) counts k n m at in omega (arith, sums, a.eods, change.eods);
      totals = λ j t p there told. ⊎_elim
          (λ (x : (j ≡ k) × (m ≡ p)). change.mine t (ap (λ (q : Numbers). q.total) x.1 ∙ told))
          (λ (x : (j ≢ k) × (IsAt counts j p)). change.total t (a.totals j t p x.1 told))
          (IsAt-set_or counts k j m p there);
      told = λ t is. ⊎_elim
          (λ (mine : m.total ≡ Some t). (k, (m, here, mine)))
          (λ (x : (count.total ≡ Some t) × (m.total ≡ n.total)).
          let old = a.told t x.0 in
          ⊎_elim
          (λ (e : old.0 ≡ k).
          let same : old.1.0 ≡ n = IsAt-same counts k old.1.0 n (subst (λ (j : ℕ). IsAt counts j old.1.0) e old.1.1) at in
          (k, (m, here, x.1 ∙ ap (λ (q : Numbers). q.total) (sym same) ∙ old.1.2)))
          (λ (ne : old.0 ≢ k). (old.0, (old.1.0, other old.0 old.1.0 ne old.1.1, old.1.2)))
          (same_or old.0 k))
          (change.told t is);
      causes = in_causes;
      stopped = λ j p there is. ⊎_elim
          (λ (x : (j ≡ k) × (m ≡ p)). change.stopped (ap (λ (q : Numbers). q.stopped) x.1 ∙ is))
          (λ (x : (j ≢ k) × (IsAt counts j p)). change.still (a.stopped j p x.1 is))
          (IsAt-set_or counts k j m p there);
    }
  where
    here : IsAt (set counts k m) k m
    here = IsAt-set counts k n m at

    other : (j : ℕ) (p : Numbers) → j ≢ k → IsAt counts j p → IsAt (set counts k m) j p
    other j p ne there = IsAt-other counts k j m p ne there

    same_or : (i j : ℕ) → (i ≡ j) ⊎ (i ≢ j)
    same_or i j = dite (ℕ_discrete i j) (λ e. inl e) (λ ne. inr ne)

-- ---- at the start

pub NumbersAgree-new : (n : ℕ) (count : Count) → count.total ≡ None → count.eods ≡ 0 → NumbersAgree (replicate n nothing) count None
NumbersAgree-new n count total eods =
    record {
      within = within count.total total;
      teller = λ k m last at. let is = IsAt-nothing n k m at in (ap (λ (q : Numbers). q.bytes) is, ap (λ (q : Numbers). q.eods) is, ap (λ (q : Numbers). q.total) is);
      eods = eods ∙ sym (sum_by-nothing (λ (m : Numbers). m.eods) n refl);
      totals = λ k t m at told. absurd (none-some t (sym (ap (λ (q : Numbers). q.total) (IsAt-nothing n k m at)) ∙ told));
      told = λ t is. absurd (none-some t (sym total ∙ is));
      causes = causes-nothing n;
      stopped = λ k m at is. absurd (off (sym (ap (λ (q : Numbers). q.stopped) (IsAt-nothing n k m at)) ∙ is));
    }
  where
    within : (o : Option ℕ) → o ≡ None → IsWithin o count.eods
    within None is = omega (arith, eods)
    within (Some t) is = absurd (none-some t (sym is))
