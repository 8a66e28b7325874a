-- The byte that says that this server has stored on a drive.
use Rattle.std.proofs.Common.{◌≡◌, ◌≢◌, ℕ, ◌+◌, ◌%◌, ◌<◌, ◌≤◌, List, [], ◌∷◌, length, get_or, true, false, IsTrue, refl, sym, ◌∙◌, ap, subst, arith}
use Rattle.gft_drive.specs.Words.{Slot, first_layout, bank_at, slot_at, selected, slot, IsBorn, Written, Torn, DiffersIn}
use Rattle.gft_drive.proofs.Lemmas.{slot_same, torn_differs, written_differs}
use Rattle.gft_journal.proofs.Adding.{first_fits}
use Rattle.gft_journal.proofs.Basing.{bank_same}
use Rattle.gft_journal.specs.declared.journal.Journal.{Journal}
use Rattle.gft_journal.specs.Journal.{Matches, Bears, BearsOrNot}

pub bears_same : (xs : List ℕ) → BearsOrNot xs xs
bears_same xs = bank_same xs xs refl (λ is. is) refl (λ k low high. refl)

pub born_already : (xs : List ℕ) → IsBorn xs → Bears xs xs
born_already xs born = let same = bears_same xs in record { ranges = same.ranges; complete = same.complete; born = born; sound = same.sound }

module _ (journal : Journal) (xs ys : List ℕ) (was : Matches journal xs) (unborn : journal.born ≡ false) where
  within : 1 + 1 ≤ length xs
  within = omega (arith, was.sound.size)

  two_banks : selected xs < 2
  two_banks = omega arith

  not_yet : IsBorn xs → ⊥
  not_yet is = let now : IsTrue journal.born = was.born.1 is in let true_false : true ≡ false = sym now ∙ unborn in absurd (cc)

  differs_births : DiffersIn 1 1 xs ys → BearsOrNot xs ys
  differs_births differs = bank_same xs ys (ap (λ (k : ℕ). k % 2) (differs.before 0 (omega arith))) (λ is. absurd (not_yet is)) differs.size (λ k low high. differs.after k (omega (arith, low)))

  pub torn_births : Torn 1 1 xs ys → BearsOrNot xs ys
  torn_births torn = differs_births (torn_differs 1 1 xs ys within torn)

  module _ (written : Written 1 (1 ∷ []) xs ys) where
    differs : DiffersIn 1 1 xs ys
    differs = written_differs 1 (1 ∷ []) xs ys within written

    pub bears : Bears xs ys
    bears =
        let same = differs_births differs in
        let byte : get_or ys (1 + 0) 0 ≡ 1 = written.inside 0 (omega arith) in
        record { ranges = same.ranges; complete = same.complete; born = byte; sound = same.sound }

    pub matches_born : Matches (record journal { born = true }) ys
    matches_born = record {
      sound = bears.sound was.sound;
      bank = ap (λ (k : ℕ). k % 2) (differs.before 0 (omega arith)) ∙ was.bank;
      born = (λ b. bears.born, λ b. refl);
      shut = λ i above below.
          let at = slot_at first_layout (bank_at (selected xs)) i in
          let same : slot ys (selected xs) i ≡ slot xs (selected xs) i = slot_same first_layout xs ys at first_fits (λ k lt. differs.after (at + k) (omega arith)) in
          let old : (slot xs (selected xs) i).gate ≢ 1 = subst (λ (b : ℕ). (slot xs b i).gate ≢ 1) (sym was.bank) (was.shut i above below) in
          subst (λ (b : ℕ). (slot ys b i).gate ≢ 1) was.bank (subst (λ (s : Slot). s.gate ≢ 1) (sym same) old);
    }
