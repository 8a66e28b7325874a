-- A slot's body is written behind its shut gate, and then the gate.
use Rattle.std.proofs.Common.{◌≡◌, ◌≢◌, ⊎_elim, ℕ, ◌+◌, ◌-◌, ◌<◌, ◌≤◌, List, [], ◌∷◌, length, get_or, drop, Some, refl, sym, ◌∙◌, ap, subst, arith, length-drop}
use Rattle.std.proofs.lemmas.List.{get_or-drop}
use Rattle.std.proofs.lemmas.Bool.{cases_lt}
use Rattle.gft_drive.specs.Words.{Image, DriveState, IsLawful, Elapses, Leaves, IsSynced}
use Rattle.gft_drive.specs.Words.{Written, Torn, DiffersIn}
use Rattle.gft_drive.specs.declared.Part.TheVariants.{Ranges}
use Rattle.gft_drive.proofs.Lemmas.{Since, started, goes_on}
use Rattle.gft_drive.proofs.Lemmas.{torn_differs, written_differs}
use Rattle.gft_journal.specs.Slot.{OpensSlot}

pub differs_more : (at n from m : ℕ) (xs ys : List ℕ) → from ≤ at → at + n ≤ from + m → DiffersIn at n xs ys → DiffersIn from m xs ys
differs_more at n from m xs ys low high differs = record { before = λ k lt. differs.before k (omega (arith, lt, low)); after = λ k le. differs.after k (omega (arith, le, high)); size = differs.size }

pub differs_trans : (at n : ℕ) (xs ys zs : List ℕ) → DiffersIn at n xs ys → DiffersIn at n ys zs → DiffersIn at n xs zs
differs_trans at n xs ys zs first second = record {
  before = λ k lt. second.before k lt ∙ first.before k lt;
  after = λ k le. second.after k le ∙ first.after k le;
  size = second.size ∙ first.size;
}

module _ (at : ℕ) (slot bytes xs : List ℕ) (is_body : bytes ≡ drop 1 slot) (size : length slot ≡ 16) (shut : get_or xs at 0 ≢ 1) (within : at + 16 ≤ length xs) where
  length_body : length bytes ≡ 15
  length_body = omega (arith, ap length is_body, length-drop 1 slot, size)

  pub unopened : OpensSlot at slot xs xs
  unopened = record { differs = record { before = λ k lt. refl; after = λ k le. refl; size = refl }; opened = λ is. absurd (shut is) }

  pub body_torn : (c : List ℕ) → Torn (at + 1) (length bytes) xs c → OpensSlot at slot xs c
  body_torn c torn =
      let differs = torn_differs (at + 1) (length bytes) xs c (omega (arith, length_body, within)) torn in
      record {
        differs = differs_more (at + 1) (length bytes) at 16 xs c (omega arith) (omega (arith, length_body)) differs;
        opened = λ is. absurd (shut (sym (differs.before at (omega arith)) ∙ is));
      }

  module _ (ys : List ℕ) (written : Written (at + 1) bytes xs ys) where
    staged : DiffersIn at 16 xs ys
    staged = differs_more (at + 1) (length bytes) at 16 xs ys (omega arith) (omega (arith, length_body)) (written_differs (at + 1) bytes xs ys (omega (arith, length_body, within)) written)

    body_at : (k : ℕ) → 1 ≤ k → k < 16 → get_or ys (at + k) 0 ≡ get_or slot k 0
    body_at k some lt =
        let there : get_or ys (at + 1 + (k - 1)) 0 ≡ get_or bytes (k - 1) 0 = written.inside (k - 1) (omega (arith, length_body, some, lt)) in
        let place : at + 1 + (k - 1) ≡ at + k = omega (arith, some) in
        let index : 1 + (k - 1) ≡ k = omega (arith, some) in
        ap (λ (i : ℕ). get_or ys i 0) (sym place) ∙ there ∙ ap (λ (l : List ℕ). get_or l (k - 1) 0) is_body ∙ get_or-drop 1 slot (k - 1) 0 ∙ ap (λ (i : ℕ). get_or slot i 0) index

    pub gate_torn : (c : List ℕ) → Torn at 1 ys c → OpensSlot at slot xs c
    gate_torn c torn =
        let differs = torn_differs at 1 ys c (omega (arith, within, staged.size)) torn in
        record {
          differs = differs_trans at 16 xs ys c staged (differs_more at 1 at 16 ys c (omega arith) (omega arith) differs);
          opened = λ is k some lt. differs.after (at + k) (omega (arith, some)) ∙ body_at k some lt;
        }

    pub whole_written : get_or slot 0 0 ≡ 1 → (zs : List ℕ) → Written at (1 ∷ []) ys zs → Written at slot xs zs
    whole_written open_gate zs gate =
        let differs = written_differs at (1 ∷ []) ys zs (omega (arith, within, staged.size)) gate in
        record {
          inside = λ k lt. ⊎_elim
              (λ first.
              let here : get_or zs (at + 0) 0 ≡ 1 = gate.inside 0 (omega arith) in
              let same : k ≡ 0 = omega (arith, first) in
              ap (λ (i : ℕ). get_or zs (at + i) 0) same ∙ here ∙ sym open_gate ∙ ap (λ (i : ℕ). get_or slot i 0) (sym same))
              (λ later. differs.after (at + k) (omega (arith, later)) ∙ body_at k later (omega (arith, lt, size)))
              (cases_lt k 1);
          before = λ k lt. differs.before k lt ∙ staged.before k lt;
          after = λ k le. differs.after k (omega (arith, le, size)) ∙ staged.after k (omega (arith, le, size));
          size = omega (arith, differs.size, staged.size, size, within);
        }

-- the two writes of a run that began synced, with the slot shut
module _ (at : ℕ) (slot bytes : List ℕ) (start : DriveState) (read : Image) (lawful : IsLawful start) (told : start.contents ≡ Some read) (synced : IsSynced Ranges start)
    (is_body : bytes ≡ drop 1 slot) (size : length slot ≡ 16) (shut : get_or read.ranges at 0 ≢ 1) (within : at + 16 ≤ length read.ranges) where
  abbrev opens : List ℕ → Type 0
  opens = OpensSlot at slot read.ranges

  pub body_since : (s : DriveState) → IsLawful s → Leaves Ranges (Torn (at + 1) (length bytes)) start s → Elapses start s → Since start s (OpensSlot at slot read.ranges)
  body_since s lawful_s leaves time =
      let same : List ℕ → Type 0 = λ ys. ys ≡ read.ranges in
      let first = started start opens same read told (λ image left. (subst opens (sym (synced read image told left)) (unopened at slot bytes read.ranges is_body size shut within), synced read image told left)) in
      goes_on start start s opens same read (Torn (at + 1) (length bytes)) lawful lawful_s first leaves time
      (λ ys zs p exact torn. body_torn at slot bytes read.ranges is_body size shut within zs (subst (λ (l : List ℕ). Torn (at + 1) (length bytes) l zs) exact torn))

  pub gate_since : (now s : DriveState) (staged : Image) → IsLawful now → IsLawful s → Since start now (OpensSlot at slot read.ranges) → now.contents ≡ Some staged → IsSynced Ranges now
      → Written (at + 1) bytes read.ranges staged.ranges → Leaves Ranges (Torn at 1) now s → Elapses now s → Since start s (OpensSlot at slot read.ranges)
  gate_since now s staged lawful_now lawful_s since told_now synced_now written leaves time =
      let same : List ℕ → Type 0 = λ ys. ys ≡ staged.ranges in
      goes_on start now s opens same staged (Torn at 1) lawful_now lawful_s (record { since = since; held = λ image left. synced_now staged image told_now left; told = told_now }) leaves time
      (λ ys zs p exact torn. gate_torn at slot bytes read.ranges is_body size shut within staged.ranges written zs (subst (λ (l : List ℕ). Torn at 1 l zs) exact torn))
