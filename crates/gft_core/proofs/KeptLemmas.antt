-- Which offsets a block books.
use Rattle.std.proofs.Common.{◌≡◌, ◌≢◌, ◌⊎◌, ℕ, zero, suc, ◌+◌, ◌<◌, ◌≤◌, ◌↔◌, List, [], ◌∷◌, length, Some, None, Bool, false, refl, sym, ap, ◌∙◌, inl, inr, ⊎_elim, eq-eqb, ne_eqb, arith}
use Rattle.std.specs.Prelude.{if◌then◌else◌, slice_get}
use Rattle.std.proofs.lemmas.Option.{none-some}
use mathlib.Core.Logic.{dite}
use native.Mathlib.Decide.{ℕ_discrete}
use Rattle.gft_core.specs.declared.event.CoreEvent.{CoreEvent}
use Rattle.gft_core.specs.declared.event.CoreEvent.TheVariants.{Block}
use Rattle.gft_core.specs.Kept.{byte_at, kept, Booked}
use Rattle.gft_core.proofs.OptionLemmas.{first_some_front, first_some_back, first_some_either}

pub byte_at-here : (offset b : ℕ) (bs : List ℕ) (x : ℕ) → x ≡ offset → byte_at offset (b ∷ bs) x ≡ Some b
byte_at-here offset b bs x e = ap (λ (c : Bool). if c then Some b else byte_at (offset + 1) bs x) (eq-eqb x offset e)

pub byte_at-later : (offset b : ℕ) (bs : List ℕ) (x : ℕ) → x ≢ offset → byte_at offset (b ∷ bs) x ≡ byte_at (offset + 1) bs x
byte_at-later offset b bs x ne = ap (λ (c : Bool). if c then Some b else byte_at (offset + 1) bs x) (ne_eqb x offset ne)

pub byte_within : (offset : ℕ) (bytes : List ℕ) (x : ℕ) → offset ≤ x → x < offset + length bytes → (v : ℕ) × (byte_at offset bytes x ≡ Some v)
byte_within offset [] x low high = absurd (omega arith)
byte_within offset (b ∷ bs) x low high =
    dite (ℕ_discrete x offset)
    (λ e. (b, byte_at-here offset b bs x e))
    (λ ne. let rest = byte_within (offset + 1) bs x (omega arith) (omega arith) in (rest.0, byte_at-later offset b bs x ne ∙ rest.1))

pub within_byte : (offset : ℕ) (bytes : List ℕ) (x v : ℕ) → byte_at offset bytes x ≡ Some v → (offset ≤ x) × (x < offset + length bytes)
within_byte offset [] x v k = absurd (none-some v k)
within_byte offset (b ∷ bs) x v k =
    dite (ℕ_discrete x offset)
    (λ e. (omega arith, omega arith))
    (λ ne. let rest = within_byte (offset + 1) bs x v (sym (byte_at-later offset b bs x ne) ∙ k) in (omega arith, omega arith))

-- an answered block books its offsets beside those that were booked
pub Booked-block : (lane channel offset : ℕ) (bytes : List ℕ) (events : List CoreEvent) (x : ℕ)
    → Booked (Block lane channel offset bytes false ∷ events) x ↔ (Booked events x ⊎ ((offset ≤ x) × (x < offset + length bytes)))
Booked-block lane channel offset bytes events x = (
  λ b. ⊎_elim (λ old. inl (b.0, old)) (λ new. inr (within_byte offset bytes x b.0 new)) (first_some_either (kept events x) (byte_at offset bytes x) b.0 b.1),
  λ either. ⊎_elim
      (λ b. (b.0, first_some_front (kept events x) (byte_at offset bytes x) b.0 b.1))
      (λ within. let byte = byte_within offset bytes x within.0 within.1 in first_some_back (kept events x) (byte_at offset bytes x) byte.0 byte.1)
      either,
)

-- ---- the byte of one block

pub byte_at-below : (offset : ℕ) (bytes : List ℕ) (x : ℕ) → x < offset → byte_at offset bytes x ≡ None
byte_at-below offset [] x lt = refl
byte_at-below offset (b ∷ bs) x lt = byte_at-later offset b bs x (λ e. omega arith) ∙ byte_at-below (offset + 1) bs x (omega arith)

pub byte_at-get : (offset place : ℕ) (bytes : List ℕ) → byte_at offset bytes (offset + place) ≡ slice_get bytes place
byte_at-get offset place [] = refl
byte_at-get offset zero (b ∷ bs) = byte_at-here offset b bs (offset + 0) (omega arith)
byte_at-get offset (suc place) (b ∷ bs) =
    byte_at-later offset b bs (offset + suc place) (λ e. omega arith)
    ∙ (let same : offset + suc place ≡ (offset + 1) + place = omega arith in ap (byte_at (offset + 1) bs) same)
    ∙ byte_at-get (offset + 1) place bs
