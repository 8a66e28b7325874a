-- What the tests' drives and stripes are.
use Rattle.std.proofs.Common.{◌≡◌, ℕ, zero, suc, ◌<◌, ◌≤◌, List, [], ◌∷◌, length, sym, ap, subst, arith}
use Rattle.std.specs.Prelude.{Some, slice_index_or}
use Rattle.gft_range.specs.Words.{InRange}
use Rattle.gft_drive.specs.Words.{Image}
use Rattle.gft_send.specs.Sending.{MustHave}

same_image : (a b : Image) → Some a ≡ Some b → a ≡ b
same_image a b e = cc

-- a drive that tells ten bytes has the first ten places
pub has_ten : (read : Image) → 10 ≤ length read.bytes → MustHave (Some read) (InRange (record { start = 0; end = 10 }))
has_ten read le image told x h =
    let same : length read.bytes ≡ length image.bytes = ap (λ (i : Image). length i.bytes) (same_image read image told) in
    let below = h.1 in
    omega arith

two : {A : Type 0} (P : A → Type 0) (a b : A) → P a → P b → (k : ℕ) (d : A) → k < length (a ∷ b ∷ []) → P (slice_index_or (a ∷ b ∷ []) k d)
two P a b one other zero d lt = one
two P a b one other (suc zero) d lt = other
two P a b one other (suc (suc k)) d lt = absurd (omega arith)

-- what holds of both elements of a list
pub both : {A : Type 0} (P : A → Type 0) (l : List A) (a b : A) → l ≡ a ∷ b ∷ [] → P a → P b → (k : ℕ) (d : A) → k < length l → P (slice_index_or l k d)
both {A} P l a b is one other = subst (λ (m : List A). (k : ℕ) (d : A) → k < length m → P (slice_index_or m k d)) (sym is) (two P a b one other)
