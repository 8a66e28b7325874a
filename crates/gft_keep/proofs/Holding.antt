-- What a keep says of its images.
use Rattle.std.proofs.Common.{◌≡◌, ℕ, ◌≤◌, Some, IsSome, refl, subst, arith}
use Rattle.std.specs.Prelude.{slice_index}
use Rattle.gft_range.specs.Words.{HasOffset}
use Rattle.gft_drive.specs.Words.{Image, MayLeave}
use Rattle.gft_drive.proofs.Lemmas.{tells_some}
use Rattle.gft_keep.specs.declared.standing.Standing.{Standing}
use Rattle.gft_keep.specs.Words.{EachImage, Holds, IsExact, IsKeep, IsSound, IsUnbroken, KeepState, MovesBy, StandsAs}
use Rattle.gft_keep.proofs.Failing.{each_sound}

-- an image of an unbroken keep is what a read gives, and stands for what is kept
pub exact_of : (k : KeepState) → IsUnbroken k → (image : Image) → IsSome k.drive.contents → MayLeave k.drive image → IsExact k image
exact_of k unbroken image some may =
    let stands = subst (λ (s : Standing). StandsAs s k) unbroken.whole unbroken.facts.stands in
    stands.each some image may

pub exact_read : (k : KeepState) → IsUnbroken k → (image : Image) → k.drive.contents ≡ Some image → IsExact k image
exact_read k unbroken image read = exact_of k unbroken image (tells_some k.drive image read) (unbroken.facts.lawful.read image read)

-- no image of a keep is damaged, broken or not
pub sound_of : (k : KeepState) → IsKeep k → EachImage k IsSound
sound_of k facts some image may = each_sound k k.standing facts.stands some image may

-- what is kept is held, with the byte of this image
pub held_exact : (k : KeepState) (image : Image) → IsExact k image → (x : ℕ) → HasOffset k.ranges x → Holds image x (slice_index image.bytes x)
held_exact k image exact x had =
    let covered = (exact.ranges x).1 had in
    record { covered = covered; within = exact.sound.within x covered; byte = refl }

-- an image of now comes by the step of the last call from an image of before, which is what a read gave then
pub record CameBy (step : Image → Image → Type 0) (k : KeepState) (image : Image) : Type 0 where
  pub from : Image
  pub exact : IsExact k from
  pub by : step from image

pub came_by : (step : Image → Image → Type 0) (k new : KeepState) → IsUnbroken k → MovesBy step k new → (image : Image) → IsSome new.drive.contents → MayLeave new.drive image → CameBy step k image
came_by step k new unbroken moves image some may =
    let some_before = moves.time.goes.tells.0 some in
    let since = moves.keep.lawful.since k.drive.moment new.drive.moment image moves.time.later (le_refl new.drive.moment) may in
    let came = moves.any_moment some_before image since in
    record { from = came.0; exact = exact_of k unbroken came.0 some_before came.1; by = came.2 }
  where
    le_refl : (n : ℕ) → n ≤ n
    le_refl n = omega arith
