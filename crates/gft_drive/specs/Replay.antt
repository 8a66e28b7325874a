-- A drive that keeps what was done to it: what a read gives, and what a crash may leave. Steps stand
-- newest first.
use Rattle.std.specs.Prelude.{◌≡◌, ◌⊎◌, ℕ, ◌+◌, ◌-◌, ◌≤◌, Bool, true, false, ◌&&◌, cond, List, [], ◌∷◌, ◌++◌}
use Rattle.std.specs.Prelude.{length, take, drop, replicate, Some}
use Rattle.gft_drive.specs.declared.drive.Part.{Part}
use Rattle.gft_drive.specs.declared.drive.Part.TheVariants.{Bytes, Ranges}
use Rattle.gft_drive.specs.declared.disk.Step.{Step}
use Rattle.gft_drive.specs.declared.disk.Step.TheVariants.{Write, Cut, Sync}
use Rattle.gft_drive.specs.Drive.{Image, DriveState, part_of}
use Rattle.gft_drive.specs.Write.{Torn, TornCut}

-- what was there first, and what was done since
pub record Recorded : Type 0 where
  pub first : Image
  pub steps : List Step

abbrev pub is_on : Part → Part → Bool
is_on Bytes Bytes = true
is_on Bytes Ranges = false
is_on Ranges Bytes = false
is_on Ranges Ranges = true

-- these bytes written over those that are there, with zeros between
abbrev pub overwritten : ℕ → List ℕ → List ℕ → List ℕ
overwritten at bytes old =
    take at (old ++ replicate (at - length old) 0) ++ bytes ++ drop (at + length bytes) old

-- what a step leaves of a part
abbrev pub stepped : Step → Part → List ℕ → List ℕ
stepped (Write on at bytes is_done) part xs = cond (is_on on part && is_done)
    (overwritten at bytes.items xs) xs
stepped (Cut on len) part xs = cond (is_on on part) (take len xs) xs
stepped (Sync on) part xs = xs

-- what a read of a part gives after the steps
abbrev pub content_after : Image → List Step → Part → List ℕ
content_after first [] part = part_of part first
content_after first (s ∷ older) part = stepped s part (content_after first older part)

abbrev pub image_after : Image → List Step → Image
image_after first steps =
    record { bytes = content_after first steps Bytes; ranges = content_after first steps Ranges }

-- what a crash after a step may leave of a part, from what a read gave and what might have been left
-- before it
abbrev pub LeftBy : Step → Part → List ℕ → (List ℕ → Type 0) → List ℕ → Type 0
LeftBy (Write on at bytes is_done) part read may xs =
    cond (is_on on part) ((from : List ℕ) × may from × Torn at (length bytes.items) from xs) (may xs)
LeftBy (Cut on len) part read may xs = cond (is_on on part) ((from : List ℕ) × may from
    × TornCut len from xs) (may xs)
LeftBy (Sync on) part read may xs = cond (is_on on part) (xs ≡ read) (may xs)

-- what a crash may leave of a step that isn't synced
abbrev pub Tears : Step → Part → List ℕ → List ℕ → Type 0
Tears (Write on at bytes is_done) part old new = cond (is_on on part) (Torn at (length bytes.items) old new)
    (new ≡ old)
Tears (Cut on len) part old new = cond (is_on on part) (TornCut len old new) (new ≡ old)
Tears (Sync on) part old new = new ≡ old

-- the step is a sync of this part
abbrev pub syncs : Step → Part → Bool
syncs (Write on at bytes is_done) part = false
syncs (Cut on len) part = false
syncs (Sync on) part = is_on on part

-- what a crash may leave of a part after the steps
abbrev pub LeftAfter : Image → List Step → Part → List ℕ → Type 0
LeftAfter first [] part xs = xs ≡ part_of part first
LeftAfter first (s ∷ older) part xs = LeftBy s part (content_after first older part)
    (LeftAfter first older part) xs

abbrev pub ImagesAfter : Image → List Step → Image → Type 0
ImagesAfter first steps image = LeftAfter first steps Bytes image.bytes
    × LeftAfter first steps Ranges image.ranges

-- what a crash behind the first t steps or later may leave
abbrev pub ImagesSince : Image → List Step → ℕ → Image → Type 0
ImagesSince first [] t image = ImagesAfter first [] image
ImagesSince first (s ∷ older) t image =
    ImagesAfter first (s ∷ older) image ⊎ ((t ≤ length older) × ImagesSince first older t image)

abbrev pub state_after : List ℕ → Recorded → ℕ → DriveState
state_after label disk faults = record {
  label = label;
  contents = Some (image_after disk.first disk.steps);
  moment = length disk.steps;
  left_since = ImagesSince disk.first disk.steps;
  faults = faults;
}
