-- One slot of the first layout.
use Rattle.std.specs.Prelude.{◌≡◌, ◌≢◌, ℕ, ◌+◌, ◌<◌, ◌≤◌, ◌^◌, List, length, slice_index, Some}
use Rattle.gft_drive.specs.Words.{first_layout, slot_of, IsPadded}
use Rattle.gft_drive.specs.Words.{DiffersIn}
use Rattle.gft_journal.specs.declared.slot.Bank.{Bank}
use Rattle.gft_journal.specs.declared.slot.Bank.TheVariants.{First, Second}
use Rattle.gft_drive.specs.Words.{Image, DriveState}

-- the bank's number
abbrev pub bank_number : Bank → ℕ
bank_number First = 0
bank_number Second = 1

-- the bytes of an open slot
pub record IsSlot (kind from to : ℕ) (slot : List ℕ) : Type 0 where
  pub size : length slot ≡ 16
  pub is : slot_of first_layout slot 0 ≡ record { gate = 1; kind = kind; start = from; end = to }
  pub padded : IsPadded first_layout slot 0

-- the slot at this place is shut in what a read gives
pub record IsShut (at : ℕ) (drive : DriveState) : Type 0 where
  pub gate : (read : Image) → drive.contents ≡ Some read → slice_index read.ranges at ≢ 1
  pub within : (read : Image) → drive.contents ≡ Some read → at + 16 ≤ length read.ranges
  pub small : at < 2 ^ 32

-- only this slot has changed, and where its gate is open it is this one
pub record OpensSlot (at : ℕ) (slot old new : List ℕ) : Type 0 where
  pub differs : DiffersIn at 16 old new
  pub opened : slice_index new at ≡ 1 → (k : ℕ) → 1 ≤ k → k < 16
      → slice_index new (at + k) ≡ slice_index slot k
