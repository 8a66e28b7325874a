-- What the memory forms of a drive, a source and a sink show.
use Rattle.std.specs.Prelude.{◌≡◌, ℕ, Bool, List, [], length, slice_index}
use Rattle.gft_drive.specs.declared.failures.DriveCall.{DriveCall}
use Rattle.gft_drive.specs.declared.failures.FailAt.{FailAt}
use Rattle.gft_drive.specs.Drive.{Image}
use Rattle.gft_drive.specs.Replay.{Recorded, image_after}

pub record Memory : Type 0 where
  pub label : List ℕ
  -- what was there first, and what was done since
  pub disk : Recorded
  -- the calls that were kept, the oldest first
  pub calls : List DriveCall
  -- how often a call failed
  pub faults : ℕ
  -- the room of the Bytes part
  pub capacity : ℕ
  -- how many calls may still reach it
  pub calls_left : ℕ
  -- the calls that are to fail, each counted from now on
  pub failing : List FailAt

-- what a read gives
abbrev pub image_of : Memory → Image
image_of drive = image_after drive.disk.first drive.disk.steps

-- the same drive with nothing unsynced: it has had the same calls, the same are to fail, and none has yet
abbrev pub twin_of : Memory → Memory
twin_of drive = record {
  label = drive.label;
  disk = record { first = image_of drive; steps = [] };
  calls = drive.calls;
  faults = 0;
  capacity = drive.capacity;
  calls_left = drive.calls_left;
  failing = drive.failing;
}

-- no bytes are written, the other part is this many zeros, and nothing was done
pub record IsNew (ranges_len : ℕ) (disk : Recorded) : Type 0 where
  pub empty : disk.first.bytes ≡ []
  pub size : length disk.first.ranges ≡ ranges_len
  pub zeros : (x : ℕ) → slice_index disk.first.ranges x ≡ 0
  pub untouched : disk.steps ≡ []

pub record Given : Type 0 where
  -- the bytes that are left
  pub left : List ℕ
  -- the most that a read gives
  pub most : ℕ
  -- the numbers of the reads that fail
  pub failing : List ℕ
  -- how often it was read
  pub reads : ℕ
  pub faults : ℕ

pub record Taken : Type 0 where
  -- the bytes that were put
  pub written : List ℕ
  -- the most bytes that it takes
  pub room : ℕ
  -- the numbers of the puts that fail
  pub failing : List ℕ
  -- no put has failed
  pub is_open : Bool
  pub faults : ℕ
