-- A journal while the missing parts of a block are named in it.
use Rattle.std.specs.Prelude.{◌≡◌, ◌↔◌, ◌⊎◌, ℕ, ◌≤◌, List, ◌++◌, length, Result}
use Rattle.gft_base.specs.Words.{HasCause}
use Rattle.gft_range.specs.declared.Range.{Range}
use Rattle.gft_range.specs.Words.{HasOffset, InRange, IsMissing}
use Rattle.gft_drive.specs.Words.{Covers, DriveState, Elapses}
use Rattle.gft_journal.specs.Words.{KeepsRest}

-- time goes on, and the count of faults rises if the call failed
pub record Passes {T E : Type 0} (old new : DriveState) (result : Result T E) : Type 0 where
  pub time : Elapses old new
  pub cause : HasCause old.faults new.faults result

-- at most so many ranges of the block are missing
abbrev pub MissAtMost : List Range → Range → ℕ → Type 0
MissAtMost set block n = (missing : List Range) → IsMissing set block missing → length missing ≤ n

-- the ranges are those of before and the first of the missing ones; these are left
pub record AddsAllBut (set : List Range) (block : Range) (left : List Range) (old new : List ℕ) : Type 0 where
  pub front : List Range
  pub missing : IsMissing set block (front ++ left)
  pub ranges : (x : ℕ) → Covers new x ↔ (Covers old x ⊎ HasOffset front x)
  pub rest : KeepsRest old new

-- the ranges are those of before and some first ones of the missing ones
pub record AddsFront (set : List Range) (block : Range) (old new : List ℕ) : Type 0 where
  pub left : List Range
  pub adds : AddsAllBut set block left old new

-- the ranges are those of before and the missing ones
pub record AddsMissing (set : List Range) (block : Range) (old new : List ℕ) : Type 0 where
  pub ranges : (x : ℕ) → Covers new x ↔ (Covers old x ⊎ (InRange block x × ¬ HasOffset set x))
  pub rest : KeepsRest old new
