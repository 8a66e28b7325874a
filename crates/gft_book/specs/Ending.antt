-- How a transfer ends.
use Rattle.std.specs.Prelude.{◌≡◌, ◌⊎◌, ◌↔◌, ℕ, ◌-◌, ◌<◌, List, ◌∷◌, length, map, Option, Some, None}
use Rattle.std.specs.Prelude.{Bool, IsSome, IsTrue, MatchOption, true, false}
use Rattle.gft_base.specs.Words.{Rose}
use Rattle.gft_range.specs.declared.Range.{Range}
use Rattle.gft_range.specs.Words.{HasNoGap, HasOffset, IsFirstGap}
use Rattle.gft_drive.specs.Words.{Image, Sent}
use Rattle.gft_eod.specs.Words.{IsMet}
use Rattle.gft_keep.specs.Words.{Finished, Finishes, KeepState}
use Rattle.gft_core.specs.Words.{Done, Legal}
use Rattle.gft_core.specs.declared.CoreEvent.{CoreEvent}
use Rattle.gft_core.specs.declared.CoreEvent.TheVariants.{Crash}
use Rattle.gft_pass.specs.declared.Cause.{Cause}
use Rattle.gft_pass.specs.declared.Cause.TheVariants.{DriveFailed, Hole}
use Rattle.gft_pass.specs.Words.{Lane, Ledger, causes, one}
use Rattle.gft_book.specs.declared.transfer.Transfer.{Transfer}
use Rattle.gft_book.specs.declared.transfer.Stage.TheVariants.{Rest}
use Rattle.gft_book.specs.Book.{BookState, InTransfer, cause_of, left_out, rest_of}
use Rattle.gft_book.specs.Fits.{Fits}

-- what contracts see of a transfer that was settled well
pub record SettledFile : Type 0 where
  -- its table, with the numbers of its passes
  pub numbers : Ledger
  -- the offset behind the last kept byte
  pub len : ℕ
  -- the file is complete: not for an ESTO
  pub is_whole : Bool

-- the transfer completes the file
abbrev pub IsStor : Transfer → Type 0
IsStor t = IsSome (left_out t.how)

-- all EODs came that were announced, and for a STOR the file has no gap
pub record MissesNothing (ranges : List Range) (t : Transfer) : Type 0 where
  pub met : IsMet t.count
  pub no_gap : IsStor t → HasNoGap ranges

-- the hole that the cause shows
pub record ShowsHole (ranges : List Range) (t : Transfer) (answer : Cause) : Type 0 where
  pub missing : Option Range
  pub cause : answer ≡ Hole t.count.total t.count.eods missing
  pub first : MatchOption missing (HasNoGap ranges) (IsFirstGap ranges)
  pub is_hole : (¬ IsMet t.count) ⊎ (IsStor t × IsSome missing)

-- the offset behind the last kept one
pub record IsKeptEnd (ranges : List Range) (end : ℕ) : Type 0 where
  pub below : (x : ℕ) → HasOffset ranges x → x < end
  pub reached : (end ≡ 0) ⊎ HasOffset ranges (end - 1)

-- the transfer failed before, or ends with a hole
abbrev pub EndsFailed : List Range → Transfer → Cause → Type 0
EndsFailed ranges t cause = (t.cause ≡ Some cause) ⊎ ((t.cause ≡ None) × ShowsHole ranges t cause)

-- the transfer is settled well
pub record SettlesWell (keep now : KeepState) (file : SettledFile) (t : Transfer) : Type 0 where
  pub no_cause : t.cause ≡ None
  pub whole : MissesNothing keep.ranges t
  pub numbers : file.numbers ≡ t.roster
  pub len : IsKeptEnd keep.ranges file.len
  pub is_whole : IsTrue file.is_whole ↔ IsStor t
  -- a STOR completes the file with that length, and an ESTO leaves it
  pub stor : IsStor t → Finished file.len keep now
  pub esto : (IsStor t → ⊥) → now.complete ≡ None

-- why it isn't
abbrev pub SettlesBadly : KeepState → KeepState → Cause → Transfer → Type 0
SettlesBadly keep now cause t =
    EndsFailed keep.ranges t cause
    ⊎ ((t.cause ≡ None) × MissesNothing keep.ranges t × (cause ≡ DriveFailed)
    × Rose keep.drive.faults now.drive.faults)

-- the file is at rest with the ranges of before; the numbers of the passes are the listed ones, and the kept
-- cause is theirs
pub record ComesToRest (old new : BookState) (passes : List Lane) : Type 0 where
  pub rest : new.stage ≡ Rest
  pub ranges : new.keep.ranges ≡ old.keep.ranges
  pub marks : new.marks ≡ old.marks
  pub turns : new.turns ≡ old.turns
  pub last : InTransfer (λ t. new.last ≡ Some t.roster.table) old.stage
  pub numbers : InTransfer (λ t. t.roster.counts ≡ map (λ p. p.count) passes) old.stage
  pub causes : causes (map (λ p. p.count) passes) ≡ one (cause_of old.stage)

-- what a read gives is the source, no byte more, and complete
pub record ReadsAs (source : List ℕ) (keep : KeepState) : Type 0 where
  pub bytes : (image : Image) → keep.drive.contents ≡ Some image → image.bytes ≡ source
  pub complete : keep.complete ≡ Some (length source)

-- a STOR of what honest senders send leaves the source (if the drive tells its contents)
abbrev pub EqualsSource : Option Sent → BookState → KeepState → Type 0
EqualsSource None old now = Unit {0}
EqualsSource (Some s) old now =
    IsSome (rest_of old.stage) → IsSome old.keep.drive.contents → ReadsAs s.source now

-- the same lists fit, and go on with every image since the call began; a STOR that ends well is done, and one
-- that is done ends well unless the drive fails
pub record SettlesEvents (old new : BookState) (is_ok : Type 0) (events : List CoreEvent) : Type 0 where
  pub fits : Fits new events
  pub cut_short : IsSome old.keep.drive.contents → (image : Image)
      → new.keep.drive.left_since old.keep.drive.moment image → Legal (Crash image ∷ events)
  pub done : IsSome (rest_of old.stage) → is_ok → Done events
  pub well : IsSome (rest_of old.stage) → Done events
      → is_ok ⊎ Rose old.keep.drive.faults new.keep.drive.faults

-- an image while the file is completed: as before, or completed up to its kept end
abbrev pub Closes : KeepState → Image → Image → Type 0
Closes keep from image =
    (image ≡ from)
    ⊎ ((len : ℕ) × ((x : ℕ) → HasOffset keep.ranges x ↔ (x < len)) × Finishes len from image)

-- the file is completed if the transfer completes it, and left else
pub record Closed (old new : KeepState) (completes : Bool) (len : ℕ) : Type 0 where
  pub end : IsKeptEnd old.ranges len
  pub whole : completes ≡ true → Finished len old new
  pub part : completes ≡ false → new.complete ≡ old.complete
