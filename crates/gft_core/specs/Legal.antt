-- Which lists of events, the newest first, can come about.
use Rattle.std.specs.Prelude.{◌≡◌, ℕ, ◌||◌, List, [], ◌∷◌, Some, None, Bool, true, false}
use Rattle.gft_drive.specs.Words.{Covers, Image}
use Rattle.gft_range.specs.Words.{HasOffset}
use Rattle.gft_core.specs.declared.event.CoreEvent.{CoreEvent}
use Rattle.gft_core.specs.declared.event.CoreEvent.TheVariants.{Block, Crash, Fault, Mark, Resume}
use Rattle.gft_core.specs.Held.{held}
use Rattle.gft_core.specs.Kept.{kept, pending, Booked}

-- a block was left open since the last Crash
abbrev pub is_open : List CoreEvent → Bool
is_open [] = false
is_open (Crash image ∷ older) = false
is_open (Block lane channel offset bytes unanswered ∷ older) = unanswered || is_open older
is_open (e ∷ older) = is_open older

-- what may come behind an open block up to the next Crash, and that Crash
abbrev pub may_wait : CoreEvent → Bool
may_wait (Block lane channel offset bytes unanswered) = unanswered
may_wait (Crash image) = true
may_wait Fault = true
may_wait Mark = true
may_wait e = false

-- an image holds each offset that was booked just before with its kept byte, and each further offset of its
-- ranges with the byte of the earliest block that was open
pub record GoesOn (older : List CoreEvent) (image : Image) : Type 0 where
  pub booked : (x v : ℕ) → kept older x ≡ Some v → held image x ≡ Some v
  pub further : (x : ℕ) → Covers image.ranges x → kept older x ≡ None
      → (v : ℕ) × (pending older x ≡ Some v) × (held image x ≡ Some v)

-- a Crash that begins a list may have any image
abbrev pub LeavesImage : List CoreEvent → CoreEvent → Type 0
LeavesImage [] e = Unit {0}
LeavesImage older (Crash image) = GoesOn older image
LeavesImage older e = Unit {0}

-- each offset of a Resume's list was booked just before it
abbrev pub Resumes : List CoreEvent → CoreEvent → Type 0
Resumes older (Resume list) = (x : ℕ) → HasOffset list.ranges x → Booked older x
Resumes older (Crash image) = Unit {0}
Resumes older e = Unit {0}

abbrev pub Legal : List CoreEvent → Type 0
Legal [] = Unit {0}
Legal (e ∷ older) =
    Legal older × (is_open older ≡ true → may_wait e ≡ true) × LeavesImage older e × Resumes older e
