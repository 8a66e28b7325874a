-- What events leave of what was sent, without crashes and with them.
use Rattle.std.specs.Prelude.{◌≡◌, ◌⊎◌, ◌↔◌, ℕ, ◌<◌, ◌≤◌, List, [], ◌∷◌, ◌++◌, length, take, slice_get}
use Rattle.std.specs.Prelude.{Some, None, false}
use Rattle.gft_range.specs.declared.Range.{Range}
use Rattle.gft_range.specs.declared.TheConstants.{MAX_ITEMS}
use Rattle.gft_range.specs.Words.{HasOffset, IsNormal, KeptRanges}
use Rattle.gft_drive.specs.Words.{Covers, Image}
use Rattle.gft_core.specs.declared.event.CoreEvent.{CoreEvent}
use Rattle.gft_core.specs.declared.event.CoreEvent.TheVariants.{Crash, Fresh, Mark, Resume}
use Rattle.gft_core.specs.Held.{held}
use Rattle.gft_core.specs.Kept.{answered, generation, kept, Booked}
use Rattle.gft_core.specs.Done.{Done}
use Rattle.gft_core.specs.Legal.{Legal, is_open}
use Rattle.gft_core.specs.Sender.{CarriesSource, IsHonestStor}

-- ---- without crashes

abbrev pub HasNoCrash : List CoreEvent → Type 0
HasNoCrash [] = Unit {0}
HasNoCrash (Crash image ∷ older) = ⊥
HasNoCrash (e ∷ older) = HasNoCrash older

-- each answered block carries bytes of the source
abbrev pub AllCarry : List ℕ → List CoreEvent → Type 0
AllCarry source [] = Unit {0}
AllCarry source (e ∷ older) = AllCarry source older × CarriesSource source (answered e)

-- an answered block has a byte at x
abbrev pub OneHas : ℕ → List CoreEvent → Type 0
OneHas x [] = ⊥
OneHas x (e ∷ older) = OneHas x older ⊎ ((v : ℕ) × (answered e x ≡ Some v))

-- the answered blocks of the last generation carry bytes of the source, and cover it
pub record SendsSource (source : List ℕ) (events : List CoreEvent) : Type 0 where
  pub carry : AllCarry source (generation events)
  pub cover : (x : ℕ) → x < length source → OneHas x (generation events)

abbrev pub HonestLaw : Type 0
HonestLaw = (source : List ℕ) (events : List CoreEvent) → HasNoCrash (generation events)
    → SendsSource source events → Done events → (x : ℕ) → kept events x ≡ slice_get source x

-- without cover: the kept bytes are those of the source below some end, and there are no others
abbrev pub PrefixLaw : Type 0
PrefixLaw = (source : List ℕ) (events : List CoreEvent) → HasNoCrash (generation events)
    → AllCarry source (generation events) → Done events
    → (end : ℕ) × (end ≤ length source)
    × ((x : ℕ) → x < end → kept events x ≡ slice_get source x)
    × ((x : ℕ) → end ≤ x → kept events x ≡ None)

-- ---- with crashes

-- what an image holds is the byte of its data at an offset of its ranges
abbrev pub HeldLaw : Type 0
HeldLaw = (image : Image) (x v : ℕ)
    → (held image x ≡ Some v) ↔ (Covers image.ranges x × (slice_get image.bytes x ≡ Some v))

-- behind a Crash the kept bytes are what its image holds
abbrev pub ImageLaw : Type 0
ImageLaw = (image : Image) (events : List CoreEvent) → Legal (Crash image ∷ events)
    → (x : ℕ) → kept (Crash image ∷ events) x ≡ held image x

abbrev pub HasNoFresh : List CoreEvent → Type 0
HasNoFresh [] = Unit {0}
HasNoFresh (Fresh ∷ older) = ⊥
HasNoFresh (Crash image ∷ older) = HasNoFresh older
HasNoFresh (e ∷ older) = HasNoFresh older

-- the offset is booked by both lists with one byte, and every image that a crash may leave now holds it with
-- that byte
pub record Stays (older events : List CoreEvent) (x : ℕ) : Type 0 where
  pub byte : ℕ
  pub was : kept older x ≡ Some byte
  pub is : kept events x ≡ Some byte
  pub images : (image : Image) → Legal (Crash image ∷ events) → held image x ≡ Some byte

-- what is booked stays booked up to the next Fresh
abbrev pub KeepsLaw : Type 0
KeepsLaw = (newer older : List CoreEvent) → HasNoFresh newer → Legal (newer ++ older)
    → (x : ℕ) → Booked older x → Stays older (newer ++ older) x

-- a Mark behind these events names these ranges: the first ones of what is booked
pub record IsMarkOf (events : List CoreEvent) (ranges : List Range) : Type 0 where
  pub booked : List Range
  pub normal : IsNormal booked
  pub same : (x : ℕ) → HasOffset booked x ↔ Booked events x
  pub front : ranges ≡ take MAX_ITEMS booked

-- what a Mark names is held in every later image of its generation, and stays booked
abbrev pub MarksLaw : Type 0
MarksLaw = (newer older : List CoreEvent) (ranges : List Range) → IsMarkOf older ranges → HasNoFresh newer
    → Legal (newer ++ Mark ∷ older) → (x : ℕ) → HasOffset ranges x → Stays older (newer ++ Mark ∷ older) x

-- so a transfer may go on with any list inside what a Mark of its generation named
abbrev pub RestartsLaw : Type 0
RestartsLaw = (newer older : List CoreEvent) (ranges : List Range) (list : KeptRanges)
    → IsMarkOf older ranges → HasNoFresh newer → Legal (newer ++ Mark ∷ older)
    → is_open (newer ++ Mark ∷ older) ≡ false
    → ((x : ℕ) → HasOffset list.ranges x → HasOffset ranges x)
    → Legal (Resume list ∷ newer ++ Mark ∷ older)

-- a STOR of honest senders that is done has kept the source, over any number of restarts and crashes
abbrev pub DoneLaw : Type 0
DoneLaw = (source : List ℕ) (events : List CoreEvent) → Legal events
    → IsHonestStor source events → Done events → (x : ℕ) → kept events x ≡ slice_get source x
