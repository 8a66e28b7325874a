-- What a transfer tells of its marks on the sink: 111 lines (GFD.20, restart markers).
use Rattle.std.specs.Prelude.{◌≡◌, ℕ, ◌<◌, Bool, true, false, List, [], ◌∷◌, ◌++◌, length, take}
use Rattle.std.specs.Prelude.{Option, Some, None, IfSome, IsSome, OnOk, Result}
use Rattle.std.specs.List.{AllByRecursion}
use Rattle.std.specs.Io.KnownBytes.{Appends}
use Rattle.gft_base.specs.Words.{Rose}
use Rattle.gft_range.specs.declared.Range.{Range}
use Rattle.gft_range.specs.declared.TheConstants.{MAX_ITEMS}
use Rattle.gft_range.specs.Words.{HasOffset}
use Rattle.gft_reply.specs.declared.Reply.{Reply}
use Rattle.gft_reply.specs.Words.{reply_text}
use Rattle.gft_mark.specs.declared.TheConstants.{RANGE_CODE}
use Rattle.gft_mark.specs.Words.{range_marker_text}
use Rattle.gft_drive.specs.Words.{IsPartOf, Sent}
use Rattle.gft_keep.specs.Words.{EachImage, KeepState}
use Rattle.gft_core.specs.Words.{held}
use Rattle.gft_pass.specs.declared.Cause.{Cause}
use Rattle.gft_pass.specs.declared.Cause.TheVariants.{ControlGone, Memory}
use Rattle.gft_pass.specs.declared.Numbers.{Numbers}
use Rattle.gft_book.specs.declared.Mark.{Mark}
use Rattle.gft_book.specs.Words.{KeepsByte, SettledFile, named_by}

-- ---- the lines

-- the reply that tells of a mark with these ranges
abbrev pub marker_of : List Range → Reply
marker_of ranges = record { code = RANGE_CODE; lines = range_marker_text ranges ∷ [] }

abbrev pub line_of : List Range → List ℕ
line_of ranges = reply_text (marker_of ranges)

-- those of some marks, in order
abbrev pub lines_of : List (List Range) → List ℕ
lines_of [] = []
lines_of (ranges ∷ marks) = line_of ranges ++ lines_of marks

-- ---- what was put

module _ {W : Type 0} (written : W → Option (List ℕ)) (is_open : W → Type 0) (faults : W → ℕ) (old new : W) where
  -- the lines of these marks, whole, and nothing else
  pub record PutsAll (told : List (List Range)) : Type 0 where
    pub put : Appends (written old) (written new) (lines_of told)
    pub still_open : is_open new
    pub no_fault : faults new ≡ faults old

  -- and a part of the next mark's line, of which the put failed
  pub record PutsPart (told left : List (List Range)) : Type 0 where
    pub next : List Range
    pub others : List (List Range)
    pub is_next : left ≡ next ∷ others
    pub part : List ℕ
    pub is_part : IsPartOf part (line_of next)
    pub put : Appends (written old) (written new) (lines_of told ++ part)
    pub fault : Rose (faults old) (faults new)

  abbrev pub Puts : Bool → List (List Range) → List (List Range) → Type 0
  Puts false told left = PutsAll told
  Puts true told left = PutsPart told left

-- ---- the marks

-- what a mark names is kept, and every image that a crash may leave holds it, with the bytes that a read gives
-- (if the drive tells its contents)
abbrev pub IsHeld : KeepState → List Range → Type 0
IsHeld keep ranges =
    EachImage keep (λ image. (x : ℕ) → HasOffset ranges x
    → (v : ℕ) × (held image x ≡ Some v) × KeepsByte keep x v)

abbrev pub LiesBelow : ℕ → List Range → Type 0
LiesBelow len ranges = (x : ℕ) → HasOffset ranges x → x < len

-- all marks were told, and if any offset is kept the last one names the first of what is
pub record TellsWhole (keep : KeepState) (told left : List (List Range)) (put_failed : Bool) : Type 0 where
  pub no_failure : put_failed ≡ false
  pub all : left ≡ []
  pub last : 0 < length keep.ranges
      → (earlier : List (List Range)) × (told ≡ earlier ++ take MAX_ITEMS keep.ranges ∷ [])

-- the marks that a transfer made, of which the first were told; these are kept at its end, and lie below the
-- length of the source, if there is one (and the drive tells its contents)
pub record Tells (source : Option Sent) (keep : KeepState) (before after : List Mark) (end : Result SettledFile Cause)
    (put_failed : Bool) (told left : List (List Range)) : Type 0 where
  pub marks : named_by after ≡ named_by before ++ (told ++ left)
  pub held : AllByRecursion (IsHeld keep) told
  pub below : IfSome source (λ s. IsSome keep.drive.contents → AllByRecursion (LiesBelow (length s.source)) told)
  pub whole : OnOk end (TellsWhole keep told left put_failed)

-- so many lines were put whole: those of the first marks that the transfer made, in their order
pub record HasTold {W : Type 0} (written : W → Option (List ℕ)) (is_open : W → Type 0) (faults : W → ℕ) (old new : W)
    (source : Option Sent) (keep : KeepState) (before after : List Mark) (end : Result SettledFile Cause) (many : ℕ)
    (put_failed : Bool) : Type 0 where
  pub told : List (List Range)
  pub left : List (List Range)
  pub count : length told ≡ many
  pub puts : Puts written is_open faults old new put_failed told left
  pub tells : Tells source keep before after end put_failed told left

-- ---- the teller's pass

-- memory for a mark or its line was refused; or a put failed
abbrev pub IsTellersCause : Bool → Cause → Type 0
IsTellersCause put_failed Memory = Unit {0}
IsTellersCause put_failed ControlGone = put_failed ≡ true
IsTellersCause put_failed other = ⊥

-- the teller hands in nothing
pub record IsTellers (put_failed : Bool) (n : Numbers) : Type 0 where
  pub bytes : n.bytes ≡ 0
  pub eods : n.eods ≡ 0
  pub total : n.total ≡ None
  pub cause : IfSome n.cause (IsTellersCause put_failed)
