-- Lists of events, the newest first, and the bytes that they leave of a name.
use Rattle.std.specs.Prelude.{◌≡◌, ℕ, ◌+◌, ◌≤◌, ◌==◌, List, [], ◌∷◌, length}
use Rattle.std.specs.Prelude.{Option, Some, None, true, false, if◌then◌else◌}
use Rattle.gft_base.specs.declared.TheConstants.{LIMIT}
use Rattle.gft_core.specs.declared.event.CoreEvent.{CoreEvent}
use Rattle.gft_core.specs.declared.event.CoreEvent.TheVariants.{Block, Crash, Fresh}
use Rattle.gft_core.specs.Held.{covers, held}

-- the first of two, or else the second
abbrev pub first_some : Option ℕ → Option ℕ → Option ℕ
first_some (Some v) other = Some v
first_some None other = other

-- the byte at x, if these bytes lie at this offset and onwards
abbrev pub byte_at : ℕ → List ℕ → ℕ → Option ℕ
byte_at offset [] x = None
byte_at offset (b ∷ bs) x = if x == offset then Some b else byte_at (offset + 1) bs x

-- the byte at x of a block, of one that was answered, and of one that was not
abbrev pub carried : CoreEvent → ℕ → Option ℕ
carried (Block lane channel offset bytes unanswered) x = byte_at offset bytes x
carried (Crash image) x = None
carried e x = None

abbrev pub answered : CoreEvent → ℕ → Option ℕ
answered (Block lane channel offset bytes false) x = byte_at offset bytes x
answered (Crash image) x = None
answered e x = None

abbrev pub unanswered : CoreEvent → ℕ → Option ℕ
unanswered (Block lane channel offset bytes true) x = byte_at offset bytes x
unanswered (Crash image) x = None
unanswered e x = None

-- a block's bytes end at most at the limit of offsets
abbrev pub EndsInLimit : CoreEvent → Type 0
EndsInLimit (Block lane channel offset bytes unanswered) = offset + length bytes ≤ LIMIT
EndsInLimit (Crash image) = Unit {0}
EndsInLimit e = Unit {0}

-- the last generation: the events since the last Fresh, and that Fresh
abbrev pub generation : List CoreEvent → List CoreEvent
generation [] = []
generation (Fresh ∷ older) = Fresh ∷ []
generation (Crash image ∷ older) = Crash image ∷ generation older
generation (e ∷ older) = e ∷ generation older

-- the byte at x of the earliest block of the last generation that has one, open blocks too. A Crash that
-- begins the list gives what its image holds; where the ranges of a later one lack x, the search begins anew
-- behind it
abbrev pub earliest : List CoreEvent → ℕ → Option ℕ
earliest [] x = None
earliest (Fresh ∷ older) x = None
earliest (Crash image ∷ []) x = held image x
earliest (Crash image ∷ older) x = if covers image.ranges x then earliest older x else None
earliest (e ∷ older) x = first_some (earliest older x) (carried e x)

-- the kept byte at x: open blocks count from the next Crash on
abbrev pub kept : List CoreEvent → ℕ → Option ℕ
kept [] x = None
kept (Fresh ∷ older) x = None
kept (Crash image ∷ older) x = earliest (Crash image ∷ older) x
kept (e ∷ older) x = first_some (kept older x) (answered e x)

abbrev pub Booked : List CoreEvent → ℕ → Type 0
Booked events x = (v : ℕ) × (kept events x ≡ Some v)

-- the byte at x of the earliest open block since the last Crash that has one
abbrev pub pending : List CoreEvent → ℕ → Option ℕ
pending [] x = None
pending (Fresh ∷ older) x = None
pending (Crash image ∷ older) x = None
pending (e ∷ older) x = first_some (pending older x) (unanswered e x)
