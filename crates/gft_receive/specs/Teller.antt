-- How a teller stands to the marks that it took, and what it leaves in its pass.
use Rattle.std.specs.Prelude.{◌≡◌, ℕ, ◌<◌, Bool, true, false, List, [], ◌∷◌, ◌++◌, length, take, Option, None, Some, IfSome}
use Rattle.gft_range.specs.declared.Range.{Range}
use Rattle.gft_range.specs.declared.TheConstants.{MAX_ITEMS}
use Rattle.gft_pass.specs.declared.Cause.{Cause}
use Rattle.gft_pass.specs.declared.Cause.TheVariants as cause
use Rattle.gft_pass.specs.declared.Numbers.{Numbers}
use Rattle.gft_pass.specs.Words.{nothing}
use Rattle.gft_book.specs.declared.Mark.{Mark}
use Rattle.gft_book.specs.Words.{BookState, IsLive, IsPassOf, KeepsTotal, SamePass, Start, named_by, up_to_last}
use Rattle.gft_receive.specs.declared.telling.TellError.{TellError}
use Rattle.gft_receive.specs.declared.telling.TellError.TheVariants as error
use Rattle.gft_receive.specs.declared.telling.Told.{Told}
use Rattle.gft_receive.specs.declared.teller.Teller.{Teller}
use Rattle.gft_receive.specs.Telling.{PutsAll, PutsPart}

-- the cause as which a teller's error is kept
abbrev pub cause_of_tell : TellError → Cause
cause_of_tell error.Memory = cause.Memory
cause_of_tell error.Sink = cause.ControlGone

-- the error is a put that failed
abbrev pub is_sink : Option TellError → Bool
is_sink (Some error.Sink) = true
is_sink (Some error.Memory) = false
is_sink None = false

module _ {W : Type 0} (written : W → Option (List ℕ)) (is_open : W → Type 0) (faults : W → ℕ) (first now : W) where
  -- what was put of a mark that wasn't told
  abbrev pub LeavesLine : List Range → TellError → Type 0
  LeavesLine ranges error.Memory = PutsAll written is_open faults first now []
  LeavesLine ranges error.Sink = PutsPart written is_open faults first now [] (ranges ∷ [])

  abbrev pub PutsSo : Option TellError → List (List Range) → List (List Range) → Type 0
  PutsSo None told left = (left ≡ []) × PutsAll written is_open faults first now told
  PutsSo (Some error.Memory) told left = PutsAll written is_open faults first now told
  PutsSo (Some error.Sink) told left = PutsPart written is_open faults first now told left

  -- of these marks the first were told: all of them, but for an error
  pub record HasPut (made : List (List Range)) (t : Told) : Type 0 where
    pub told : List (List Range)
    pub left : List (List Range)
    pub all : made ≡ told ++ left
    pub count : t.count ≡ up_to_last (length told)
    pub puts : PutsSo t.error told left

-- the teller's numbers: nothing, and at most the cause of its error
pub record IsTellersFor (why : Option TellError) (n : Numbers) : Type 0 where
  pub bytes : n.bytes ≡ 0
  pub eods : n.eods ≡ 0
  pub total : n.total ≡ None
  pub cause : IfSome n.cause (λ kept. (e : TellError) × (why ≡ Some e) × (kept ≡ cause_of_tell e))

-- a teller that has told nothing
pub record IsFresh (start : Start) (teller : Teller) : Type 0 where
  pub pass : IsPassOf start teller.pass
  pub count : teller.pass.count ≡ nothing
  pub taken : teller.taker.marks ≡ []
  pub told : teller.told ≡ record { count = 0; error = None }

-- what it did beside the movers
pub record HasTeller {W : Type 0} (written : W → Option (List ℕ)) (is_open : W → Type 0) (faults : W → ℕ)
    (first now : W) (old new : Teller) : Type 0 where
  pub line : new.taker.line ≡ old.taker.line
  pub pass : SamePass old.pass new.pass
  pub numbers : IsTellersFor new.told.error new.pass.count
  pub puts : HasPut written is_open faults first now new.taker.marks new.told

-- a Book that made marks, or failed, in the hand of the teller
pub record LeavesLive (old new : BookState) : Type 0 where
  pub live : (start : Start) → IsLive start old → IsLive start new
  pub total : (start : Start) → KeepsTotal start old.stage → KeepsTotal start new.stage

module _ {W : Type 0} (written : W → Option (List ℕ)) (is_open : W → Type 0) (faults : W → ℕ) (old new : W) where
  -- further marks are told behind those that were
  abbrev pub TellsMore : List (List Range) → List (List Range) → Told → Told → Type 0
  TellsMore had now before after =
      (first : W) → HasPut written is_open faults first old had before → HasPut written is_open faults first new now after

  -- where no error is left behind, and an offset is kept, this names the first of them
  abbrev pub EndsWith : List Range → List (List Range) → Told → Type 0
  EndsWith ranges more after =
      after.error ≡ None → 0 < length ranges → more ≡ take MAX_ITEMS ranges ∷ []

  -- the last mark, behind any that were made
  pub record TellsLast (ranges : List Range) (earlier now : List Mark) (before after : Told) : Type 0 where
    pub more : List (List Range)
    pub marks : named_by now ≡ named_by earlier ++ more
    pub tells : (made : List (List Range)) → TellsMore made (made ++ more) before after
    pub last : EndsWith ranges more after

  -- what was left of the line, and the last mark
  pub record TellsRest (ranges : List Range) (earlier now : List Mark) (taken pushed : List (List Range))
      (before after : Told) : Type 0 where
    pub more : List (List Range)
    pub marks : named_by now ≡ named_by earlier ++ more
    pub tells : TellsMore taken (pushed ++ more) before after
    pub last : EndsWith ranges more after
