-- What is put of a reply, and what a tally takes with it.
use Rattle.std.specs.Prelude.{◌≡◌, ◌⊎◌, ℕ, List, [], ◌∷◌, ◌++◌, Option, None, Some, Result, Ok, Err, IsOk}
use Rattle.std.specs.Io.KnownBytes.{Appends}
use Rattle.gft_base.specs.Words.{Rose}
use Rattle.gft_drive.specs.Words.{IsPartOf}
use Rattle.gft_reply.specs.declared.reply.Reply.{Reply}
use Rattle.gft_library.specs.Words.{NamedWord}
use Rattle.gft_session.specs.declared.session_end.Stopped.{Stopped}
use Rattle.gft_session.specs.declared.session_end.Stopped.TheVariants as stops
use Rattle.gft_session.specs.Brought.{Brought, Output, text_of_all}

-- memory was refused
abbrev pub WasRefused : {T : Type 0} → Result T Stopped → Type 0
WasRefused (Err stops.OutOfMemory) = Unit {0}
WasRefused other = ⊥

-- a text was put whole, or where the put failed a part of it, and none where memory was refused
pub record Puts {T : Type 0} (result : Result T Stopped) (old new : Option (List ℕ))
    (text : List ℕ) : Type 0 where
  pub part : List ℕ
  pub put : Appends old new part
  pub is_part : IsPartOf part text
  pub whole : IsOk result → part ≡ text
  pub none : WasRefused result → part ≡ []

-- the sink's count of faults rose where a put failed, and stays else
abbrev pub HasStopped : {T : Type 0} → ℕ → ℕ → Result T Stopped → Type 0
HasStopped before now (Err stops.OutFault) = Rose before now
HasStopped before now _ = now ≡ before

-- a tally has these answers more, the newest first, or tells nothing
abbrev pub Tallies : Option (List NamedWord) → Option (List NamedWord) → List NamedWord → Type 0
Tallies old None answers = Unit {0}
Tallies None (Some new) answers = ⊥
Tallies (Some old) (Some new) answers = new ≡ answers ++ old

abbrev pub list_of : Option NamedWord → List NamedWord
list_of None = []
list_of (Some answer) = answer ∷ []

-- a reply's answer was taken; none where memory was refused; where the put failed, it or none
abbrev pub Takes : {T : Type 0} → Result T Stopped → Option NamedWord → Option (List NamedWord)
    → Option (List NamedWord) → Type 0
Takes (Ok value) answer old new = Tallies old new (list_of answer)
Takes (Err stops.OutOfMemory) answer old new = Tallies old new []
Takes (Err stops.OutFault) answer old new = Tallies old new (list_of answer) ⊎ Tallies old new []

-- the bytes of replies that come before another
pub record AreBefore (part : List ℕ) (replies : List Reply) : Type 0 where
  pub front : List Reply
  pub next : Reply
  pub more : List Reply
  pub split : replies ≡ front ++ next ∷ more
  pub bytes : part ≡ text_of_all front

-- replies were put whole, or where a put failed a part of them; where memory was refused, those before one
pub record PutsAll {T : Type 0} (result : Result T Stopped) (old new : Option (List ℕ)) (replies : List Reply)
    : Type 0 where
  pub part : List ℕ
  pub put : Appends old new part
  pub is_part : IsPartOf part (text_of_all replies)
  pub whole : IsOk result → part ≡ text_of_all replies
  pub before : WasRefused result → AreBefore part replies

-- what a row of the table brings was given
pub record Gives {T : Type 0} (IsRow : Brought → Type 0) (result : Result T Stopped) (old new : Output)
    : Type 0 where
  pub brought : Brought
  pub is_row : IsRow brought
  pub puts : PutsAll result old.put new.put brought.replies
  pub takes : Takes result brought.answer old.taken new.taken
