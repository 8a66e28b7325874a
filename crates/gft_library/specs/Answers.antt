-- What a library answers: which call can answer which word, and the list of the answers that a tally took.
use Rattle.std.specs.Prelude.{◌≡◌, ◌⊎◌, ℕ, List, ◌∷◌, Option, None, Some, if◌then◌else◌}
use Rattle.gft_book.specs.declared.usage.How.{How}
use Rattle.gft_book.specs.declared.usage.How.TheVariants.{Resume, Esto}
use Rattle.gft_book.specs.Words.{SettledFile}
use Rattle.gft_library.specs.declared.answer.Word.{Word}
use Rattle.gft_library.specs.declared.answer.Word.TheVariants as word
use Rattle.gft_library.specs.declared.error.LibraryError.{LibraryError}
use Rattle.gft_library.specs.declared.error.LibraryError.TheVariants as error

-- an answer: the name that was asked for, which want of memory alone may lack, and the word
pub record NamedWord : Type 0 where
  pub name : Option (List ℕ)
  pub word : Word

-- the calls that answer
pub data LibraryCall : Type 0 where
  Sizes : LibraryCall
  Removes : LibraryCall
  Stores : (how : How) → LibraryCall
  Retrieves : LibraryCall

-- what `store` can be refused for: CompleteAlready for an ESTO alone, and NotInJournal for a restart
abbrev pub RefusesStoring : How → LibraryError → Type 0
RefusesStoring how (error.Busy found) = Unit {0}
RefusesStoring how (error.Damaged damage) = Unit {0}
RefusesStoring Esto (error.CompleteAlready len) = Unit {0}
RefusesStoring other (error.CompleteAlready len) = ⊥
RefusesStoring (Resume list) (error.NotInJournal missing) = Unit {0}
RefusesStoring other (error.NotInJournal missing) = ⊥
RefusesStoring how error.NoSuch = ⊥
RefusesStoring how error.Incomplete = ⊥
RefusesStoring how error.TooManyNames = Unit {0}
RefusesStoring how error.ShelfFailed = Unit {0}
RefusesStoring how error.OutOfMemory = Unit {0}
RefusesStoring how error.DriveFailed = Unit {0}

-- what the calls that read can be refused for
abbrev pub RefusesReading : LibraryError → Type 0
RefusesReading (error.CompleteAlready len) = ⊥
RefusesReading (error.NotInJournal missing) = ⊥
RefusesReading other = Unit {0}

-- what `remove` can be refused for: no drive is asked
abbrev pub RefusesRemoving : LibraryError → Type 0
RefusesRemoving (error.Busy found) = Unit {0}
RefusesRemoving error.NoSuch = Unit {0}
RefusesRemoving error.TooManyNames = Unit {0}
RefusesRemoving error.ShelfFailed = Unit {0}
RefusesRemoving error.OutOfMemory = Unit {0}
RefusesRemoving other = ⊥

-- the word is a refusal, for this; a call that hands something out answers no other
abbrev pub RefusedWith : Word → (LibraryError → Type 0) → Type 0
RefusedWith (word.No why) shows = shows why
RefusedWith other shows = ⊥

abbrev pub Answers : LibraryCall → Word → Type 0
Answers Sizes (word.Length len) = Unit {0}
Answers Sizes other = RefusedWith other RefusesReading
Answers Removes word.Removed = Unit {0}
Answers Removes other = RefusedWith other RefusesRemoving
Answers (Stores how) other = RefusedWith other (RefusesStoring how)
Answers Retrieves other = RefusedWith other RefusesReading

-- the answer names the name; want of memory alone may lack it
abbrev pub IsFor : List ℕ → NamedWord → Type 0
IsFor name answer =
    (answer.name ≡ Some name) ⊎ ((answer.name ≡ None) × (answer.word ≡ word.No error.OutOfMemory))

-- the word for a transfer that was settled well
abbrev pub word_of_file : SettledFile → Word
word_of_file file = if file.is_whole then word.Stored file.len else word.Part file.len

-- a tally has one answer more, the newest first, or tells nothing from then on
abbrev pub TakesAnswer : Option (List NamedWord) → Option (List NamedWord) → NamedWord → Type 0
TakesAnswer old None answer = Unit {0}
TakesAnswer None (Some new) answer = ⊥
TakesAnswer (Some old) (Some new) answer = new ≡ answer ∷ old
