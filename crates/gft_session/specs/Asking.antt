-- Rows that ask the library: its words as replies.
use Rattle.std.specs.Prelude.{◌≡◌, ◌⊎◌, ℕ, Bool, true, false, List, Option, None, Some, if◌then◌else◌}
use Rattle.gft_text.specs.declared.name.NameError.{NameError}
use Rattle.gft_text.specs.declared.name.NameError.TheVariants as name_errors
use Rattle.gft_text.specs.Words.{RefusesName, WritesName, without_slash}
use Rattle.gft_library.specs.declared.answer.Word.{Word}
use Rattle.gft_library.specs.declared.answer.Word.TheVariants as words
use Rattle.gft_library.specs.declared.error.LibraryError.{LibraryError}
use Rattle.gft_library.specs.declared.error.LibraryError.TheVariants as refusals
use Rattle.gft_library.specs.Words.{Answers, LibraryCall, NamedWord}
use Rattle.gft_reply_kind.specs.declared.ReplyKind.{ReplyKind}
use Rattle.gft_reply_kind.specs.declared.ReplyKind.TheVariants as kinds
use Rattle.gft_session.specs.Brought.{Brought, alone, brings}

-- the reply for a word
abbrev pub word_reply : Word → ReplyKind
word_reply (words.Length len) = kinds.Length len
word_reply words.Removed = kinds.Deleted
word_reply (words.Stored len) = kinds.Complete
word_reply (words.Part len) = kinds.PartStored
word_reply (words.No why) = kinds.Refused why

abbrev pub is_memory : LibraryError → Bool
is_memory refusals.OutOfMemory = true
is_memory _ = false

-- the word tells of a want of memory
abbrev pub is_want : Word → Bool
is_want (words.No why) = is_memory why
is_want _ = false

-- what a tally takes of an answer: all but a want of memory
abbrev pub to_take : NamedWord → Option NamedWord
to_take answer = if is_want answer.word then None else Some answer

-- the library's answer to this call, about the name that the path writes
pub record AnswersFor (call : LibraryCall) (path : List ℕ) (brought : Brought) : Type 0 where
  pub name : List ℕ
  pub written : WritesName path name
  pub word : Word
  pub can : Answers call word
  pub gives : brought ≡ brings (word_reply word) (to_take (record { name = Some name; word = word }))

abbrev pub name_reply : NameError → ReplyKind
name_reply (name_errors.BadName at) = kinds.BadName
name_reply name_errors.OutOfMemory = kinds.OutOfMemory

-- the path writes no name, or memory for it was refused
pub record RefusesPath (path : List ℕ) (brought : Brought) : Type 0 where
  pub why : NameError
  pub refused : RefusesName (without_slash path) why
  pub gives : brought ≡ alone (name_reply why)

-- SIZE and DELE, which change neither settings nor link
abbrev pub AsksLibrary : LibraryCall → List ℕ → Brought → Type 0
AsksLibrary call path brought = AnswersFor call path brought ⊎ RefusesPath path brought
