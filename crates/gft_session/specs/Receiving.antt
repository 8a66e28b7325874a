-- STOR and ESTO.
use Rattle.std.specs.Prelude.{◌≡◌, ◌<◌, ◌⊎◌, ℕ, Bool, true, false}
use Rattle.std.specs.Prelude.{List, [], ◌∷◌, ◌++◌, length, map, slice_get}
use Rattle.std.specs.Prelude.{IfOk, IsSome, IsTrue, MatchOption, None, OnOk, Option, Result, Ok, Err, Some}
use Rattle.gft_drive.specs.Words.{DriveState, Sent}
use Rattle.gft_keep.specs.Words.{keep_of}
use Rattle.gft_text.specs.Words.{WritesName}
use Rattle.gft_outside.specs.Words.{LinkState}
use Rattle.gft_pass.specs.declared.cause.Cause.{Cause}
use Rattle.gft_pass.specs.declared.cause.Cause.TheVariants as causes
use Rattle.gft_pass.specs.Words.{Lane}
use Rattle.gft_range.specs.declared.range.Range.{Range}
use Rattle.gft_book.specs.declared.usage.How.{How}
use Rattle.gft_book.specs.Words.{BeginsStore, EqualsSource, KeptSince, Seen, SettledFile, Start, book_of}
use Rattle.gft_book.specs.Words.{start_now}
use Rattle.gft_library.specs.declared.answer.Word.{Word}
use Rattle.gft_library.specs.Words.{Answers, NamedWord, Stores, word_of_file}
use Rattle.gft_receive.specs.declared.limits.Limits.{Limits}
use Rattle.gft_receive.specs.Words.{IsHonestLeft, Receives, Tells, WholeRunsEndWell, marker_of}
use Rattle.gft_reply_kind.specs.declared.ReplyKind.{ReplyKind}
use Rattle.gft_reply_kind.specs.declared.ReplyKind.TheVariants as kinds
use Rattle.gft_session.specs.Asking.{to_take, word_reply}
use Rattle.gft_session.specs.Brought.{Brought, brings}
use Rattle.gft_session.specs.Jobs.{IsHow, Job, retrieve_refusal, shift_of, store_refusal}
use Rattle.gft_session.specs.Listeners.{Returns}
use Rattle.gft_reply_kind.specs.Words.{reply_of}
use Rattle.gft_session.specs.Saying.{Says}
use Rattle.gft_session.specs.Settings.{Around, State, World, held, used_up, without_list}

abbrev pub limits_for : {L D : Type 0} → Around L D → Option ℕ → Limits
limits_for around part = record {
  marker_bytes = around.marker_bytes;
  idle = around.idle;
  shift = shift_of part;
}

-- the lanes are honest for a transfer of this name, where it has a source
abbrev pub AreHonestFor : {L D : Type 0} → Around L D → Option ℕ → List ℕ → How → List L
    → Type 0
AreHonestFor {L = L} around part name how lanes =
    (start : Start) → start.label ≡ name → start.how ≡ how
    → (k : ℕ) (lane : L) → slice_get lanes k ≡ Some lane
    → IsHonestLeft around.sent start (shift_of part) k (around.lane lane).left

-- those that wait are so for what the line stores
abbrev pub AreHonest : {L D : Type 0} → Around L D → Job → State L → Type 0
AreHonest around job state =
    (name : List ℕ) (how : How) → WritesName job.path name → IsHow job.part state.rest how
    → AreHonestFor around job.part name how (held state)

-- ---- the last replies

abbrev pub failures : Cause → List ReplyKind
failures causes.Aborted = kinds.Failed causes.Aborted ∷ kinds.AbortDone ∷ []
failures why = kinds.Failed why ∷ []

abbrev pub endings : Result SettledFile Cause → List ReplyKind
endings (Ok file) = word_reply (word_of_file file) ∷ []
endings (Err why) = failures why

-- the marks whose lines come before the last replies: those that were told; where a put failed, it was that
-- of the next one's line
abbrev pub marks_due : Bool → List (List Range) → List (List Range) → List (List Range)
marks_due false told left = told
marks_due true told left = told ++ left

-- just before the 226 of a whole file comes the line of a mark that names its source, where that isn't empty
-- (if the drive tells its contents)
abbrev pub NamesSource : Option Sent → DriveState → List (List Range) → SettledFile → Type 0
NamesSource None drive told file = Unit {0}
NamesSource (Some s) drive told file =
    IsTrue file.is_whole → IsSome drive.contents → 0 < length s.source
    → (earlier : List (List Range))
    × (told ≡ earlier ++ (record { start = 0; end = length s.source } ∷ []) ∷ [])

abbrev pub answer_at_end : List ℕ → Result SettledFile Cause → Option NamedWord
answer_at_end name (Ok file) = Some (record { name = Some name; word = word_of_file file })
answer_at_end name (Err why) = None

-- ---- rows

-- what the transfer of a line is about
pub record Transfers (job : Job) (rest : List Range) : Type 0 where
  pub name : List ℕ
  pub written : WritesName job.path name
  pub how : How
  pub is_how : IsHow job.part rest how

-- a transfer on the Book of the line's name, from 150 to its last reply; the lanes are given back
pub record StoresBy {L D X : Type 0} (around : Around L D) (part : Option ℕ) (name : List ℕ) (how : How)
    (lanes : List L) (old : LinkState L X) (brought : Brought) (new : LinkState L X) : Type 0 where
  -- the Book before the transfer, at its beginning, and at its end
  pub before : Seen D
  pub begun : Seen D
  pub after : Seen D
  pub passes : List Lane
  pub begins : BeginsStore (book_of around.drive before) (book_of around.drive begun) how (length lanes)
      passes
  pub label : (keep_of around.drive begun.keep).drive.label ≡ name
  pub back : List L
  pub end : Result SettledFile Cause
  pub put_failed : Bool
  pub receives : Receives around.lane (limits_for around part) (start_now (book_of around.drive begun)) lanes
      back (keep_of around.drive after.keep) end put_failed
  pub kept : KeptSince (start_now (book_of around.drive begun)) (keep_of around.drive after.keep)
  pub equals : OnOk end (EqualsSource (around.sent name) (book_of around.drive begun)
      (keep_of around.drive after.keep))
  pub complete : put_failed ≡ false → WholeRunsEndWell around.lane around.sent (limits_for around part)
      (start_now (book_of around.drive begun)) begun.stage lanes back end
  -- the marks that were made meanwhile, and those of them that were told
  pub told : List (List Range)
  pub left : List (List Range)
  pub tells : Tells (around.sent name) (keep_of around.drive after.keep) begun.marks after.marks end
      put_failed told left
  pub names : IfOk end (NamesSource (around.sent name) (keep_of around.drive begun.keep).drive told)
  pub returned : Returns around.lane old new back
  pub replies : brought.replies
      ≡ reply_of kinds.Opening
      ∷ (map marker_of (marks_due put_failed told left) ++ map reply_of (endings end))
  pub answer : brought.answer ≡ answer_at_end name end

-- the library refuses it
pub record RefusesStore {L X : Type 0} (job : Job) (old : World L X) (brought : Brought) (new : World L X)
    : Type 0 where
  pub what : Transfers job old.state.rest
  pub word : Word
  pub can : Answers (Stores what.how) word
  pub gives : brought ≡ brings (word_reply word) (to_take (record { name = Some what.name; word = word }))
  pub state : new.state ≡ without_list old.state
  pub link : new.link ≡ old.link

-- it is done with the lanes that wait, which are used up
pub record StoresFile {L D X : Type 0} (around : Around L D) (job : Job) (old : World L X) (brought : Brought)
    (new : World L X) : Type 0 where
  pub what : Transfers job old.state.rest
  pub stores : StoresBy around job.part what.name what.how (held old.state) old.link brought new.link
  pub state : new.state ≡ used_up old.state

-- memory for the name was refused; or the line is refused before the library is asked; or else by it, or by
-- none
abbrev pub AnswersStore : {L D X : Type 0} → Around L D → Job → World L X → Brought → World L X
    → Type 0
AnswersStore around job old brought new =
    Says kinds.OutOfMemory (without_list old.state) old brought new
    ⊎ MatchOption (store_refusal old.state job)
    (RefusesStore job old brought new ⊎ StoresFile around job old brought new)
    (λ why. Says why (without_list old.state) old brought new)

-- RETR and ERET: as far as they are refused before the library is asked
abbrev pub AnswersRetrieve : {L X : Type 0} → List ℕ → Bool → World L X → Brought → World L X
    → Type 0
AnswersRetrieve path is_part old brought new =
    Says kinds.OutOfMemory (without_list old.state) old brought new
    ⊎ MatchOption (retrieve_refusal old.state path is_part)
    (Says kinds.NotBuilt (without_list old.state) old brought new)
    (λ why. Says why (without_list old.state) old brought new)
