-- How a command goes on: with one reply, or with a transfer.
use Rattle.std.specs.Prelude.{◌≡◌, ◌+◌, ◌||◌, ℕ, true, List, [], length, None, Option, Some}
use Rattle.gft_drive.specs.Words.{DriveState}
use Rattle.gft_keep.specs.Words.{keep_of}
use Rattle.gft_text.specs.Words.{WritesName}
use Rattle.gft_pass.specs.Words.{Lane}
use Rattle.gft_book.specs.declared.usage.How.{How}
use Rattle.gft_book.specs.Words.{BeginsStore, Seen, book_of}
use Rattle.gft_command.specs.declared.command.Command.{Command}
use Rattle.gft_session.specs.declared.next.Begun.{Begun}
use Rattle.gft_session.specs.declared.next.Next.{Next}
use Rattle.gft_session.specs.declared.next.Next.TheVariants as next
use Rattle.gft_session.specs.Brought.{brought_of}
use Rattle.gft_session.specs.Jobs.{IsHow, Job, store_refusal, stored_by}
use Rattle.gft_reply_kind.specs.Words.{HasText}
use Rattle.gft_session.specs.Receiving.{AnswersStore}
use Rattle.gft_session.specs.Settings.{Around, State, World, held, is_in, used_up}
use Rattle.gft_session.specs.Table.{AnswersCommand, Row, is_free}

-- the name's Book is handed out, and a transfer of so many lanes began on it
pub record IsBegun {D : Type 0} (drive : D → DriveState) (name : List ℕ) (how : How) (lanes : ℕ) (book : Seen D)
    (passes : List Lane) : Type 0 where
  pub label : (keep_of drive book.keep).drive.label ≡ name
  pub before : Seen D
  pub begins : BeginsStore (book_of drive before) (book_of drive book) how lanes passes

-- a STOR or ESTO that nobody refuses, with the lanes that wait
pub record Begins {D O L : Type 0} (drive : D → DriveState) (job : Job) (old : State L) (begun : Begun D O L)
    (new : State L) : Type 0 where
  pub not_refused : store_refusal old job ≡ None
  pub written : WritesName job.path begun.name
  pub part : begun.part ≡ job.part
  pub how : How
  pub is_how : IsHow job.part old.rest how
  pub lanes : begun.lanes.items ≡ held old
  pub is_begun : IsBegun drive begun.name how (length (held old)) begun.storing.book begun.storing.passes.items
  pub state : new ≡ used_up old

abbrev pub StoresOrNot : {D O S L X : Type 0} → Around L D → Job → World L X → Next S D O L
    → World L X → Type 0
StoresOrNot around job old (next.Say response) new =
    AnswersStore around job old (brought_of response) new
StoresOrNot around job old (next.Store begun) new =
    Begins around.drive job old.state begun new.state × (new.link ≡ old.link)

-- the lanes that a transfer takes over
abbrev pub taken_by : {D O S L : Type 0} → Next S D O L → List L
taken_by (next.Say response) = []
taken_by (next.Store begun) = begun.lanes.items

-- a command whose transfer begins
pub record BeginsBy {D O L X : Type 0} (drive : D → DriveState) (command : Command) (old : World L X)
    (begun : Begun D O L) (new : World L X) : Type 0 where
  pub job : Job
  pub stored : stored_by command ≡ Some job
  pub begins : Begins drive job old.state begun new.state
  pub link : new.link ≡ old.link

-- a row of the table, or a transfer
abbrev pub IsRow : {D O S L X : Type 0} → Around L D → Command → World L X → Next S D O L
    → World L X → Type 0
IsRow around command old (next.Say response) new = Row around command old (brought_of response) new
IsRow around command old (next.Store begun) new = BeginsBy around.drive command old begun new

-- the same behind the login
abbrev pub IsStep : {D O S L X : Type 0} → Around L D → Command → World L X → Next S D O L
    → World L X → Type 0
IsStep around command old (next.Say response) new =
    AnswersCommand around command old (brought_of response) new
IsStep around command old (next.Store begun) new =
    BeginsBy around.drive command old begun new × ((is_free command || is_in old.state.login) ≡ true)

-- as many more are handed out as are held more or taken over
abbrev pub CountsTaken : {D O S L X : Type 0} → World L X → World L X → Next S D O L → Type 0
CountsTaken old new goes_on =
    length (held new.state) + (length (taken_by goes_on) + old.link.handed_out)
    ≡ length (held old.state) + new.link.handed_out

abbrev pub HasNextText : {D O S L : Type 0} → Next S D O L → Type 0
HasNextText (next.Say response) = HasText response.kind
HasNextText (next.Store begun) = Unit {0}
