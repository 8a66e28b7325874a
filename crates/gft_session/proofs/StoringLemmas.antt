-- A STOR or ESTO, from its line to its last reply.
use Rattle.std.proofs.Common.{◌≡◌, ◌≤◌, ◌⊎◌, ℕ, Bool, true, false, if◌then◌else◌, ◌+◌, List, [], ◌∷◌, ◌++◌, length, map, Option, None, Some, Result, Ok, Err, IsOk, OnOk, refl, sym, ap, ◌∙◌, subst, inl, inr, append_assoc, append-nil, unwrap_or, arith, MatchOption, MatchBool}
use Rattle.std.specs.Prelude.{IfSome, IsSome}
use Rattle.std.specs.List.{AllByRecursion}
use Rattle.std.specs.Io.KnownBytes.{Appends}
use Rattle.gft_base.specs.declared.TheConstants.{LIMIT}
use Rattle.gft_drive.specs.Words.{IsPartOf, Sent}
use Rattle.gft_keep.specs.Words.{KeepState, keep_of}
use Rattle.gft_range.specs.declared.range.Range.{Range}
use Rattle.gft_reply.specs.declared.reply.Reply.{Reply}
use Rattle.gft_reply.specs.Words.{reply_text}
use Rattle.gft_command.specs.Words.{IsCommand}
use Rattle.gft_command.specs.declared.command.Command.{Command}
use Rattle.gft_command.specs.declared.command.Command.TheVariants as commands
use Rattle.gft_pass.specs.declared.cause.Cause.{Cause}
use Rattle.gft_pass.specs.declared.cause.Cause.TheVariants as causes
use Rattle.gft_pass.specs.Words.{Lane}
use Rattle.gft_book.specs.declared.usage.How.{How}
use Rattle.gft_book.specs.declared.Mark.{Mark}
use Rattle.gft_book.specs.Words.{EqualsSource, KeptSince, Seen, SettledFile, book_of, named_by, start_now}
use Rattle.gft_library.specs.Words.{Asking, IsFor, NamedWord, NamesSeen, StoresName, word_of_file}
use Rattle.gft_library.specs.declared.answer.Word.{Word}
use Rattle.gft_library.specs.declared.answer.Word.TheVariants as words
use Rattle.gft_receive.specs.Words.{LiesBelow, Receives, Tells, WholeRunsEndWell, marker_of}
use Rattle.gft_outside.specs.Words.{LinkState}
use Rattle.std.proofs.lemmas.Option.{same_Some}
use Rattle.gft_session.specs.declared.session_end.Stopped.{Stopped}
use Rattle.gft_session.specs.declared.session_end.Stopped.TheVariants as stops
use Rattle.gft_session.specs.Brought.{Brought, Output, brought_of, text_of_all}
use Rattle.gft_session.specs.Jobs.{Job, retrieve_refusal, store_refusal, stored_by}
use Rattle.gft_reply_kind.specs.declared.ReplyKind.TheVariants as kinds
use Rattle.gft_session.specs.Listeners.{Returns}
use Rattle.gft_session.specs.Asking.{to_take, word_reply}
use Rattle.gft_session.specs.Next.{Begins, BeginsBy, CountsTaken, IsBegun, IsRow, StoresOrNot}
use Rattle.gft_session.specs.Receiving.{AnswersRetrieve, AnswersStore, StoresBy, answer_at_end, endings, failures, limits_for, marks_due}
use Rattle.gft_reply_kind.specs.Words.{HasText, reply_of}
use Rattle.gft_session.specs.Settings.{Around, World, held}
use Rattle.gft_session.specs.declared.next.Begun.{Begun}
use Rattle.gft_session.specs.declared.next.Next.{Next}
use Rattle.gft_session.specs.declared.next.Next.TheVariants as next
use Rattle.gft_session.specs.declared.response.Response.{Response}
use Rattle.gft_session.specs.Steps.{AreBefore, Gives, Puts, PutsAll, Takes, Tallies, WasRefused, list_of}
use Rattle.gft_session.specs.Table.{Row}
use Rattle.gft_session.proofs.MarkerLemmas.{names_source}
use Rattle.gft_session.proofs.PutLemmas.{appends_more, takes_whole, tallies_none}

-- ---- what is put

pub text_of_both : (front rest : List Reply) → text_of_all (front ++ rest) ≡ text_of_all front ++ text_of_all rest
text_of_both [] rest = refl
text_of_both (reply ∷ front) rest = ap (λ xs. reply_text reply ++ xs) (text_of_both front rest) ∙ sym (append_assoc (reply_text reply) (text_of_all front) (text_of_all rest))

part_behind : (front part whole : List ℕ) → IsPartOf part whole → IsPartOf (front ++ part) (front ++ whole)
part_behind front part whole is = (is.0, ap (λ xs. front ++ xs) is.1 ∙ sym (append_assoc front part is.0))

before_behind : (front rest : List Reply) (part : List ℕ) → AreBefore part rest → AreBefore (text_of_all front ++ part) (front ++ rest)
before_behind front rest part before = record {
  front = front ++ before.front;
  next = before.next;
  more = before.more;
  split = ap (λ xs. front ++ xs) before.split ∙ sym (append_assoc front before.front (before.next ∷ before.more));
  bytes = ap (λ xs. text_of_all front ++ xs) before.bytes ∙ sym (text_of_both front before.front);
}

-- replies behind others that were put whole
pub puts_behind : {T : Type 0} (front rest : List Reply) (result : Result T Stopped) (a b c : Option (List ℕ)) → Appends a b (text_of_all front) → PutsAll result b c rest → PutsAll result a c (front ++ rest)
puts_behind front rest result a b c first puts = record {
  part = text_of_all front ++ puts.part;
  put = appends_more a b c _ _ first puts.put;
  is_part = rw (text_of_both front rest) (part_behind (text_of_all front) puts.part (text_of_all rest) puts.is_part);
  whole = λ ok. ap (λ xs. text_of_all front ++ xs) (puts.whole ok) ∙ sym (text_of_both front rest);
  before = λ refused. before_behind front rest puts.part (puts.before refused);
}

-- one reply, of those that were to come
pub puts_first : {T : Type 0} (reply : Reply) (more : List Reply) (result : Result T Stopped) (a b : Option (List ℕ)) → (IsOk result → more ≡ []) → Puts result a b (reply_text reply) → PutsAll result a b (reply ∷ more)
puts_first reply more result a b last puts = record {
  part = puts.part;
  put = puts.put;
  is_part = (puts.is_part.0 ++ text_of_all more, ap (λ xs. xs ++ text_of_all more) puts.is_part.1 ∙ append_assoc puts.part puts.is_part.0 (text_of_all more));
  whole = λ ok. puts.whole ok ∙ sym (append-nil (reply_text reply)) ∙ ap (λ xs. reply_text reply ++ text_of_all xs) (sym (last ok));
  before = λ refused. record { front = []; next = reply; more = more; split = refl; bytes = puts.none refused };
}

-- one reply that was put whole
pub whole_first : {T : Type 0} (reply : Reply) (result : Result T Stopped) (a b : Option (List ℕ)) → IsOk result → Puts result a b (reply_text reply) → Appends a b (text_of_all (reply ∷ []))
whole_first reply result a b ok puts = subst (λ xs. Appends a b xs) (puts.whole ok ∙ sym (append-nil (reply_text reply))) puts.put

-- a reply that gives no answer
pub takes_none : {T : Type 0} (result : Result T Stopped) (known : Option (List NamedWord)) → Takes result None known known
takes_none (Ok value) known = tallies_none known
takes_none (Err stops.OutFault) known = inl (tallies_none known)
takes_none (Err stops.OutOfMemory) known = tallies_none known

-- an answer that no reply gave
pub takes_not : (T : Type 0) (why : Stopped) (answer : Option NamedWord) (known : Option (List NamedWord)) → Takes {T = T} (Err why) answer known known
takes_not T stops.OutFault answer known = inr (tallies_none known)
takes_not T stops.OutOfMemory answer known = tallies_none known

-- ---- what was given, told in another way

pub gives_so : {T : Type 0} (IsRow IsOther : Brought → Type 0) (result : Result T Stopped) (a b : Output) → ((brought : Brought) → IsRow brought → IsOther brought) → Gives IsRow result a b → Gives IsOther result a b
gives_so IsRow IsOther result a b so gives = record { brought = gives.brought; is_row = so gives.brought gives.is_row; puts = gives.puts; takes = gives.takes }

pub gives_ok : {T U : Type 0} (IsRow : Brought → Type 0) (result : Result T Stopped) (value : U) (a b : Output) → IsOk result → Gives IsRow result a b → Gives IsRow (Ok value) a b
gives_ok IsRow result value a b ok gives = record {
  brought = gives.brought;
  is_row = gives.is_row;
  puts = record {
    part = gives.puts.part;
    put = gives.puts.put;
    is_part = gives.puts.is_part;
    whole = λ again. gives.puts.whole ok;
    before = λ refused. absurd refused;
  };
  takes = takes_whole result gives.brought.answer a.taken b.taken ok gives.takes;
}

pub gives_err : {T U : Type 0} (IsRow : Brought → Type 0) (result : Result T Stopped) (why : Stopped) (a b : Output) → result ≡ Err why → Gives IsRow result a b → Gives {T = U} IsRow (Err why) a b
gives_err IsRow (Ok value) why a b same gives = absurd (cc same)
gives_err IsRow (Err stops.OutFault) stops.OutOfMemory a b same gives = absurd (cc same)
gives_err IsRow (Err stops.OutOfMemory) stops.OutFault a b same gives = absurd (cc same)
gives_err IsRow (Err stops.OutFault) stops.OutFault a b same gives = record {
  brought = gives.brought;
  is_row = gives.is_row;
  puts = record { part = gives.puts.part; put = gives.puts.put; is_part = gives.puts.is_part; whole = λ ok. absurd (cc ok); before = λ refused. absurd refused };
  takes = gives.takes;
}
gives_err IsRow (Err stops.OutOfMemory) stops.OutOfMemory a b same gives = record {
  brought = gives.brought;
  is_row = gives.is_row;
  puts = record { part = gives.puts.part; put = gives.puts.put; is_part = gives.puts.is_part; whole = λ ok. absurd (cc ok); before = λ refused. gives.puts.before tt };
  takes = gives.takes;
}

-- ---- rows

by_option : {A P : Type 0} {Q : A → Type 0} {R : Type 0} (found : Option A) → (P → R) → ((a : A) → Q a → R) → MatchOption found P Q → R
by_option None none some row = none row
by_option (Some a) none some row = some a row

pub by_none : {A P : Type 0} (Q : A → Type 0) (found : Option A) → found ≡ None → P → MatchOption found P Q
by_none Q None none is = is
by_none Q (Some a) none is = absurd (cc none)

-- the row of the command that stores
pub stores_row : {L D X : Type 0} (around : Around L D) (command : Command) (job : Job) (old : World L X) (brought : Brought) (new : World L X) → stored_by command ≡ Some job → AnswersStore around job old brought new → Row around command old brought new
stores_row around (commands.Stor path) job old brought new stored row = subst (λ j. AnswersStore around j old brought new) (sym (same_Some _ _ stored)) row
stores_row around (commands.Esto esto) job old brought new stored row = subst (λ j. AnswersStore around j old brought new) (sym (same_Some _ _ stored)) row
stores_row around _ job old brought new stored row = absurd (cc stored)

-- the offset of a part is in range
pub part_within : (line : List ℕ) (command : Command) (job : Job) → IsCommand line command → stored_by command ≡ Some job → unwrap_or job.part 0 ≤ LIMIT
part_within line (commands.Stor path) job is stored = rw (sym (same_Some _ _ stored)) (omega arith)
part_within line (commands.Esto esto) job is stored = rw (sym (same_Some _ _ stored)) is.value.offset_is.limited
part_within line _ job is stored = absurd (cc stored)

-- the row of a command that stores, or its transfer
pub row_of_store : {L D O S X : Type 0} (around : Around L D) (command : Command) (job : Job) (old : World L X) (goes_on : Next S D O L) (new : World L X) → stored_by command ≡ Some job → StoresOrNot around job old goes_on new → IsRow around command old goes_on new
row_of_store around command job old (next.Say response) new stored row = stores_row around command job old (brought_of response) new stored row
row_of_store around command job old (next.Store begun) new stored row = record { job = job; stored = stored; begins = row.0; link = row.1 }

retrieve_held : {L X : Type 0} (path : List ℕ) (is_part : Bool) (old : World L X) (brought : Brought) (new : World L X) → AnswersRetrieve path is_part old brought new → held new.state ≡ held old.state
retrieve_held path is_part old brought new (inl memory) = ap held memory.state
retrieve_held path is_part old brought new (inr row) = by_option (retrieve_refusal old.state path is_part) (λ says. ap held says.state) (λ why says. ap held says.state) row

-- a line that retrieves takes no lane over
pub retrieve_count : {L S X : Type 0} (D O : Type 0) (path : List ℕ) (is_part : Bool) (old new : World L X) (response : Response S) → AnswersRetrieve path is_part old (brought_of response) new → new.link ≡ old.link → CountsTaken {D = D} {O = O} old new (next.Say response)
retrieve_count D O path is_part old new response row same = omega (arith, ap length (retrieve_held path is_part old (brought_of response) new row), ap (λ l. l.handed_out) same)

-- a command that may be asked is answered by its row
pub row_behind : {P : Type 0} (Q : Type 0) (test : Bool) → test ≡ true → P → MatchBool test P Q
row_behind Q true is row = row
row_behind Q false is row = absurd (cc is)

-- ---- what the library gave

pub word_text : (word : Word) → HasText (word_reply word)
word_text (words.Length len) = tt
word_text words.Removed = tt
word_text (words.Stored len) = tt
word_text (words.Part len) = tt
word_text (words.No why) = tt

-- the answer that a tally takes has the name that was asked for
pub taken_for : (name : List ℕ) (answer : NamedWord) → IsFor name answer → to_take answer ≡ to_take (record { name = Some name; word = answer.word })
taken_for name answer (inl named) = ap (λ n. to_take (record { name = n; word = answer.word })) named
taken_for name answer (inr want) = rw want.1 refl

-- a file that was settled is no want
pub settled_taken : (name : List ℕ) (file : SettledFile) → to_take (record { name = Some name; word = word_of_file file }) ≡ answer_at_end name (Ok file)
settled_taken name file = by_kind file.is_whole
  where
    by_kind : (whole : Bool) → to_take (record { name = Some name; word = if whole then words.Stored file.len else words.Part file.len }) ≡ Some (record { name = Some name; word = if whole then words.Stored file.len else words.Part file.len })
    by_kind true = refl
    by_kind false = refl

pub begun_of : {D O S : Type 0} (call : Asking D O S) (how : How) (lanes : ℕ) (new : NamesSeen D O S) (passes : List Lane) (now : Seen D) (name : List ℕ) → (keep_of call.drive_state now.keep).drive.label ≡ name → StoresName call how lanes new passes now → IsBegun call.drive_state name how lanes now passes
begun_of call how lanes new passes now name label (book, comes, kept, begins) = record { label = label; before = book; begins = begins.0 }

-- ---- last replies

failures_one : (why : Cause) → (why ≡ causes.Aborted → ⊥) → failures why ≡ kinds.Failed why ∷ []
failures_one causes.Aborted other = absurd (other refl)
failures_one _ other = refl

-- a cause other than an abort
pub fails_once : {T : Type 0} (why : Cause) (result : Result T Stopped) (a b : Option (List ℕ)) → (why ≡ causes.Aborted → ⊥) → Puts result a b (reply_text (reply_of (kinds.Failed why))) → PutsAll result a b (map reply_of (failures why))
fails_once why result a b other puts = rw (failures_one why other) (puts_first (reply_of (kinds.Failed why)) [] result a b (λ ok. refl) puts)

-- the first reply behind an abort was not put whole
pub aborts_stopped : {T : Type 0} (cause : Cause) (why : Stopped) (result : Result T Stopped) (a b : Option (List ℕ)) → cause ≡ causes.Aborted → result ≡ Err why → Puts result a b (reply_text (reply_of (kinds.Failed causes.Aborted))) → PutsAll {T = T} (Err why) a b (map reply_of (failures cause))
aborts_stopped cause why result a b same err puts =
    rw same (puts_first (reply_of (kinds.Failed causes.Aborted)) (reply_of kinds.AbortDone ∷ []) (Err why) a b (λ ok. absurd (cc ok)) (rw err at puts))

-- both replies behind an abort
pub aborts : {T U : Type 0} (cause : Cause) (first : Result T Stopped) (result : Result U Stopped) (a b c : Option (List ℕ)) → cause ≡ causes.Aborted → IsOk first → Puts first a b (reply_text (reply_of (kinds.Failed causes.Aborted))) → Puts result b c (reply_text (reply_of kinds.AbortDone)) → PutsAll result a c (map reply_of (failures cause))
aborts cause first result a b c same ok one other =
    rw same (puts_behind (reply_of (kinds.Failed causes.Aborted) ∷ []) (reply_of kinds.AbortDone ∷ []) result a b c (whole_first (reply_of (kinds.Failed causes.Aborted)) first a b ok one) (puts_first (reply_of kinds.AbortDone) [] result b c (λ ok. refl) other))

-- ---- transfers

-- no mark was made
nothing_told : (sent : Option Sent) (keep : KeepState) (marks : List Mark) (why : Cause) → Tells sent keep marks marks (Err why) false [] []
nothing_told sent keep marks why = record { marks = sym (append-nil (named_by marks)); held = tt; below = none_below sent; whole = tt }
  where
    none_below : (sent : Option Sent) → IfSome sent (λ s. IsSome keep.drive.contents → AllByRecursion (LiesBelow (length s.source)) [])
    none_below None = tt
    none_below (Some s) = λ told. tt

-- memory was refused for the 150, or its put failed: no lane was asked
pub nothing_received : {L D X : Type 0} (around : Around L D) (part : Option ℕ) (name : List ℕ) (how : How) (lanes : List L) (old new : LinkState L X) (begun : Seen D) (passes : List Lane) →
    IsBegun around.drive name how (length lanes) begun passes → KeptSince (start_now (book_of around.drive begun)) (keep_of around.drive begun.keep) → Returns around.lane old new lanes →
    StoresBy around part name how lanes old (record { replies = reply_of kinds.Opening ∷ map reply_of (endings (Err causes.Memory)); answer = None }) new
nothing_received around part name how lanes old new begun passes is kept returned = record {
  before = is.before;
  begun = begun;
  after = begun;
  passes = passes;
  begins = is.begins;
  label = is.label;
  back = lanes;
  end = Err causes.Memory;
  put_failed = false;
  receives = inr (refl, refl);
  kept = kept;
  equals = tt;
  complete = λ no. (λ s rest of_it left told shift idle whole. tt, λ left untold idle whole. tt);
  told = [];
  left = [];
  tells = nothing_told (around.sent name) (keep_of around.drive begun.keep) begun.marks causes.Memory;
  names = tt;
  returned = returned;
  replies = refl;
  answer = refl;
}

-- the lanes were asked, up to the end
pub has_received : {L D X : Type 0} (around : Around L D) (part : Option ℕ) (name : List ℕ) (how : How) (lanes back : List L) (old new : LinkState L X) (begun after : Seen D) (passes : List Lane) (end : Result SettledFile Cause) (put_failed : Bool) (told left : List (List Range)) →
    IsBegun around.drive name how (length lanes) begun passes → Receives around.lane (limits_for around part) (start_now (book_of around.drive begun)) lanes back (keep_of around.drive after.keep) end put_failed →
    KeptSince (start_now (book_of around.drive begun)) (keep_of around.drive after.keep) → OnOk end (EqualsSource (around.sent name) (book_of around.drive begun) (keep_of around.drive after.keep)) →
    (put_failed ≡ false → WholeRunsEndWell around.lane around.sent (limits_for around part) (start_now (book_of around.drive begun)) begun.stage lanes back end) →
    Tells (around.sent name) (keep_of around.drive after.keep) begun.marks after.marks end put_failed told left → Returns around.lane old new back →
    StoresBy around part name how lanes old (record { replies = reply_of kinds.Opening ∷ (map marker_of (marks_due put_failed told left) ++ map reply_of (endings end)); answer = answer_at_end name end }) new
has_received around part name how lanes back old new begun after passes end put_failed told left is receives kept equals complete tells returned = record {
  before = is.before;
  begun = begun;
  after = after;
  passes = passes;
  begins = is.begins;
  label = is.label;
  back = back;
  end = end;
  put_failed = put_failed;
  receives = receives;
  kept = kept;
  equals = equals;
  complete = complete;
  told = told;
  left = left;
  tells = tells;
  names = names_source around.lane (limits_for around part) (around.sent name) (book_of around.drive is.before) (book_of around.drive begun) how (length lanes) passes lanes back (keep_of around.drive after.keep) end put_failed told left is.begins receives equals tells.whole;
  returned = returned;
  replies = refl;
  answer = refl;
}

-- the transfer of the line that began it
pub stores_file : {L D O X : Type 0} (around : Around L D) (command : Command) (old mid new : World L X) (begun : Begun D O L) (brought : Brought) →
    (by : BeginsBy around.drive command old begun mid) → StoresBy around begun.part begun.name by.begins.how begun.lanes.items mid.link brought new.link → new.state ≡ mid.state → Row around command old brought new
stores_file around command old mid new begun brought by stores same =
    stores_row around command by.job old brought new by.stored (inr (by_none _ (store_refusal old.state by.job) by.begins.not_refused (inr (record {
      what = record { name = begun.name; written = by.begins.written; how = by.begins.how; is_how = by.begins.is_how };
      stores = rw (by.begins.part, by.begins.lanes, by.link) at stores;
      state = same ∙ by.begins.state;
    }))))
