-- Each reply of code 425 has its fault of the link.
use Rattle.std.proofs.Common.{◌≡◌, ◌≤◌, ◌⊎◌, ℕ, ◌+◌, ◌==◌, ◌||◌, ◌&&◌, not, Bool, true, false, MatchBool, MatchOption, if◌then◌else◌, List, [], ◌∷◌, ◌++◌, length, map, slice_get, Option, None, Some, Result, Ok, Err, refl, ap, subst, zero, suc, inl, inr, arith}
use Rattle.std.proofs.lemmas.Option.{same_Some}
use Rattle.gft_reply.specs.declared.reply.Reply.{Reply}
use Rattle.gft_text.specs.declared.host_port.HostPort.{HostPort}
use Rattle.gft_command.specs.declared.command.Command.{Command}
use Rattle.gft_command.specs.declared.command.Command.TheVariants as commands
use Rattle.gft_outside.specs.Words.{LaneState, LinkState, NotHandedOut}
use Rattle.gft_outside.specs.declared.link.LinkError.{LinkError}
use Rattle.gft_outside.specs.declared.link.LinkError.TheVariants as errors
use Rattle.gft_text.specs.declared.name.NameError.{NameError}
use Rattle.gft_text.specs.declared.name.NameError.TheVariants as name_errors
use Rattle.gft_library.specs.declared.answer.Word.{Word}
use Rattle.gft_library.specs.declared.answer.Word.TheVariants as words
use Rattle.gft_library.specs.Words.{LibraryCall, Removes, Sizes}
use Rattle.gft_reply_kind.specs.declared.ReplyKind.{ReplyKind}
use Rattle.gft_reply_kind.specs.declared.ReplyKind.TheVariants as kinds
use Rattle.gft_session.specs.declared.settings.Login.{Login}
use Rattle.gft_session.specs.declared.settings.Login.TheVariants as logins
use Rattle.gft_session.specs.Asking.{AsksLibrary, name_reply, word_reply}
use Rattle.gft_session.specs.Brought.{Brought}
use Rattle.gft_session.specs.Conversation.{Leads, RoseBy, Turn, refusals, refusals_in}
use Rattle.gft_session.specs.Listeners.{Returns}
use Rattle.gft_reply_kind.specs.Words.{reply_of}
use Rattle.gft_reply_kind.proofs.Lemmas.{other_code, tells_link}
use Rattle.gft_pass.specs.declared.cause.Cause.{Cause}
use Rattle.gft_pass.specs.declared.cause.Cause.TheVariants as causes
use Rattle.gft_book.specs.declared.usage.How.{How}
use Rattle.gft_keep.specs.Words.{keep_of}
use Rattle.gft_book.specs.Words.{SettledFile, book_of, start_now}
use Rattle.gft_library.specs.Words.{word_of_file}
use Rattle.gft_receive.proofs.Lemmas.{link_failed}
use Rattle.gft_session.specs.Jobs.{Job, is_binary, is_empty, is_name, refusal, retrieve_refusal, store_refusal}
use Rattle.gft_range.specs.declared.range.Range.{Range}
use Rattle.gft_receive.specs.Words.{marker_of}
use Rattle.gft_session.specs.Receiving.{AnswersRetrieve, AnswersStore, StoresBy, endings, limits_for, marks_due}
use Rattle.gft_session.specs.Saying.{AnswersListen, IsPassive, IsStriped, Says, SaysAndReturns, folder_reply, is_root, mode_reply, pass_reply, protection_reply, refused_reply, structure_reply, type_reply}
use Rattle.gft_session.specs.Settings.{Around, State, World, held, is_in}
use Rattle.gft_session.specs.Table.{AnswersLine, Row, is_free}

-- ---- which replies are of code 425

abbrev pub Quiet : ReplyKind → Type 0
Quiet kind = refusals (reply_of kind ∷ []) ≡ 0

quiet : (kind : ReplyKind) → tells_link kind ≡ false → Quiet kind
quiet kind other = rw (other_code kind other) refl

quiet_pass : (login : Login) → Quiet (pass_reply login)
quiet_pass logins.Named = quiet kinds.LoggedIn refl
quiet_pass _ = quiet kinds.UserFirst refl

quiet_if : (b : Bool) (x y : ReplyKind) → Quiet x → Quiet y → Quiet (if b then x else y)
quiet_if true x y p q = p
quiet_if false x y p q = q

quiet_type : (letter : ℕ) → Quiet (type_reply letter)
quiet_type letter = quiet_if (letter == 73) _ _ (quiet kinds.TypeImage refl) (quiet_if (letter == 65) _ _ (quiet kinds.TypeAscii refl) (quiet kinds.NoSuchType refl))

quiet_mode : (letter : ℕ) → Quiet (mode_reply letter)
quiet_mode letter = quiet_if (letter == 69) _ _ (quiet kinds.ModeExtended refl) (quiet_if (letter == 83) _ _ (quiet kinds.ModeStream refl) (quiet kinds.NoSuchMode refl))

quiet_structure : (letter : ℕ) → Quiet (structure_reply letter)
quiet_structure letter = quiet_if (letter == 70) _ _ (quiet kinds.StructureFile refl) (quiet kinds.NoSuchStructure refl)

quiet_protection : (letter : ℕ) → Quiet (protection_reply letter)
quiet_protection letter = quiet_if (letter == 78) _ _ (quiet kinds.NoProtection refl) (quiet kinds.OnlyNoProtection refl)

quiet_folder : (path : List ℕ) → Quiet (folder_reply path)
quiet_folder path = quiet_if (is_root path) _ _ (quiet kinds.FolderIsRoot refl) (quiet kinds.NoSuchFolder refl)

at_most_if : (b : Bool) → (if b then 1 else 0) + 0 ≤ 1
at_most_if true = omega arith
at_most_if false = omega arith

at_most_one : (reply : Reply) → refusals (reply ∷ []) ≤ 1
at_most_one reply = at_most_if (reply.code == 425)

-- ---- rows

-- what is given back lets the count rise, or leaves it
returned_rose : {L X : Type 0} (lane : L → LaneState) (a b : LinkState L X) (lanes : List L) → Returns lane a b lanes → RoseBy 0 a.faults b.faults
returned_rose lane a b [] same = rw same (omega arith)
returned_rose lane a b (first ∷ others) returns = omega (arith, returns.1.faults, returned_rose lane returns.0 b others returns.2)

says_rose : {L X : Type 0} (kind : ReplyKind) (after : State L) (old : World L X) (brought : Brought) (new : World L X) → Quiet kind → Says kind after old brought new → RoseBy (refusals brought.replies) old.link.faults new.link.faults
says_rose kind after old brought new quiet_kind row = rw (row.reply, quiet_kind, row.link) (omega arith)

returns_rose : {L X : Type 0} (lane : L → LaneState) (kind : ReplyKind) (after : State L) (old : World L X) (brought : Brought) (new : World L X) → Quiet kind → SaysAndReturns lane kind after old brought new → RoseBy (refusals brought.replies) old.link.faults new.link.faults
returns_rose lane kind after old brought new quiet_kind row = rw (row.reply, quiet_kind) (returned_rose lane old.link new.link _ row.returned)

refused_rose : {L X : Type 0} (why : LinkError) (old new : LinkState L X) → NotHandedOut old new why → RoseBy (refusals (reply_of (refused_reply why) ∷ [])) old.faults new.faults
refused_rose errors.Failed old new refused = omega (arith, at_most_one (reply_of kinds.CannotListen), refused.rose)
refused_rose errors.OutOfMemory old new same = rw (quiet kinds.OutOfMemory refl, same) (omega arith)

listen_rose : {L X : Type 0} (lane : L → LaneState) (stripes : ℕ) (IsNamed : List HostPort → ReplyKind → Type 0) (old : World L X) (brought : Brought) (new : World L X) →
    ((places : List HostPort) (kind : ReplyKind) → IsNamed places kind → Quiet kind) → AnswersListen lane stripes IsNamed old brought new → RoseBy (refusals brought.replies) old.link.faults new.link.faults
listen_rose lane stripes IsNamed old brought new named (inl refused) = rw refused.reply (refused_rose refused.why old.link new.link refused.same.refused)
listen_rose lane stripes IsNamed old brought new named (inr row) =
    let back = returned_rose lane row.listens.mid new.link _ row.listens.returned in
    rw (row.reply, named row.places row.kind row.named) (omega (arith, row.listens.handed_out.faults, back))

passive_quiet : (places : List HostPort) (kind : ReplyKind) → IsPassive places kind → Quiet kind
passive_quiet places kind named = rw named.2 (quiet (kinds.Passive named.0) refl)

striped_quiet : (places : List HostPort) (kind : ReplyKind) → IsStriped places kind → Quiet kind
striped_quiet places kind named = rw named.2 (quiet (kinds.Striped named.0) refl)

quiet_word : (word : Word) → Quiet (word_reply word)
quiet_word (words.Length len) = quiet (kinds.Length len) refl
quiet_word words.Removed = quiet kinds.Deleted refl
quiet_word (words.Stored len) = quiet kinds.Complete refl
quiet_word (words.Part len) = quiet kinds.PartStored refl
quiet_word (words.No why) = quiet (kinds.Refused why) refl

quiet_name : (why : NameError) → Quiet (name_reply why)
quiet_name (name_errors.BadName at) = quiet kinds.BadName refl
quiet_name name_errors.OutOfMemory = quiet kinds.OutOfMemory refl

asks_quiet : (call : LibraryCall) (path : List ℕ) (brought : Brought) → AsksLibrary call path brought → refusals brought.replies ≡ 0
asks_quiet call path brought (inl row) = rw row.gives (quiet_word row.word)
asks_quiet call path brought (inr row) = rw row.gives (quiet_name row.why)

asks_rose : {L X : Type 0} (call : LibraryCall) (path : List ℕ) (old : World L X) (brought : Brought) (new : World L X) → AsksLibrary call path brought × (new ≡ old) → RoseBy (refusals brought.replies) old.link.faults new.link.faults
asks_rose call path old brought new row = rw (asks_quiet call path brought row.0, row.1) (omega arith)

-- ---- lines that begin a transfer

quiet_refusal : {L : Type 0} (state : State L) (path : List ℕ) (is_part is_ready : Bool) (last why : ReplyKind) → Quiet last → refusal state path is_part is_ready last ≡ Some why → Quiet why
quiet_refusal state path is_part is_ready last why quiet_last is =
    chosen (not (is_binary state.transfer_type state.mode)) _ _ why (quiet kinds.SetTypeAndMode refl)
    (chosen (is_part && not (is_empty state.rest)) _ _ why (quiet kinds.RestElsewhere refl)
    (chosen (not (is_name path)) _ _ why (quiet kinds.BadName refl)
    (chosen (not is_ready) _ None why quiet_last (λ none. absurd (cc none))))) is
  where
    chosen : (test : Bool) (kind : ReplyKind) (other : Option ReplyKind) (why : ReplyKind) → Quiet kind → (other ≡ Some why → Quiet why) → (if test then Some kind else other) ≡ Some why → Quiet why
    chosen true kind other why quiet_kind later is' = subst Quiet (same_Some _ _ is') quiet_kind
    chosen false kind other why quiet_kind later is' = later is'

by_refusal : {P : Type 0} {Q : ReplyKind → Type 0} {R : Type 0} (found : Option ReplyKind) → (found ≡ None → P → R) → ((why : ReplyKind) → found ≡ Some why → Q why → R) → MatchOption found P Q → R
by_refusal None none some row = none refl row
by_refusal (Some why) none some row = some why refl row

retrieve_rose : {L X : Type 0} (path : List ℕ) (is_part : Bool) (old : World L X) (brought : Brought) (new : World L X) → AnswersRetrieve path is_part old brought new → RoseBy (refusals brought.replies) old.link.faults new.link.faults
retrieve_rose path is_part old brought new (inl memory) = says_rose _ _ _ _ _ (quiet kinds.OutOfMemory refl) memory
retrieve_rose path is_part old brought new (inr row) =
    by_refusal (retrieve_refusal old.state path is_part) (λ none says. says_rose _ _ _ _ _ (quiet kinds.NotBuilt refl) says)
    (λ why is says. says_rose _ _ _ _ _ (quiet_refusal old.state path is_part _ kinds.TargetsFirst why (quiet kinds.TargetsFirst refl) is) says) row

-- a lane's fault lets the count rise
fault_rose : {L X : Type 0} (lane : L → LaneState) (a b : LinkState L X) (lanes : List L) (place : ℕ) (one : L) → slice_get lanes place ≡ Some one → 1 ≤ (lane one).faults → Returns lane a b lanes → RoseBy 1 a.faults b.faults
fault_rose lane a b [] place one at fault returns = absurd (cc at)
fault_rose lane a b (first ∷ others) zero one at fault returns =
    omega (arith, returns.1.faults, ap (λ l. (lane l).faults) (same_Some _ _ at), fault, returned_rose lane returns.0 b others returns.2)
fault_rose lane a b (first ∷ others) (suc place) one at fault returns =
    omega (arith, returns.1.faults, fault_rose lane returns.0 b others place one at fault returns.2)

refusals_two : (one other : Reply) → refusals (one ∷ []) ≡ 0 → refusals (other ∷ []) ≡ 0 → refusals (one ∷ other ∷ []) ≡ 0
refusals_two one other a b = omega (arith, a, b)

-- the last replies have a 425 only where the end is the link's
endings_quiet : (end : Result SettledFile Cause) → (end ≡ Err causes.LinkFailed) ⊎ (refusals (map reply_of (endings end)) ≡ 0)
endings_quiet (Ok file) = inr (quiet_word (word_of_file file))
endings_quiet (Err causes.LinkFailed) = inl refl
endings_quiet (Err causes.Aborted) = inr (refusals_two (reply_of (kinds.Failed causes.Aborted)) (reply_of kinds.AbortDone) (quiet (kinds.Failed causes.Aborted) refl) (quiet kinds.AbortDone refl))
endings_quiet (Err (causes.Lost lane channel taken)) = inr (quiet (kinds.Failed (causes.Lost lane channel taken)) refl)
endings_quiet (Err (causes.BadBlock lane channel bad)) = inr (quiet (kinds.Failed (causes.BadBlock lane channel bad)) refl)
endings_quiet (Err (causes.TwoTotals kept new)) = inr (quiet (kinds.Failed (causes.TwoTotals kept new)) refl)
endings_quiet (Err (causes.BadTotal total)) = inr (quiet (kinds.Failed (causes.BadTotal total)) refl)
endings_quiet (Err (causes.TooManyEods total)) = inr (quiet (kinds.Failed (causes.TooManyEods total)) refl)
endings_quiet (Err (causes.Idle lane turns)) = inr (quiet (kinds.Failed (causes.Idle lane turns)) refl)
endings_quiet (Err (causes.Hole total eods missing)) = inr (quiet (kinds.Failed (causes.Hole total eods missing)) refl)
endings_quiet (Err (causes.StreamTooLong lane)) = inr (quiet (kinds.Failed (causes.StreamTooLong lane)) refl)
endings_quiet (Err (causes.TooManyChannels lane opened live)) = inr (quiet (kinds.Failed (causes.TooManyChannels lane opened live)) refl)
endings_quiet (Err causes.ControlGone) = inr (quiet (kinds.Failed causes.ControlGone) refl)
endings_quiet (Err causes.DriveFailed) = inr (quiet (kinds.Failed causes.DriveFailed) refl)
endings_quiet (Err (causes.RangesFull kept)) = inr (quiet (kinds.Failed (causes.RangesFull kept)) refl)
endings_quiet (Err causes.Memory) = inr (quiet (kinds.Failed causes.Memory) refl)

refusals_opening : (replies : List Reply) → refusals (reply_of kinds.Opening ∷ replies) ≡ refusals replies
refusals_opening replies = omega (arith, quiet kinds.Opening refl)

refusals_markers : (marks : List (List Range)) (rest : List Reply) → refusals (map marker_of marks ++ rest) ≡ refusals rest
refusals_markers [] rest = refl
refusals_markers (ranges ∷ marks) rest = omega (arith, refusals_markers marks rest)

stores_rose : {L D X : Type 0} (around : Around L D) (part : Option ℕ) (name : List ℕ) (how : How) (lanes : List L) (old : LinkState L X) (brought : Brought) (new : LinkState L X) → StoresBy around part name how lanes old brought new → RoseBy (refusals brought.replies) old.faults new.faults
stores_rose around part name how lanes old brought new row =
    let marks = marks_due row.put_failed row.told row.left in
    let none = refusals_opening (map marker_of marks ++ map reply_of (endings row.end)) in
    rw (row.replies, none, refusals_markers marks (map reply_of (endings row.end))) (elim (endings_quiet row.end) [
      | inl is ↦ let failed = link_failed around.lane (limits_for around part) (start_now (book_of around.drive row.begun)) lanes row.back (keep_of around.drive row.after.keep) row.put_failed (rw is at row.receives) in
          rw is (omega (arith, at_most_one (reply_of (kinds.Failed causes.LinkFailed)), fault_rose around.lane old new row.back failed.place failed.lane failed.at failed.fault row.returned))
      | inr zero_of ↦ rw zero_of (returned_rose around.lane old new row.back row.returned)
    ])

store_rose : {L D X : Type 0} (around : Around L D) (job : Job) (old : World L X) (brought : Brought) (new : World L X) → AnswersStore around job old brought new → RoseBy (refusals brought.replies) old.link.faults new.link.faults
store_rose around job old brought new (inl memory) = says_rose _ _ _ _ _ (quiet kinds.OutOfMemory refl) memory
store_rose around job old brought new (inr row) =
    by_refusal (store_refusal old.state job) (λ none told. elim told [
      | inl refuses ↦ rw (refuses.gives, quiet_word refuses.word, refuses.link) (omega arith)
      | inr file ↦ stores_rose around job.part file.what.name file.what.how (held old.state) old.link brought new.link file.stores
    ])
    (λ why is says. says_rose _ _ _ _ _ (quiet_refusal old.state job.path _ _ kinds.ListenFirst why (quiet kinds.ListenFirst refl) is) says) row

row_rose : {L D X : Type 0} (around : Around L D) (command : Command) (old : World L X) (brought : Brought) (new : World L X) → Row around command old brought new → RoseBy (refusals brought.replies) old.link.faults new.link.faults
row_rose around (commands.User _) old brought new row = says_rose _ _ _ _ _ (quiet kinds.PasswordPlease refl) row
row_rose around (commands.Pass _) old brought new row = says_rose _ _ _ _ _ (quiet_pass old.state.login) row
row_rose around commands.Quit old brought new row = says_rose _ _ _ _ _ (quiet kinds.Goodbye refl) row
row_rose around commands.Noop old brought new row = says_rose _ _ _ _ _ (quiet kinds.Done refl) row
row_rose around commands.Feat old brought new row = says_rose _ _ _ _ _ (quiet kinds.Features refl) row
row_rose around (commands.SetType letter) old brought new row = says_rose _ _ _ _ _ (quiet_type letter) row
row_rose around (commands.SetMode letter) old brought new row = says_rose _ _ _ _ _ (quiet_mode letter) row
row_rose around (commands.SetStru letter) old brought new row = says_rose _ _ _ _ _ (quiet_structure letter) row
row_rose around (commands.Dcau letter) old brought new row = says_rose _ _ _ _ _ (quiet_protection letter) row
row_rose around (commands.Sbuf _) old brought new row = says_rose _ _ _ _ _ (quiet kinds.BufferNoted refl) row
row_rose around (commands.Allo _) old brought new row = says_rose _ _ _ _ _ (quiet kinds.AlloNotNeeded refl) row
row_rose around (commands.Opts options) old brought new row = says_rose _ _ _ _ _ (quiet kinds.OptionsSet refl) row
row_rose around commands.Pwd old brought new row = says_rose _ _ _ _ _ (quiet kinds.OnlyFolder refl) row
row_rose around (commands.Cwd path) old brought new row = says_rose _ _ _ _ _ (quiet_folder path) row
row_rose around commands.Pasv old brought new row = listen_rose around.lane 1 IsPassive old brought new passive_quiet row
row_rose around commands.Spas old brought new row = listen_rose around.lane around.stripes IsStriped old brought new striped_quiet row
row_rose around (commands.Port at) old brought new row = returns_rose around.lane _ _ _ _ _ (quiet (kinds.TargetsSet 1) refl) row
row_rose around (commands.Spor places) old brought new row = returns_rose around.lane _ _ _ _ _ (quiet (kinds.TargetsSet (length places)) refl) row
row_rose around (commands.Rest list) old brought new row = says_rose _ _ _ _ _ (quiet kinds.RestNoted refl) row
row_rose around (commands.Stor path) old brought new row = store_rose around (record { path = path; part = None }) old brought new row
row_rose around (commands.Esto esto) old brought new row = store_rose around (record { path = esto.path; part = Some esto.offset }) old brought new row
row_rose around (commands.Retr path) old brought new row = retrieve_rose path false old brought new row
row_rose around (commands.Eret eret) old brought new row = retrieve_rose eret.path true old brought new row
row_rose around (commands.Size path) old brought new row = asks_rose Sizes path old brought new row
row_rose around (commands.Dele path) old brought new row = asks_rose Removes path old brought new row
row_rose around commands.Abor old brought new row = says_rose _ _ _ _ _ (quiet kinds.NoTransfer refl) row

by_test : (b : Bool) (P Q R : Type 0) → (P → R) → (Q → R) → MatchBool b P Q → R
by_test true P Q R p q row = p row
by_test false P Q R p q row = q row

line_rose : {L D X : Type 0} (around : Around L D) (line : List ℕ) (old : World L X) (brought : Brought) (new : World L X) → AnswersLine around line old brought new → RoseBy (refusals brought.replies) old.link.faults new.link.faults
line_rose around line old brought new (inl reads) =
    by_test (is_free reads.command || is_in old.state.login) _ _ _
    (λ row. row_rose around reads.command old brought new row) (λ first. says_rose _ _ _ _ _ (quiet kinds.LogInFirst refl) first) reads.answers
line_rose around line old brought new (inr refuses) = says_rose _ _ _ _ _ (quiet (kinds.Unread refuses.why) refl) refuses.says

-- the replies of code 425 are at most as many as the link's count rose by
pub leads_rose : {L D X : Type 0} (around : Around L D) (start : World L X) (turns : List Turn) (now : World L X) → Leads around start turns now → RoseBy (refusals_in turns) start.link.faults now.link.faults
leads_rose around start [] now same = rw same (omega arith)
leads_rose around start (turn ∷ older) now leads =
    omega (arith, leads_rose around start older leads.0 leads.1, line_rose around turn.line leads.0 turn.brought now leads.2)
