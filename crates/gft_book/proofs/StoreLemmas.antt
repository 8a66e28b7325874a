-- A Book before and after `store`.
use Rattle.std.proofs.Common.{◌≡◌, ◌⊎◌, ℕ, ◌+◌, ◌≤◌, List, length, Some, None, refl, sym, ap, ◌∙◌, subst, ⊎_elim, inl, inr, arith}
use Rattle.std.specs.Prelude.{Option, IsSome, IfSome}
use Rattle.std.proofs.lemmas.Option.{none-some}
use Rattle.gft_base.specs.Words.{Rose}
use Rattle.gft_range.specs.declared.Range.{Range}
use Rattle.gft_drive.specs.Words.{Image, Sent}
use Rattle.gft_eod.specs.Words.{IsMet}
use Rattle.gft_keep.specs.declared.Standing.{Standing}
use Rattle.gft_keep.specs.declared.Standing.TheVariants.{Whole, Emptying, Torn}
use Rattle.gft_keep.specs.declared.KeepError.{KeepError}
use Rattle.gft_keep.specs.declared.KeepError.TheVariants.{RangesFull, OutOfMemory, Failed}
use Rattle.gft_keep.specs.Words.{IsBlock, IsKeep, KeepState, MovesBy, Refused, Stored, StoresSome, block_of, keep_of}
use Rattle.gft_core.specs.declared.CoreEvent.{CoreEvent}
use Rattle.gft_core.specs.Words.{held}
use Rattle.gft_pass.specs.declared.Cause.{Cause}
use Rattle.gft_pass.specs.declared.Cause.TheVariants.{DriveFailed}
use Rattle.gft_pass.specs.declared.Numbers.{Numbers}
use Rattle.gft_pass.specs.Words.{Lane, Ledger}
use Rattle.gft_pass.proofs.Lemmas.{length-set}
use Rattle.gft_book.specs.declared.transfer.Transfer.{Transfer}
use Rattle.gft_book.specs.declared.transfer.Stage.{Stage}
use Rattle.gft_book.specs.declared.transfer.Stage.TheVariants.{Rest, Storing, Reading}
use Rattle.gft_book.specs.Book.{BookState, HasKeptCause, HasMetTotal, IsLanePass, IsPass, Moving, cause_of, transfer_of}
use Rattle.gft_book.specs.Keeping.{Keeps, NeverFalls}
use Rattle.gft_book.specs.Facts.{ImagesAreFrom, IsBook, IsEnded, IsTransfer, MarksHold, standing_after}
use Rattle.gft_book.specs.Fits.{Fits, StoresEvents, if_running, store_events}
use Rattle.gft_drive.specs.Words.{DriveState}
use Rattle.gft_book.specs.Book.{Seen, book_of, up_to_last}
use Rattle.gft_book.specs.Calls.{CallsOn, ChangesPass, CarriesOn, FindsEnded, FindsFailed, KeepsCause, NotesEnd, RunsOn, SameTransfer, SendsBlock, cause_of_keep, more_bytes, turns_after}
use Rattle.gft_book.proofs.ChoiceLemmas.{not_there, off}
use Rattle.gft_book.proofs.KeepLemmas.{IsReadImage, Keeps-by, Keeps-same, has_same, stores_held, union_old}
use Rattle.gft_book.proofs.TransferLemmas.{IsTransfer-noted, IsTransfer-refused, IsTransfer-stored, MarksHold-more, honest_in, in_transfer, moved, moving, origin-store, storing_reads, transfer_is}
use Rattle.gft_book.proofs.FitLemmas.{Fits-noted, Fits-refused, Fits-stored, SameUnless, cut_legal}

-- a transfer's facts, put back into its stage
with_stage : (sent : List ℕ → Option Sent) (keep : KeepState) (stage : Stage) (t : Transfer) → stage ≡ Storing t → IsTransfer sent keep t → IfSome (transfer_of stage) (IsTransfer sent keep)
with_stage sent keep stage t is h = subst (λ (s : Stage). IfSome (transfer_of s) (IsTransfer sent keep)) (sym is) h

never_reading : (stage : Stage) (t : Transfer) → stage ≡ Storing t → (n : ℕ) → stage ≡ Reading n → 1 ≤ n
never_reading stage t is n reads = storing_reads t n (sym is ∙ reads)

pub cause_in : (stage : Stage) (t : Transfer) → stage ≡ Storing t → cause_of stage ≡ t.cause
cause_in stage t is = ap cause_of is

-- how a keep stands while its transfer is there
pub never_emptying : (cause : Option Cause) (standing : Standing) → standing ≡ standing_after cause → standing ≡ Emptying → ⊥
never_emptying None standing is e = let w : Whole ≡ Emptying = sym is ∙ e in cc
never_emptying (Some DriveFailed) standing is e = let w : Torn ≡ Emptying = sym is ∙ e in cc
never_emptying (Some other) standing is e = let w : Whole ≡ Emptying = sym is ∙ e in cc

pub whole_or_torn : (cause : Option Cause) (standing : Standing) → standing ≡ standing_after cause → (standing ≡ Whole) ⊎ (standing ≡ Torn)
whole_or_torn None standing is = inl is
whole_or_torn (Some DriveFailed) standing is = inr is
whole_or_torn (Some other) standing is = inl is

pub same_transfer : (m : Numbers) (before after : Lane) (t u : Transfer) → ChangesPass m before after t u → SameTransfer t u
same_transfer m before after t u moves =
    record {
      table = ap (λ (l : Ledger). l.table) moves.roster;
      passes = ap (λ (l : Ledger). length l.counts) moves.roster ∙ length-set t.roster.counts before.lane m;
      how = moves.how;
    }

-- ---- the transfer had failed

-- a transfer that a call finds failed, or met
notes_of : (before after : Lane) (t u : Transfer) → FindsFailed before after t u → NotesEnd before after t u
notes_of before after t u f = record { moves = f.moves; count = f.count; cause = f.cause }

found_notes : (before after : Lane) (old new : Stage) → Moving (FindsFailed before after) old new → Moving (NotesEnd before after) old new
found_notes before after old new found =
    let m = moved (FindsFailed before after) old new found in
    moving (NotesEnd before after) old new m.before m.after m.was m.is (notes_of before after m.before m.after m.so)

met_in : (stage : Stage) (t : Transfer) → stage ≡ Storing t → HasMetTotal stage → IsMet t.count
met_in stage t is h = subst HasMetTotal is h

ended_in : (stage : Stage) (t : Transfer) → stage ≡ Storing t → HasKeptCause stage ⊎ HasMetTotal stage → IsEnded t.count t.cause
ended_in stage t is h = ⊎_elim
    (λ (kept : HasKeptCause stage). inl (subst (λ (o : Option Cause). IsSome o) (cause_in stage t is) kept))
    (λ (met : HasMetTotal stage). inr (met_in stage t is met))
    h

pub IsBook-noted : (sent : List ℕ → Option Sent) (old new : BookState) (before after : Lane) → IsBook sent old → FindsEnded before after old.stage new.stage → new.keep ≡ old.keep → new.marks ≡ old.marks → IsBook sent new
IsBook-noted sent old new before after b found keep marks =
    let m = moved (NotesEnd before after) old.stage new.stage found.notes in
    let t = IsTransfer-noted sent old.keep m.before m.after before after (ended_in old.stage m.before m.was found.ended) m.so (transfer_is sent old m.before m.was b) in
    record {
      keep = subst IsKeep (sym keep) b.keep;
      marks = subst (λ k. MarksHold k new.marks) (sym keep) (subst (λ l. MarksHold old.keep l) (sym marks) b.marks);
      origin = subst (λ (k : KeepState). ImagesAreFrom sent k) (sym keep) b.origin;
      transfer = with_stage sent new.keep new.stage m.after m.is (subst (λ k. IsTransfer sent k m.after) (sym keep) t);
      reading = never_reading new.stage m.after m.is;
    }

pub IsBook-found : (sent : List ℕ → Option Sent) (old new : BookState) (before after : Lane) → IsBook sent old → Moving (FindsFailed before after) old.stage new.stage → new.keep ≡ old.keep → new.marks ≡ old.marks → IsBook sent new
IsBook-found sent old new before after b found keep marks =
    let m = moved (FindsFailed before after) old.stage new.stage found in
    let failed = subst (λ (o : Option Cause). IsSome o) (sym (cause_in old.stage m.before m.was)) m.so.failed in
    IsBook-noted sent old new before after b (record { ended = inl failed; notes = found_notes before after old.stage new.stage found }) keep marks

pub CarriesOn-same : (sent : List ℕ → Option Sent) (old new : BookState) → IsBook sent old → Moving SameTransfer old.stage new.stage → new.keep ≡ old.keep → new.last ≡ old.last
    → (cause_of new.stage ≡ Some DriveFailed → cause_of old.stage ≡ Some DriveFailed) → CarriesOn old new
CarriesOn-same sent old new b moving keep last failed =
    let m = moved SameTransfer old.stage new.stage moving in
    let t = transfer_is sent old m.before m.was b in
    record {
      keeps = subst (Keeps old.keep) (sym keep) (Keeps-same old.keep b.keep (whole_or_torn m.before.cause old.keep.standing t.standing));
      transfer = moving;
      last = last;
      failed = λ is. inl (failed is);
    }

block_keeps : (keep : KeepState) (offset : ℕ) (bytes : List ℕ) (from image : Image) → IsReadImage keep from → StoresSome offset bytes from image → (x v : ℕ) → held from x ≡ Some v → held image x ≡ Some v
block_keeps keep offset bytes from image read s x v here = (stores_held keep offset bytes from image read s).kept x v here

noted_same : (before after : Lane) (old new : Stage) → Moving (NotesEnd before after) old new → Moving SameTransfer old new
noted_same before after old new noted =
    let m = moved (NotesEnd before after) old new noted in
    moving SameTransfer old new m.before m.after m.was m.is (same_transfer _ before after m.before m.after m.so.moves)

-- a call that changes nothing
pub CarriesOn-still : (sent : List ℕ → Option Sent) (book : BookState) (pass : Lane) → IsBook sent book → IsPass book.stage pass → CarriesOn book book
CarriesOn-still sent book pass b mine = CarriesOn-same sent book book b (still_moving book.stage mine) refl refl (λ is. is)
  where
    still_moving : (stage : Stage) → IsPass stage pass → Moving SameTransfer stage stage
    still_moving (Storing t) there = record { table = refl; passes = refl; how = refl }
    still_moving Rest there = absurd there
    still_moving (Reading n) there = absurd there

-- a call that finds it ended
pub CarriesOn-noted : (sent : List ℕ → Option Sent) (old new : BookState) (before after : Lane) → IsBook sent old → FindsEnded before after old.stage new.stage → new.keep ≡ old.keep → new.last ≡ old.last → CarriesOn old new
CarriesOn-noted sent old new before after b found keep last =
    let m = moved (NotesEnd before after) old.stage new.stage found.notes in
    let cause : cause_of new.stage ≡ cause_of old.stage = cause_in new.stage m.after m.is ∙ m.so.cause ∙ sym (cause_in old.stage m.before m.was) in
    CarriesOn-same sent old new b (noted_same before after old.stage new.stage found.notes) keep last (λ is. sym cause ∙ is)

found_same : (before after : Lane) (old new : Stage) → Moving (FindsFailed before after) old new → Moving SameTransfer old new
found_same before after old new found = noted_same before after old new (found_notes before after old new found)

found_cause : (before after : Lane) (old new : Stage) → Moving (FindsFailed before after) old new → (cause_of new ≡ cause_of old) × IsSome (cause_of old)
found_cause before after old new found =
    let m = moved (FindsFailed before after) old new found in (
      cause_in new m.after m.is ∙ m.so.cause ∙ sym (cause_in old m.before m.was),
      subst (λ (o : Option Cause). IsSome o) (sym (cause_in old m.before m.was)) m.so.failed,
    )

turns_failed : (cause : Option Cause) (turns : ℕ) → IsSome cause → turns ≡ turns_after cause turns
turns_failed None turns some = absurd (off some)
turns_failed (Some c) turns some = refl

turns_running : (cause : Option Cause) (turns : ℕ) → cause ≡ None → up_to_last (turns + 1) ≡ turns_after cause turns
turns_running cause turns none = ap (λ (o : Option Cause). turns_after o turns) (sym none)

-- a call that found the transfer failed
pub CallsOn-found : {D : Type 0} (state : D → DriveState) (sent : List ℕ → Option Sent) (old new : Seen D) (before after : Lane) → IsBook sent (book_of state old) → Moving (FindsFailed before after) old.stage new.stage
    → new.keep ≡ old.keep → new.last ≡ old.last → new.turns ≡ old.turns → new.marks ≡ old.marks → CallsOn state old new
CallsOn-found state sent old new before after b found keep last turns marks =
    let cause = found_cause before after old.stage new.stage found in
    record {
      goes_on = CarriesOn-same sent (book_of state old) (book_of state new) b (found_same before after old.stage new.stage found) (ap (λ k. keep_of state k) keep) last (λ is. sym cause.0 ∙ is);
      turns = turns ∙ turns_failed (cause_of old.stage) old.turns cause.1;
      marks = marks;
      untouched = λ _. keep;
    }

-- a call that found it running, and left the keep as it was
pub CallsOn-same : {D : Type 0} (state : D → DriveState) (sent : List ℕ → Option Sent) (old new : Seen D) → IsBook sent (book_of state old) → Moving SameTransfer old.stage new.stage → cause_of old.stage ≡ None → (cause_of new.stage ≡ Some DriveFailed → ⊥)
    → new.keep ≡ old.keep → new.last ≡ old.last → new.turns ≡ up_to_last (old.turns + 1) → new.marks ≡ old.marks → CallsOn state old new
CallsOn-same state sent old new b same none never keep last turns marks =
    record {
      goes_on = CarriesOn-same sent (book_of state old) (book_of state new) b same (ap (λ k. keep_of state k) keep) last (λ is. absurd (never is));
      turns = turns ∙ turns_running (cause_of old.stage) old.turns none;
      marks = marks;
      untouched = λ some. absurd (not_there (cause_of old.stage) none some);
    }

-- a call that found it running, and that the keep answered
pub CallsOn-went : {D : Type 0} (state : D → DriveState) (old new : Seen D) → CarriesOn (book_of state old) (book_of state new) → cause_of old.stage ≡ None → new.turns ≡ up_to_last (old.turns + 1) → new.marks ≡ old.marks → CallsOn state old new
CallsOn-went state old new goes_on none turns marks =
    record {
      goes_on = goes_on;
      turns = turns ∙ turns_running (cause_of old.stage) old.turns none;
      marks = marks;
      untouched = λ some. absurd (not_there (cause_of old.stage) none some);
    }

pub ran_stored : (m : _) (before after : Lane) (old new : Stage) → Moving (λ t u. RunsOn m t.count before after t u) old new → cause_of old ≡ None
ran_stored m before after old new moves =
    let s = moved (λ t u. RunsOn m t.count before after t u) old new moves in cause_in old s.before s.was ∙ s.so.running

pub ran_failed : (cause : Cause) (before after : Lane) (old new : Stage) → Moving (KeepsCause cause before after) old new → cause_of old ≡ None
ran_failed cause before after old new moves =
    let s = moved (KeepsCause cause before after) old new moves in cause_in old s.before s.was ∙ s.so.running

-- ---- the block was stored

record StoredBlock (sent : List ℕ → Option Sent) (old new : BookState) (before after : Lane) (offset : ℕ) (bytes : List ℕ) (added : ℕ) : Type 0 where
  pub t : Transfer
  pub u : Transfer
  pub was : old.stage ≡ Storing t
  pub is : new.stage ≡ Storing u
  pub runs : RunsOn (more_bytes (length bytes) before.count) t.count before after t u
  pub facts : IsTransfer sent old.keep t
  pub whole : old.keep.standing ≡ Whole

stored_block : (sent : List ℕ → Option Sent) (old new : BookState) (before after : Lane) (offset : ℕ) (bytes : List ℕ) (added : ℕ) → IsBook sent old
    → Moving (λ t u. RunsOn (more_bytes (length bytes) before.count) t.count before after t u) old.stage new.stage → StoredBlock sent old new before after offset bytes added
stored_block sent old new before after offset bytes added b moving =
    let m = moved (λ t u. RunsOn (more_bytes (length bytes) before.count) t.count before after t u) old.stage new.stage moving in
    let facts = transfer_is sent old m.before m.was b in
    record { t = m.before; u = m.after; was = m.was; is = m.is; runs = m.so; facts = facts; whole = facts.standing ∙ ap standing_after m.so.running }

pub IsBook-stored : (sent : List ℕ → Option Sent) (old new : BookState) (before after : Lane) (offset : ℕ) (bytes : List ℕ) (added : ℕ) → IsBook sent old
    → IsLanePass old.stage before → IsBlock offset bytes → SendsBlock sent old before offset bytes
    → MovesBy (StoresSome offset bytes) old.keep new.keep → Stored old.keep new.keep offset bytes added
    → Moving (λ t u. RunsOn (more_bytes (length bytes) before.count) t.count before after t u) old.stage new.stage → new.marks ≡ old.marks → IsBook sent new
IsBook-stored sent old new before after offset bytes added b pass block sends by st moving marks =
    let s = stored_block sent old new before after offset bytes added b moving in
    let honest = honest_in sent old s.t before offset bytes s.was sends in
    let more = union_old old.keep.ranges new.keep.ranges offset bytes st.union in
    record {
      keep = by.keep;
      marks = subst (λ l. MarksHold new.keep l) (sym marks) (MarksHold-more old.keep new.keep old.marks by.time.goes.tells.0 more (λ e. let w : Whole ≡ Emptying = sym st.whole ∙ e in cc) b.marks);
      origin = origin-store sent old.keep new.keep offset bytes s.whole b.keep by _ honest b.origin;
      transfer = with_stage sent new.keep new.stage s.u s.is
          (IsTransfer-stored sent old.keep new.keep s.t s.u before after offset bytes added s.runs (in_transfer _ old.stage s.t s.was pass).1 block honest by.time.goes.label st s.facts);
      reading = never_reading new.stage s.u s.is;
    }

pub CarriesOn-stored : (sent : List ℕ → Option Sent) (old new : BookState) (before after : Lane) (offset : ℕ) (bytes : List ℕ) (added : ℕ) → IsBook sent old
    → MovesBy (StoresSome offset bytes) old.keep new.keep → Stored old.keep new.keep offset bytes added
    → Moving (λ t u. RunsOn (more_bytes (length bytes) before.count) t.count before after t u) old.stage new.stage → new.last ≡ old.last → CarriesOn old new
CarriesOn-stored sent old new before after offset bytes added b by st moves last =
    let s = stored_block sent old new before after offset bytes added b moves in
    record {
      keeps = Keeps-by (StoresSome offset bytes) old.keep new.keep s.whole b.keep (block_keeps old.keep offset bytes) by.any_moment by.time (omega (arith, st.faults)) (union_old old.keep.ranges new.keep.ranges offset bytes st.union);
      transfer = moving SameTransfer old.stage new.stage s.t s.u s.was s.is (same_transfer (more_bytes (length bytes) before.count) before after s.t s.u s.runs.moves);
      last = last;
      failed = λ is. absurd (none-some DriveFailed (sym (sym is ∙ (cause_in new.stage s.u s.is ∙ s.runs.cause))));
    }

pub Fits-store : (sent : List ℕ → Option Sent) (old new : BookState) (before after : Lane) (offset : ℕ) (bytes : List ℕ) (added : ℕ) → IsBook sent old
    → MovesBy (StoresSome offset bytes) old.keep new.keep → Stored old.keep new.keep offset bytes added
    → Moving (λ t u. RunsOn (more_bytes (length bytes) before.count) t.count before after t u) old.stage new.stage → new.marks ≡ old.marks
    → (events : List CoreEvent) → Fits old events → StoresEvents old new before.lane offset bytes events
Fits-store sent old new before after offset bytes added b by st moving marks events f =
    let s = stored_block sent old new before after offset bytes added b moving in
    let no_cause : cause_of old.stage ≡ None = cause_in old.stage s.t s.was ∙ s.runs.running in
    let no_cause' : cause_of new.stage ≡ None = cause_in new.stage s.u s.is ∙ s.runs.cause in
    record {
      fits =
          subst (λ c. Fits new (store_events c (cause_of new.stage) before.lane offset bytes events)) (sym no_cause)
          (subst (λ c. Fits new (store_events None c before.lane offset bytes events)) (sym no_cause')
          (Fits-stored old new s.t s.u before after before.lane offset bytes added _ events s.was s.is marks s.whole b.keep by st s.runs f));
      cut_short = λ _ told image left. cut_legal old new.keep before.lane offset bytes events s.whole b.keep by f told image left;
    }

-- ---- the block was refused

record RefusedBlock (sent : List ℕ → Option Sent) (old new : BookState) (before after : Lane) (error : KeepError) : Type 0 where
  pub t : Transfer
  pub u : Transfer
  pub was : old.stage ≡ Storing t
  pub is : new.stage ≡ Storing u
  pub fails : KeepsCause (cause_of_keep error) before after t u
  pub facts : IsTransfer sent old.keep t
  pub whole : old.keep.standing ≡ Whole

refused_block : (sent : List ℕ → Option Sent) (old new : BookState) (before after : Lane) (error : KeepError) → IsBook sent old → Moving (KeepsCause (cause_of_keep error) before after) old.stage new.stage → RefusedBlock sent old new before after error
refused_block sent old new before after error b moving =
    let m = moved (KeepsCause (cause_of_keep error) before after) old.stage new.stage moving in
    let facts = transfer_is sent old m.before m.was b in
    record { t = m.before; u = m.after; was = m.was; is = m.is; fails = m.so; facts = facts; whole = facts.standing ∙ ap standing_after m.so.running }

pub IsBook-refused : (unchanged : Type 0) (sent : List ℕ → Option Sent) (old new : BookState) (before after : Lane) (offset : ℕ) (bytes : List ℕ) (error : KeepError) → IsBook sent old
    → SendsBlock sent old before offset bytes
    → MovesBy (StoresSome offset bytes) old.keep new.keep → (unchanged → new.keep.standing ≡ old.keep.standing) → Refused unchanged old.keep new.keep (block_of offset bytes) error
    → Moving (KeepsCause (cause_of_keep error) before after) old.stage new.stage → new.marks ≡ old.marks → IsBook sent new
IsBook-refused unchanged sent old new before after offset bytes error b sends by same r moving marks =
    let s = refused_block sent old new before after error b moving in
    let honest = honest_in sent old s.t before offset bytes s.was sends in
    let t = IsTransfer-refused unchanged sent old.keep new.keep s.t s.u before after offset bytes error s.fails honest by.time b.keep b.origin same r s.facts in
    record {
      keep = by.keep;
      marks = subst (λ l. MarksHold new.keep l) (sym marks) (MarksHold-more old.keep new.keep old.marks by.time.goes.tells.0 (has_same old.keep new.keep r.same.ranges) (never_emptying s.u.cause new.keep.standing t.standing) b.marks);
      origin = origin-store sent old.keep new.keep offset bytes s.whole b.keep by _ honest b.origin;
      transfer = with_stage sent new.keep new.stage s.u s.is t;
      reading = never_reading new.stage s.u s.is;
    }

drive_failed : (error : KeepError) (unchanged : Type 0) (old new : KeepState) (block : Range) → Refused unchanged old new block error → Some (cause_of_keep error) ≡ Some DriveFailed → Rose old.drive.faults new.drive.faults
drive_failed (RangesFull n) unchanged old new block r is = cc
drive_failed OutOfMemory unchanged old new block r is = cc
drive_failed Failed unchanged old new block r is = r.shows.0

pub counted_on : (error : KeepError) (unchanged : Type 0) (old new : KeepState) (block : Range) → (unchanged → new.drive.faults ≡ old.drive.faults) → Refused unchanged old new block error → NeverFalls old.drive.faults new.drive.faults
counted_on (RangesFull n) unchanged old new block same r = let e = same (r.kept (λ e. cc)) in omega (arith, e)
counted_on OutOfMemory unchanged old new block same r = let e = same (r.kept (λ e. cc)) in omega (arith, e)
counted_on Failed unchanged old new block same r = let rose = r.shows.0 in omega (arith, rose)

pub CarriesOn-refused : (unchanged : Type 0) (sent : List ℕ → Option Sent) (old new : BookState) (before after : Lane) (offset : ℕ) (bytes : List ℕ) (error : KeepError) → IsBook sent old
    → MovesBy (StoresSome offset bytes) old.keep new.keep → NeverFalls old.keep.drive.faults new.keep.drive.faults → Refused unchanged old.keep new.keep (block_of offset bytes) error
    → Moving (KeepsCause (cause_of_keep error) before after) old.stage new.stage → new.last ≡ old.last → CarriesOn old new
CarriesOn-refused unchanged sent old new before after offset bytes error b by counted r moves last =
    let s = refused_block sent old new before after error b moves in
    record {
      keeps = Keeps-by (StoresSome offset bytes) old.keep new.keep s.whole b.keep (block_keeps old.keep offset bytes) by.any_moment by.time counted (has_same old.keep new.keep r.same.ranges);
      transfer = moving SameTransfer old.stage new.stage s.t s.u s.was s.is (same_transfer _ before after s.t s.u s.fails.moves);
      last = last;
      failed = λ is. inr (drive_failed error unchanged old.keep new.keep (block_of offset bytes) r (sym (cause_in new.stage s.u s.is ∙ s.fails.kept) ∙ is));
    }

pub Fits-refuse : (unchanged : Type 0) (sent : List ℕ → Option Sent) (old new : BookState) (before after : Lane) (offset : ℕ) (bytes : List ℕ) (error : KeepError) → IsBook sent old
    → SameUnless error old.keep new.keep
    → MovesBy (StoresSome offset bytes) old.keep new.keep → Refused unchanged old.keep new.keep (block_of offset bytes) error
    → Moving (KeepsCause (cause_of_keep error) before after) old.stage new.stage → new.marks ≡ old.marks
    → (events : List CoreEvent) → Fits old events → StoresEvents old new before.lane offset bytes events
Fits-refuse unchanged sent old new before after offset bytes error b same by r moving marks events f =
    let s = refused_block sent old new before after error b moving in
    let no_cause : cause_of old.stage ≡ None = cause_in old.stage s.t s.was ∙ s.fails.running in
    let cause' : cause_of new.stage ≡ Some (cause_of_keep error) = cause_in new.stage s.u s.is ∙ s.fails.kept in
    record {
      fits =
          subst (λ c. Fits new (store_events c (cause_of new.stage) before.lane offset bytes events)) (sym no_cause)
          (subst (λ c. Fits new (store_events None c before.lane offset bytes events)) (sym cause')
          (Fits-refused error unchanged old new s.t s.u before after before.lane offset bytes events same s.was s.is marks s.whole b.keep by r s.fails f));
      cut_short = λ _ told image left. cut_legal old new.keep before.lane offset bytes events s.whole b.keep by f told image left;
    }

-- the events of a call that found the transfer ended: none
pub Fits-noted_stage : (old new : BookState) (before after : Lane) → Moving (NotesEnd before after) old.stage new.stage → new.keep ≡ old.keep → new.marks ≡ old.marks → (events : List CoreEvent) → Fits old events → Fits new events
Fits-noted_stage old new before after noted keep marks events f =
    let m = moved (NotesEnd before after) old.stage new.stage noted in
    Fits-noted old new m.before m.after before after events keep m.was m.is marks m.so f

-- the events of a call that found the transfer failed
pub Fits-stopped : (old new : BookState) (before after : Lane) → Moving (FindsFailed before after) old.stage new.stage → new.keep ≡ old.keep → new.marks ≡ old.marks
    → (more : List CoreEvent) (events : List CoreEvent) → Fits old events → Fits new (if_running (cause_of old.stage) more events)
Fits-stopped old new before after moving keep marks more events f =
    let m = moved (FindsFailed before after) old.stage new.stage moving in
    no_event (cause_of old.stage) (subst (λ (o : Option Cause). IsSome o) (sym (cause_in old.stage m.before m.was)) m.so.failed)
  where
    here : Fits new events
    here = Fits-noted_stage old new before after (found_notes before after old.stage new.stage moving) keep marks events f

    no_event : (o : Option Cause) → IsSome o → Fits new (if_running o more events)
    no_event (Some c) there = here
    no_event None there = absurd (off there)

-- such a call of `store`
pub Fits-stopped_store : (old new : BookState) (before after : Lane) (offset : ℕ) (bytes : List ℕ) → Moving (FindsFailed before after) old.stage new.stage → new.keep ≡ old.keep → new.marks ≡ old.marks
    → (events : List CoreEvent) → Fits old events → StoresEvents old new before.lane offset bytes events
Fits-stopped_store old new before after offset bytes moving keep marks events f =
    let m = moved (FindsFailed before after) old.stage new.stage moving in
    record {
      fits = Fits-stopped old new before after moving keep marks _ events f;
      cut_short = λ none. absurd (not_there m.before.cause (sym (cause_in old.stage m.before m.was) ∙ none) m.so.failed);
    }
