-- Which lists of events fit a Book after a call with a pass.
use Rattle.std.proofs.Common.{◌≡◌, ◌≢◌, ◌↔◌, ℕ, List, [], ◌∷◌, Some, None, true, false, refl, sym, ap, ◌∙◌, subst, ⊎_elim, inl, inr}
use Rattle.std.specs.Prelude.{Option, IsSome, IfSome}
use Rattle.std.proofs.lemmas.Option.{none-some, same_Some}
use Rattle.gft_range.specs.declared.Range.{Range}
use Rattle.gft_range.specs.Words.{HasOffset}
use Rattle.gft_drive.specs.Words.{Image, MayLeave}
use Rattle.gft_eod.specs.Words.{Count}
use Rattle.gft_keep.specs.declared.Standing.{Standing}
use Rattle.gft_keep.specs.declared.Standing.TheVariants.{Whole, Emptying, Torn}
use Rattle.gft_keep.specs.declared.KeepError.{KeepError}
use Rattle.gft_keep.specs.declared.KeepError.TheVariants.{RangesFull, OutOfMemory, Failed}
use Rattle.gft_keep.specs.Words.{EachImage, IsKeep, KeepState, MovesBy, Refused, Stored, StoresSome, block_of, keep_of}
use Rattle.gft_keep.specs.declared.Keep.{Keep}
use Rattle.gft_drive.specs.Words.{DriveState}
use Rattle.gft_core.specs.declared.CoreEvent.{CoreEvent}
use Rattle.gft_core.specs.declared.CoreEvent.TheVariants.{Block, Eod, Eof, Lost, Fault, Abort, Mark, Crash, Fresh, Resume}
use Rattle.gft_core.specs.Words.{Booked, CountsTransfer, IsInProgress, Legal, begun, byte_at, first_some, held, is_open, kept, may_wait, pending, since}
use Rattle.gft_core.specs.Legal.{LeavesImage, Resumes}
use Rattle.gft_core.proofs.Lemmas.{counts_block, first_some-none, first_some_back, first_some_either, first_some_front, image_holds, same_options}
use Rattle.gft_pass.specs.declared.Cause.{Cause}
use Rattle.gft_pass.specs.Words.{Lane}
use Rattle.gft_book.specs.declared.mark.Mark.{Mark as BookMark}
use Rattle.gft_book.specs.declared.transfer.Transfer.{Transfer}
use Rattle.gft_book.specs.declared.transfer.Stage.{Stage}
use Rattle.gft_book.specs.declared.transfer.Stage.TheVariants.{Storing}
use Rattle.gft_book.specs.Book.{BookState, transfer_of}
use Rattle.gft_book.specs.Fits.{AreMarks, Fits, MayGoOn, TellsTransfer, stored_events}
use Rattle.gft_book.specs.Calls.{KeepsCause, NotesEnd, RunsOn, cause_of_keep}
use Rattle.gft_book.proofs.ChoiceLemmas.{if_some, is_there, not_there, off, some_there}
use Rattle.gft_book.proofs.KeepLemmas.{held_covers, held_stored, image_since, stores_held, union_has, union_new, union_old, whole_read}

-- ---- the transfer's events

pub runs_of : (book : BookState) (events : List CoreEvent) (t : Transfer) → book.stage ≡ Storing t → Fits book events → TellsTransfer events t
runs_of book events t is f = if_some (transfer_of book.stage) (TellsTransfer events) t (ap transfer_of is) f.transfer

marks_of : (book : BookState) (events : List CoreEvent) (t : Transfer) → book.stage ≡ Storing t → Fits book events → AreMarks events book.marks
marks_of book events t is f = f.marks (some_there (transfer_of book.stage) t (ap transfer_of is))

-- where the keep stands whole, no Block is open
pub whole_shut : (book : BookState) (events : List CoreEvent) → book.keep.standing ≡ Whole → Fits book events → is_open events ≡ false
whole_shut book events whole f = f.closed (λ torn. let w : Whole ≡ Torn = sym whole ∙ torn in cc)

-- a call that finds the transfer ended is no event
pub Fits-noted : (old new : BookState) (t u : Transfer) (before after : Lane) (events : List CoreEvent) → new.keep ≡ old.keep → old.stage ≡ Storing t → new.stage ≡ Storing u → new.marks ≡ old.marks → NotesEnd before after t u → Fits old events → Fits new events
Fits-noted old new t u before after events keep was is marks found f =
    let runs = runs_of old events t was f in
    record {
      legal = f.legal;
      booked = λ x. subst (λ (k : KeepState). HasOffset k.ranges x ↔ Booked events x) (sym keep) (f.booked x);
      images = subst (λ (k : KeepState). EachImage k (MayGoOn k.standing events)) (sym keep) f.images;
      closed = subst (λ (k : KeepState). (k.standing ≡ Torn → ⊥) → is_open events ≡ false) (sym keep) f.closed;
      transfer = subst (λ (s : Stage). IfSome (transfer_of s) (TellsTransfer events)) (sym is)
          (record {
            begun = runs.begun;
            counts = λ none. subst (CountsTransfer (since events)) (sym found.count) (runs.counts (sym found.cause ∙ none));
            failed = λ some. runs.failed (subst (λ (o : Option Cause). IsSome o) found.cause some);
          });
      marks = λ some. subst (λ (l : List BookMark). AreMarks events l) (sym marks) (marks_of old events t was f);
    }

-- ---- events that fail a transfer

pub broken-lost : (transfer : List CoreEvent) (n : ℕ) → ¬ IsInProgress (Lost ∷ transfer) n
broken-lost transfer n running = running.passes.1

pub broken-fault : (transfer : List CoreEvent) (n : ℕ) → ¬ IsInProgress (Fault ∷ transfer) n
broken-fault transfer n running = running.passes.1

pub broken-abort : (transfer : List CoreEvent) (n : ℕ) → ¬ IsInProgress (Abort ∷ transfer) n
broken-abort transfer n running = running.passes.1

-- ---- an event that brings no byte

pub record IsQuiet (e : CoreEvent) (events : List CoreEvent) : Type 0 where
  pub kept : (x : ℕ) → kept (e ∷ events) x ≡ first_some (kept events x) None
  pub pending : (x : ℕ) → pending (e ∷ events) x ≡ first_some (pending events x) None
  pub closed : is_open (e ∷ events) ≡ is_open events
  pub leaves : LeavesImage events e
  pub resumes : Resumes events e

-- an image that continues the events continues them with such an event
legal_more : (e : CoreEvent) (image : Image) (events : List CoreEvent) → IsQuiet e events → begun events ≡ true → Legal (e ∷ events) → Legal (Crash image ∷ events) → Legal (Crash image ∷ (e ∷ events))
legal_more e image [] q running legal_e legal = absurd (off running)
legal_more e image (f ∷ older) q running legal_e legal = (
  legal_e,
  (λ _. refl),
  record {
    booked = λ x v k. legal.2.booked x v (sym (first_some-none (kept (f ∷ older) x)) ∙ sym (q.kept x) ∙ k);
    further = λ x c none.
        let there = legal.2.further x c (sym (first_some-none (kept (f ∷ older) x)) ∙ sym (q.kept x) ∙ none) in
        (there.0, q.pending x ∙ first_some_front (pending (f ∷ older) x) None there.0 there.1, there.2);
  },
  tt,
)

goes_on_more : (how : Standing) (e : CoreEvent) (image : Image) (events : List CoreEvent) → IsQuiet e events → begun events ≡ true → Legal (e ∷ events) → MayGoOn how events image → MayGoOn how (e ∷ events) image
goes_on_more Whole e image events q running legal_e g = legal_more e image events q running legal_e g
goes_on_more Torn e image events q running legal_e g = legal_more e image events q running legal_e g
goes_on_more Emptying e image events q running legal_e g = ⊎_elim (λ l. inl (legal_more e image events q running legal_e l)) (λ none. inr none) g

pub Fits-quiet : (old new : BookState) (t u : Transfer) (e : CoreEvent) (events : List CoreEvent) → new.keep ≡ old.keep → old.stage ≡ Storing t → new.stage ≡ Storing u → IsQuiet e events
    → (is_open events ≡ true → may_wait e ≡ true)
    → (AreMarks events old.marks → AreMarks (e ∷ events) new.marks)
    → (TellsTransfer events t → TellsTransfer (e ∷ events) u)
    → Fits old events → Fits new (e ∷ events)
Fits-quiet old new t u e events keep was is q waits marks runs f =
    let before = runs_of old events t was f in
    let legal : Legal (e ∷ events) = (f.legal, waits, q.leaves, q.resumes) in
    record {
      legal = legal;
      booked = λ x. subst (λ (k : KeepState). HasOffset k.ranges x ↔ Booked (e ∷ events) x) (sym keep) (
        (λ c. let b = (f.booked x).0 c in (b.0, q.kept x ∙ first_some_front (kept events x) None b.0 b.1)),
        (λ b. (f.booked x).1 (b.0, sym (first_some-none (kept events x)) ∙ sym (q.kept x) ∙ b.1)),
      );
      images = subst (λ (k : KeepState). EachImage k (MayGoOn k.standing (e ∷ events))) (sym keep)
          (λ told image now. goes_on_more old.keep.standing e image events q before.begun legal (f.images told image now));
      closed = subst (λ (k : KeepState). (k.standing ≡ Torn → ⊥) → is_open (e ∷ events) ≡ false) (sym keep) (λ h. q.closed ∙ f.closed h);
      transfer = subst (λ (s : Stage). IfSome (transfer_of s) (TellsTransfer (e ∷ events))) (sym is) (runs before);
      marks = λ some. marks (marks_of old events t was f);
    }

no_image : (e : CoreEvent) (events : List CoreEvent) → ((f : CoreEvent) (older : List CoreEvent) → LeavesImage (f ∷ older) e) → LeavesImage events e
no_image e [] h = tt
no_image e (f ∷ older) h = h f older

pub quiet-lost : (events : List CoreEvent) → IsQuiet Lost events
quiet-lost events = record { kept = λ x. refl; pending = λ x. refl; closed = refl; leaves = no_image Lost events (λ f older. tt); resumes = tt }

pub quiet-fault : (events : List CoreEvent) → IsQuiet Fault events
quiet-fault events = record { kept = λ x. refl; pending = λ x. refl; closed = refl; leaves = no_image Fault events (λ f older. tt); resumes = tt }

pub quiet-abort : (events : List CoreEvent) → IsQuiet Abort events
quiet-abort events = record { kept = λ x. refl; pending = λ x. refl; closed = refl; leaves = no_image Abort events (λ f older. tt); resumes = tt }

pub quiet-mark : (events : List CoreEvent) → IsQuiet Mark events
quiet-mark events = record { kept = λ x. refl; pending = λ x. refl; closed = refl; leaves = no_image Mark events (λ f older. tt); resumes = tt }

pub quiet-eod : (lane : ℕ) (events : List CoreEvent) → IsQuiet (Eod lane) events
quiet-eod lane events = record { kept = λ x. refl; pending = λ x. refl; closed = refl; leaves = no_image (Eod lane) events (λ f older. tt); resumes = tt }

pub quiet-eof : (total : ℕ) (events : List CoreEvent) → IsQuiet (Eof total) events
quiet-eof total events = record { kept = λ x. refl; pending = λ x. refl; closed = refl; leaves = no_image (Eof total) events (λ f older. tt); resumes = tt }

-- ---- blocks

-- an image that the events may leave, while the keep stands whole
pub whole_legal : (book : BookState) (events : List CoreEvent) (from : Image) → book.keep.standing ≡ Whole → IsSome book.keep.drive.contents → MayLeave book.keep.drive from → Fits book events → Legal (Crash from ∷ events)
whole_legal book events from whole told now f = subst (λ (s : Standing). EachImage book.keep (MayGoOn s events)) whole f.images told from now

-- what a whole keep's image holds is what the events kept
pub read_events : (book : BookState) (events : List CoreEvent) (from : Image) → book.keep.standing ≡ Whole → IsKeep book.keep → IsSome book.keep.drive.contents → MayLeave book.keep.drive from → Fits book events → (x : ℕ) → kept events x ≡ held from x
read_events book events from whole sound told now f x =
    let read = whole_read book.keep whole sound told from now in
    same_options (kept events x) (held from x)
    (λ v k. image_holds from events (whole_legal book events from whole told now f) x v k)
    (λ v h. (f.booked x).0 ((read.ranges x).0 (held_covers from x v h)))

-- where no block is open, none is pending
pending_none : (events : List CoreEvent) → is_open events ≡ false → (x : ℕ) → pending events x ≡ None
pending_none [] shut x = refl
pending_none (Fresh ∷ older) shut x = refl
pending_none (Crash image ∷ older) shut x = refl
pending_none (Block lane channel offset bytes true ∷ older) shut x = absurd (off (sym shut))
pending_none (Block lane channel offset bytes false ∷ older) shut x = ap (λ o. first_some o None) (pending_none older shut x)
pending_none (Resume list ∷ older) shut x = ap (λ o. first_some o None) (pending_none older shut x)
pending_none (Eod lane ∷ older) shut x = ap (λ o. first_some o None) (pending_none older shut x)
pending_none (Eof total ∷ older) shut x = ap (λ o. first_some o None) (pending_none older shut x)
pending_none (Lost ∷ older) shut x = ap (λ o. first_some o None) (pending_none older shut x)
pending_none (Fault ∷ older) shut x = ap (λ o. first_some o None) (pending_none older shut x)
pending_none (Abort ∷ older) shut x = ap (λ o. first_some o None) (pending_none older shut x)
pending_none (Mark ∷ older) shut x = ap (λ o. first_some o None) (pending_none older shut x)

pub Fits-stored : (old new : BookState) (t u : Transfer) (before after : Lane) (lane offset : ℕ) (bytes : List ℕ) (added : ℕ) (m : _) (events : List CoreEvent)
    → old.stage ≡ Storing t → new.stage ≡ Storing u → new.marks ≡ old.marks → old.keep.standing ≡ Whole
    → IsKeep old.keep → MovesBy (StoresSome offset bytes) old.keep new.keep
    → Stored old.keep new.keep offset bytes added → RunsOn m t.count before after t u
    → Fits old events → Fits new (Block lane 0 offset bytes false ∷ events)
Fits-stored old new t u before after lane offset bytes added m events was is marks whole sound moves st runs f =
    let closed = whole_shut old events whole f in
    let running = runs_of old events t was f in
    record {
      legal = legal;
      booked = λ x. (
        λ c. ⊎_elim
            (λ o. let b = (f.booked x).0 o in (b.0, first_some_front (kept events x) (byte_at offset bytes x) b.0 b.1))
            (λ here. first_some_back (kept events x) (byte_at offset bytes x) here.0 here.1)
            (union_has old.keep.ranges new.keep.ranges offset bytes st.union x c),
        λ b. ⊎_elim
            (λ k. union_old old.keep.ranges new.keep.ranges offset bytes st.union x ((f.booked x).1 (b.0, k)))
            (λ here. union_new old.keep.ranges new.keep.ranges offset bytes st.union x b.0 here)
            (first_some_either (kept events x) (byte_at offset bytes x) b.0 b.1),
      );
      images = subst (λ (s : Standing). EachImage new.keep (MayGoOn s (Block lane 0 offset bytes false ∷ events))) (sym st.whole)
          (λ told image now. (
            legal,
            (λ _. refl),
            record {
              booked = λ x v k. sym (same told image now x) ∙ k;
              further = λ x c none.
                  let r = whole_read new.keep st.whole moves.keep told image now in
                  let here = r.held x ((r.ranges x).0 c) in
                  absurd (none-some here.0 (sym (sym here.1 ∙ (sym (same told image now x) ∙ none))));
            },
            tt,
          ));
      closed = λ _. closed;
      transfer = subst (λ (s : Stage). IfSome (transfer_of s) (TellsTransfer (Block lane 0 offset bytes false ∷ events))) (sym is)
          (record {
            begun = running.begun;
            counts = λ _. subst (λ (c : Count). CountsTransfer (Block lane 0 offset bytes false ∷ since events) c) (sym runs.count)
                (counts_block lane 0 offset bytes false (since events) t.count (running.counts runs.running));
            failed = λ some. absurd (not_there u.cause runs.cause some);
          });
      marks = λ some. subst (λ (l : List BookMark). AreMarks events l) (sym marks) (marks_of old events t was f);
    }
  where
    legal : Legal (Block lane 0 offset bytes false ∷ events)
    legal = (f.legal, (λ o. absurd (off (sym (whole_shut old events whole f) ∙ o))), no_image (Block lane 0 offset bytes false) events (λ g older. tt), tt)

    same : IsSome new.keep.drive.contents → (image : Image) → MayLeave new.keep.drive image → (x : ℕ) → first_some (kept events x) (byte_at offset bytes x) ≡ held image x
    same told image now x =
        let told' = moves.time.goes.tells.0 told in
        let from = is_there old.keep.drive.contents told' in
        let from_now = sound.lawful.read from.0 from.1 in
        let read = st.read from.0 from.1 in
        let r = whole_read new.keep st.whole moves.keep told image now in
        let one : read.0 ≡ image = same_Some read.0 image (sym read.1 ∙ r.read) in
        ap (λ o. first_some o (byte_at offset bytes x)) (read_events old events from.0 whole sound told' from_now f x)
        ∙ sym (held_stored old.keep offset bytes from.0 read.0 (whole_read old.keep whole sound told' from.0 from_now) read.2 x)
        ∙ ap (λ (i : Image). held i x) one

-- an image at any moment of the call goes on behind an open block
pub cut_legal : (old : BookState) (new : KeepState) (lane offset : ℕ) (bytes : List ℕ) (events : List CoreEvent) → old.keep.standing ≡ Whole → IsKeep old.keep → MovesBy (StoresSome offset bytes) old.keep new → Fits old events
    → IsSome old.keep.drive.contents → (image : Image) → new.drive.left_since old.keep.drive.moment image → Legal (Crash image ∷ (Block lane 0 offset bytes true ∷ events))
cut_legal old new lane offset bytes events whole sound moves f told image left =
    let l = moves.any_moment told image left in
    let read = whole_read old.keep whole sound told l.0 l.1 in
    let some = stores_held old.keep offset bytes l.0 image read l.2 in
    let same = read_events old events l.0 whole sound told l.1 f in (
      (f.legal, (λ _. refl), no_image (Block lane 0 offset bytes true) events (λ g older. tt), tt),
      (λ _. refl),
      record {
        booked = λ x v k. some.kept x v (sym (same x) ∙ (sym (first_some-none (kept events x)) ∙ k));
        further = λ x c none.
            let w = some.within x c in
            let held_none : held l.0 x ≡ None = sym (same x) ∙ (sym (first_some-none (kept events x)) ∙ none) in
            let byte : byte_at offset bytes x ≡ Some w.0 = sym (ap (λ o. first_some o (byte_at offset bytes x)) held_none) ∙ w.2 in
            (w.0, ap (λ o. first_some o (byte_at offset bytes x)) (pending_none events (whole_shut old events whole f) x) ∙ byte, w.1);
      },
      tt,
    )

-- a fault that brings no byte may stand before a Crash
fault_more : (image : Image) (e : CoreEvent) (older : List CoreEvent) → Legal (Crash image ∷ (e ∷ older)) → Legal (Crash image ∷ (Fault ∷ (e ∷ older)))
fault_more image e older legal = (
  (legal.0, (λ _. refl), tt, tt),
  (λ _. refl),
  record {
    booked = λ x v k. legal.2.booked x v (sym (first_some-none (kept (e ∷ older) x)) ∙ k);
    further = λ x c none.
        let there = legal.2.further x c (sym (first_some-none (kept (e ∷ older) x)) ∙ none) in
        (there.0, first_some_front (pending (e ∷ older) x) None there.0 there.1, there.2);
  },
  tt,
)

-- a block that a failed drive left open
Fits-open : (old new : BookState) (t u : Transfer) (before after : Lane) (lane offset : ℕ) (bytes : List ℕ) (cause : Cause) (events : List CoreEvent)
    → old.stage ≡ Storing t → new.stage ≡ Storing u → new.marks ≡ old.marks → old.keep.standing ≡ Whole
    → IsKeep old.keep → MovesBy (StoresSome offset bytes) old.keep new.keep → new.keep.standing ≡ Torn → new.keep.ranges ≡ old.keep.ranges → KeepsCause cause before after t u
    → Fits old events → Fits new (Fault ∷ (Block lane 0 offset bytes true ∷ events))
Fits-open old new t u before after lane offset bytes cause events was is marks whole sound moves torn ranges fails f =
    let running = runs_of old events t was f in
    record {
      legal = legal;
      booked = λ x. (
        λ c. let b = (f.booked x).0 (subst (λ (l : List Range). HasOffset l x) ranges c) in (b.0, none_twice x ∙ b.1),
        λ b. subst (λ (l : List Range). HasOffset l x) (sym ranges) ((f.booked x).1 (b.0, sym (none_twice x) ∙ b.1)),
      );
      images = subst (λ (s : Standing). EachImage new.keep (MayGoOn s (Fault ∷ (Block lane 0 offset bytes true ∷ events)))) (sym torn)
          (λ told image now.
          fault_more image (Block lane 0 offset bytes true) events
          (cut_legal old new.keep lane offset bytes events whole sound moves f (moves.time.goes.tells.0 told) image (image_since old.keep new.keep image moves.keep moves.time now)));
      closed = λ h. absurd (h torn);
      transfer = subst (λ (s : Stage). IfSome (transfer_of s) (TellsTransfer (Fault ∷ (Block lane 0 offset bytes true ∷ events)))) (sym is)
          (record {
            begun = running.begun;
            counts = λ none. absurd (none-some cause (sym (sym fails.kept ∙ none)));
            failed = λ some. broken-fault (Block lane 0 offset bytes true ∷ since events);
          });
      marks = λ some. subst (λ (l : List BookMark). AreMarks events l) (sym marks) (marks_of old events t was f);
    }
  where
    legal : Legal (Fault ∷ (Block lane 0 offset bytes true ∷ events))
    legal = ((f.legal, (λ _. refl), no_image (Block lane 0 offset bytes true) events (λ g older. tt), tt), (λ _. refl), tt, tt)

    none_twice : (x : ℕ) → first_some (first_some (kept events x) None) None ≡ kept events x
    none_twice x = first_some-none (first_some (kept events x) None) ∙ first_some-none (kept events x)

-- a block that was refused with nothing done
Fits-lost : (old new : BookState) (t u : Transfer) (before after : Lane) (cause : Cause) (events : List CoreEvent) → new.keep ≡ old.keep → old.stage ≡ Storing t → new.stage ≡ Storing u → new.marks ≡ old.marks → old.keep.standing ≡ Whole → KeepsCause cause before after t u → Fits old events → Fits new (Lost ∷ events)
Fits-lost old new t u before after cause events keep was is marks whole fails f =
    Fits-quiet old new t u Lost events keep was is (quiet-lost events)
    (λ o. absurd (off (sym (whole_shut old events whole f) ∙ o)))
    (λ m. subst (λ (l : List BookMark). AreMarks events l) (sym marks) m)
    (λ r. record {
      begun = r.begun;
      counts = λ none. absurd (none-some cause (sym (sym fails.kept ∙ none)));
      failed = λ some. broken-lost (since events);
    })
    f

-- a refusal by anything but the drive leaves the keep as it was
abbrev pub SameUnless : KeepError → KeepState → KeepState → Type 1
SameUnless Failed old new = Unit {1}
SameUnless other old new = new ≡ old

pub same_unless : {D : Type 0} (state : D → DriveState) (error : KeepError) (old new : Keep D) → (error ≢ Failed → new ≡ old) → SameUnless error (keep_of state old) (keep_of state new)
same_unless state (RangesFull n) old new h = ap (keep_of state) (h (λ e. cc))
same_unless state OutOfMemory old new h = ap (keep_of state) (h (λ e. cc))
same_unless state Failed old new h = tt

pub Fits-refused : (error : KeepError) (unchanged : Type 0) (old new : BookState) (t u : Transfer) (before after : Lane) (lane offset : ℕ) (bytes : List ℕ) (events : List CoreEvent)
    → SameUnless error old.keep new.keep → old.stage ≡ Storing t → new.stage ≡ Storing u → new.marks ≡ old.marks → old.keep.standing ≡ Whole
    → IsKeep old.keep → MovesBy (StoresSome offset bytes) old.keep new.keep → Refused unchanged old.keep new.keep (block_of offset bytes) error → KeepsCause (cause_of_keep error) before after t u
    → Fits old events → Fits new (stored_events (Some (cause_of_keep error)) lane offset bytes events)
Fits-refused (RangesFull n) unchanged old new t u before after lane offset bytes events same was is marks whole sound moves r fails f = Fits-lost old new t u before after (cause_of_keep (RangesFull n)) events same was is marks whole fails f
Fits-refused OutOfMemory unchanged old new t u before after lane offset bytes events same was is marks whole sound moves r fails f = Fits-lost old new t u before after (cause_of_keep OutOfMemory) events same was is marks whole fails f
Fits-refused Failed unchanged old new t u before after lane offset bytes events same was is marks whole sound moves r fails f =
    Fits-open old new t u before after lane offset bytes (cause_of_keep Failed) events was is marks whole sound moves r.shows.1 r.same.ranges fails f
