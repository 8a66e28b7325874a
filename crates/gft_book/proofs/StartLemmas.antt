-- A Book whose transfer begins, or fails to.
use Rattle.std.proofs.Common.{◌≡◌, ◌≢◌, ◌⊎◌, ◌↔◌, ℕ, ◌+◌, ◌≤◌, List, [], ◌∷◌, length, replicate, Some, None, Ok, Err, Bool, true, false, refl, sym, ap, ◌∙◌, subst, ⊎_elim, inl, inr, arith}
use Rattle.std.specs.Prelude.{Option, IsSome, IfSome}
use Rattle.std.proofs.lemmas.Option.{none-some, same_Some}
use Rattle.gft_range.specs.declared.Range.{Range}
use Rattle.gft_range.specs.Words.{HasOffset, KeptRanges}
use Rattle.gft_drive.specs.Words.{Elapses, Image, MayLeave, Orders, Sent}
use Rattle.gft_keep.specs.declared.Standing.{Standing}
use Rattle.gft_keep.specs.declared.Standing.TheVariants.{Whole, Emptying, Torn}
use Rattle.gft_keep.specs.Words.{Broke, EachImage, Emptied, Empties, IsKeep, IsUnbroken, KeepState, MovesBy, Reopened, Reopens, SameKept}
use Rattle.gft_core.specs.declared.CoreEvent.{CoreEvent}
use Rattle.gft_core.specs.declared.CoreEvent.TheVariants as event
use Rattle.gft_core.specs.Words.{Booked, CountsTransfer, Legal, begun, held, is_open, kept, since}
use Rattle.gft_core.specs.Legal.{LeavesImage}
use Rattle.gft_core.proofs.Lemmas.{first_some-none}
use Rattle.gft_pass.specs.declared.Cause.{Cause}
use Rattle.gft_pass.specs.declared.Numbers.{Numbers}
use Rattle.gft_pass.specs.Words.{IsAt, nothing}
use Rattle.gft_pass.proofs.Lemmas.{IsAt-nothing}
use Rattle.gft_book.specs.declared.mark.Mark.{Mark}
use Rattle.gft_book.specs.declared.usage.How.{How}
use Rattle.gft_book.specs.declared.usage.How.TheVariants.{Fresh, Resume, Esto}
use Rattle.gft_book.specs.declared.usage.Use.TheVariants as use_of
use Rattle.gft_book.specs.declared.transfer.Transfer.{Transfer}
use Rattle.gft_book.specs.declared.transfer.Stage.{Stage}
use Rattle.gft_book.specs.declared.transfer.Stage.TheVariants.{Rest, Reading, Storing}
use Rattle.gft_book.specs.Book.{BookState, left_out, transfer_of, usage_of}
use Rattle.gft_book.specs.Keeping.{Keeps, KeepsByte, NeverFalls, byte_read}
use Rattle.gft_book.specs.Facts.{HasSent, IsBook, IsFrom, IsHonestCause, IsSentBy, IsTransfer, MarksHold, NumbersAgree, ShowsCause, standing_after}
use Rattle.gft_book.specs.Fits.{AreMarks, Fits, MayGoOn, TellsTransfer, beginning_of}
use Rattle.gft_book.specs.declared.begin.BeginError.{BeginError}
use Rattle.gft_book.specs.declared.begin.BeginError.TheVariants as begin
use Rattle.gft_base.specs.Words.{Rose}
use Rattle.std.specs.Prelude.{map}
use Rattle.gft_pass.specs.Words.{AllPasses, Lane}
use Rattle.gft_book.specs.Begin.{Admits, BeginsEvents, BeginsIn, BeginsStore, CountsBegin, FindsKeep, KeepsUnlessFresh, Known, MayAsk, MayOpen, NotBegun, RefusedFor, OpensAgain, OpensFile, OpensFor, broken_by, known_of, marks_left}
use Rattle.gft_book.proofs.ChoiceLemmas.{if_make, if_map, is_there, not_there, off, some_there}
use Rattle.gft_book.proofs.KeepLemmas.{IsReadImage, Keeps-by, Keeps-same, has_back, has_same, held_byte, image_since, stays_same, whole_read}
use Rattle.gft_book.proofs.NumbersLemmas.{NumbersAgree-new}
use Rattle.gft_book.proofs.OriginLemmas.{IsFrom-empties}
use Rattle.gft_book.proofs.TransferLemmas.{MarksHold-more}
use Rattle.gft_book.proofs.FitLemmas.{read_events, whole_legal, whole_shut}
use Rattle.gft_book.proofs.BeginLemmas.{Elapses-then, Fits-finds, IsBook-finds, Keeps-finds, found_file, not_emptying, recovers_same}

-- ---- the transfer at the start

-- nothing was sent yet
IsSentBy-new : (orders : Orders) (rest : List Range) (keep : KeepState) (t : Transfer) (n : ℕ) → ((lane : ℕ) → orders.number lane ≡ 0 → orders.order lane ≡ []) → t.roster.counts ≡ replicate n nothing → t.count.total ≡ None → ((x : ℕ) → HasOffset rest x → HasOffset keep.ranges x) → IsSentBy orders rest keep t
IsSentBy-new orders rest keep t n silent counts total resumed =
    record {
      resumed = resumed;
      lanes = λ k m at.
          let is = IsAt-nothing n k m (subst (λ (l : List Numbers). IsAt l k m) counts at) in
          subst (λ (q : Numbers). HasSent (orders.order k) (orders.number k) keep q) (sym is)
          (record {
            kept = λ i x lt at'. absurd (omega (arith, lt));
            most = omega arith;
            eods = omega arith;
            whole = λ none. sym (ap (λ (l : List ℕ). length l) (silent k (sym none)));
          });
      total = λ v is. absurd (none-some v (sym total ∙ is));
    }

IsTransfer-new : (sent : List ℕ → Option Sent) (keep : KeepState) (t : Transfer) (n : ℕ) → keep.standing ≡ Whole → keep.is_born ≡ true → keep.complete ≡ None → t.roster.counts ≡ replicate n nothing → t.count.total ≡ None → t.count.eods ≡ 0 → t.cause ≡ None
    → ((rest : List Range) → left_out t.how ≡ Some rest → (x : ℕ) → HasOffset rest x → HasOffset keep.ranges x) → IsTransfer sent keep t
IsTransfer-new sent keep t n standing born complete counts total eods cause resumed =
    record {
      standing = standing ∙ ap standing_after (sym cause);
      is_born = born;
      incomplete = complete;
      numbers = subst (λ (l : List Numbers). NumbersAgree l t.count t.cause) (sym counts) (subst (λ (o : Option Cause). NumbersAgree (replicate n nothing) t.count o) (sym cause) (NumbersAgree-new n t.count total eods));
      origin = if_make (sent keep.drive.label) _ (λ s is. if_make (left_out t.how) _ (λ rest of. (IsSentBy-new (s.orders rest) rest keep t n (s.is rest).plan.silent counts total (resumed rest of), subst (λ (o : Option Cause). IfSome o (IsHonestCause s.source keep)) (sym cause) tt)));
      cause = subst (λ (o : Option Cause). IfSome o (ShowsCause keep t.count)) (sym cause) tt;
    }

-- ---- the keep's call

empties : (how : How) (from image : Image) → MayOpen how from image → Empties from image
empties Fresh from image h = h
empties (Resume list) from image h = inl h
empties Esto from image h = inl h

pub MovesBy-open : (how : How) (old new : KeepState) → MovesBy (MayOpen how) old new → MovesBy Empties old new
MovesBy-open how old new moves =
    record {
      keep = moves.keep;
      any_moment = λ told image left. let l = moves.any_moment told image left in (l.0, l.1, empties how l.0 image l.2);
      time = moves.time;
    }

pub OpensFor-fresh : (old new : KeepState) → Emptied old new → IsUnbroken old → MovesBy Empties old new → OpensFor Fresh old new
OpensFor-fresh old new e unbroken moves =
    record {
      whole = e.whole;
      is_born = e.born;
      incomplete = e.incomplete;
      opens = record {
        ranges = e.none;
        read = λ image is.
            let from = is_there old.drive.contents (moves.time.goes.tells.0 (some_there new.drive.contents image is)) in
            let r = e.read from.0 from.1 in
            ap (λ (i : Image). i.bytes) (same_Some image r.0 (sym is ∙ r.1)) ∙ r.2.bytes;
      };
    }

reopens_held : (old new : KeepState) → Reopened old new → IsUnbroken old → (read image : Image) → old.drive.contents ≡ Some read → new.drive.contents ≡ Some image → (x v : ℕ) → held read x ≡ Some v → held image x ≡ Some v
reopens_held old new e unbroken read image is now x v h =
    let is_read = whole_read old unbroken.whole unbroken.facts (some_there old.drive.contents read is) read (unbroken.facts.lawful.read read is) in
    let r = e.read read is in
    let one : r.0 ≡ image = same_Some r.0 image (sym r.1 ∙ now) in
    subst (λ (i : Image). held i x ≡ Some v) one (stays_same old read r.0 is_read r.2.stays x ∙ h)

OpensAgain-reopened : (old new : KeepState) → Reopened old new → IsUnbroken old → OpensAgain (known_of old) new
OpensAgain-reopened old new e unbroken = record { ranges = e.ranges; held = reopens_held old new e unbroken }

pub OpensFor-resume : (list : KeptRanges) (old new : KeepState) → Reopened old new → IsUnbroken old → OpensFor (Resume list) old new
OpensFor-resume list old new e unbroken = record { whole = e.whole; is_born = e.born; incomplete = e.incomplete; opens = OpensAgain-reopened old new e unbroken }

pub OpensFor-esto : (old new : KeepState) → Reopened old new → IsUnbroken old → OpensFor Esto old new
OpensFor-esto old new e unbroken = record { whole = e.whole; is_born = e.born; incomplete = e.incomplete; opens = OpensAgain-reopened old new e unbroken }

-- ---- the Book

-- after the keep was opened for a transfer, or failed to be
IsBook-opens : (sent : List ℕ → Option Sent) (old new : BookState) → IsBook sent old → old.keep.standing ≡ Whole → MovesBy Empties old.keep new.keep
    → MarksHold new.keep new.marks → IfSome (transfer_of new.stage) (IsTransfer sent new.keep) → ((n : ℕ) → new.stage ≡ Reading n → 1 ≤ n) → IsBook sent new
IsBook-opens sent old new b whole moves marks transfer reading =
    record {
      keep = moves.keep;
      marks = marks;
      origin = subst (λ (l : List ℕ). IfSome (sent l) (λ s. EachImage new.keep (IsFrom s.source))) (sym moves.time.goes.label)
          (if_map (sent old.keep.drive.label) _ _ (λ s is from told image now.
          let told' = moves.time.goes.tells.0 told in
          let l = moves.any_moment told' image (image_since old.keep new.keep image moves.keep moves.time now) in
          IsFrom-empties old.keep s.source l.0 image (whole_read old.keep whole b.keep told' l.0 l.1) l.2 (from told' l.0 l.1)) b.origin);
      transfer = transfer;
      reading = reading;
    }

no_marks : (keep : KeepState) → MarksHold keep []
no_marks keep = record { each = λ i mark at. absurd (none-some mark at); gone = λ is. refl }

marks_after : (how : How) (old new : KeepState) (marks : List Mark) → (IsSome new.drive.contents → IsSome old.drive.contents) → Broke (broken_by how) old new → MarksHold old marks → MarksHold new (marks_left how marks)
marks_after Fresh old new marks tells broke h = no_marks new
marks_after (Resume list) old new marks tells broke h = MarksHold-more old new marks tells (has_same old new broke.same.ranges) (λ e. let w : Torn ≡ Emptying = sym broke.standing ∙ e in cc) h
marks_after Esto old new marks tells broke h = MarksHold-more old new marks tells (has_same old new broke.same.ranges) (λ e. let w : Torn ≡ Emptying = sym broke.standing ∙ e in cc) h

-- the keep failed to be opened
pub IsBook-unopened : (sent : List ℕ → Option Sent) (how : How) (old new : BookState) → IsBook sent old → old.keep.standing ≡ Whole → MovesBy (MayOpen how) old.keep new.keep → Broke (broken_by how) old.keep new.keep → old.stage ≡ Rest → new.stage ≡ old.stage → new.marks ≡ marks_left how old.marks → IsBook sent new
IsBook-unopened sent how old new b whole moves broke rest stage marks =
    IsBook-opens sent old new b whole (MovesBy-open how old.keep new.keep moves)
    (subst (λ (l : List Mark). MarksHold new.keep l) (sym marks) (marks_after how old.keep new.keep old.marks moves.time.goes.tells.0 broke b.marks))
    (subst (λ (s : Stage). IfSome (transfer_of s) (IsTransfer sent new.keep)) (sym (stage ∙ rest)) tt)
    (λ n is. let e : Rest ≡ Reading n = sym (stage ∙ rest) ∙ is in cc)

resumed_by : (how : How) (old new : KeepState) → Admits (known_of old) how → OpensFile how (known_of old) new → (rest : List Range) → left_out how ≡ Some rest → (x : ℕ) → HasOffset rest x → HasOffset new.ranges x
resumed_by Fresh old new admits opens rest is x has = absurd (subst (λ (l : List Range). HasOffset l x) (sym (same_Some [] rest is)) has)
resumed_by (Resume list) old new admits opens rest is x has =
    has_same old new opens.ranges x (admits x (subst (λ (l : List Range). HasOffset l x) (sym (same_Some list.ranges rest is)) has))
resumed_by Esto old new admits opens rest is x has = absurd (none-some rest is)

-- the transfer begins
pub IsBook-begun : (sent : List ℕ → Option Sent) (how : How) (old new : BookState) (t : Transfer) (n : ℕ) → IsBook sent old → old.keep.standing ≡ Whole → MovesBy (MayOpen how) old.keep new.keep → OpensFor how old.keep new.keep → Admits (known_of old.keep) how
    → new.stage ≡ Storing t → new.marks ≡ [] → t.how ≡ how → t.roster.counts ≡ replicate n nothing → t.count.total ≡ None → t.count.eods ≡ 0 → t.cause ≡ None → IsBook sent new
IsBook-begun sent how old new t n b whole moves opens admits stage marks is_how counts total eods cause =
    IsBook-opens sent old new b whole (MovesBy-open how old.keep new.keep moves)
    (subst (λ (l : List Mark). MarksHold new.keep l) (sym marks) (no_marks new.keep))
    (subst (λ (s : Stage). IfSome (transfer_of s) (IsTransfer sent new.keep)) (sym stage)
    (IsTransfer-new sent new.keep t n opens.whole opens.is_born opens.incomplete counts total eods cause
    (λ rest of. resumed_by how old.keep new.keep admits opens.opens rest (ap left_out (sym is_how) ∙ of))))
    (λ m is. let e : Storing t ≡ Reading m = sym stage ∙ is in cc)

-- ---- what is kept

pub Keeps-then : (old mid new : KeepState) → IsKeep mid → IsKeep new → Keeps old mid → Keeps mid new → Keeps old new
Keeps-then old mid new sound sound' f g =
    record {
      time = Elapses-then old.drive mid.drive new.drive sound'.lawful f.time g.time;
      counted = let a = f.counted in let b = g.counted in omega (arith, a, b);
      ranges = λ x c. g.ranges x (f.ranges x c);
      held = λ told image left x v was. ⊎_elim
          (λ before. f.held told image before x v was)
          (λ since. g.held (f.time.goes.tells.1 told) image since x v (now told x v was))
          (g.time.nothing_else old.drive.moment image f.time.later left);
    }
  where
    now : IsSome old.drive.contents → (x v : ℕ) → KeepsByte old x v → KeepsByte mid x v
    now told x v was =
        let read = is_there mid.drive.contents (f.time.goes.tells.1 told) in
        let since = sound.lawful.since old.drive.moment mid.drive.moment read.0 f.time.later (omega arith) (sound.lawful.read read.0 read.1) in
        let h = f.held told read.0 since x v was in
        (f.ranges x was.0, ap (λ (o : Option Image). byte_read o x) read.1 ∙ held_byte read.0 x v h)

reopened_keeps : (old new : KeepState) → old.standing ≡ Whole → IsKeep old → MovesBy Reopens old new → NeverFalls old.drive.faults new.drive.faults → new.ranges ≡ old.ranges → Keeps old new
reopened_keeps old new whole sound moves counted ranges =
    Keeps-by Reopens old new whole sound (λ from image read r x v h. stays_same old from image read r.stays x ∙ h) moves.any_moment moves.time counted (has_same old new ranges)

pub Keeps-reopens : (how : How) (old new : KeepState) → how ≢ Fresh → old.standing ≡ Whole → IsKeep old → MovesBy (MayOpen how) old new → NeverFalls old.drive.faults new.drive.faults → new.ranges ≡ old.ranges → Keeps old new
Keeps-reopens Fresh old new not_ whole sound moves counted ranges = absurd (not_ refl)
Keeps-reopens (Resume list) old new not_ whole sound moves counted ranges = reopened_keeps old new whole sound moves counted ranges
Keeps-reopens Esto old new not_ whole sound moves counted ranges = reopened_keeps old new whole sound moves counted ranges

pub unless_fresh : (how : How) (old new : KeepState) → (how ≢ Fresh → old.standing ≢ Emptying → IsSome old.drive.contents → Keeps old new) → KeepsUnlessFresh how old new
unless_fresh Fresh old new keeps = tt
unless_fresh (Resume list) old new keeps = keeps (λ e. let w : Resume list ≡ Fresh = e in cc)
unless_fresh Esto old new keeps = keeps (λ e. let w : Esto ≡ Fresh = e in cc)

pub opens_same : (how : How) (old new : KeepState) → how ≢ Fresh → OpensFile how (known_of old) new → new.ranges ≡ old.ranges
opens_same Fresh old new not_ opens = absurd (not_ refl)
opens_same (Resume list) old new not_ opens = opens.ranges
opens_same Esto old new not_ opens = opens.ranges

pub opens_for : (how : How) (old new : KeepState) → how ≢ Fresh → OpensFor how old new → new.ranges ≡ old.ranges
opens_for how old new not_ opens = opens_same how old new not_ opens.opens

-- ---- the events

-- an image by which the file may be opened goes on with the list, or names nothing where it is emptied
reopen_legal : (keep : KeepState) (events : List CoreEvent) (from image : Image) → IsReadImage keep from → Reopens from image → Legal (event.Crash from ∷ events) → Legal (event.Crash image ∷ events)
reopen_legal keep [] from image read r legal = legal
reopen_legal keep (e ∷ older) from image read r legal = (
  legal.0,
  (λ _. refl),
  record {
    booked = λ x v k. stays_same keep from image read r.stays x ∙ legal.2.booked x v k;
    further = λ x c none. let there = legal.2.further x ((r.stays.ranges x).0 c) none in (there.0, there.1, stays_same keep from image read r.stays x ∙ there.2);
  },
  tt,
)

open_goes_on : (how : How) (keep : KeepState) (events : List CoreEvent) (from image : Image) → IsReadImage keep from → MayOpen how from image → Legal (event.Crash from ∷ events) → MayGoOn (broken_by how) events image
open_goes_on Fresh keep events from image read may legal = ⊎_elim (λ r. inl (reopen_legal keep events from image read r legal)) (λ none. inr none) may
open_goes_on (Resume list) keep events from image read r legal = reopen_legal keep events from image read r legal
open_goes_on Esto keep events from image read r legal = reopen_legal keep events from image read r legal

pub Fits-unopened : (how : How) (old new : BookState) (events : List CoreEvent) → IsKeep old.keep → old.keep.standing ≡ Whole → MovesBy (MayOpen how) old.keep new.keep → Broke (broken_by how) old.keep new.keep → new.stage ≡ Rest → Fits old events → Fits new events
Fits-unopened how old new events sound whole moves broke rest f =
    record {
      legal = f.legal;
      booked = λ x. ((λ c. (f.booked x).0 (has_back old.keep new.keep broke.same.ranges x c)), (λ b. has_same old.keep new.keep broke.same.ranges x ((f.booked x).1 b)));
      images = subst (λ (s : Standing). EachImage new.keep (MayGoOn s events)) (sym broke.standing) (λ told image now.
          let told' = moves.time.goes.tells.0 told in
          let l = moves.any_moment told' image (image_since old.keep new.keep image moves.keep moves.time now) in
          open_goes_on how old.keep events l.0 image (whole_read old.keep whole sound told' l.0 l.1) l.2 (whole_legal old events l.0 whole told' l.1 f));
      closed = λ _. whole_shut old events whole f;
      transfer = subst (λ (s : Stage). IfSome (transfer_of s) (TellsTransfer events)) (sym rest) tt;
      marks = λ there. absurd (not_there (transfer_of new.stage) (ap transfer_of rest) there);
    }

-- an event with which a transfer begins
record IsBeginning (e : CoreEvent) (events : List CoreEvent) : Type 0 where
  pub legal : Legal (e ∷ events)
  pub begun : begun (e ∷ events) ≡ true
  pub since : since (e ∷ events) ≡ []
  pub closed : is_open (e ∷ events) ≡ false
  pub marks : AreMarks (e ∷ events) []

fits_begins : (new : BookState) (t : Transfer) (e : CoreEvent) (events : List CoreEvent) → new.stage ≡ Storing t → t.cause ≡ None → t.count.total ≡ None → t.count.eods ≡ 0 → new.marks ≡ [] → new.keep.standing ≡ Whole → IsKeep new.keep → IsBeginning e events
    → ((x : ℕ) → HasOffset new.keep.ranges x ↔ Booked (e ∷ events) x)
    → (IsSome new.keep.drive.contents → (image : Image) → MayLeave new.keep.drive image → (x v : ℕ) → kept (e ∷ events) x ≡ Some v → held image x ≡ Some v) → Fits new (e ∷ events)
fits_begins new t e events stage cause total eods marks whole sound is booked holds =
    record {
      legal = is.legal;
      booked = booked;
      images = subst (λ (s : Standing). EachImage new.keep (MayGoOn s (e ∷ events))) (sym whole) (λ told image now. (
        is.legal,
        (λ _. refl),
        record {
          booked = λ x v k. holds told image now x v k;
          further = λ x c none.
              let b = (booked x).0 (((whole_read new.keep whole sound told image now).ranges x).0 c) in
              absurd (none-some b.0 (sym none ∙ b.1));
        },
        tt,
      ));
      closed = λ _. is.closed;
      transfer = subst (λ (s : Stage). IfSome (transfer_of s) (TellsTransfer (e ∷ events))) (sym stage)
          (record {
            begun = is.begun;
            counts = λ _. subst (λ (l : List CoreEvent). CountsTransfer l t.count) (sym is.since)
                (record { total = sym total; eods = sym eods; passes = λ n first. tt });
            failed = λ some. absurd (not_there t.cause cause some);
          });
      marks = λ _. subst (λ (l : List Mark). AreMarks (e ∷ events) l) (sym marks) is.marks;
    }

no_image : (e : CoreEvent) (events : List CoreEvent) → ((f : CoreEvent) (older : List CoreEvent) → LeavesImage (f ∷ older) e) → LeavesImage events e
no_image e [] h = tt
no_image e (f ∷ older) h = h f older

shut_waits : (events : List CoreEvent) (b : Bool) → is_open events ≡ false → is_open events ≡ true → b ≡ true
shut_waits events b shut open_now = absurd (off (sym shut ∙ open_now))

fits_fresh : (old new : BookState) (t : Transfer) (events : List CoreEvent) → new.stage ≡ Storing t → t.cause ≡ None → t.count.total ≡ None → t.count.eods ≡ 0 → new.marks ≡ [] → old.keep.standing ≡ Whole → IsKeep new.keep → OpensFor Fresh old.keep new.keep → Fits old events → Fits new (event.Fresh ∷ events)
fits_fresh old new t events stage cause total eods marks whole sound opens f =
    fits_begins new t event.Fresh events stage cause total eods marks opens.whole sound
    record {
      legal = (f.legal, shut_waits events _ (whole_shut old events whole f), no_image event.Fresh events (λ g older. tt), tt);
      begun = refl;
      since = refl;
      closed = whole_shut old events whole f;
      marks = refl;
    }
    (λ x. ((λ c. absurd (subst (λ (l : List Range). HasOffset l x) opens.opens.ranges c)), (λ b. absurd (none-some b.0 b.1))))
    (λ told image now x v k. absurd (none-some v k))

fits_resume : (list : KeptRanges) (old new : BookState) (t : Transfer) (events : List CoreEvent) → new.stage ≡ Storing t → t.cause ≡ None → t.count.total ≡ None → t.count.eods ≡ 0 → new.marks ≡ [] → old.keep.standing ≡ Whole → IsKeep old.keep → new.keep.standing ≡ Whole → MovesBy Reopens old.keep new.keep → OpensAgain (known_of old.keep) new.keep
    → ((x : ℕ) → HasOffset list.ranges x → HasOffset old.keep.ranges x) → Fits old events → Fits new (event.Resume list ∷ events)
fits_resume list old new t events stage cause total eods marks whole sound whole' moves opens admits f =
    fits_begins new t (event.Resume list) events stage cause total eods marks whole' moves.keep
    record {
      legal = (f.legal, shut_waits events _ (whole_shut old events whole f), no_image (event.Resume list) events (λ g older. tt), λ x has. (f.booked x).0 (admits x has));
      begun = refl;
      since = refl;
      closed = whole_shut old events whole f;
      marks = refl;
    }
    (λ x. (
      (λ c. let b = (f.booked x).0 (has_back old.keep new.keep opens.ranges x c) in (b.0, first_some-none (kept events x) ∙ b.1)),
      (λ b. has_same old.keep new.keep opens.ranges x ((f.booked x).1 (b.0, sym (first_some-none (kept events x)) ∙ b.1))),
    ))
    (λ told image now x v k.
    let told' = moves.time.goes.tells.0 told in
    let l = moves.any_moment told' image (image_since old.keep new.keep image moves.keep moves.time now) in
    let read = whole_read old.keep whole sound told' l.0 l.1 in
    stays_same old.keep l.0 image read l.2.stays x ∙ (sym (read_events old events l.0 whole sound told' l.1 f x) ∙ (sym (first_some-none (kept events x)) ∙ k)))

pub Fits-begun : (how : How) (old new : BookState) (t : Transfer) (events : List CoreEvent) → IsKeep old.keep → old.keep.standing ≡ Whole → MovesBy (MayOpen how) old.keep new.keep → OpensFor how old.keep new.keep → Admits (known_of old.keep) how
    → new.stage ≡ Storing t → new.marks ≡ [] → t.count.total ≡ None → t.count.eods ≡ 0 → t.cause ≡ None → Fits old events → Fits new (beginning_of how events)
Fits-begun Fresh old new t events sound whole moves opens admits stage marks total eods cause f = fits_fresh old new t events stage cause total eods marks whole moves.keep opens f
Fits-begun (Resume list) old new t events sound whole moves opens admits stage marks total eods cause f = fits_resume list old new t events stage cause total eods marks whole sound opens.whole moves opens.opens admits f
Fits-begun Esto old new t events sound whole moves opens admits stage marks total eods cause f = fits_resume (record { ranges = []; spare = 0 }) old new t events stage cause total eods marks whole sound opens.whole moves opens.opens (λ x has. absurd has) f

-- ---- the use

pub at_rest : (stage : Stage) → usage_of stage ≡ use_of.Rest → stage ≡ Rest
at_rest Rest is = refl
at_rest (Reading n) is = cc
at_rest (Storing t) is = cc

-- ---- the call as a whole, over the keep as it was (old), as it was found (mid), and at the end (new)

abbrev pub BookWith : BookState → KeepState → BookState
BookWith book keep = record { keep = keep; stage = book.stage; last = book.last; marks = book.marks; unmarked = book.unmarked; turns = book.turns }

-- the Book once its keep was found
pub IsBook-mid : (sent : List ℕ → Option Sent) (book : BookState) (mid : KeepState) → IsBook sent book → book.stage ≡ Rest → IsKeep mid → FindsKeep book.keep mid → IsBook sent (BookWith book mid)
IsBook-mid sent book mid b rest sound finds = IsBook-finds sent book (BookWith book mid) b rest refl refl sound finds

-- the file isn't at rest
pub NotBegun-busy : (unchanged : Type 0) (book : BookState) (way : How) → unchanged → (book.stage ≡ Rest → ⊥) → NotBegun unchanged book book way (begin.Busy (usage_of book.stage))
NotBegun-busy unchanged book way same busy =
    record {
      stage = refl;
      turns = refl;
      unmarked = refl;
      busy = λ _. (refl, same);
      other = λ rest. absurd (busy rest);
      faults = refl;
      marks = inl refl;
    }

-- a refusal before the keep is opened
pub NotBegun-found : (unchanged : Type 0) (book : BookState) (new : KeepState) (way : How) (error : BeginError) → book.stage ≡ Rest → RefusedFor book.keep (known_of new) way error → CountsBegin error book.keep.drive.faults new.drive.faults → NotBegun unchanged book (BookWith book new) way error
NotBegun-found unchanged book new way error rest refused counts =
    record {
      stage = refl;
      turns = refl;
      unmarked = refl;
      busy = λ busy. absurd (busy rest);
      other = λ _. refused;
      faults = counts;
      marks = inl refl;
    }

asks : (how : How) (file : Known) → Admits file how → MayAsk file how
asks Fresh file admits = admits
asks (Resume list) file admits = admits
asks Esto file admits = admits.0

same_asks : (how : How) (old new : KeepState) → SameKept old new → MayAsk (known_of old) how → MayAsk (known_of new) how
same_asks Fresh old new same m = m
same_asks (Resume list) old new same m = λ x has. has_same old new same.ranges x (m x has)
same_asks Esto old new same m = same.complete ∙ m

marks_or : (how : How) (marks : List Mark) → (marks_left how marks ≡ marks) ⊎ ((how ≡ Fresh) × (begin.DriveFailed ≡ begin.DriveFailed) × (marks_left how marks ≡ []))
marks_or Fresh marks = inr (refl, refl, refl)
marks_or (Resume list) marks = inl refl
marks_or Esto marks = inl refl

-- the keep failed to be opened
pub NotBegun-unopened : (unchanged : Type 0) (old new : BookState) (mid : KeepState) (way : How) → old.stage ≡ Rest → new.stage ≡ old.stage → new.turns ≡ old.turns → new.unmarked ≡ old.unmarked → new.marks ≡ marks_left way old.marks
    → Admits (known_of mid) way → mid.drive.faults ≡ old.keep.drive.faults → Broke (broken_by way) mid new.keep → Rose mid.drive.faults new.keep.drive.faults → NotBegun unchanged old new way begin.DriveFailed
NotBegun-unopened unchanged old new mid way rest stage turns unmarked marks admits same broke rose =
    record {
      stage = stage;
      turns = turns;
      unmarked = unmarked;
      busy = λ busy. absurd (busy rest);
      other = λ _. inr (same_asks way mid new.keep broke.same (asks way (known_of mid) admits));
      faults = subst (λ (n : ℕ). Rose n new.keep.drive.faults) same rose;
      marks = subst (λ (l : List Mark). (l ≡ old.marks) ⊎ ((way ≡ Fresh) × (begin.DriveFailed ≡ begin.DriveFailed) × (l ≡ []))) (sym marks) (marks_or way old.marks);
    }

-- the transfer begins
pub BeginsStore-opened : (old new : BookState) (mid : KeepState) (way : How) (lanes : ℕ) (dealt : List Lane) (t : Transfer) → old.stage ≡ Rest → new.stage ≡ Storing t → t.how ≡ way → t.cause ≡ None → t.count.total ≡ None → t.count.eods ≡ 0
    → t.roster.counts ≡ replicate (lanes + 1) nothing → AllPasses t.roster.table (lanes + 1) dealt → map (λ (p : Lane). p.count) dealt ≡ replicate (lanes + 1) nothing
    → new.marks ≡ [] → new.unmarked ≡ 0 → new.turns ≡ 0 → IsKeep mid → FindsKeep old.keep mid → mid.standing ≡ Whole → Admits (known_of mid) way → mid.drive.faults ≡ old.keep.drive.faults → OpensFor way mid new.keep → new.keep.drive.faults ≡ mid.drive.faults
    → BeginsStore old new way lanes dealt
BeginsStore-opened old new mid way lanes dealt t rest stage how cause total eods counts passes fresh marks unmarked turns sound finds whole admits same opens same' =
    record {
      rest = rest;
      transfer = t;
      stage = stage;
      how = how;
      cause = cause;
      total = total;
      eods = eods;
      counts = counts;
      passes = passes;
      fresh = fresh;
      marks = marks;
      unmarked = unmarked;
      turns = turns;
      file = known_of mid;
      found = found_file old.keep mid sound finds whole;
      admits = admits;
      opens = opens.opens;
      faults = same' ∙ same;
    }

-- what is kept, where the keep was looked at alone
pub KeepsUnlessFresh-found : (way : How) (old mid : KeepState) → IsKeep old → IsKeep mid → FindsKeep old mid → NeverFalls old.drive.faults mid.drive.faults → KeepsUnlessFresh way old mid
KeepsUnlessFresh-found way old mid sound sound' finds counted = unless_fresh way old mid (λ _ never told. Keeps-finds old mid sound sound' finds counted never told)

-- and where it was opened, or failed to be
pub KeepsUnlessFresh-open : (way : How) (old mid new : KeepState) → IsKeep old → IsKeep mid → FindsKeep old mid → NeverFalls old.drive.faults mid.drive.faults → mid.standing ≡ Whole → MovesBy (MayOpen way) mid new → NeverFalls mid.drive.faults new.drive.faults
    → (way ≢ Fresh → new.ranges ≡ mid.ranges) → KeepsUnlessFresh way old new
KeepsUnlessFresh-open way old mid new sound sound' finds counted whole moves counted' ranges =
    unless_fresh way old new (λ fresh never told. Keeps-then old mid new sound' moves.keep
    (Keeps-finds old mid sound sound' finds counted never told)
    (Keeps-reopens way mid new fresh whole sound' moves counted' (ranges fresh)))

-- and where nothing was done
pub KeepsUnlessFresh-same : (way : How) (keep : KeepState) → IsKeep keep → KeepsUnlessFresh way keep keep
KeepsUnlessFresh-same way keep sound = unless_fresh way keep keep (λ _ never told. Keeps-same keep sound (not_emptying keep.standing never))

-- the events where the file isn't at rest
pub BeginsEvents-busy : {T E : Type 0} (book : BookState) (way : How) (error : E) (events : List CoreEvent) → IsSome book.keep.drive.contents → Fits book events → BeginsEvents {T = T} book book way (Err error) events
BeginsEvents-busy book way error events told f =
    record { now = events; recovers = recovers_same book.keep.standing events; fits = f; cut_short = λ image left. inl (f.images told image left) }

-- an image since the keep was found goes on with the list as it was
found_goes_on : (old : BookState) (mid : KeepState) (events : List CoreEvent) → FindsKeep old.keep mid → IsSome old.keep.drive.contents → Fits old events → (image : Image) → mid.drive.left_since old.keep.drive.moment image → MayGoOn old.keep.standing events image
found_goes_on old mid events finds told f image left =
    let l = finds.images told image left in
    subst (λ (i : Image). MayGoOn old.keep.standing events i) (sym l.2) (f.images told l.0 l.1)

pub BeginsEvents-found : {T E : Type 0} (book : BookState) (new : KeepState) (way : How) (error : E) (events : List CoreEvent) → IsKeep book.keep → IsKeep new → book.stage ≡ Rest → FindsKeep book.keep new → IsSome book.keep.drive.contents → Fits book events → BeginsEvents {T = T} book (BookWith book new) way (Err error) events
BeginsEvents-found book new way error events sound sound' rest finds told f =
    let e = Fits-finds book (BookWith book new) events sound sound' rest refl finds told f in
    record { now = e.now; recovers = e.recovers; fits = e.fits; cut_short = λ image left. inl (found_goes_on book new events finds told f image left) }

-- an image since goes on with the list as it was, or as it is once the keep was found
cut_begin : (old : BookState) (mid new : KeepState) (way : How) (events now : List CoreEvent) → IsKeep mid → FindsKeep old.keep mid → mid.standing ≡ Whole → MovesBy (MayOpen way) mid new → IsSome old.keep.drive.contents → Fits old events → Fits (BookWith old mid) now
    → (image : Image) → new.drive.left_since old.keep.drive.moment image → MayGoOn old.keep.standing events image ⊎ MayGoOn (broken_by way) now image
cut_begin old mid new way events now sound finds whole moves told f g image left =
    ⊎_elim
    (λ before. inl (found_goes_on old mid events finds told f image before))
    (λ since.
    let told' = finds.time.goes.tells.1 told in
    let l = moves.any_moment told' image since in
    inr (open_goes_on way mid now l.0 image (whole_read mid whole sound told' l.0 l.1) l.2 (whole_legal (BookWith old mid) now l.0 whole told' l.1 g)))
    (moves.time.nothing_else old.keep.drive.moment image finds.time.later left)

pub BeginsEvents-unopened : {T E : Type 0} (old new : BookState) (mid : KeepState) (way : How) (error : E) (events : List CoreEvent) → IsKeep old.keep → IsKeep mid → old.stage ≡ Rest → new.stage ≡ old.stage → FindsKeep old.keep mid → mid.standing ≡ Whole → MovesBy (MayOpen way) mid new.keep → Broke (broken_by way) mid new.keep
    → IsSome old.keep.drive.contents → Fits old events → BeginsEvents {T = T} old new way (Err error) events
BeginsEvents-unopened old new mid way error events sound sound' rest stage finds whole moves broke told f =
    let e = Fits-finds old (BookWith old mid) events sound sound' rest refl finds told f in
    record {
      now = e.now;
      recovers = e.recovers;
      fits = Fits-unopened way (BookWith old mid) new e.now sound' whole moves broke (stage ∙ rest) e.fits;
      cut_short = cut_begin old mid new.keep way events e.now sound' finds whole moves told f e.fits;
    }

pub BeginsEvents-begun : {T E : Type 0} (old new : BookState) (mid : KeepState) (way : How) (answer : T) (t : Transfer) (events : List CoreEvent) → IsKeep old.keep → IsKeep mid → old.stage ≡ Rest → new.stage ≡ Storing t → FindsKeep old.keep mid → mid.standing ≡ Whole → MovesBy (MayOpen way) mid new.keep → OpensFor way mid new.keep → Admits (known_of mid) way
    → new.marks ≡ [] → t.count.total ≡ None → t.count.eods ≡ 0 → t.cause ≡ None
    → IsSome old.keep.drive.contents → Fits old events → BeginsEvents {E = E} old new way (Ok answer) events
BeginsEvents-begun old new mid way answer t events sound sound' rest stage finds whole moves opens admits marks total eods cause told f =
    let e = Fits-finds old (BookWith old mid) events sound sound' rest refl finds told f in
    record {
      now = e.now;
      recovers = e.recovers;
      fits = Fits-begun way (BookWith old mid) new t e.now sound' whole moves opens admits stage marks total eods cause e.fits;
      cut_short = cut_begin old mid new.keep way events e.now sound' finds whole moves told f e.fits;
    }

-- time over both calls
pub BeginsIn-then : (old new : BookState) (mid : KeepState) → Elapses old.keep.drive mid.drive → Elapses mid.drive new.keep.drive → IsKeep new.keep → new.last ≡ old.last → BeginsIn old new
BeginsIn-then old new mid f g sound last = record { time = Elapses-then old.keep.drive mid.drive new.keep.drive sound.lawful f g; last = last }

pub BeginsIn-found : (old new : BookState) → Elapses old.keep.drive new.keep.drive → new.last ≡ old.last → BeginsIn old new
BeginsIn-found old new time last = record { time = time; last = last }
