-- A Book before and after `settle`.
use Rattle.std.proofs.Common.{◌≡◌, ◌⊎◌, ◌↔◌, ℕ, ◌-◌, ◌<◌, ◌≤◌, List, [], ◌∷◌, length, Some, None, Bool, true, false, refl, sym, ap, ◌∙◌, subst, ⊎_elim, inl, inr, arith}
use Rattle.std.specs.Prelude.{Option, IsSome, IfSome, IsTrue}
use Rattle.gft_base.specs.Words.{Rose}
use Rattle.std.proofs.lemmas.Option.{none-some, slice_get_within}
use Rattle.gft_range.specs.declared.Range.{Range}
use Rattle.gft_range.specs.Words.{HasNoGap, HasOffset}
use Rattle.gft_drive.specs.Words.{Covers, Image, Sent}
use Rattle.gft_eod.specs.Words.{IsCount, IsMet, IsWithin}
use Rattle.gft_keep.specs.declared.Standing.{Standing}
use Rattle.gft_keep.specs.declared.Standing.TheVariants.{Whole, Emptying, Torn}
use Rattle.gft_keep.specs.Words.{EachImage, Finishes, IsKeep, IsOpen, KeepState, MovesBy}
use Rattle.gft_core.specs.declared.CoreEvent.{CoreEvent}
use Rattle.gft_core.specs.declared.CoreEvent.TheVariants.{Crash}
use Rattle.gft_core.specs.Words.{Booked, Done, Legal, first_some, held, is_open}
use Rattle.gft_pass.specs.declared.Cause.{Cause}
use Rattle.gft_book.specs.declared.mark.Mark.{Mark}
use Rattle.gft_book.specs.declared.transfer.Transfer.{Transfer}
use Rattle.gft_book.specs.declared.transfer.Stage.{Stage}
use Rattle.gft_book.specs.declared.transfer.Stage.TheVariants.{Rest, Reading, Storing}
use Rattle.gft_book.specs.Book.{BookState, rest_of, transfer_of}
use Rattle.gft_book.specs.Keeping.{KeepsThrough, NeverFalls}
use Rattle.gft_book.specs.Facts.{ImagesAreFrom, IsBook, IsFrom, IsTransfer, MarksHold, standing_after}
use Rattle.gft_book.specs.Fits.{Fits, MayGoOn, TellsTransfer}
use Rattle.gft_book.specs.Ending.{Closes, IsKeptEnd, MissesNothing, SettlesEvents}
use Rattle.gft_book.proofs.ChoiceLemmas.{if_map, not_there, off}
use Rattle.gft_book.proofs.KeepLemmas.{Elapses-same, IsReadImage, Keeps-by, Keeps-same, has_back, has_same, held_byte, image_since, stays_same, whole_read}
use Rattle.gft_book.proofs.TransferLemmas.{MarksHold-more, transfer_is}
use Rattle.gft_book.proofs.StoreLemmas.{never_emptying, whole_or_torn}
use Rattle.gft_book.proofs.FitLemmas.{whole_shut}

-- ---- the end of the kept ranges

pub end_exact : (ranges seen : List Range) (len : ℕ) → seen ≡ ranges → (HasNoGap seen → (x : ℕ) → HasOffset seen x ↔ (x < len)) → HasNoGap ranges → (x : ℕ) → HasOffset ranges x ↔ (x < len)
end_exact ranges seen len same whole no_gap = subst (λ (l : List Range). HasNoGap l → (y : ℕ) → HasOffset l y ↔ (y < len)) same whole no_gap

pub is_end : (ranges seen : List Range) (len : ℕ) → seen ≡ ranges → ((x : ℕ) → HasOffset seen x → x < len) → ((len ≡ 0) ⊎ HasOffset seen (len - 1)) → IsKeptEnd ranges len
is_end ranges seen len same below reached = subst (λ (l : List Range). IsKeptEnd l len) same record { below = below; reached = reached }

pub Closes-by : (keep new : KeepState) (len : ℕ) → ((x : ℕ) → HasOffset keep.ranges x ↔ (x < len)) → MovesBy (Finishes len) keep new → MovesBy (Closes keep) keep new
Closes-by keep new len exact moves =
    record {
      keep = moves.keep;
      any_moment = λ told image left. let l = moves.any_moment told image left in (l.0, l.1, inr (len, exact, l.2));
      time = moves.time;
    }

-- a keep to which nothing is done
pub Closes-none : (keep : KeepState) → IsKeep keep → MovesBy (Closes keep) keep keep
Closes-none keep sound = record { keep = sound; any_moment = λ told image left. (image, left, inl refl); time = Elapses-same keep.drive }

-- ---- images

abbrev ClosesAt : KeepState → Image → Image → Type 0
ClosesAt keep from image = (len : ℕ) × ((x : ℕ) → HasOffset keep.ranges x ↔ (x < len)) × Finishes len from image

-- what a whole keep's image has, with what its file's completion leaves of it
IsFrom-closes : (source : List ℕ) (keep : KeepState) (from image : Image) → keep.is_born ≡ true → keep.complete ≡ None → IsReadImage keep from → Closes keep from image → IsFrom source from → IsFrom source image
IsFrom-closes source keep from image born incomplete read closes f =
    ⊎_elim
    (λ same. subst (IsFrom source) (sym same) f)
    (λ (c : ClosesAt keep from image).
    let s = c.2 in
    let same = stays_same keep from image read s.stays in
    record {
      named = λ x v h. f.named x v (sym (same x) ∙ h);
      complete = λ len done x v at. ⊎_elim
          (λ before. absurd (none-some len (sym incomplete ∙ (read.exact.complete len).0 before)))
          (λ (now : (len ≡ c.0) × (length image.bytes ≡ c.0)).
          let within : x < length image.bytes = slice_get_within image.bytes x v at in
          let there = read.held x ((c.1 x).1 (omega (arith, within, now.1))) in
          let here : held image x ≡ Some there.0 = same x ∙ there.1 in
          f.named x v (there.1 ∙ sym (held_byte image x there.0 here) ∙ at))
          (s.complete len done);
      unborn = λ unborn. absurd (unborn (s.born.1 (read.exact.born.1 (is_true keep.is_born born))));
    })
    closes
  where
    is_true : (b : Bool) → b ≡ true → IsTrue b
    is_true true e = refl
    is_true false e = absurd (off e)

pub held_closes : (keep : KeepState) (from image : Image) → IsReadImage keep from → Closes keep from image → (x v : ℕ) → held from x ≡ Some v → held image x ≡ Some v
held_closes keep from image read closes x v h =
    ⊎_elim
    (λ same. ap (λ (i : Image). held i x) same ∙ h)
    (λ (c : ClosesAt keep from image). stays_same keep from image read c.2.stays x ∙ h)
    closes

-- ---- the Book at rest

pub IsBook-rest : (sent : List ℕ → Option Sent) (old new : BookState) → IsBook sent old → new.stage ≡ Rest → new.marks ≡ old.marks
    → IsOpen old.keep → (new.keep.standing ≡ Emptying → ⊥) → new.keep.ranges ≡ old.keep.ranges → MovesBy (Closes old.keep) old.keep new.keep → IsBook sent new
IsBook-rest sent old new b rest marks is_open never ranges moves =
    record {
      keep = moves.keep;
      marks = subst (λ (l : List Mark). MarksHold new.keep l) (sym marks) (MarksHold-more old.keep new.keep old.marks moves.time.goes.tells.0 (has_same old.keep new.keep ranges) never b.marks);
      origin = subst (λ (l : List ℕ). IfSome (sent l) (λ s. EachImage new.keep (IsFrom s.source))) (sym moves.time.goes.label)
          (if_map (sent old.keep.drive.label) _ _ (λ s is from told image now.
          let told' = moves.time.goes.tells.0 told in
          let l = moves.any_moment told' image (image_since old.keep new.keep image moves.keep moves.time now) in
          IsFrom-closes s.source old.keep l.0 image is_open.born is_open.incomplete (whole_read old.keep is_open.unbroken.whole b.keep told' l.0 l.1) l.2 (from told' l.0 l.1)) b.origin);
      transfer = subst (λ (s : Stage). IfSome (transfer_of s) (IsTransfer sent new.keep)) (sym rest) tt;
      reading = λ n is. let e : Rest ≡ Reading n = sym rest ∙ is in cc;
    }

pub counted_from : (before now : ℕ) → before ≤ now → NeverFalls before now
counted_from before now le = omega (arith, le)

pub Keeps-closes : (old new : KeepState) → IsKeep old → old.standing ≡ Whole → new.ranges ≡ old.ranges → NeverFalls old.drive.faults new.drive.faults → MovesBy (Closes old) old new → KeepsThrough (Closes old) old new
Keeps-closes old new sound whole ranges counted moves =
    record {
      keeps = Keeps-by (Closes old) old new whole sound (λ from image read c x v h. held_closes old from image read c x v h) moves.any_moment moves.time counted (has_same old new ranges);
      moves = moves;
    }

-- a settled transfer that failed leaves the keep
pub Keeps-left : (sent : List ℕ → Option Sent) (old : BookState) (t : Transfer) → IsBook sent old → old.stage ≡ Storing t → KeepsThrough (Closes old.keep) old.keep old.keep
Keeps-left sent old t b was =
    record {
      keeps = Keeps-same old.keep b.keep (whole_or_torn t.cause old.keep.standing (transfer_is sent old t was b).standing);
      moves = Closes-none old.keep b.keep;
    }

-- ---- the events fit at rest too

still_legal : (keep : KeepState) (events : List CoreEvent) (from image : Image) → IsReadImage keep from → Closes keep from image → Legal (Crash from ∷ events) → Legal (Crash image ∷ events)
still_legal keep [] from image read closes legal = legal
still_legal keep (e ∷ older) from image read closes legal = (
  legal.0,
  (λ _. refl),
  record {
    booked = λ x v k. held_closes keep from image read closes x v (legal.2.booked x v k);
    further = λ x c none.
        let named : Covers from.ranges x = ⊎_elim
        (λ same. subst (λ (i : Image). Covers i.ranges x) same c)
        (λ (d : ClosesAt keep from image). (d.2.stays.ranges x).0 c)
        closes in
        let there = legal.2.further x named none in
        (there.0, there.1, held_closes keep from image read closes x there.0 there.2);
  },
  tt,
)

-- an image at any moment of the call goes on with the events
close_legal : (old : BookState) (new : KeepState) (events : List CoreEvent) → IsKeep old.keep → old.keep.standing ≡ Whole → MovesBy (Closes old.keep) old.keep new → Fits old events
    → IsSome old.keep.drive.contents → (image : Image) → new.drive.left_since old.keep.drive.moment image → Legal (Crash image ∷ events)
close_legal old new events sound whole moves f told image left =
    let l = moves.any_moment told image left in
    let legal = subst (λ (s : Standing). EachImage old.keep (MayGoOn s events)) whole f.images told l.0 l.1 in
    still_legal old.keep events l.0 image (whole_read old.keep whole sound told l.0 l.1) l.2 legal

pub Fits-rest : (old new : BookState) (events : List CoreEvent) → IsKeep old.keep → new.stage ≡ Rest → old.keep.standing ≡ Whole → (new.keep.standing ≡ Whole) ⊎ (new.keep.standing ≡ Torn) → new.keep.ranges ≡ old.keep.ranges
    → MovesBy (Closes old.keep) old.keep new.keep → Fits old events → Fits new events
Fits-rest old new events sound rest whole how ranges moves f =
    record {
      legal = f.legal;
      booked = λ x. (λ c. (f.booked x).0 (has_back old.keep new.keep ranges x c), λ b. has_same old.keep new.keep ranges x ((f.booked x).1 b));
      images = λ told image now.
          let legal = close_legal old new.keep events sound whole moves f (moves.time.goes.tells.0 told) image (image_since old.keep new.keep image moves.keep moves.time now) in
          ⊎_elim (λ w. subst (λ (s : Standing). MayGoOn s events image) (sym w) legal) (λ t. subst (λ (s : Standing). MayGoOn s events image) (sym t) legal) how;
      closed = λ _. whole_shut old events whole f;
      transfer = subst (λ (s : Stage). IfSome (transfer_of s) (TellsTransfer events)) (sym rest) tt;
      marks = λ some. absurd (not_there (transfer_of new.stage) (ap transfer_of rest) some);
    }

-- a settled transfer changes nothing but its stage
pub IsBook-left : (sent : List ℕ → Option Sent) (old new : BookState) → IsBook sent old → new.stage ≡ Rest → new.marks ≡ old.marks → new.keep ≡ old.keep → IsBook sent new
IsBook-left sent old new b rest marks keep =
    record {
      keep = subst IsKeep (sym keep) b.keep;
      marks = subst (λ (k : KeepState). MarksHold k new.marks) (sym keep) (subst (λ (l : List Mark). MarksHold old.keep l) (sym marks) b.marks);
      origin = subst (λ (k : KeepState). ImagesAreFrom sent k) (sym keep) b.origin;
      transfer = subst (λ (s : Stage). IfSome (transfer_of s) (IsTransfer sent new.keep)) (sym rest) tt;
      reading = λ n is. let e : Rest ≡ Reading n = sym rest ∙ is in cc;
    }

pub Fits-left : (old new : BookState) (events : List CoreEvent) → new.stage ≡ Rest → new.keep ≡ old.keep → Fits old events → Fits new events
Fits-left old new events rest keep f =
    record {
      legal = f.legal;
      booked = λ x. subst (λ (k : KeepState). HasOffset k.ranges x ↔ Booked events x) (sym keep) (f.booked x);
      images = subst (λ (k : KeepState). EachImage k (MayGoOn k.standing events)) (sym keep) f.images;
      closed = subst (λ (k : KeepState). (k.standing ≡ Torn → ⊥) → is_open events ≡ false) (sym keep) f.closed;
      transfer = subst (λ (s : Stage). IfSome (transfer_of s) (TellsTransfer events)) (sym rest) tt;
      marks = λ some. absurd (not_there (transfer_of new.stage) (ap transfer_of rest) some);
    }

-- ---- done

-- where nothing is missing, the events are done
pub done_of : (book : BookState) (t : Transfer) (events : List CoreEvent) (len : ℕ) → Fits book events → TellsTransfer events t → t.cause ≡ None → IsCount t.count → IsMet t.count → ((x : ℕ) → HasOffset book.keep.ranges x ↔ (x < len)) → Done events
done_of book t events len f runs none count met exact =
    let counts = runs.counts none in
    let within = subst (λ (o : Option ℕ). IsWithin o t.count.eods) met count in
    record {
      begun = runs.begun;
      number = t.count.eods;
      total = counts.total ∙ met;
      in_bounds = (within.0, within.1);
      met = counts.eods;
      passes = counts.passes t.count.eods (ap (λ (o : Option ℕ). first_some o (Some t.count.eods)) met);
      whole = (len, λ x. ((λ b. (exact x).0 ((f.booked x).1 b)), (λ lt. (f.booked x).0 ((exact x).1 lt))));
    }

-- where the events are done, no cause is kept and nothing is missing
pub whole_of : (book : BookState) (t : Transfer) (events : List CoreEvent) → Fits book events → TellsTransfer events t → Done events → (t.cause ≡ None) × MissesNothing book.keep.ranges t
whole_of book t events f runs done =
    let none = no_cause t.cause (λ there. runs.failed there done.number (record { in_bounds = done.in_bounds; at_most = omega (arith, done.met); passes = done.passes })) in
    let counts = runs.counts none in (
      none,
      record {
        met = sym counts.total ∙ (done.total ∙ ap (λ (n : ℕ). Some n) (sym done.met ∙ counts.eods));
        no_gap = λ _ x y lt has.
            let upper = (done.whole.1 y).0 ((f.booked y).0 has) in
            (f.booked x).1 ((done.whole.1 x).1 (omega (arith, upper, lt)));
      },
    )
  where
    no_cause : (o : Option Cause) → (IsSome o → ⊥) → o ≡ None
    no_cause None never = refl
    no_cause (Some c) never = absurd (never refl)

-- ---- the events of a call of `settle`

-- a transfer that failed, or has a hole, leaves the keep as it was
pub SettlesEvents-left : (sent : List ℕ → Option Sent) (old new : BookState) (t : Transfer) (events : List CoreEvent) (is_ok : Type 0) → IsBook sent old → old.stage ≡ Storing t → new.stage ≡ Rest → new.keep ≡ old.keep → (is_ok → ⊥) → (Done events → ⊥) → Fits old events → SettlesEvents old new is_ok events
SettlesEvents-left sent old new t events is_ok b was rest keep not_ok never f =
    record {
      fits = Fits-left old new events rest keep f;
      cut_short = subst (λ (k : KeepState). IsSome old.keep.drive.contents → (image : Image) → k.drive.left_since old.keep.drive.moment image → Legal (Crash image ∷ events)) (sym keep)
          (λ told image left. goes_on t.cause old.keep.standing (transfer_is sent old t was b).standing image (f.images told image left));
      done = λ some ok. absurd (not_ok ok);
      well = λ some done. absurd (never done);
    }
  where
    goes_on : (cause : Option Cause) (standing : Standing) → standing ≡ standing_after cause → (image : Image) → MayGoOn standing events image → Legal (Crash image ∷ events)
    goes_on cause Whole is image g = g
    goes_on cause Torn is image g = g
    goes_on cause Emptying is image g = absurd (never_emptying cause Emptying is refl)

pub SettlesEvents-rest : (old new : BookState) (events : List CoreEvent) (is_ok : Type 0) → IsKeep old.keep → new.stage ≡ Rest → old.keep.standing ≡ Whole → (new.keep.standing ≡ Whole) ⊎ (new.keep.standing ≡ Torn) → new.keep.ranges ≡ old.keep.ranges
    → MovesBy (Closes old.keep) old.keep new.keep → (IsSome (rest_of old.stage) → is_ok → Done events) → (is_ok ⊎ Rose old.keep.drive.faults new.keep.drive.faults) → Fits old events → SettlesEvents old new is_ok events
SettlesEvents-rest old new events is_ok sound rest whole how ranges moves done well f =
    record {
      fits = Fits-rest old new events sound rest whole how ranges moves f;
      cut_short = λ told image left. close_legal old new.keep events sound whole moves f told image left;
      done = done;
      well = λ some is_done. well;
    }
