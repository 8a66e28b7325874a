-- A Book whose keep was looked at, and attached again where it was broken.
use Rattle.std.proofs.Common.{◌≡◌, ◌≢◌, ◌⊎◌, ℕ, ◌≤◌, List, [], ◌∷◌, Some, None, false, refl, sym, ap, ◌∙◌, subst, ⊎_elim, inl, inr, arith}
use Rattle.std.specs.Prelude.{Option, IsSome, IfSome, slice_get}
use Rattle.std.proofs.lemmas.Option.{none-some, same_Some}
use Rattle.gft_range.specs.declared.Range.{Range}
use Rattle.gft_range.specs.Words.{HasOffset}
use Rattle.gft_drive.specs.Words.{Covers, DriveState, Elapses, Image, IsLawful, LeavesBy, MayLeave, Sent}
use Rattle.gft_keep.specs.declared.Standing.{Standing}
use Rattle.gft_keep.specs.declared.Standing.TheVariants.{Whole, Emptying, Torn}
use Rattle.gft_keep.specs.Words.{EachImage, IsKeep, IsUnbroken, KeepState, MovesBy, NamesNone, NotReattached, OnlyLooks, once_failed}
use Rattle.gft_keep.specs.declared.AttachError.{AttachError}
use Rattle.gft_core.specs.declared.CoreEvent.{CoreEvent}
use Rattle.gft_core.specs.declared.CoreEvent.TheVariants.{Crash, Fresh}
use Rattle.gft_core.specs.Words.{Legal, held, is_open, kept}
use Rattle.gft_core.specs.Legal.{LeavesImage}
use Rattle.gft_core.proofs.Lemmas.{crash_kept}
use Rattle.gft_book.specs.declared.begin.BeginError.{BeginError}
use Rattle.gft_book.specs.declared.begin.BeginError.TheVariants as begin
use Rattle.gft_book.specs.declared.mark.Mark.{Mark}
use Rattle.gft_book.specs.declared.usage.How.{How}
use Rattle.gft_book.specs.declared.transfer.Transfer.{Transfer}
use Rattle.gft_book.specs.declared.transfer.Stage.TheVariants.{Rest, Reading}
use Rattle.gft_book.specs.Book.{BookState, transfer_of}
use Rattle.gft_book.specs.Keeping.{Keeps, NeverFalls}
use Rattle.gft_book.specs.Facts.{IsBook, IsFrom, IsTransfer, MarksHold}
use Rattle.gft_book.specs.Fits.{Fits, MayGoOn, Recovers, TellsTransfer}
use Rattle.gft_book.specs.Begin.{CountsBegin, FindsKeep, IsFound, Known, Looks, NotRecovered, RefusedFor, known_of}
use Rattle.gft_book.proofs.ChoiceLemmas.{if_map, is_there, not_there, off, some_there}
use Rattle.gft_book.proofs.KeepLemmas.{Elapses-same, held_covers, held_same, image_since, torn_held, whole_read}

-- ---- time

pub Elapses-then : (old mid new : DriveState) → IsLawful new → Elapses old mid → Elapses mid new → Elapses old new
Elapses-then old mid new lawful f g =
    record {
      goes = record { label = g.goes.label ∙ f.goes.label; tells = (λ t. f.goes.tells.0 (g.goes.tells.0 t), λ t. g.goes.tells.1 (f.goes.tells.1 t)) };
      later = let a = f.later in let b = g.later in omega (arith, a, b);
      nothing_else = λ t image le left. ⊎_elim
          (λ before. ⊎_elim (λ first_. inl first_) (λ since. inr (g.keeps old.moment image f.later since)) (f.nothing_else t image le before))
          (λ since. inr (lawful.since old.moment mid.moment image f.later g.later since))
          (g.nothing_else t image (let a = f.later in omega (arith, le, a)) left);
      keeps = λ t image le left. g.keeps t image (let a = f.later in omega (arith, le, a)) (f.keeps t image le left);
    }

abbrev pub SameImages : DriveState → DriveState → Type 0
SameImages old new = LeavesBy (λ from image. image ≡ from) old new

pub images-then : (old mid : KeepState) (new : DriveState) → IsKeep mid → Elapses old.drive mid.drive → Elapses mid.drive new → SameImages old.drive mid.drive → SameImages mid.drive new → SameImages old.drive new
images-then old mid new sound f g first_ second_ told image left =
    ⊎_elim
    (λ before. first_ told image before)
    (λ since.
    let l = second_ (f.goes.tells.1 told) image since in
    let k = first_ told l.0 (image_since old mid l.0 sound f l.1) in
    (k.0, k.1, l.2 ∙ k.2))
    (g.nothing_else old.drive.moment image f.later left)

-- ---- an unbroken keep that was looked at

pub Looks-same : (keep : KeepState) → IsUnbroken keep → Looks keep keep
Looks-same keep unbroken =
    record {
      keep = unbroken.facts;
      whole = unbroken.whole;
      known = refl;
      time = Elapses-same keep.drive;
      images = λ told image left. (image, left, refl);
    }

pub Looks-only : (old new : KeepState) → IsUnbroken old → OnlyLooks old new → Looks old new
Looks-only old new unbroken looks =
    record {
      keep = looks.keep unbroken.facts;
      whole = looks.whole;
      known = λ i. record { ranges = looks.same.ranges i; complete = looks.same.complete i; is_born = looks.same.is_born i; read = looks.drive.read i };
      time = looks.drive.time;
      images = λ told image left. (image, looks.drive.no_more image left, refl);
    }

-- ---- a keep that was found

pub FindsKeep-same : (keep : KeepState) → keep.standing ≡ Whole → FindsKeep keep keep
FindsKeep-same keep whole =
    record {
      time = Elapses-same keep.drive;
      images = λ told image left. (image, left, refl);
      whole = λ is. (is, refl);
      broken = λ not_whole. absurd (not_whole whole);
    }

pub FindsKeep-again : (old new : KeepState) → old.standing ≢ Whole → MovesBy (λ from image. image ≡ from) old new → new.standing ≡ Whole → FindsKeep old new
FindsKeep-again old new not_whole moves whole =
    record {
      time = moves.time;
      images = moves.any_moment;
      whole = λ is. absurd (not_whole is);
      broken = λ _. inl whole;
    }

still_broken : (s : Standing) → s ≢ Whole → once_failed s ≡ s
still_broken Whole not_whole = absurd (not_whole refl)
still_broken Emptying not_whole = refl
still_broken Torn not_whole = refl

pub FindsKeep-not : (old new : KeepState) (error : AttachError) → old.standing ≢ Whole → MovesBy (λ from image. image ≡ from) old new → NotReattached old new error → FindsKeep old new
FindsKeep-not old new error not_whole moves not_again =
    record {
      time = moves.time;
      images = moves.any_moment;
      whole = λ is. absurd (not_whole is);
      broken = λ _. inr (not_again.standing ∙ still_broken old.standing not_whole, not_again.same.ranges);
    }

pub FindsKeep-looks : (old mid new : KeepState) → IsKeep mid → FindsKeep old mid → mid.standing ≡ Whole → Looks mid new → FindsKeep old new
FindsKeep-looks old mid new sound finds whole looks =
    record {
      time = Elapses-then old.drive mid.drive new.drive looks.keep.lawful finds.time looks.time;
      images = images-then old mid new.drive sound finds.time looks.time finds.images looks.images;
      whole = λ is. (looks.whole, looks.known ∙ (finds.whole is).1);
      broken = λ not_whole. inl looks.whole;
    }

-- a keep that isn't attached again bars each begin
pub not_recovered : (old : KeepState) (file : Known) (how : How) (error : BeginError) → NotRecovered old error → RefusedFor old file how error
not_recovered old file how (begin.CompleteAlready len) r = absurd r
not_recovered old file how (begin.NotInJournal missing) r = absurd r
not_recovered old file how (begin.Damaged damage) r = r
not_recovered old file how begin.OutOfMemory r = inl r
not_recovered old file how begin.DriveFailed r = inl r
not_recovered old file how (begin.Busy found) r = absurd r
not_recovered old file how begin.NoSuch r = absurd r
not_recovered old file how begin.Incomplete r = absurd r

-- a refusal of the look is one of the begin
pub refused_on : (old mid new : KeepState) (how : How) (error : BeginError) → mid.standing ≡ Whole → known_of new ≡ known_of mid → RefusedFor mid (known_of mid) how error → RefusedFor old (known_of new) how error
refused_on old mid new how error whole known r = subst (λ (file : Known). RefusedFor old file how error) (sym known) (by_error error r)
  where
    by_error : (e : BeginError) → RefusedFor mid (known_of mid) how e → RefusedFor old (known_of mid) how e
    by_error (begin.CompleteAlready len) r = r
    by_error (begin.NotInJournal missing) r = r
    by_error (begin.Damaged damage) r = absurd (r.0 whole)
    by_error begin.OutOfMemory r = ⊎_elim (λ not_whole. absurd (not_whole whole)) (λ admits. inr admits) r
    by_error begin.DriveFailed r = ⊎_elim (λ not_whole. absurd (not_whole whole)) (λ asks. inr asks) r
    by_error (begin.Busy found) r = absurd r
    by_error begin.NoSuch r = absurd r
    by_error begin.Incomplete r = absurd r

-- how a keep was found
pub how_found : (old new : KeepState) → FindsKeep old new → ((new.standing ≡ old.standing) × (new.ranges ≡ old.ranges)) ⊎ ((old.standing ≢ Whole) × (new.standing ≡ Whole))
how_found old new finds = by_standing old.standing refl
  where
    same : old.standing ≡ Whole → ((new.standing ≡ old.standing) × (new.ranges ≡ old.ranges)) ⊎ ((old.standing ≢ Whole) × (new.standing ≡ Whole))
    same is = let f = finds.whole is in inl (f.0 ∙ sym is, ap (λ (k : Known). k.ranges) f.1)

    again : (old.standing ≢ Whole) → ((new.standing ≡ old.standing) × (new.ranges ≡ old.ranges)) ⊎ ((old.standing ≢ Whole) × (new.standing ≡ Whole))
    again not_whole = ⊎_elim (λ whole. inr (not_whole, whole)) (λ left. inl left) (finds.broken not_whole)

    by_standing : (s : Standing) → old.standing ≡ s → ((new.standing ≡ old.standing) × (new.ranges ≡ old.ranges)) ⊎ ((old.standing ≢ Whole) × (new.standing ≡ Whole))
    by_standing Whole is = same is
    by_standing Emptying is = again (λ w. let e : Emptying ≡ Whole = sym is ∙ w in cc)
    by_standing Torn is = again (λ w. let e : Torn ≡ Whole = sym is ∙ w in cc)

pub found_file : (old new : KeepState) → IsKeep new → FindsKeep old new → new.standing ≡ Whole → IsFound old (known_of new)
found_file old new sound finds whole =
    record {
      whole = λ is. (finds.whole is).1;
      broken = λ not_whole read is told.
          let l = finds.images told read (image_since old new read sound finds.time (sound.lawful.read read is)) in
          subst (λ (i : Image). MayLeave old.drive i) (sym l.2) l.1;
      names = λ read is x. (whole_read new whole sound (some_there new.drive.contents read is) read (sound.lawful.read read is)).ranges x;
    }

-- what was kept is kept, where no begin was emptying the file and the drive tells its contents
pub ranges_found : (old new : KeepState) → IsKeep old → IsKeep new → FindsKeep old new → (old.standing ≡ Emptying → ⊥) → IsSome new.drive.contents → (x : ℕ) → HasOffset old.ranges x → HasOffset new.ranges x
ranges_found old new sound sound' finds never told x c =
    ⊎_elim
    (λ (same : (new.standing ≡ old.standing) × (new.ranges ≡ old.ranges)). subst (λ (l : List Range). HasOffset l x) (sym same.1) c)
    (λ (again : (old.standing ≢ Whole) × (new.standing ≡ Whole)).
    let read = is_there new.drive.contents told in
    let now = sound'.lawful.read read.0 read.1 in
    let told' = finds.time.goes.tells.0 told in
    let from = finds.images told' read.0 (image_since old new read.0 sound' finds.time now) in
    let is_read = whole_read new again.1 sound' told read.0 now in
    let here = by_standing again.0 told' from.0 from.1 old.standing refl in
    (is_read.ranges x).0 (subst (λ (i : Image). Covers i.ranges x) (sym from.2) (held_covers from.0 x here.0 here.1)))
    (how_found old new finds)
  where
    by_standing : (old.standing ≡ Whole → ⊥) → IsSome old.drive.contents → (from : Image) → MayLeave old.drive from → (s : Standing) → old.standing ≡ s → (v : ℕ) × (held from x ≡ Some v)
    by_standing broken told' from may Whole is = absurd (broken is)
    by_standing broken told' from may Emptying is = absurd (never is)
    by_standing broken told' from may Torn is = let h = torn_held old is sound told' from may x c in (h.0, h.1)

-- how a keep stands that no begin was emptying
pub not_emptying : (s : Standing) → (s ≡ Emptying → ⊥) → (s ≡ Whole) ⊎ (s ≡ Torn)
not_emptying Whole never = inl refl
not_emptying Torn never = inr refl
not_emptying Emptying never = absurd (never refl)

pub Keeps-finds : (old new : KeepState) → IsKeep old → IsKeep new → FindsKeep old new → NeverFalls old.drive.faults new.drive.faults → (old.standing ≡ Emptying → ⊥) → IsSome old.drive.contents → Keeps old new
Keeps-finds old new sound sound' finds counted never told =
    record {
      time = finds.time;
      counted = counted;
      ranges = λ x c. ranges_found old new sound sound' finds never (finds.time.goes.tells.1 told) x c;
      held = λ told' image left x v kept.
          let from = finds.images told' image left in
          ap (λ (i : Image). held i x) from.2 ∙ held_same old sound (not_emptying old.standing never) x v kept told' from.0 from.1;
    }

-- a Book without a transfer stays one when its keep is found
pub IsBook-looked : (sent : List ℕ → Option Sent) (old new : BookState) → IsBook sent old → transfer_of new.stage ≡ None → ((n : ℕ) → new.stage ≡ Reading n → 1 ≤ n) → new.marks ≡ old.marks → IsKeep new.keep → FindsKeep old.keep new.keep → IsBook sent new
IsBook-looked sent old new b idle readers marks sound finds =
    record {
      keep = sound;
      marks = subst (λ (l : List Mark). MarksHold new.keep l) (sym marks) (record {
        each = λ i mark at. let m = b.marks.each i mark at in record {
          number = m.number;
          some = m.some;
          most = m.most;
          kept = λ told x c. ranges_found old.keep new.keep b.keep sound finds
              (λ emptying. none-some mark (ap (λ (l : List Mark). slice_get l i) (sym (b.marks.gone emptying)) ∙ at))
              told x (m.kept (finds.time.goes.tells.0 told) x c);
        };
        gone = λ is. ⊎_elim (λ same. b.marks.gone (sym same.0 ∙ is)) (λ again. let w : Whole ≡ Emptying = sym again.1 ∙ is in cc) (how_found old.keep new.keep finds);
      });
      origin = subst (λ (l : List ℕ). IfSome (sent l) (λ s. EachImage new.keep (IsFrom s.source))) (sym finds.time.goes.label)
          (if_map (sent old.keep.drive.label) _ _ (λ s is from told image now.
          let told' = finds.time.goes.tells.0 told in
          let l = finds.images told' image (image_since old.keep new.keep image sound finds.time now) in
          subst (IsFrom s.source) (sym l.2) (from told' l.0 l.1)) b.origin);
      transfer = subst (λ (t : Option Transfer). IfSome t (IsTransfer sent new.keep)) (sym idle) tt;
      reading = readers;
    }

pub IsBook-finds : (sent : List ℕ → Option Sent) (old new : BookState) → IsBook sent old → old.stage ≡ Rest → new.stage ≡ old.stage → new.marks ≡ old.marks → IsKeep new.keep → FindsKeep old.keep new.keep → IsBook sent new
IsBook-finds sent old new b rest stage marks sound finds =
    IsBook-looked sent old new b (ap transfer_of (stage ∙ rest)) (λ n is. let e : Rest ≡ Reading n = sym (stage ∙ rest) ∙ is in cc) marks sound finds

-- ---- the count of faults

pub counted_begin : (error : BeginError) (before now : ℕ) → CountsBegin error before now → NeverFalls before now
counted_begin begin.DriveFailed before now rose = omega (arith, rose)
counted_begin (begin.CompleteAlready len) before now same = omega (arith, same)
counted_begin (begin.NotInJournal missing) before now same = omega (arith, same)
counted_begin (begin.Damaged damage) before now same = omega (arith, same)
counted_begin begin.OutOfMemory before now same = omega (arith, same)
counted_begin (begin.Busy found) before now same = omega (arith, same)
counted_begin begin.NoSuch before now same = omega (arith, same)
counted_begin begin.Incomplete before now same = omega (arith, same)

-- ---- the events

-- the Crash with what a read gives fits
fits_crash : (new : BookState) (events : List CoreEvent) (read : Image) → IsKeep new.keep → transfer_of new.stage ≡ None → new.keep.standing ≡ Whole → new.keep.drive.contents ≡ Some read → Legal (Crash read ∷ events) → Fits new (Crash read ∷ events)
fits_crash new events read sound idle whole is legal =
    let told = some_there new.keep.drive.contents read is in
    let is_read = whole_read new.keep whole sound told read (sound.lawful.read read is) in
    let same : (x : ℕ) → kept (Crash read ∷ events) x ≡ held read x = crash_kept read events legal in
    record {
      legal = legal;
      booked = λ x. (
        (λ c. let h = is_read.held x c in (h.0, same x ∙ h.1)),
        (λ b. (is_read.ranges x).0 (held_covers read x b.0 (sym (same x) ∙ b.1))),
      );
      images = subst (λ (s : Standing). EachImage new.keep (MayGoOn s (Crash read ∷ events))) (sym whole)
          (λ told' image now'.
          let one : read ≡ image = same_Some read image (sym is ∙ (whole_read new.keep whole sound told' image now').read) in
          subst (λ (i : Image). Legal (Crash i ∷ (Crash read ∷ events))) one (
            legal,
            (λ _. refl),
            record {
              booked = λ x v k. sym (same x) ∙ k;
              further = λ x c none. let h = is_read.held x ((is_read.ranges x).0 c) in absurd (none-some h.0 (sym none ∙ (same x ∙ h.1)));
            },
            tt,
          ));
      closed = λ _. refl;
      transfer = subst (λ (t : Option Transfer). IfSome t (TellsTransfer (Crash read ∷ events))) (sym idle) tt;
      marks = λ there. absurd (not_there (transfer_of new.stage) idle there);
    }

-- a Fresh, and then an image that names nothing
legal_fresh : (image : Image) (events : List CoreEvent) → Legal events → is_open events ≡ false → NamesNone image → Legal (Crash image ∷ (Fresh ∷ events))
legal_fresh image events legal closed none = (
  (legal, (λ o. absurd (off (sym closed ∙ o))), nothing_left events, tt),
  (λ _. refl),
  record { booked = λ x v k. absurd (none-some v k); further = λ x c _. absurd (none.ranges x c) },
  tt,
)
  where
    nothing_left : (older : List CoreEvent) → LeavesImage older Fresh
    nothing_left [] = tt
    nothing_left (e ∷ older) = tt

pub recovers_same : (s : Standing) (events : List CoreEvent) → Recovers s events events
recovers_same Whole events = refl
recovers_same Emptying events = inl refl
recovers_same Torn events = inl refl

-- the list behind what the keep was attached again on
pub record FoundEvents (old new : BookState) (events : List CoreEvent) : Type 0 where
  pub now : List CoreEvent
  pub recovers : Recovers old.keep.standing events now
  pub fits : Fits new now

pub Fits-looked : (old new : BookState) (events : List CoreEvent) → IsKeep old.keep → IsKeep new.keep → transfer_of new.stage ≡ None → FindsKeep old.keep new.keep → IsSome old.keep.drive.contents → Fits old events → FoundEvents old new events
Fits-looked old new events sound sound' idle finds told f =
    ⊎_elim
    (λ (same : (new.keep.standing ≡ old.keep.standing) × (new.keep.ranges ≡ old.keep.ranges)). record {
      now = events;
      recovers = recovers_same old.keep.standing events;
      fits = record {
        legal = f.legal;
        booked = λ x. ((λ c. (f.booked x).0 (subst (λ (l : List Range). HasOffset l x) same.1 c)), (λ b. subst (λ (l : List Range). HasOffset l x) (sym same.1) ((f.booked x).1 b)));
        images = λ told' image now.
            let l = finds.images told image (image_since old.keep new.keep image sound' finds.time now) in
            subst (λ (s : Standing). MayGoOn s events image) (sym same.0) (subst (λ (i : Image). MayGoOn old.keep.standing events i) (sym l.2) (f.images told l.0 l.1));
        closed = λ h. f.closed (λ t. h (same.0 ∙ t));
        transfer = subst (λ (t : Option Transfer). IfSome t (TellsTransfer events)) (sym idle) tt;
        marks = λ there. absurd (not_there (transfer_of new.stage) idle there);
      };
    })
    (λ (again : (old.keep.standing ≢ Whole) × (new.keep.standing ≡ Whole)).
    let read = is_there new.keep.drive.contents (finds.time.goes.tells.1 told) in
    let now = sound'.lawful.read read.0 read.1 in
    let l = finds.images told read.0 (image_since old.keep new.keep read.0 sound' finds.time now) in
    by_standing again.0 again.1 read.0 read.1 (subst (λ (i : Image). MayGoOn old.keep.standing events i) (sym l.2) (f.images told l.0 l.1)) old.keep.standing refl)
    (how_found old.keep new.keep finds)
  where
    by_standing : (old.keep.standing ≡ Whole → ⊥) → new.keep.standing ≡ Whole → (read : Image) → new.keep.drive.contents ≡ Some read → MayGoOn old.keep.standing events read → (s : Standing) → old.keep.standing ≡ s → FoundEvents old new events
    by_standing broken whole read is goes Whole was = absurd (broken was)
    by_standing broken whole read is goes Torn was =
        let legal = subst (λ (s : Standing). MayGoOn s events read) was goes in
        record {
          now = Crash read ∷ events;
          recovers = subst (λ (s : Standing). Recovers s events (Crash read ∷ events)) (sym was) (inr (read, refl));
          fits = fits_crash new events read sound' idle whole is legal;
        }
    by_standing broken whole read is goes Emptying was =
        ⊎_elim
        (λ legal. record {
          now = Crash read ∷ events;
          recovers = subst (λ (s : Standing). Recovers s events (Crash read ∷ events)) (sym was) (inr (inl (read, refl)));
          fits = fits_crash new events read sound' idle whole is legal;
        })
        (λ none. let legal = legal_fresh read events f.legal (f.closed (λ t. let w : Emptying ≡ Torn = sym was ∙ t in cc)) none in
        record {
          now = Crash read ∷ (Fresh ∷ events);
          recovers = subst (λ (s : Standing). Recovers s events (Crash read ∷ (Fresh ∷ events))) (sym was) (inr (inr (read, refl, none)));
          fits = fits_crash new (Fresh ∷ events) read sound' idle whole is legal;
        })
        (subst (λ (s : Standing). MayGoOn s events read) was goes)

pub Fits-finds : (old new : BookState) (events : List CoreEvent) → IsKeep old.keep → IsKeep new.keep → old.stage ≡ Rest → new.stage ≡ old.stage → FindsKeep old.keep new.keep → IsSome old.keep.drive.contents → Fits old events → FoundEvents old new events
Fits-finds old new events sound sound' rest stage finds told f = Fits-looked old new events sound sound' (ap transfer_of (stage ∙ rest)) finds told f
