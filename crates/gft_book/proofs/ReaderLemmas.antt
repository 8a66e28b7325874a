-- A Book whose file is read.
use Rattle.std.proofs.Common.{◌≡◌, ◌≢◌, ◌⊎◌, ◌↔◌, ℕ, ◌+◌, ◌-◌, ◌<◌, ◌≤◌, List, [], ◌∷◌, ◌++◌, length, Some, None, true, false, refl, sym, ap, ◌∙◌, subst, ⊎_elim, inl, inr, arith}
use Rattle.std.specs.Prelude.{◌^◌, All, Bool, Option, IsSome, IfSome, IsTrue, nat_lt, if◌then◌else◌, slice_get}
use Rattle.std.proofs.lemmas.Option.{none-some, same_Some}
use Rattle.std.proofs.lemmas.List.Elements.{All-nil, All-push, All-weaker}
use Rattle.std.proofs.lemmas.List.{length-append}
use Rattle.std.proofs.lemmas.Bool.{ltb-true}
use Rattle.gft_drive.specs.Words.{DriveState, Image, IsTwin, Sent}
use Rattle.gft_keep.specs.declared.Standing.{Standing}
use Rattle.gft_keep.specs.declared.Standing.TheVariants.{Whole, Emptying}
use Rattle.gft_keep.specs.Words.{EachImage, IsKeep, IsUnbroken, KeepState}
use Rattle.gft_core.specs.declared.CoreEvent.{CoreEvent}
use Rattle.gft_core.specs.Words.{CarriesSource}
use Rattle.gft_book.specs.declared.begin.BeginError.{BeginError}
use Rattle.gft_book.specs.declared.begin.BeginError.TheVariants as begin
use Rattle.gft_book.specs.declared.transfer.Stage.{Stage}
use Rattle.gft_book.specs.declared.transfer.Stage.TheVariants.{Rest, Reading, Storing}
use Rattle.gft_book.specs.Book.{BookState, transfer_of, usage_of}
use Rattle.gft_book.specs.Keeping.{NeverFalls}
use Rattle.gft_book.specs.Facts.{IsBook, IsFrom, IsTransfer}
use Rattle.gft_book.specs.Fits.{Fits, MayGoOn}
use Rattle.gft_book.specs.Begin.{CountsBegin, FindsKeep, Known, Looks, NotRecovered, known_of}
use Rattle.gft_book.specs.Readers.{AreTwins, BeginsRead, IsReadable, MayAskLength, MayRead, NotRead, OnlyReads, ReadsEvents, RefusedRead, one_reader_fewer, one_reader_more}
use Rattle.gft_book.proofs.ChoiceLemmas.{if_map, not_there, off, some_there}
use Rattle.gft_book.proofs.KeepLemmas.{Elapses-same, IsReadImage, Keeps-same, whole_read}
use Rattle.gft_book.proofs.BeginLemmas.{Elapses-then, Fits-looked, IsBook-looked, Keeps-finds, found_file, images-then, not_emptying, recovers_same}

-- ---- refusals

pub read_not_recovered : (old : KeepState) (file : Known) (error : BeginError) → NotRecovered old error → RefusedRead old file error
read_not_recovered old file (begin.Damaged damage) r = r
read_not_recovered old file begin.OutOfMemory r = inl r
read_not_recovered old file begin.DriveFailed r = inl r
read_not_recovered old file (begin.CompleteAlready len) r = absurd r
read_not_recovered old file (begin.NotInJournal missing) r = absurd r
read_not_recovered old file (begin.Busy found) r = absurd r
read_not_recovered old file begin.NoSuch r = absurd r
read_not_recovered old file begin.Incomplete r = absurd r

-- a refusal on the keep as it was found is one of the call
pub read_refused_on : (old mid new : KeepState) (error : BeginError) → mid.standing ≡ Whole → known_of new ≡ known_of mid → RefusedRead mid (known_of mid) error → RefusedRead old (known_of new) error
read_refused_on old mid new error whole known r = subst (λ (file : Known). RefusedRead old file error) (sym known) (by_error error r)
  where
    by_error : (e : BeginError) → RefusedRead mid (known_of mid) e → RefusedRead old (known_of mid) e
    by_error begin.NoSuch r = r
    by_error begin.Incomplete r = r
    by_error (begin.Damaged damage) r = absurd (r.0 whole)
    by_error begin.OutOfMemory r = ⊎_elim (λ not_whole. absurd (not_whole whole)) (λ may. inr may) r
    by_error begin.DriveFailed r = ⊎_elim (λ not_whole. absurd (not_whole whole)) (λ asks. inr asks) r
    by_error (begin.CompleteAlready len) r = absurd r
    by_error (begin.NotInJournal missing) r = absurd r
    by_error (begin.Busy found) r = absurd r

-- the same refusal on a keep that was looked at
pub read_refused_same : (old new : KeepState) (error : BeginError) → known_of new ≡ known_of old → RefusedRead old (known_of old) error → RefusedRead old (known_of new) error
read_refused_same old new error known r = subst (λ (file : Known). RefusedRead old file error) (sym known) r

pub may_ask : (file : Known) (len : ℕ) → MayRead file len → MayAskLength file
may_ask file len may = ⊎_elim (λ complete. inr (some_there file.complete len complete.1)) (λ unborn. inl unborn.0) may

-- ---- twins

pub IsTwin-looked : (old new : KeepState) (twin : DriveState) → Looks old new → IsTwin old.drive twin → IsTwin new.drive twin
IsTwin-looked old new twin looks is =
    record {
      label = is.label ∙ sym looks.time.goes.label;
      read = is.read ∙ sym (ap (λ (k : Known). k.read) looks.known);
      synced = is.synced;
      faults = is.faults;
    }

pub AreTwins-none : {D : Type 0} → (state : D → DriveState) (drive : DriveState) → AreTwins state drive 0 []
AreTwins-none state drive = record { many = refl; each = All-nil (λ twin. IsTwin drive (state twin)) }

pub AreTwins-looked : {D : Type 0} → (state : D → DriveState) (old new : KeepState) (count : ℕ) (twins : List D) → Looks old new → AreTwins state old.drive count twins → AreTwins state new.drive count twins
AreTwins-looked state old new count twins looks are =
    record {
      many = are.many;
      each = All-weaker (λ twin. IsTwin old.drive (state twin)) (λ twin. IsTwin new.drive (state twin)) (λ twin is. IsTwin-looked old new (state twin) looks is) twins are.each;
    }

-- one more, which the drive gave after the others
pub AreTwins-more : {D : Type 0} → (state : D → DriveState) (old new : KeepState) (count : ℕ) (twins : List D) (twin : D) → Looks old new → AreTwins state old.drive count twins → IsTwin old.drive (state twin) → AreTwins state new.drive (count + 1) (twins ++ twin ∷ [])
AreTwins-more state old new count twins twin looks are is =
    let all = AreTwins-looked state old new count twins looks are in
    record {
      many = length-append twins (twin ∷ []) ∙ ap (λ (n : ℕ). n + 1) all.many;
      each = All-push (λ t. IsTwin new.drive (state t)) twins twin all.each (IsTwin-looked old new (state twin) looks is);
    }

-- ---- looks, one after another

pub Looks-then : (old mid new : KeepState) → Looks old mid → Looks mid new → Looks old new
Looks-then old mid new f g =
    record {
      keep = g.keep;
      whole = g.whole;
      known = g.known ∙ f.known;
      time = Elapses-then old.drive mid.drive new.drive g.keep.lawful f.time g.time;
      images = images-then old mid new.drive f.keep f.time g.time f.images g.images;
    }

-- ---- what is read

pub is_readable : (sent : List ℕ → Option Sent) (book : BookState) (len : ℕ) → IsBook sent book → book.keep.standing ≡ Whole → MayRead (known_of book.keep) len → IsReadable sent book.keep len
is_readable sent book len b whole may =
    record {
      may = may;
      within = λ read is. let r = here read is in
          ⊎_elim
          (λ complete. r.exact.sound.complete len ((r.exact.complete len).1 complete.1))
          (λ unborn. let same : len ≡ length read.bytes = unborn.2 read is in omega (arith, same))
          may;
      source = if_map (sent book.keep.drive.label) _ _ (λ s is from read told. source s from read told) b.origin;
    }
  where
    here : (read : Image) → book.keep.drive.contents ≡ Some read → IsReadImage book.keep read
    here read is = whole_read book.keep whole b.keep (some_there book.keep.drive.contents read is) read (b.keep.lawful.read read is)

    source : (s : Sent) → EachImage book.keep (IsFrom s.source) → (read : Image) → book.keep.drive.contents ≡ Some read → CarriesSource s.source (slice_get read.bytes)
    source s from read is =
        let f = from (some_there book.keep.drive.contents read is) read (b.keep.lawful.read read is) in
        let r = here read is in
        ⊎_elim
        (λ complete. f.complete len ((r.exact.complete len).1 complete.1))
        (λ unborn. f.unborn (λ born. off (sym unborn.0 ∙ (r.exact.born).0 born)))
        may

-- ---- the call

-- one reader more is at least one
pub some_reader : (stage : Stage) (readers : ℕ) → one_reader_more stage ≡ Some readers → 1 ≤ readers
some_reader Rest readers is = let e : 1 ≡ readers = same_Some 1 readers is in omega (arith, e)
some_reader (Reading n) readers is = by_test (nat_lt n (2 ^ 32 - 1)) is
  where
    by_test : (b : Bool) → (if b then Some (n + 1) else None) ≡ Some readers → 1 ≤ readers
    by_test true e = let same : n + 1 ≡ readers = same_Some (n + 1) readers e in omega (arith, same)
    by_test false e = absurd (none-some readers e)
some_reader (Storing transfer) readers is = absurd (none-some readers is)

-- a file to which a reader may come isn't stored
pub no_transfer : (stage : Stage) → IsSome (one_reader_more stage) → transfer_of stage ≡ None
no_transfer Rest there = refl
no_transfer (Reading n) there = refl
no_transfer (Storing transfer) there = absurd (off there)

-- the Book that a reader came to, or none
pub IsBook-read : (sent : List ℕ → Option Sent) (old new : BookState) (readers : ℕ) → IsBook sent old → 1 ≤ readers → new.stage ≡ Reading readers → new.marks ≡ old.marks → IsKeep new.keep → FindsKeep old.keep new.keep → IsBook sent new
IsBook-read sent old new readers b some stage marks sound finds =
    IsBook-looked sent old new b (ap transfer_of stage)
    (λ n is. let e : readers ≡ n = same_readers readers n (sym stage ∙ is) in omega (arith, e, some))
    marks sound finds
  where
    same_readers : (m n : ℕ) → Reading m ≡ Reading n → m ≡ n
    same_readers m n e = cc

pub IsBook-unread : (sent : List ℕ → Option Sent) (old new : BookState) → IsBook sent old → transfer_of old.stage ≡ None → new.stage ≡ old.stage → new.marks ≡ old.marks → IsKeep new.keep → FindsKeep old.keep new.keep → IsBook sent new
IsBook-unread sent old new b idle stage marks sound finds =
    IsBook-looked sent old new b (ap transfer_of stage ∙ idle) (λ n is. b.reading n (sym stage ∙ is)) marks sound finds

pub OnlyReads-same : (book : BookState) → IsKeep book.keep → OnlyReads book book
OnlyReads-same book sound =
    record {
      time = Elapses-same book.keep.drive;
      last = refl;
      marks = refl;
      unmarked = refl;
      turns = refl;
      keeps = λ never told. Keeps-same book.keep sound (not_emptying book.keep.standing never);
    }

pub OnlyReads-found : (old new : BookState) → IsKeep old.keep → IsKeep new.keep → FindsKeep old.keep new.keep → NeverFalls old.keep.drive.faults new.keep.drive.faults → new.last ≡ old.last → new.marks ≡ old.marks → new.unmarked ≡ old.unmarked → new.turns ≡ old.turns → OnlyReads old new
OnlyReads-found old new sound sound' finds counted last marks unmarked turns =
    record {
      time = finds.time;
      last = last;
      marks = marks;
      unmarked = unmarked;
      turns = turns;
      keeps = λ never told. Keeps-finds old.keep new.keep sound sound' finds counted never told;
    }

pub ReadsEvents-same : (book : BookState) (events : List CoreEvent) → IsSome book.keep.drive.contents → Fits book events → ReadsEvents book book events
ReadsEvents-same book events told f =
    record { now = events; recovers = recovers_same book.keep.standing events; fits = f; cut_short = λ image left. f.images told image left }

pub ReadsEvents-found : (old new : BookState) (events : List CoreEvent) → IsKeep old.keep → IsKeep new.keep → transfer_of new.stage ≡ None → FindsKeep old.keep new.keep → IsSome old.keep.drive.contents → Fits old events → ReadsEvents old new events
ReadsEvents-found old new events sound sound' idle finds told f =
    let e = Fits-looked old new events sound sound' idle finds told f in
    record {
      now = e.now;
      recovers = e.recovers;
      fits = e.fits;
      cut_short = λ image left. let l = finds.images told image left in
          subst (λ (i : Image). MayGoOn old.keep.standing events i) (sym l.2) (f.images told l.0 l.1);
    }

pub BeginsRead-found : {D : Type 0} → (state : D → DriveState) (sent : List ℕ → Option Sent) (old new : BookState) (readers count : ℕ) (twins : List D) (len : ℕ) → IsBook sent new → one_reader_more old.stage ≡ Some readers → new.stage ≡ Reading readers → FindsKeep old.keep new.keep → new.keep.standing ≡ Whole → MayRead (known_of new.keep) len → AreTwins state new.keep.drive count twins → new.keep.drive.faults ≡ old.keep.drive.faults → BeginsRead state sent old new count twins len
BeginsRead-found state sent old new readers count twins len b more stage finds whole may are faults =
    record {
      readers = readers;
      more = more;
      stage = stage;
      found = found_file old.keep new.keep b.keep finds whole;
      readable = is_readable sent new len b whole may;
      lent = are;
      faults = faults;
    }

pub NotRead-busy : (unchanged : Type 0) (book : BookState) → unchanged → one_reader_more book.stage ≡ None → NotRead unchanged book book (begin.Busy (usage_of book.stage))
NotRead-busy unchanged book same none =
    record {
      stage = refl;
      busy = λ _. (refl, same);
      other = λ there. absurd (not_there (one_reader_more book.stage) none there);
      faults = refl;
    }

pub NotRead-found : (unchanged : Type 0) (old new : BookState) (readers : ℕ) (error : BeginError) → one_reader_more old.stage ≡ Some readers → new.stage ≡ old.stage → RefusedRead old.keep (known_of new.keep) error → CountsBegin error old.keep.drive.faults new.keep.drive.faults → NotRead unchanged old new error
NotRead-found unchanged old new readers error more stage refused counts =
    record {
      stage = stage;
      busy = λ none. absurd (none-some readers (sym none ∙ more));
      other = λ _. refused;
      faults = counts;
    }

-- ---- the end of a reader

pub IsBook-fewer : (sent : List ℕ → Option Sent) (book : BookState) → IsBook sent book → IsBook sent (record { keep = book.keep; stage = one_reader_fewer book.stage; last = book.last; marks = book.marks; unmarked = book.unmarked; turns = book.turns })
IsBook-fewer sent book b =
    record {
      keep = b.keep;
      marks = b.marks;
      origin = b.origin;
      transfer = transfer book.stage b.transfer;
      reading = λ m is. reading book.stage m is;
    }
  where
    by_test : (n : ℕ) (t : Bool) → IfSome (transfer_of (if t then Reading (n - 1) else Rest)) (IsTransfer sent book.keep)
    by_test n true = tt
    by_test n false = tt

    transfer : (s : Stage) → IfSome (transfer_of s) (IsTransfer sent book.keep) → IfSome (transfer_of (one_reader_fewer s)) (IsTransfer sent book.keep)
    transfer Rest h = tt
    transfer (Reading n) h = by_test n (nat_lt 1 n)
    transfer (Storing t) h = h

    same_readers : (m n : ℕ) → Reading m ≡ Reading n → m ≡ n
    same_readers m n e = cc

    by_count : (n m : ℕ) (t : Bool) → nat_lt 1 n ≡ t → (if t then Reading (n - 1) else Rest) ≡ Reading m → 1 ≤ m
    by_count n m true more is = let e = same_readers (n - 1) m is in let lt : 1 < n = ltb-true 1 n more in omega (arith, e, lt)
    by_count n m false more is = cc

    reading : (s : Stage) (m : ℕ) → one_reader_fewer s ≡ Reading m → 1 ≤ m
    reading Rest m is = cc
    reading (Reading n) m is = by_count n m (nat_lt 1 n) refl is
    reading (Storing t) m is = cc
