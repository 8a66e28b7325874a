-- A transfer that failed by its link has a lane whose count rose.
use Rattle.std.proofs.Common.{◌≡◌, ◌≤◌, ℕ, ◌+◌, Bool, true, false, if◌then◌else◌, List, [], ◌∷◌, ◌++◌, ◌||◌, length, nat_le, nat_lt, slice_get, Option, Some, None, IfSome, Result, Err, refl, sym, ap, ◌∙◌, inl, inr, ◌⊎◌, arith, zero, suc, subst}
use Rattle.std.proofs.lemmas.Option.{same_Some}
use Rattle.gft_base.specs.Words.{Rose}
use Rattle.gft_eblock.specs.declared.TheConstants.{MAX_BYTES}
use Rattle.gft_eblock.specs.Words.{Arrival, At, Bad, Eod, Eof, Refusal, arrivals, eods}
use Rattle.gft_eod.specs.declared.EodError.{EodError}
use Rattle.gft_eod.specs.declared.EodError.TheVariants as eod
use Rattle.gft_keep.specs.declared.KeepError.{KeepError}
use Rattle.gft_keep.specs.declared.KeepError.TheVariants as keep
use Rattle.gft_keep.specs.Words.{KeepState}
use Rattle.gft_outside.specs.declared.TheConstants.{MAX_LIVE, MAX_OPENED}
use Rattle.gft_outside.specs.Words.{Came, Channels, Ended, LaneInput, LaneState, Opened, Silence, byte_count, channels_after, no_channels, stream}
use Rattle.gft_pass.specs.declared.Cause.{Cause}
use Rattle.gft_pass.specs.declared.Cause.TheVariants as cause_is
use Rattle.gft_pass.specs.declared.Numbers.{Numbers}
use Rattle.gft_pass.specs.Words.{causes, cause_of_count, nothing}
use Rattle.gft_book.specs.Words.{SettledFile, Start, cause_of_keep}
use Rattle.gft_receive.specs.declared.limits.Limits.{Limits}
use Rattle.gft_receive.specs.Booking.{IsBooksCause, numbers_after}
use Rattle.gft_receive.specs.Causes.{bad_block, cause_at, first_cause, lost, or_later, refused_in, too_long, too_many}
use Rattle.gft_receive.specs.Telling.{IsTellers}
use Rattle.gft_receive.specs.Moved.{IsLanesCause, IsMoved, MoverEnds}
use Rattle.gft_receive.specs.Transfer.{EndsBadly, HasRun, MovesEach, Receives, bounds_at}
use Rattle.gft_receive.proofs.TallyLemmas.{KeepsIt, cause-after, keeper}

-- a lane came back with a fault
pub record HasFault {L : Type 0} (state : L → LaneState) (back : List L) : Type 0 where
  pub place : ℕ
  pub lane : L
  pub at : slice_get back place ≡ Some lane
  pub fault : 1 ≤ (state lane).faults

is_link : Cause → Bool
is_link cause_is.LinkFailed = true
is_link other = false

-- ---- the table knows no such cause

NoLink : Option Cause → Type 0
NoLink found = IfSome found (λ c. is_link c ≡ false)

or_no : (a b : Option Cause) → NoLink a → NoLink b → NoLink (or_later a b)
unfolding NoLink
or_no None b one other = other
or_no (Some c) b one other = one

if_no : (test : Bool) (a b : Option Cause) → NoLink a → NoLink b → NoLink (if test then a else b)
if_no true a b one other = one
if_no false a b one other = other

bad_no : (lane channel : ℕ) (refused : Option Refusal) → NoLink (bad_block lane channel refused)
unfolding NoLink is_link
bad_no lane channel None = tt
bad_no lane channel (Some r) = refl

lost_no : (lane shift channel : ℕ) (bytes : List ℕ) → NoLink (lost lane shift channel bytes)
unfolding NoLink is_link
lost_no lane shift channel [] = tt
lost_no lane shift channel (byte ∷ bytes) = if_no (nat_lt 0 (eods (arrivals shift (byte ∷ bytes)))) None (Some (cause_is.Lost lane channel (length (byte ∷ bytes)))) tt refl

many_no : (lane : ℕ) (before : Channels) → NoLink (too_many lane before)
unfolding NoLink is_link
many_no lane before = if_no (nat_le MAX_LIVE (length before.live) || nat_le MAX_OPENED before.opened) (Some (cause_is.TooManyChannels lane before.opened (length before.live))) None refl tt

long_no : (lane count : ℕ) → NoLink (too_long lane count)
unfolding NoLink is_link
long_no lane count = if_no (nat_lt count MAX_BYTES) None (Some (cause_is.StreamTooLong lane)) tt refl

at_no : (lane shift : ℕ) (input : LaneInput) (older : List LaneInput) → NoLink (cause_at lane shift input older)
unfolding NoLink is_link
at_no lane shift (Opened channel) older = many_no lane (channels_after older no_channels)
at_no lane shift (Came channel value) older =
    or_no (bad_block lane channel (refused_in (arrivals shift (stream channel (Came channel value ∷ older))))) (too_long lane (byte_count (Came channel value ∷ older))) (bad_no lane channel (refused_in (arrivals shift (stream channel (Came channel value ∷ older))))) (long_no lane (byte_count (Came channel value ∷ older)))
at_no lane shift (Ended channel) older = lost_no lane shift channel (stream channel older)
at_no lane shift Silence older = tt

first_no : (lane shift : ℕ) (inputs : List LaneInput) → NoLink (first_cause lane shift inputs)
unfolding NoLink
first_no lane shift [] = tt
first_no lane shift (input ∷ older) = or_no (first_cause lane shift older) (cause_at lane shift input older) (first_no lane shift older) (at_no lane shift input older)

-- ---- nor does the Book

keep_no : (error : KeepError) → is_link (cause_of_keep error) ≡ false
unfolding is_link
keep_no (keep.RangesFull kept) = refl
keep_no keep.OutOfMemory = refl
keep_no keep.Failed = refl

count_no : (error : EodError) → is_link (cause_of_count error) ≡ false
unfolding is_link
count_no (eod.BadTotal total) = refl
count_no (eod.TwoTotals kept new) = refl
count_no (eod.TooManyEods total) = refl

book_no : (rest : List Arrival) (c : Cause) → IsBooksCause rest c → is_link c ≡ false
book_no [] c none = absurd none
book_no (At offset value ∷ list) c shown = rw shown.1 (keep_no shown.0)
book_no (Eof total ∷ list) c shown = rw shown.kept (count_no shown.error)
book_no (Eod ∷ list) c shown = rw shown.kept (count_no shown.error)
book_no (Bad refusal ∷ list) c none = absurd none

link_is : is_link cause_is.LinkFailed ≡ true
unfolding is_link
link_is = refl

no_link : (c : Cause) → is_link c ≡ false → c ≡ cause_is.LinkFailed → ⊥
no_link c quiet is = let t = link_is in let n = rw is at quiet in absurd (cc (sym n ∙ t))

-- ---- so it is a lane's

lanes_rose : (bounds : _) (inputs : List LaneInput) (rose : Type 0) → IsLanesCause bounds inputs rose cause_is.LinkFailed → rose
unfolding NoLink
lanes_rose bounds inputs rose (inl first) = absurd (no_link cause_is.LinkFailed (subst NoLink first (first_no bounds.lane bounds.shift inputs)) refl)
lanes_rose bounds inputs rose (inr (none, inl idle)) = absurd (cc idle.1)
lanes_rose bounds inputs rose (inr (none, inr own)) = own.1

mover_rose : {bounds : _} {inputs : List LaneInput} {rest : List Arrival} {rose done : Type 0} (had after : Numbers) → had.cause ≡ None → after.cause ≡ Some cause_is.LinkFailed → MoverEnds bounds inputs rest rose done had after → rose
mover_rose had after none some (inl finished) = absurd (let e = finished.numbers in cc)
mover_rose had after none some (inr (inl stopped)) = absurd (let e = ap (λ (n : Numbers). n.cause) stopped in cc)
mover_rose {bounds} {inputs} {rest} {rose} had after none some (inr (inr failed)) =
    let same : failed.cause ≡ cause_is.LinkFailed = same_Some _ _ (sym (ap (λ (n : Numbers). n.cause) failed.kept) ∙ some) in
    elim failed.shown [
      | inl own ↦ lanes_rose bounds inputs rose (rw same at own)
      | inr books ↦ absurd (no_link failed.cause (book_no rest failed.cause books) same)
    ]

one_there : {A : Type 0} (items : List A) (k : ℕ) (other : List Numbers) (n : Numbers) → length other ≡ length items → slice_get other k ≡ Some n → (a : A) × (slice_get items k ≡ Some a)
one_there [] k [] n same at = absurd (cc at)
one_there [] k (m ∷ other) n same at = absurd (cc same)
one_there (a ∷ items) k [] n same at = absurd (cc at)
one_there (a ∷ items) zero (m ∷ other) n same at = (a, refl)
one_there (a ∷ items) (suc k) (m ∷ other) n same at = one_there items k other n (let e = same in cc) at

kept_fault : {L : Type 0} (state : L → LaneState) (limits : Limits) (lanes back : List L) (counts : List Numbers) → MovesEach state limits lanes back counts → KeepsIt counts cause_is.LinkFailed → HasFault state back
kept_fault state limits lanes back counts each kept =
    let old = one_there lanes kept.lane counts kept.count each.one_each kept.at in
    let new = one_there back kept.lane counts kept.count (each.one_each ∙ sym each.lanes_back) kept.at in
    let moved = each.each kept.lane old.0 new.0 kept.count old.1 new.1 kept.at in
    let rose = mover_rose (numbers_after moved.booked nothing) kept.count (cause-after moved.booked nothing) kept.kept moved.ends in
    record { place = kept.lane; lane = new.0; at = new.1; fault = omega (arith, rose) }

-- nor is it the teller's
teller_quiet : (put_failed : Bool) (teller : Numbers) → IsTellers put_failed teller → teller.cause ≡ Some cause_is.LinkFailed → ⊥
teller_quiet put_failed teller is some = rw some at is.cause

-- an end by the link has a lane with a fault
pub link_failed : {L : Type 0} (state : L → LaneState) (limits : Limits) (start : Start) (lanes back : List L) (now : KeepState) (put_failed : Bool) → Receives state limits start lanes back now (Err cause_is.LinkFailed) put_failed → HasFault state back
link_failed state limits start lanes back now put_failed (inl run) = elim run.ends [
  | inl kept ↦ elim (keeper run.counts run.teller cause_is.LinkFailed kept.0) [
    | inl one ↦ kept_fault state limits lanes back run.counts run.each one
    | inr teller ↦ absurd (teller_quiet put_failed run.teller run.tellers teller)
  ]
  | inr (none, inl gap) ↦ absurd (cc gap.is_it)
  | inr (none, inr drive) ↦ absurd (cc drive.0)
]
link_failed state limits start lanes back now put_failed (inr memory) = absurd (cc memory.0)
