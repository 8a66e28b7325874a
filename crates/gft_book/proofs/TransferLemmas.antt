-- A Book's facts, when a call with a pass changes its transfer.
use Rattle.std.proofs.Common.{◌≡◌, ℕ, ◌+◌, ◌*◌, ◌<◌, ◌≤◌, List, [], ◌∷◌, length, set, Some, refl, sym, ap, ◌∙◌, subst, ⊎_elim, inl, inr, arith}
use Rattle.std.specs.Prelude.{Option, IsSome, IfSome}
use Rattle.std.proofs.lemmas.Option.{slice_get_within}
use Rattle.gft_range.specs.declared.Range.{Range}
use Rattle.gft_range.specs.Words.{HasOffset, InRange, IsNormal}
use Rattle.gft_drive.specs.declared.TheConstants.{MAX_RANGES}
use Rattle.gft_drive.specs.Words.{Elapses, Sent}
use Rattle.gft_eod.specs.Words.{Count, IsCount}
use Rattle.gft_keep.specs.declared.Standing.TheVariants.{Whole, Emptying}
use Rattle.gft_keep.specs.declared.KeepError.{KeepError}
use Rattle.gft_keep.specs.declared.KeepError.TheVariants.{RangesFull, OutOfMemory, Failed}
use Rattle.gft_keep.specs.Words.{EachImage, IsBlock, IsFull, IsKeep, KeepState, MovesBy, Refused, Stored, StoresSome, block_of}
use Rattle.gft_pass.specs.declared.Cause.{Cause}
use Rattle.gft_pass.specs.declared.Numbers.{Numbers}
use Rattle.gft_pass.specs.Words.{Lane, Ledger, causes, one}
use Rattle.gft_pass.proofs.Lemmas.{causes-first, causes-set}
use Rattle.gft_book.specs.declared.mark.Mark.{Mark}
use Rattle.gft_book.specs.declared.transfer.Transfer.{Transfer}
use Rattle.gft_book.specs.declared.transfer.Stage.{Stage}
use Rattle.gft_book.specs.declared.transfer.Stage.TheVariants.{Rest, Reading, Storing}
use Rattle.gft_book.specs.Book.{BookState, InTransfer, Moving, left_out, rest_of, transfer_of}
use Rattle.gft_book.specs.Facts.{ImagesAreFrom, IsBook, IsEnded, IsFrom, IsHonestCause, IsSentBy, IsTransfer, MarksHold, NumbersAgree, ShowsCause, standing_after}
use Rattle.gft_book.specs.Calls.{ChangesPass, IsNext, IsOfSource, KeepsCause, NotesEnd, RunsOn, SendsBlock, as_stopped, cause_of_keep, more_bytes, with_cause}
use Rattle.gft_book.proofs.ChoiceLemmas.{if_make, if_map, if_some, is_there, some_there}
use Rattle.gft_book.proofs.NumbersLemmas.{ChangesNumbers, NumbersAgree-set}
use Rattle.gft_book.proofs.KeepLemmas.{byte_inside, has_same, image_since, union_new, union_old, whole_read}
use Rattle.gft_book.proofs.OriginLemmas.{HasSent-next, HasSent-same, IsFrom-store, IsSentBy-set}

-- ---- marks

pub MarksHold-more : (old new : KeepState) (marks : List Mark) → (IsSome new.drive.contents → IsSome old.drive.contents) → ((x : ℕ) → HasOffset old.ranges x → HasOffset new.ranges x) → (new.standing ≡ Emptying → ⊥) → MarksHold old marks → MarksHold new marks
MarksHold-more old new marks tells more never h =
    record {
      each = λ i mark at. let m = h.each i mark at in record { number = m.number; some = m.some; most = m.most; kept = λ told x c. more x (m.kept (tells told) x c) };
      gone = λ is. absurd (never is);
    }

-- ---- a long source

-- a normal list whose offsets lie below some end has few ranges
few_ranges : (rs : List Range) (start end : ℕ) → IsNormal rs → 0 < length rs → ((r : Range) (rest : List Range) → rs ≡ r ∷ rest → start ≤ r.start) → ((x : ℕ) → HasOffset rs x → x < end) → start + 2 * length rs ≤ end + 1
few_ranges [] start end normal some above below = absurd (omega arith)
few_ranges (r ∷ []) start end normal some above below =
    let low = above r [] refl in
    let here = below r.start (inl (omega arith, normal.0)) in
    omega (arith, low, here)
few_ranges (r ∷ (q ∷ rest)) start end normal some above below =
    let low = above r (q ∷ rest) refl in
    let gap : r.end < q.start = normal.1 in
    let first : r.start < r.end = normal.0 in
    let more = few_ranges (q ∷ rest) (r.start + 2) end normal.2 (omega arith)
    (λ p others is. let same : q.start ≡ p.start = ap (λ (l : List Range). head_start l) is in omega (arith, same, gap, first))
    (λ x h. below x (inr h)) in
    omega (arith, low, more)
  where
    head_start : List Range → ℕ
    head_start [] = 0
    head_start (p ∷ ps) = p.start

-- where honest bytes fill the set, the source is long
long_source : (source : List ℕ) (keep : KeepState) (offset : ℕ) (bytes : List ℕ) → keep.standing ≡ Whole → IsKeep keep → EachImage keep (IsFrom source) → IsOfSource source offset bytes → IsFull keep.ranges (block_of offset bytes) → IsSome keep.drive.contents → 2 * MAX_RANGES < length source
long_source source keep offset bytes whole sound from sent full told =
    let read = is_there keep.drive.contents told in
    let now = sound.lawful.read read.0 read.1 in
    let is_read = whole_read keep whole sound told read.0 now in
    let few = few_ranges full.union 0 (length source) full.is_union.normal (omega (arith, full.one_more)) (λ r rest is. omega arith)
    (λ x has. ⊎_elim
    (λ (was : HasOffset keep.ranges x).
    let there = is_read.held x was in
    slice_get_within source x there.0 ((from told read.0 now).named x there.0 there.1))
    (λ (here : InRange (block_of offset bytes) x).
    let b = byte_inside offset bytes x here.0 here.1 in
    slice_get_within source x b.0 (sent x b.0 b.1))
    ((full.is_union.offsets x).0 has)) in
    omega (arith, few, full.one_more)

-- ---- the transfer

pub IsTransfer-set : (sent : List ℕ → Option Sent) (old new : KeepState) (t u : Transfer) (before after : Lane) (m : Numbers)
    → ChangesPass m before after t u
    → new.drive.label ≡ old.drive.label → new.standing ≡ standing_after u.cause → new.is_born ≡ old.is_born → new.complete ≡ old.complete
    → ChangesNumbers (before.lane + 1 ≡ length t.roster.counts) before.count m t.count u.count t.cause u.cause
    → causes (set t.roster.counts before.lane m) ≡ one u.cause
    → ((s : Sent) → sent old.drive.label ≡ Some s → (rest : List Range) → left_out t.how ≡ Some rest → IsSentBy (s.orders rest) rest old t × IfSome t.cause (IsHonestCause s.source old) → IsSentBy (s.orders rest) rest new u × IfSome u.cause (IsHonestCause s.source new))
    → IfSome u.cause (ShowsCause new u.count)
    → IsTransfer sent old t → IsTransfer sent new u
IsTransfer-set sent old new t u before after m moves label standing born complete change in_causes origin shown i =
    record {
      standing = standing;
      is_born = born ∙ i.is_born;
      incomplete = complete ∙ i.incomplete;
      numbers = subst (λ (l : List Numbers). NumbersAgree l u.count u.cause) (sym (ap (λ (r : Ledger). r.counts) moves.roster))
          (NumbersAgree-set t.roster.counts before.lane before.count m t.count u.count t.cause u.cause moves.listed change in_causes i.numbers);
      origin = subst (λ (l : List ℕ). IfSome (sent l) (λ s. IfSome (left_out u.how) (λ rest. IsSentBy (s.orders rest) rest new u × IfSome u.cause (IsHonestCause s.source new)))) (sym label)
          (if_map (sent old.drive.label) _ _
          (λ s is one. subst (λ how. IfSome (left_out how) (λ rest. IsSentBy (s.orders rest) rest new u × IfSome u.cause (IsHonestCause s.source new))) (sym moves.how)
          (if_map (left_out t.how) _ _ (λ rest of f. origin s is rest of f) one))
          i.origin);
      cause = shown;
    }

pub transfer_is : (sent : List ℕ → Option Sent) (book : BookState) (t : Transfer) → book.stage ≡ Storing t → IsBook sent book → IsTransfer sent book.keep t
transfer_is sent book t is b = if_some (transfer_of book.stage) (IsTransfer sent book.keep) t (ap transfer_of is) b.transfer

-- an end is one while the count and the cause stay
pub ended_still : (t u : Transfer) → u.count ≡ t.count → u.cause ≡ t.cause → IsEnded t.count t.cause → IsEnded u.count u.cause
ended_still t u count cause ended =
    subst (λ (c : Count). IsEnded c u.cause) (sym count) (subst (λ (o : Option Cause). IsEnded t.count o) (sym cause) ended)

-- a call that finds the transfer ended
pub IsTransfer-noted : (sent : List ℕ → Option Sent) (keep : KeepState) (t u : Transfer) (before after : Lane) → IsEnded t.count t.cause → NotesEnd before after t u → IsTransfer sent keep t → IsTransfer sent keep u
IsTransfer-noted sent keep t u before after ended f i =
    let same_eods : u.count.eods ≡ t.count.eods = ap (λ (c : Count). c.eods) f.count in
    let same_total : u.count.total ≡ t.count.total = ap (λ (c : Count). c.total) f.count in
    IsTransfer-set sent keep keep t u before after (as_stopped before.count) f.moves refl
    (i.standing ∙ ap standing_after (sym f.cause)) refl refl
    record {
      within = subst IsCount (sym f.count);
      teller = λ last h. h;
      eods = omega (arith, same_eods);
      total = λ n is. same_total ∙ is;
      mine = λ n is. same_total ∙ i.numbers.totals before.lane n before.count f.moves.listed is;
      told = λ n is. inr (sym same_total ∙ is, refl);
      stopped = λ is. ended_still t u f.count f.cause ended;
      still = λ is. ended_still t u f.count f.cause is;
    }
    (causes-set t.roster.counts before.lane before.count (as_stopped before.count) f.moves.listed refl ∙ i.numbers.causes ∙ ap one (sym f.cause))
    (λ s is rest of h. (
      IsSentBy-set (s.orders rest) rest keep keep t u before (as_stopped before.count) (ap (λ (r : Ledger). r.counts) f.moves.roster) (λ x c. c)
          (HasSent-same ((s.orders rest).order before.lane) ((s.orders rest).number before.lane) keep keep before.count (as_stopped before.count) refl refl (λ x c. c) (h.0.lanes before.lane before.count f.moves.listed))
          (λ n told. inl (sym same_total ∙ told)) h.0,
      subst (λ (o : Option Cause). IfSome o (IsHonestCause s.source keep)) (sym f.cause) h.1,
    ))
    (subst (λ (o : Option Cause). IfSome o (ShowsCause keep u.count)) (sym f.cause) (subst (λ (c : Count). IfSome t.cause (ShowsCause keep c)) (sym f.count) i.cause))
    i

-- a block was stored
pub IsTransfer-stored : (sent : List ℕ → Option Sent) (old new : KeepState) (t u : Transfer) (before after : Lane) (offset : ℕ) (bytes : List ℕ) (added : ℕ)
    → RunsOn (more_bytes (length bytes) before.count) t.count before after t u → before.lane + 1 < length t.roster.counts → IsBlock offset bytes
    → IfSome (sent old.drive.label) (λ s. IsOfSource s.source offset bytes × IfSome (left_out t.how) (λ rest. IsNext (s.orders rest) before offset bytes))
    → new.drive.label ≡ old.drive.label → Stored old new offset bytes added
    → IsTransfer sent old t → IsTransfer sent new u
IsTransfer-stored sent old new t u before after offset bytes added r lane block honest label st i =
    let same_eods : u.count.eods ≡ t.count.eods = ap (λ (c : Count). c.eods) r.count in
    let same_total : u.count.total ≡ t.count.total = ap (λ (c : Count). c.total) r.count in
    let more = union_old old.ranges new.ranges offset bytes st.union in
    IsTransfer-set sent old new t u before after (more_bytes (length bytes) before.count) r.moves label
    (st.whole ∙ ap standing_after (sym r.cause)) st.is_born st.complete
    record {
      within = subst IsCount (sym r.count);
      teller = λ last h. absurd (omega (arith, last, lane));
      eods = omega (arith, same_eods);
      total = λ n is. same_total ∙ is;
      mine = λ n is. same_total ∙ i.numbers.totals before.lane n before.count r.moves.listed is;
      told = λ n is. inr (sym same_total ∙ is, refl);
      stopped = λ is. ended_still t u r.count (r.cause ∙ sym r.running) (i.numbers.stopped before.lane before.count r.moves.listed is);
      still = λ is. ended_still t u r.count (r.cause ∙ sym r.running) is;
    }
    (causes-set t.roster.counts before.lane before.count (more_bytes (length bytes) before.count) r.moves.listed refl ∙ i.numbers.causes ∙ ap one (r.running ∙ sym r.cause))
    (λ s is rest of h. (
      IsSentBy-set (s.orders rest) rest old new t u before (more_bytes (length bytes) before.count) (ap (λ (l : Ledger). l.counts) r.moves.roster) more
          (HasSent-next (s.orders rest) before offset bytes old new block.0
          (if_some (left_out t.how) (λ q. IsNext (s.orders q) before offset bytes) rest of (if_some (sent old.drive.label) _ s is honest).1)
          more (union_new old.ranges new.ranges offset bytes st.union)
          (λ k lt. byte_inside offset bytes (offset + k) (omega arith) (omega (arith, lt)))
          (h.0.lanes before.lane before.count r.moves.listed))
          (λ n told. inl (sym same_total ∙ told)) h.0,
      subst (λ (o : Option Cause). IfSome o (IsHonestCause s.source new)) (sym r.cause) tt,
    ))
    (subst (λ (o : Option Cause). IfSome o (ShowsCause new u.count)) (sym r.cause) tt)
    i

-- how a keep stands after a refusal
standing_of : (error : KeepError) (unchanged : Type 0) (old new : KeepState) (block : Range) → old.standing ≡ Whole → (unchanged → new.standing ≡ old.standing) → Refused unchanged old new block error → new.standing ≡ standing_after (Some (cause_of_keep error))
standing_of (RangesFull kept) unchanged old new block whole same r = same (r.kept (λ e. cc)) ∙ whole
standing_of OutOfMemory unchanged old new block whole same r = same (r.kept (λ e. cc)) ∙ whole
standing_of Failed unchanged old new block whole same r = r.shows.1

shown_of : (error : KeepError) (unchanged : Type 0) (old new : KeepState) (block : Range) (count : Count) → Refused unchanged old new block error → ShowsCause new count (cause_of_keep error)
shown_of (RangesFull kept) unchanged old new block count r = (r.shows.0, ap (λ (l : List Range). length l) r.same.ranges ∙ r.shows.1.at_limit)
shown_of OutOfMemory unchanged old new block count r = tt
shown_of Failed unchanged old new block count r = tt

honest_of : (error : KeepError) (unchanged : Type 0) (source : List ℕ) (old new : KeepState) (offset : ℕ) (bytes : List ℕ) → (IsSome new.drive.contents → IsSome old.drive.contents) → old.standing ≡ Whole → IsKeep old → EachImage old (IsFrom source) → IsOfSource source offset bytes → Refused unchanged old new (block_of offset bytes) error → IsHonestCause source new (cause_of_keep error)
honest_of (RangesFull kept) unchanged source old new offset bytes tells whole sound from sent r = λ told. long_source source old offset bytes whole sound from sent r.shows.1 (tells told)
honest_of OutOfMemory unchanged source old new offset bytes tells whole sound from sent r = tt
honest_of Failed unchanged source old new offset bytes tells whole sound from sent r = tt

-- a block was refused
pub IsTransfer-refused : (unchanged : Type 0) (sent : List ℕ → Option Sent) (old new : KeepState) (t u : Transfer) (before after : Lane) (offset : ℕ) (bytes : List ℕ) (error : KeepError)
    → KeepsCause (cause_of_keep error) before after t u
    → IfSome (sent old.drive.label) (λ s. IsOfSource s.source offset bytes × IfSome (left_out t.how) (λ rest. IsNext (s.orders rest) before offset bytes))
    → Elapses old.drive new.drive → IsKeep old → ImagesAreFrom sent old
    → (unchanged → new.standing ≡ old.standing) → Refused unchanged old new (block_of offset bytes) error
    → IsTransfer sent old t → IsTransfer sent new u
IsTransfer-refused unchanged sent old new t u before after offset bytes error f honest time sound from same r i =
    let same_eods : u.count.eods ≡ t.count.eods = ap (λ (c : Count). c.eods) f.count in
    let same_total : u.count.total ≡ t.count.total = ap (λ (c : Count). c.total) f.count in
    let more : (x : ℕ) → HasOffset old.ranges x → HasOffset new.ranges x = has_same old new r.same.ranges in
    let m = with_cause (cause_of_keep error) before.count in
    let none : causes t.roster.counts ≡ [] = i.numbers.causes ∙ ap one f.running in
    let whole : old.standing ≡ Whole = i.standing ∙ ap standing_after f.running in
    IsTransfer-set sent old new t u before after m f.moves time.goes.label
    (standing_of error unchanged old new (block_of offset bytes) whole same r ∙ ap standing_after (sym f.kept)) r.same.is_born r.same.complete
    record {
      within = subst IsCount (sym f.count);
      teller = λ last h. h;
      eods = omega (arith, same_eods);
      total = λ n is. same_total ∙ is;
      mine = λ n is. same_total ∙ i.numbers.totals before.lane n before.count f.moves.listed is;
      told = λ n is. inr (sym same_total ∙ is, refl);
      stopped = λ is. inl (some_there u.cause (cause_of_keep error) f.kept);
      still = λ is. inl (some_there u.cause (cause_of_keep error) f.kept);
    }
    (causes-first t.roster.counts before.lane before.count m (cause_of_keep error) none f.moves.listed refl ∙ ap one (sym f.kept))
    (λ s is rest of h. (
      IsSentBy-set (s.orders rest) rest old new t u before m (ap (λ (l : Ledger). l.counts) f.moves.roster) more
          (HasSent-same ((s.orders rest).order before.lane) ((s.orders rest).number before.lane) old new before.count m refl refl more (h.0.lanes before.lane before.count f.moves.listed))
          (λ n told. inl (sym same_total ∙ told)) h.0,
      subst (λ (o : Option Cause). IfSome o (IsHonestCause s.source new)) (sym f.kept)
          (honest_of error unchanged s.source old new offset bytes time.goes.tells.0 whole sound (if_some (sent old.drive.label) _ s is from) (if_some (sent old.drive.label) _ s is honest).0 r),
    ))
    (subst (λ (o : Option Cause). IfSome o (ShowsCause new u.count)) (sym f.kept) (shown_of error unchanged old new (block_of offset bytes) u.count r))
    i

-- ---- images

pub origin-store : (sent : List ℕ → Option Sent) (old new : KeepState) (offset : ℕ) (bytes : List ℕ) → old.standing ≡ Whole → IsKeep old → MovesBy (StoresSome offset bytes) old new
    → (P : Sent → Type 0) → IfSome (sent old.drive.label) (λ s. IsOfSource s.source offset bytes × P s)
    → ImagesAreFrom sent old → ImagesAreFrom sent new
origin-store sent old new offset bytes whole sound moves P honest from =
    subst (λ (l : List ℕ). IfSome (sent l) (λ s. EachImage new (IsFrom s.source))) (sym moves.time.goes.label)
    (if_make (sent old.drive.label) _ (λ s is told image now.
    let told' = moves.time.goes.tells.0 told in
    let l = moves.any_moment told' image (image_since old new image moves.keep moves.time now) in
    IsFrom-store old s.source offset bytes l.0 image (whole_read old whole sound told' l.0 l.1) (if_some (sent old.drive.label) _ s is honest).0 l.2 (if_some (sent old.drive.label) _ s is from told' l.0 l.1)))

-- ---- stages

pub storing_reads : (t : Transfer) (n : ℕ) → Storing t ≡ Reading n → 1 ≤ n
storing_reads t n e = cc

-- a transfer that changes so is there before and after
pub record Moved (R : Transfer → Transfer → Type 0) (old new : Stage) : Type 0 where
  pub before : Transfer
  pub after : Transfer
  pub was : old ≡ Storing before
  pub is : new ≡ Storing after
  pub so : R before after

pub moved : (R : Transfer → Transfer → Type 0) (old new : Stage) → Moving R old new → Moved R old new
moved R (Storing t) (Storing u) h = record { before = t; after = u; was = refl; is = refl; so = h }
moved R Rest new h = absurd h
moved R (Reading n) new h = absurd h
moved R (Storing t) Rest h = absurd h
moved R (Storing t) (Reading n) h = absurd h

pub moving : (R : Transfer → Transfer → Type 0) (old new : Stage) (t u : Transfer) → old ≡ Storing t → new ≡ Storing u → R t u → Moving R old new
moving R old new t u was is h = subst (λ (s : Stage). Moving R s new) (sym was) (subst (λ (s : Stage). Moving R (Storing t) s) (sym is) h)

pub in_transfer : (P : Transfer → Type 0) (stage : Stage) (t : Transfer) → stage ≡ Storing t → InTransfer P stage → P t
in_transfer P stage t is h = let h' = subst (λ (s : Stage). InTransfer P s) is h in h'

pub honest_in : (sent : List ℕ → Option Sent) (book : BookState) (t : Transfer) (pass : Lane) (offset : ℕ) (bytes : List ℕ) → book.stage ≡ Storing t → SendsBlock sent book pass offset bytes
    → IfSome (sent book.keep.drive.label) (λ s. IsOfSource s.source offset bytes × IfSome (left_out t.how) (λ rest. IsNext (s.orders rest) pass offset bytes))
honest_in sent book t pass offset bytes is h =
    subst (λ (s : Stage). IfSome (sent book.keep.drive.label) (λ s'. IsOfSource s'.source offset bytes × IfSome (rest_of s) (λ rest. IsNext (s'.orders rest) pass offset bytes))) is h
