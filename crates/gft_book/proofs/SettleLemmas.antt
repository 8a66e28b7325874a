-- What a transfer of honest senders has stored when it is settled well, and what its events are then.
use Rattle.std.proofs.Common.{◌≡◌, ◌⊎◌, ◌↔◌, ℕ, suc, ◌+◌, ◌-◌, ◌<◌, List, [], ◌∷◌, length, Some, None, refl, sym, ap, ◌∙◌, subst, ⊎_elim, inl, inr, arith}
use Rattle.std.specs.Prelude.{Option, IsSome, MatchOption, slice_get, sum_by}
use Rattle.std.proofs.lemmas.Option.{none-some, same_Some, slice_get_within}
use mathlib.Core.Logic.{dite}
use native.Mathlib.Decide.{ℕ_discrete}
use Rattle.gft_range.specs.declared.Range.{Range}
use Rattle.gft_range.specs.Words.{HasNoGap, HasOffset, IsFirstGap}
use Rattle.gft_drive.specs.Words.{Image, IsAmong, IsSending, Orders, Sent}
use Rattle.gft_eod.specs.Words.{IsMet}
use Rattle.gft_keep.specs.declared.Standing.TheVariants.{Whole}
use Rattle.gft_keep.specs.Words.{Finished, IsOpen, KeepState}
use Rattle.gft_core.specs.declared.CoreEvent.{CoreEvent}
use Rattle.gft_core.specs.Words.{Done}
use Rattle.gft_pass.specs.declared.Cause.{Cause}
use Rattle.gft_pass.specs.declared.Numbers.{Numbers}
use Rattle.gft_pass.specs.Words.{IsAt}
use Rattle.gft_pass.proofs.Lemmas.{eods_at, eods_at-here, eods_at-or}
use Rattle.gft_book.specs.declared.transfer.Transfer.{Transfer}
use Rattle.gft_book.specs.declared.transfer.Stage.TheVariants.{Storing}
use Rattle.gft_book.specs.Book.{BookState, left_out, rest_of}
use Rattle.gft_book.specs.Facts.{IsBook, IsSentBy, standing_after}
use Rattle.gft_book.specs.Fits.{Fits}
use Rattle.gft_book.specs.Ending.{EndsFailed, EqualsSource, IsKeptEnd, IsStor, MissesNothing, ReadsAs, ShowsHole}
use Rattle.gft_book.proofs.ChoiceLemmas.{if_some, is_there, not_there}
use Rattle.gft_book.proofs.KeepLemmas.{held_byte, stays_same, whole_read}
use Rattle.gft_book.proofs.TransferLemmas.{transfer_is}
use Rattle.gft_book.proofs.SumLemmas.{eods_all, same_end, same_list}
use Rattle.gft_book.proofs.FitLemmas.{runs_of}
use Rattle.gft_book.proofs.EndLemmas.{done_of, whole_of}

-- a set without a gap is the offsets below its end
pub exact_of : (ranges : List Range) (len : ℕ) → HasNoGap ranges → IsKeptEnd ranges len → (x : ℕ) → HasOffset ranges x ↔ (x < len)
exact_of ranges len no_gap end x = (
  end.below x,
  λ lt. ⊎_elim
      (λ (zero : len ≡ 0). absurd (omega (arith, zero, lt)))
      (λ (last : HasOffset ranges (len - 1)). ⊎_elim
      (λ (e : x ≡ len - 1). subst (λ (y : ℕ). HasOffset ranges y) (sym e) last)
      (λ (below : x < len - 1). no_gap x (len - 1) below last)
      (split x len lt))
      end.reached,
)
  where
    split : (a b : ℕ) → a < b → (a ≡ b - 1) ⊎ (a < b - 1)
    split a b lt = dite (ℕ_discrete a (b - 1)) (λ e. inl e) (λ ne. inr (omega (arith, lt)))

-- a transfer with nothing missing doesn't fail
pub not_both : (ranges : List Range) (t : Transfer) (cause : Cause) → EndsFailed ranges t cause → t.cause ≡ None → MissesNothing ranges t → ⊥
not_both ranges t cause fails none whole =
    ⊎_elim
    (λ (kept : t.cause ≡ Some cause). none-some cause (sym (sym kept ∙ none)))
    (λ (h : (t.cause ≡ None) × ShowsHole ranges t cause). ⊎_elim
    (λ unmet. unmet whole.met)
    (λ (gap : IsStor t × IsSome h.1.missing). no_first h.1.missing gap.1 h.1.first (whole.no_gap gap.0))
    h.1.is_hole)
    fails
  where
    no_first : (o : Option Range) → IsSome o → MatchOption o (HasNoGap ranges) (IsFirstGap ranges) → HasNoGap ranges → ⊥
    no_first None there m no_gap = absurd (not_there {A = Range} None refl there)
    no_first (Some r) there m no_gap = m.inside r.start (omega arith, m.non_empty) (no_gap r.start r.end m.non_empty m.behind)

-- an offset of a list stands at some place of it
among_at : (x : ℕ) (list : List ℕ) → IsAmong x list → (i : ℕ) × (slice_get list i ≡ Some x)
among_at x [] h = absurd h
among_at x (y ∷ ys) h = ⊎_elim (λ (e : x ≡ y). (0, ap (λ (n : ℕ). Some n) (sym e))) (λ (later : IsAmong x ys). let rest = among_at x ys later in (rest.0 + 1, next y ys rest.0 ∙ rest.1)) h
  where
    next : (z : ℕ) (zs : List ℕ) (i : ℕ) → slice_get (z ∷ zs) (i + 1) ≡ slice_get zs i
    next z zs i = let one : i + 1 ≡ suc i = omega arith in ap (λ (k : ℕ). slice_get (z ∷ zs) k) one

-- all of the source is kept
all_kept : (source : List ℕ) (rest : List Range) (orders : Orders) → IsSending source rest orders → (keep : KeepState) (t : Transfer) → IsSentBy orders rest keep t → t.count.eods ≡ sum_by (λ (n : Numbers). n.eods) t.roster.counts → IsMet t.count → (x : ℕ) → x < length source → HasOffset keep.ranges x
all_kept source rest orders is keep t f sums met x lt =
    ⊎_elim
    (λ (resumed : HasOffset rest x). f.resumed x resumed)
    (λ (sent : (lane : ℕ) × (lane < orders.lanes) × IsAmong x (orders.order lane)).
    let place = among_at x (orders.order sent.0) sent.2 in
    let all : eods_at t.roster.counts sent.0 ≡ orders.number sent.0 =
    eods_all t.roster.counts orders.number orders.lanes is.plan.no_more (λ k n at. (f.lanes k n at).eods) (sym sums ∙ f.total t.count.eods met) sent.0 sent.1 in
    ⊎_elim
    (λ (h : (n : Numbers) × IsAt t.roster.counts sent.0 n).
    let lane = f.lanes sent.0 h.0 h.1 in
    let whole = lane.whole (sym (eods_at-here t.roster.counts sent.0 h.0 h.1) ∙ all) in
    let inside = slice_get_within (orders.order sent.0) place.0 x place.1 in
    lane.kept place.0 x (omega (arith, whole, inside)) place.1)
    (λ (none : eods_at t.roster.counts sent.0 ≡ 0).
    let silent = is.plan.silent sent.0 (sym all ∙ none) in
    absurd (none-some x (sym (sym place.1 ∙ ap (λ (l : List ℕ). slice_get l place.0) silent))))
    (eods_at-or t.roster.counts sent.0))
    (is.plan.all x lt)

-- a STOR of honest senders that is settled well reads as the source
pub honest_end : (sent : List ℕ → Option Sent) (old : BookState) (new : KeepState) (t : Transfer) (len : ℕ) → IsBook sent old → old.stage ≡ Storing t → MissesNothing old.keep.ranges t → IsKeptEnd old.keep.ranges len → (IsStor t → Finished len old.keep new) → old.keep.standing ≡ Whole
    → EqualsSource (sent old.keep.drive.label) old new
honest_end sent old new t len b was whole end finished stands = by_source (sent old.keep.drive.label) refl
  where
    reads : (s : Sent) → sent old.keep.drive.label ≡ Some s → IsSome (rest_of old.stage) → IsSome old.keep.drive.contents → ReadsAs s.source new
    reads s is some told =
        let stor : IsStor t = subst (λ (o : Option (List Range)). IsSome o) (ap rest_of was) some in
        let rest = is_there (left_out t.how) stor in
        let facts = transfer_is sent old t was b in
        let follows = (if_some (left_out t.how) _ rest.0 rest.1 (if_some (sent old.keep.drive.label) _ s is facts.origin)).0 in
        let read = is_there old.keep.drive.contents told in
        let now = b.keep.lawful.read read.0 read.1 in
        let is_read = whole_read old.keep stands b.keep told read.0 now in
        let from = if_some (sent old.keep.drive.label) _ s is b.origin told read.0 now in
        let exact = exact_of old.keep.ranges len (whole.no_gap stor) end in
        let size : len ≡ length s.source =
        same_end len (length s.source)
        (λ x lt. let h = is_read.held x ((exact x).1 lt) in slice_get_within s.source x h.0 (from.named x h.0 h.1))
        (λ x lt. (exact x).0 (all_kept s.source rest.0 (s.orders rest.0) (s.is rest.0) old.keep t follows facts.numbers.eods whole.met x lt)) in
        let done = finished stor in
        let after = done.read read.0 read.1 in
        let same = stays_same old.keep read.0 after.0 is_read after.2.finishes.stays in
        record {
          bytes = λ image is_now.
              let one : after.0 ≡ image = same_Some after.0 image (sym after.1 ∙ is_now) in
              sym (ap (λ (i : Image). i.bytes) one)
              ∙ same_list after.0.bytes s.source (after.2.size ∙ size)
              (λ x lt.
              let h = is_read.held x ((exact x).1 (omega (arith, lt, after.2.size))) in
              held_byte after.0 x h.0 (same x ∙ h.1) ∙ sym (from.named x h.0 h.1));
          complete = done.complete ∙ ap (λ (n : ℕ). Some n) size;
        }

    by_source : (o : Option Sent) → sent old.keep.drive.label ≡ o → EqualsSource o old new
    by_source None is = tt
    by_source (Some s) is = reads s is

-- a STOR of honest senders whose EODs are met has no gap, since it keeps the source and nothing behind it
pub HasNoGap-met : (sent : List ℕ → Option Sent) (book : BookState) (t : Transfer) (s : Sent) → IsBook sent book → book.stage ≡ Storing t → sent book.keep.drive.label ≡ Some s → IsStor t → IsSome book.keep.drive.contents → book.keep.standing ≡ Whole → IsMet t.count → HasNoGap book.keep.ranges
HasNoGap-met sent book t s b was is stor told stands met x y lt kept =
    let rest = is_there (left_out t.how) stor in
    let facts = transfer_is sent book t was b in
    let follows = (if_some (left_out t.how) _ rest.0 rest.1 (if_some (sent book.keep.drive.label) _ s is facts.origin)).0 in
    let read = is_there book.keep.drive.contents told in
    let now = b.keep.lawful.read read.0 read.1 in
    let from = if_some (sent book.keep.drive.label) _ s is b.origin told read.0 now in
    let h = (whole_read book.keep stands b.keep told read.0 now).held y kept in
    let below = slice_get_within s.source y h.0 (from.named y h.0 h.1) in
    all_kept s.source rest.0 (s.orders rest.0) (s.is rest.0) book.keep t follows facts.numbers.eods met x (omega (arith, lt, below))

-- ---- the events

pub misses_none : (seen ranges : List Range) (t : Transfer) → seen ≡ ranges → MissesNothing seen t → MissesNothing ranges t
misses_none seen ranges t same w = subst (λ (l : List Range). MissesNothing l t) same w

pub stands_whole : (sent : List ℕ → Option Sent) (old : BookState) (t : Transfer) → IsBook sent old → old.stage ≡ Storing t → t.cause ≡ None → old.keep.standing ≡ Whole
stands_whole sent old t b was none = (transfer_is sent old t was b).standing ∙ ap standing_after none

pub open_now : (sent : List ℕ → Option Sent) (old : BookState) (t : Transfer) → IsBook sent old → old.stage ≡ Storing t → t.cause ≡ None → IsOpen old.keep
open_now sent old t b was none =
    let facts = transfer_is sent old t was b in
    record {
      unbroken = record { whole = stands_whole sent old t b was none; facts = b.keep };
      born = facts.is_born;
      incomplete = facts.incomplete;
    }

pub never_done : (old : BookState) (t : Transfer) (seen : List Range) (cause : Cause) (events : List CoreEvent) → old.stage ≡ Storing t → seen ≡ old.keep.ranges → EndsFailed seen t cause → Fits old events → Done events → ⊥
never_done old t seen cause events was same fails f done =
    let w = whole_of old t events f (runs_of old events t was f) done in
    not_both old.keep.ranges t cause (subst (λ (l : List Range). EndsFailed l t cause) same fails) w.0 w.1

pub is_done : (sent : List ℕ → Option Sent) (old : BookState) (t : Transfer) (len : ℕ) (events : List CoreEvent) → IsBook sent old → old.stage ≡ Storing t → t.cause ≡ None → MissesNothing old.keep.ranges t → IsKeptEnd old.keep.ranges len → IsSome (rest_of old.stage) → Fits old events → Done events
is_done sent old t len events b was none whole end some f =
    let facts = transfer_is sent old t was b in
    let stor : IsStor t = subst (λ (o : Option (List Range)). IsSome o) (ap rest_of was) some in
    done_of old t events len f (runs_of old events t was f) none facts.numbers.within whole.met (exact_of old.keep.ranges len (whole.no_gap stor) end)
