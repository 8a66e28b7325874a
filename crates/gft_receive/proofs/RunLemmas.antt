-- A run of movers: what each finds, what all have done, and how the transfer ends by it.
use Rattle.std.proofs.Common.{◌≡◌, ◌↔◌, ℕ, suc, ◌+◌, ◌<◌, ◌≤◌, List, [], ◌∷◌, ◌++◌, length, map, Some, None, Ok, Err, refl, sym, ap, ◌∙◌, subst, ⊎_elim, inl, inr, arith, true≢false}
use Rattle.std.specs.Prelude.{All, IfErr, IfOk, IfSome, IsSome, IsTrue, MatchOption, MatchResult, OnOk, Option, Result, slice_get, slice_index_or, sum_by}
use Rattle.std.proofs.lemmas.List.{length-append, length-map}
use Rattle.std.proofs.lemmas.Option.{get_or_from_slice_get, none-some, slice_get-get_or, slice_get_within}
use Rattle.atomic_table.specs.Seated.{TableId}
use Rattle.gft_base.specs.declared.TheConstants.{LIMIT}
use Rattle.gft_base.specs.Words.{Rose}
use Rattle.gft_range.specs.declared.Range.{Range}
use Rattle.gft_range.specs.Words.{HasNoGap, IsFirstGap, IsNormal}
use Rattle.gft_drive.specs.Words.{Sent}
use Rattle.gft_eod.specs.Words.{Count, IsMet}
use Rattle.gft_keep.specs.Words.{KeepState}
use Rattle.gft_outside.specs.Words.{LaneState, no_channels}
use Rattle.gft_pass.specs.declared.Cause.{Cause}
use Rattle.gft_pass.specs.declared.Cause.TheVariants.{DriveFailed, Hole}
use Rattle.gft_pass.specs.declared.Numbers.{Numbers}
use Rattle.gft_pass.specs.Words.{Lane, causes, one}
use Rattle.gft_pass.proofs.Lemmas.{AllPasses-lane, AllPasses-length}
use Rattle.gft_book.specs.declared.usage.How.{How}
use Rattle.gft_book.specs.declared.transfer.Transfer.{Transfer}
use Rattle.gft_book.specs.declared.transfer.Stage.{Stage}
use Rattle.gft_book.specs.declared.transfer.Stage.TheVariants.{Rest, Reading, Storing}
use Rattle.gft_book.specs.Words.{BookState, ComesToRest, EndsFailed, EqualsSource, FindsFailed, HasAllPasses, InTransfer, IsBook, IsKeptEnd, IsLive, IsTransfer, NeverFalls, IsPass, IsPassOf, IsRunning, IsStarted, KeepsCause, KeepsFirst, Moving, NumbersAgree, SamePass, SameTransfer, SettledFile, SettlesBadly, SettlesWell, ShowsHole, Start, as_stopped, cause_of, left_out, rest_of, start_at, start_now, transfer_of, with_cause}
use Rattle.gft_book.proofs.Lemmas.{HasAllPasses-lane, HasAllPasses-set, IsLaneOf-lane, in_map}
use Rattle.gft_receive.specs.declared.limits.Limits.{Limits}
use Rattle.gft_receive.specs.declared.transfer.LaneWork.{LaneWork}
use Rattle.gft_receive.specs.Honest.{IsHonestLeft, TellsTotal}
use Rattle.gft_receive.specs.Moved.{IsMoved}
use Rattle.gft_receive.specs.Transfer.{AreFresh, AreMet, AreReady, EndsBadly, EndsWell, IsLaneReady, IsWorked, MovesEach, ShowsGap, bounds_at}
use Rattle.gft_receive.proofs.GapLemmas.{ranges_whole}
use Rattle.gft_receive.proofs.HonestLemmas.{some_map}
use Rattle.gft_receive.proofs.ListLemmas.{at_front, at_last, at_map, elem_at, mapped_at, same_some, set_last}

-- ---- before the movers run

numbered : (stage : Stage) (passes : List Lane) (k : ℕ) (p : Lane) → HasAllPasses stage passes → slice_get passes k ≡ Some p → p.lane ≡ k
numbered (Storing t) passes k p all at = (AllPasses-lane t.roster.table (length t.roster.counts) passes all k p (elem_at passes k p at)).1
numbered Rest passes k p all at = absurd all
numbered (Reading n) passes k p all at = absurd all

pub pass_there : (stage : Stage) (passes : List Lane) (k : ℕ) (p : Lane) → HasAllPasses stage passes → slice_get passes k ≡ Some p → IsPass stage p
pass_there (Storing t) passes k p all at =
    let is = AllPasses-lane t.roster.table (length t.roster.counts) passes all k p (elem_at passes k p at) in
    let many = AllPasses-length t.roster.table (length t.roster.counts) passes all in
    let lt = slice_get_within passes k p at in
    (is.0, omega (arith, is.1, many, lt))
pass_there Rest passes k p all at = absurd all
pass_there (Reading n) passes k p all at = absurd all

abbrev pub lane_of : {L : Type 0} → LaneWork L → L
lane_of work = work.lane

abbrev pub pass_of : {L : Type 0} → LaneWork L → Lane
pass_of work = work.pass

abbrev pub count_of : {L : Type 0} → LaneWork L → Numbers
count_of work = work.pass.count

module _ {L : Type 0} where
  module _ (works : List (LaneWork L)) (teller : Lane) (stage : Stage) (all : HasAllPasses stage (map pass_of works ++ teller ∷ [])) where
    its_pass : (k : ℕ) (work : LaneWork L) → slice_get works k ≡ Some work → slice_get (map pass_of works ++ teller ∷ []) k ≡ Some work.pass
    its_pass k work at = at_front (map pass_of works) (teller ∷ []) k work.pass (at_map pass_of works k work at)

    its_lane : (k : ℕ) (work : LaneWork L) → slice_get works k ≡ Some work → work.pass.lane ≡ k
    its_lane k work at = numbered stage (map pass_of works ++ teller ∷ []) k work.pass all (its_pass k work at)

    below_last : (k : ℕ) (work : LaneWork L) → slice_get works k ≡ Some work → k + 1 < length (map pass_of works ++ teller ∷ [])
    below_last k work at =
        let lt = slice_get_within works k work at in
        omega (arith, lt, length-append (map pass_of works) (teller ∷ []), length-map works pass_of)

    pub all_ready : (state : L → LaneState) (sent : List ℕ → Option Sent) (limits : Limits) (book : BookState) (total : Option ℕ) → book.stage ≡ stage → AreFresh (map pass_of works ++ teller ∷ []) → AreReady state sent (start_now book) limits.shift (map lane_of works) → limits.shift ≤ LIMIT
        → ((k : ℕ) (work : LaneWork L) → slice_get works k ≡ Some work → TellsTotal (record (start_now book) { total = total }) limits.shift (state work.lane).left) → All (IsLaneReady state sent (record (start_now book) { total = total }) limits) works
    all_ready state sent limits book total is fresh ready shift tells k d lt =
        let work = slice_index_or works k d in
        let at = slice_get-get_or works k d lt in
        let here = at_map lane_of works k work at in
        record {
          unopened = subst (λ (lane : L). (state lane).channels ≡ no_channels) (get_or_from_slice_get (map lane_of works) k work.lane work.lane here) (ready.unopened k work.lane (slice_get_within (map lane_of works) k work.lane here));
          pass = IsLaneOf-lane book work.pass (HasAllPasses-lane book.stage (map pass_of works ++ teller ∷ []) k work.pass (subst (λ (s : Stage). HasAllPasses s (map pass_of works ++ teller ∷ [])) (sym is) all) (elem_at (map pass_of works ++ teller ∷ []) k work.pass (its_pass k work at)) (below_last k work at));
          fresh = fresh k work.pass (its_pass k work at);
          shift = shift;
          honest = subst (λ (n : ℕ). IsHonestLeft sent (start_now book) limits.shift n (state work.lane).left) (sym (its_lane k work at)) (ready.honest k work.lane here);
          total = tells k work at;
        }

    -- ---- when they have ended

    pub moves_each : (state : L → LaneState) (limits : Limits) (new : List (LaneWork L)) → length new ≡ length works → AreFresh (map pass_of works ++ teller ∷ []) → ((i : ℕ) (d : LaneWork L) → i < length works → IsWorked state limits (slice_index_or works i d) (slice_index_or new i d)) → MovesEach state limits (map lane_of works) (map lane_of new) (map count_of new)
    moves_each state limits new many fresh worked = record {
      lanes_back = length-map new lane_of ∙ many ∙ sym (length-map works lane_of);
      one_each = length-map new count_of ∙ many ∙ sym (length-map works lane_of);
      each = λ k o n c at_o at_n at_c.
          let a = mapped_at lane_of works k o at_o in
          let b = mapped_at lane_of new k n at_n in
          let e = mapped_at count_of new k c at_c in
          let same : e.from ≡ b.from = same_some e.from b.from (sym e.at ∙ b.at) in
          let w = worked k a.from (slice_get_within works k a.from a.at) in
          let was = get_or_from_slice_get works k a.from a.from a.at in
          let now = get_or_from_slice_get new k b.from a.from b.at in
          let moved : IsWorked state limits a.from b.from = subst (λ (x : LaneWork L). IsWorked state limits x b.from) was (subst (λ (x : LaneWork L). IsWorked state limits (slice_index_or works k a.from) x) now w) in
          let lanes : IsMoved (bounds_at limits a.from.pass.lane) (state o) (state n) a.from.pass.count b.from.pass.count = subst (λ (x : L). IsMoved (bounds_at limits a.from.pass.lane) (state x) (state n) a.from.pass.count b.from.pass.count) a.is (subst (λ (x : L). IsMoved (bounds_at limits a.from.pass.lane) (state a.from.lane) (state x) a.from.pass.count b.from.pass.count) b.is moved.moved) in
          let mine : IsMoved (bounds_at limits k) (state o) (state n) a.from.pass.count b.from.pass.count = subst (λ (i : ℕ). IsMoved (bounds_at limits i) (state o) (state n) a.from.pass.count b.from.pass.count) (its_lane k a.from a.at) lanes in
          let after : IsMoved (bounds_at limits k) (state o) (state n) a.from.pass.count c = subst (λ (x : Numbers). IsMoved (bounds_at limits k) (state o) (state n) a.from.pass.count x) (ap count_of (sym same) ∙ e.is) mine in
          subst (λ (x : Numbers). IsMoved (bounds_at limits k) (state o) (state n) x c) (fresh k a.from.pass (its_pass k a.from a.at)) after;
    }

  same_passes : (old new : List (LaneWork L)) (rest : List Lane) → length new ≡ length old → ((i : ℕ) (d : LaneWork L) → i < length old → SamePass (slice_index_or old i d).pass (slice_index_or new i d).pass)
      → map {B = TableId × ℕ} (λ (p : Lane). (p.table, p.lane)) (map pass_of new ++ rest) ≡ map {B = TableId × ℕ} (λ (p : Lane). (p.table, p.lane)) (map pass_of old ++ rest)
  same_passes [] [] rest many moved = refl
  same_passes [] (y ∷ ys) rest many moved = absurd (omega arith)
  same_passes (x ∷ xs) [] rest many moved = absurd (omega arith)
  same_passes (x ∷ xs) (y ∷ ys) rest many moved =
      let head = moved 0 x (omega arith) in
      let tail = same_passes xs ys rest (omega arith) (λ i d lt. moved (suc i) d (omega arith)) in
      λ k. (head.table k, head.lane k) ∷ tail k

  same_last : (works : List (LaneWork L)) (teller now : Lane) → SamePass teller now
      → map {B = TableId × ℕ} (λ (p : Lane). (p.table, p.lane)) (map pass_of works ++ now ∷ []) ≡ map {B = TableId × ℕ} (λ (p : Lane). (p.table, p.lane)) (map pass_of works ++ teller ∷ [])
  same_last [] teller now same = λ k. (same.table k, same.lane k) ∷ []
  same_last (x ∷ xs) teller now same = let tail = same_last xs teller now same in λ k. (x.pass.table, x.pass.lane) ∷ tail k

  -- they are all passes still
  pub all_back : (stage : Stage) (old new : List (LaneWork L)) (teller now : Lane) → length new ≡ length old → ((i : ℕ) (d : LaneWork L) → i < length old → SamePass (slice_index_or old i d).pass (slice_index_or new i d).pass) → SamePass teller now → HasAllPasses stage (map pass_of old ++ teller ∷ []) → HasAllPasses stage (map pass_of new ++ now ∷ [])
  all_back (Storing t) old new teller now many moved same all = same_last new teller now same ∙ same_passes old new (teller ∷ []) many moved ∙ all
  all_back Rest old new teller now many moved same all = absurd all
  all_back (Reading n) old new teller now many moved same all = absurd all

  -- the numbers of all passes
  pub counts_back : (works : List (LaneWork L)) (teller : Lane) → map (λ (p : Lane). p.count) (map pass_of works ++ teller ∷ []) ≡ map count_of works ++ teller.count ∷ []
  counts_back [] teller = refl
  counts_back (work ∷ works) teller = ap (λ (l : List Numbers). work.pass.count ∷ l) (counts_back works teller)

-- ---- how the transfer ends

pub are_met : (counts : List Numbers) (count : Count) (cause : Option Cause) → NumbersAgree counts count cause → IsMet count → AreMet counts
are_met counts count cause agree met = record {
  total = count.eods;
  told = agree.told count.eods met;
  agreed = λ k other n at is. same_some other count.eods (sym (agree.totals k other n at is) ∙ met);
  met = sym agree.eods;
}

module _ (start : Start) (keep now : KeepState) (counts : List Numbers) (t : Transfer) (normal : IsNormal keep.ranges) (here : IsStarted start t) (agree : NumbersAgree t.roster.counts t.count t.cause) (listed : t.roster.counts ≡ counts) (found : causes counts ≡ one t.cause) where
  ends_well : (file : SettledFile) → SettlesWell keep now file t → EndsWell start counts now file
  ends_well file w = record {
    of_it = w.numbers ∙ (λ k. record { table = here.table k; counts = listed k });
    met = are_met counts t.count t.cause (subst (λ (l : List Numbers). NumbersAgree l t.count t.cause) listed agree) w.whole.met;
    no_cause = found ∙ ap one w.no_cause;
    is_whole = subst (λ (h : How). IsTrue file.is_whole ↔ IsSome (left_out h)) here.how w.is_whole;
    complete = λ stor.
        let f = w.stor (subst (λ (h : How). IsSome (left_out h)) (sym here.how) stor) in
        (f.complete, subst (λ (r : List Range). IsKeptEnd r file.len) (sym f.ranges) w.len);
    ranges = λ stor.
        let is_stor = subst (λ (h : How). IsSome (left_out h)) (sym here.how) stor in
        (w.stor is_stor).ranges ∙ ranges_whole keep.ranges file.len normal (w.whole.no_gap is_stor) w.len;
  }

  gap : (cause : Cause) → now.ranges ≡ keep.ranges → ShowsHole keep.ranges t cause → ShowsGap start counts now cause
  gap cause same h =
      let sum : t.count.eods ≡ sum_by (λ n. n.eods) counts = agree.eods ∙ ap (λ (l : List Numbers). sum_by (λ n. n.eods) l) listed in
      let all = subst (λ (l : List Numbers). NumbersAgree l t.count t.cause) listed agree in
      record {
        total = t.count.total;
        missing = h.missing;
        is_it = h.cause ∙ ap (λ (n : ℕ). Hole t.count.total n h.missing) sum;
        told = λ k total n at is. all.totals k total n at is;
        told_by = all.told;
        first = subst (λ (l : List Range). MatchOption h.missing (HasNoGap l) (IsFirstGap l)) (sym same) h.first;
        is_hole = ⊎_elim
            (λ unmet. inl (λ (is : t.count.total ≡ Some (sum_by (λ n. n.eods) counts)). unmet (is ∙ ap (λ (n : ℕ). Some n) (sym sum))))
            (λ stor. inr (subst (λ (h : How). IsSome (left_out h)) here.how stor.0, stor.1))
            h.is_hole;
      }

  ends_badly : (cause : Cause) → now.ranges ≡ keep.ranges → (t.cause ≡ Some DriveFailed → Rose start.faults now.drive.faults) → (Rose keep.drive.faults now.drive.faults → Rose start.faults now.drive.faults) → SettlesBadly keep now cause t → EndsBadly start counts now cause
  ends_badly cause same failed rose b =
      ⊎_elim
      (λ (ends : EndsFailed keep.ranges t cause). ⊎_elim
      (λ (is : t.cause ≡ Some cause). inl (found ∙ ap one is, λ e. failed (is ∙ ap (λ (c : Cause). Some c) e)))
      (λ (open_ : (t.cause ≡ None) × ShowsHole keep.ranges t cause). inr (found ∙ ap one open_.0, inl (gap cause same open_.1)))
      ends)
      (λ late. inr (found ∙ ap one late.0, inr (late.2, rose late.3)))
      b

pub ends : (start : Start) (keep now : KeepState) (counts : List Numbers) (stage : Stage) (end : Result SettledFile Cause) → IsNormal keep.ranges → now.ranges ≡ keep.ranges → InTransfer (IsStarted start) stage → IfSome (transfer_of stage) (λ t. NumbersAgree t.roster.counts t.count t.cause) → InTransfer (λ t. t.roster.counts ≡ counts) stage → causes counts ≡ one (cause_of stage) → (cause_of stage ≡ Some DriveFailed → Rose start.faults now.drive.faults) → (Rose keep.drive.faults now.drive.faults → Rose start.faults now.drive.faults)
    → IfOk end (λ file. InTransfer (SettlesWell keep now file) stage) → IfErr end (λ cause. InTransfer (SettlesBadly keep now cause) stage) → MatchResult end (EndsWell start counts now) (EndsBadly start counts now)
ends start keep now counts (Storing t) (Ok file) normal same here agree listed found failed rose well badly = ends_well start keep now counts t normal here agree listed found file well
ends start keep now counts (Storing t) (Err cause) normal same here agree listed found failed rose well badly = ends_badly start keep now counts t normal here agree listed found cause same failed rose badly
ends start keep now counts Rest end normal same here agree listed found failed rose well badly = absurd here
ends start keep now counts (Reading n) end normal same here agree listed found failed rose well badly = absurd here

-- a transfer that failed for a cause ends with it
pub ends_for : (keep now : KeepState) (kept : Cause) (stage : Stage) (end : Result SettledFile Cause) → InTransfer (λ t. t.cause ≡ Some kept) stage → IfOk end (λ file. InTransfer (SettlesWell keep now file) stage) → IfErr end (λ cause. InTransfer (SettlesBadly keep now cause) stage) → end ≡ Err kept
ends_for keep now kept (Storing t) (Ok file) is well badly = absurd (none-some kept (sym well.no_cause ∙ is))
ends_for keep now kept (Storing t) (Err cause) is well badly =
    ⊎_elim
    (λ (ends : EndsFailed keep.ranges t cause). ⊎_elim
    (λ (same : t.cause ≡ Some cause). ap (λ (c : Cause). Err c) (same_some cause kept (sym same ∙ is)))
    (λ (open_ : (t.cause ≡ None) × ShowsHole keep.ranges t cause). absurd (none-some kept (sym open_.0 ∙ is)))
    ends)
    (λ late. absurd (none-some kept (sym late.0 ∙ is)))
    badly
ends_for keep now kept Rest end is well badly = absurd is
ends_for keep now kept (Reading n) end is well badly = absurd is

-- the table of the transfer that was settled last
pub last_table : (start : Start) (stage : Stage) (last : Option TableId) → InTransfer (IsStarted start) stage → InTransfer (λ t. last ≡ Some t.roster.table) stage → last ≡ Some start.table
last_table start (Storing t) last here is = is ∙ ap (λ (id : TableId). Some id) here.table
last_table start Rest last here is = absurd here
last_table start (Reading n) last here is = absurd here

-- what honest senders left at the end is what the first of the Books asks for
pub source_back : (o : Option Sent) (old mid : BookState) (now : KeepState) → (IsSome (rest_of old.stage) → IsSome (rest_of mid.stage)) → (IsSome old.keep.drive.contents → IsSome mid.keep.drive.contents) → EqualsSource o mid now → EqualsSource o old now
source_back None old mid now rest told h = h
source_back (Some s) old mid now rest told h = λ r t. h (rest r) (told t)

-- the Book lists these numbers
pub listed_run : (mid now : BookState) (passes : List Lane) (counts : List Numbers) → ComesToRest mid now passes → map (λ (p : Lane). p.count) passes ≡ counts → InTransfer (λ t. t.roster.counts ≡ counts) mid.stage
listed_run mid now passes counts rest are = in_map (λ t. t.roster.counts ≡ map (λ (p : Lane). p.count) passes) (λ t. t.roster.counts ≡ counts) mid.stage (λ t h. h ∙ are) rest.numbers

-- how it ends, of the Book that comes out of the lock
pub ends_run : (sent : List ℕ → Option Sent) (start : Start) (mid now : BookState) (passes : List Lane) (counts : List Numbers) (end : Result SettledFile Cause) → IsBook sent mid → IsLive start mid → ComesToRest mid now passes → NeverFalls mid.keep.drive.faults now.keep.drive.faults → map (λ (p : Lane). p.count) passes ≡ counts
    → IfOk end (λ file. InTransfer (SettlesWell mid.keep now.keep file) mid.stage) → IfErr end (λ cause. InTransfer (SettlesBadly mid.keep now.keep cause) mid.stage) → MatchResult end (EndsWell start counts now.keep) (EndsBadly start counts now.keep)
ends_run sent start mid now passes counts end book live rest counted are well badly =
    ends start mid.keep now.keep counts mid.stage end book.keep.normal rest.ranges live.transfer
    (some_map (transfer_of mid.stage) (IsTransfer sent mid.keep) (λ t. NumbersAgree t.roster.counts t.count t.cause) (λ t h. h.numbers) book.transfer)
    (listed_run mid now passes counts rest are)
    (subst (λ (l : List Numbers). causes l ≡ one (cause_of mid.stage)) are rest.causes)
    (λ is. let a = live.failed is in omega (arith, a, counted))
    (λ rose. let a = live.kept.counted in omega (arith, a, rose))
    well badly

start_label : (book : BookState) (stage : Stage) → IsRunning stage → (start_at book stage).label ≡ book.keep.drive.label
start_label book (Storing t) running = refl
start_label book Rest running = absurd running
start_label book (Reading n) running = absurd running

start_read : (book : BookState) (stage : Stage) → IsRunning stage → (start_at book stage).read ≡ book.keep.drive.contents
start_read book (Storing t) running = refl
start_read book Rest running = absurd running
start_read book (Reading n) running = absurd running

start_rest : (book : BookState) (stage now : Stage) → IsRunning stage → InTransfer (IsStarted (start_at book stage)) now → rest_of now ≡ rest_of stage
start_rest book (Storing t) (Storing u) running here = ap left_out here.how
start_rest book (Storing t) Rest running here = absurd here
start_rest book (Storing t) (Reading n) running here = absurd here
start_rest book Rest now running here = absurd running
start_rest book (Reading n) now running here = absurd running

on_ok : {A E : Type 0} → (r : Result A E) (P Q : Type 0) → (P → Q) → OnOk r P → OnOk r Q
on_ok (Ok a) P Q f h = f h
on_ok (Err e) P Q f h = h

pub honest_run : (sent : List ℕ → Option Sent) (before mid : BookState) (now : KeepState) (end : Result SettledFile Cause) → IsRunning before.stage → IsLive (start_now before) mid → OnOk end (EqualsSource (sent mid.keep.drive.label) mid now) → OnOk end (EqualsSource (sent before.keep.drive.label) before now)
honest_run sent before mid now end running live h =
    on_ok end _ _
    (λ (ended : EqualsSource (sent mid.keep.drive.label) mid now). source_back (sent before.keep.drive.label) before mid now
    (λ stor. subst (λ o. IsSome o) (sym (start_rest before before.stage mid.stage running live.transfer)) stor)
    (λ told. live.kept.tells (subst (λ o. IsSome o) (sym (start_read before before.stage running)) told))
    (subst (λ (l : List ℕ). EqualsSource (sent l) mid now) (live.kept.label ∙ start_label before before.stage running) ended))
    h

-- ---- a transfer that fails before it began

pub no_cause : (o : Option Cause) → o ≡ None → IsSome o → ⊥
no_cause None none there = true≢false (sym there)
no_cause (Some cause) none there = none-some cause (sym none)

fail_same : (old new : Stage) (before after : Lane) (cause : Cause) → Moving (KeepsFirst cause before after) old new → SamePass before after
fail_same (Storing t) (Storing u) before after cause h = ⊎_elim
    (λ (found : FindsFailed before after t u). same (as_stopped before.count) found.moves.pass)
    (λ (fails : KeepsCause cause before after t u). same (with_cause cause before.count) fails.moves.pass)
    h
  where
    same : (n : Numbers) → after ≡ record { table = before.table; lane = before.lane; count = n } → SamePass before after
    same n is = record { table = ap (λ (p : Lane). p.table) is; lane = ap (λ (p : Lane). p.lane) is }
fail_same (Storing t) Rest before after cause h = absurd h
fail_same (Storing t) (Reading n) before after cause h = absurd h
fail_same Rest new before after cause h = absurd h
fail_same (Reading n) new before after cause h = absurd h

pub fail_kept : (old new : Stage) (before after : Lane) (cause : Cause) → IsRunning old → Moving (KeepsFirst cause before after) old new → InTransfer (λ t. t.cause ≡ Some cause) new
fail_kept (Storing t) (Storing u) before after cause none h = ⊎_elim
    (λ (found : FindsFailed before after t u). absurd (no_cause t.cause none found.failed))
    (λ (fails : KeepsCause cause before after t u). fails.kept)
    h
fail_kept (Storing t) Rest before after cause none h = absurd h
fail_kept (Storing t) (Reading n) before after cause none h = absurd h
fail_kept Rest new before after cause none h = absurd none
fail_kept (Reading n) new before after cause none h = absurd none

pub fail_passes : (old new : Stage) (passes : List Lane) (before after : Lane) (cause : Cause) → Moving SameTransfer old new → Moving (KeepsFirst cause before after) old new → HasAllPasses old (passes ++ before ∷ []) → HasAllPasses new (passes ++ after ∷ [])
fail_passes old new passes before after cause goes failed all =
    subst (λ (l : List Lane). HasAllPasses new l) (set_last passes before after)
    (HasAllPasses-set old new (passes ++ before ∷ []) (length passes) before after goes (fail_same old new before after cause failed) (elem_at (passes ++ before ∷ []) (length passes) before (at_last passes before)) all)

-- ---- the teller's pass

-- a pass of the transfer that a lock names
pub started_pass : (book : BookState) (stage : Stage) (pass : Lane) → IsPass stage pass → IsPassOf (start_at book stage) pass
started_pass book (Storing t) pass h = h
started_pass book Rest pass h = absurd h
started_pass book (Reading n) pass h = absurd h

pub live_pass : (start : Start) (stage : Stage) (pass : Lane) → InTransfer (IsStarted start) stage → IsPassOf start pass → IsPass stage pass
live_pass start (Storing t) pass here mine = (mine.0 ∙ sym here.table, subst (λ (n : ℕ). pass.lane < n) (sym here.passes) mine.1)
live_pass start Rest pass here mine = absurd here
live_pass start (Reading n) pass here mine = absurd here

pub same_pass : (a b c : Lane) → SamePass a b → SamePass b c → SamePass a c
same_pass a b c p q = record { table = q.table ∙ p.table; lane = q.lane ∙ p.lane }

pub same_pass_of : (start : Start) (a b : Lane) → SamePass a b → IsPassOf start a → IsPassOf start b
same_pass_of start a b p mine = (p.table ∙ mine.0, subst (λ (n : ℕ). n < start.passes) (sym p.lane) mine.1)
