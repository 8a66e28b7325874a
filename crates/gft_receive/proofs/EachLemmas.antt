-- What each mover did whose lane gives all it has up to its `Done`: it showed no cause of its own.
use Rattle.std.proofs.Common.{◌≡◌, ◌⊎◌, ℕ, ◌+◌, ◌-◌, ◌^◌, ◌<◌, ◌≤◌, List, [], ◌∷◌, ◌++◌, Some, None, refl, sym, ap, ◌∙◌, subst, ⊎_elim, inl, inr, arith}
use Rattle.std.specs.Prelude.{IfSome, IsSome, Option, false, slice_get, sum_by, true}
use Rattle.std.proofs.lemmas.List.{append_assoc, append-nil}
use Rattle.std.proofs.lemmas.List.Sums.{sum_by_push}
use Rattle.std.proofs.lemmas.Option.{none-some, same_Some, slice_get_within}
use Rattle.gft_base.specs.Words.{Rose}
use Rattle.gft_eod.specs.Words.{Count, IsMet}
use Rattle.gft_eblock.specs.Words.{Arrival, eods}
use Rattle.gft_outside.specs.Words.{EndsItsChannels, HasNoBad, IsSmooth, LaneInput, LaneState, all_totals, first_of, lane_arrivals}
use Rattle.gft_pass.specs.declared.Cause.{Cause}
use Rattle.gft_pass.specs.declared.Numbers.{Numbers}
use Rattle.gft_pass.specs.Words.{IsAt, causes, nothing}
use Rattle.gft_pass.proofs.Lemmas.{causes-none, sum_by-at}
use Rattle.gft_book.specs.Words.{NumbersAgree, as_stopped}
use Rattle.gft_receive.specs.declared.limits.Limits.{Limits}
use Rattle.gft_receive.specs.Booking.{IsBooksCause, numbers_after}
use Rattle.gft_receive.specs.Causes.{first_cause, silences}
use Rattle.gft_receive.specs.Complete.{GivesEach}
use Rattle.gft_receive.specs.Moved.{GaveAll, HasFailedFor, IsDoneWith, IsLanesCause, IsMoved}
use Rattle.gft_receive.specs.Transfer.{MovesEach, bounds_at}
use Rattle.gft_receive.proofs.ListLemmas.{at_front, elem_at}
use Rattle.gft_receive.proofs.MoverLemmas.{arrivals_more}
use Rattle.gft_receive.proofs.TableLemmas.{no_both}
use Rattle.gft_receive.proofs.TallyLemmas.{announcer, cause-after, eods-after, few_counted, KeepsIt, keeper, one_or_all, there, total-after}
use Rattle.gft_receive.proofs.WholeLemmas.{Took, is_heard, shows_none, took_of}

pub some_at : {A : Type 0} (o : Option A) (P : A → Type 0) (x : A) → o ≡ Some x → IfSome o P → P x
some_at {A = A} o P x is h = let h' = subst (λ (p : Option A). IfSome p P) is h in h'

pub is_there : {A : Type 0} (o : Option A) → IsSome o → (x : A) × (o ≡ Some x)
is_there None told = absurd (no_both false told refl)
is_there (Some x) told = (x, refl)

pub met_at : (count : Count) (total : ℕ) → count.total ≡ Some total → total ≡ count.eods → IsMet count
met_at count total told reached = told ∙ ap (λ (t : ℕ). Some t) reached

-- a lane that nothing holds up, with a shift of its offsets
pub record GoesThrough (shift : ℕ) (list : List LaneInput) : Type 0 where
  pub smooth : IsSmooth list
  pub ends : EndsItsChannels shift list
  pub no_refusal : HasNoBad (lane_arrivals shift list)

-- the pass has the EODs and the total of a front of what its lane has
pub record BooksFront (shift : ℕ) (lists : List (List LaneInput)) (k : ℕ) (n : Numbers) : Type 0 where
  pub list : List LaneInput
  pub at : slice_get lists k ≡ Some list
  pub booked : List Arrival
  pub rest : List Arrival
  pub more : List Arrival
  pub front : lane_arrivals shift list ≡ booked ++ (rest ++ more)
  pub counted : n.eods ≡ (numbers_after booked nothing).eods

-- and of all of it
pub record BooksWhole (shift : ℕ) (lists : List (List LaneInput)) (k : ℕ) (n : Numbers) : Type 0 where
  pub list : List LaneInput
  pub at : slice_get lists k ≡ Some list
  pub numbers : n ≡ numbers_after (lane_arrivals shift list) nothing

-- a pass keeps the cause for which the Book refused what comes next on its lane
pub record BookFound (shift : ℕ) (lists : List (List LaneInput)) (counts : List Numbers) (cause : Cause) : Type 0 where
  pub lane : ℕ
  pub count : Numbers
  pub at : slice_get counts lane ≡ Some count
  pub books : BooksFront shift lists lane count
  pub found : IsBooksCause books.rest cause

module _ {L : Type 0} (state : L → LaneState) (limits : Limits) (lanes back : List L) (counts : List Numbers) (lists : List (List LaneInput)) (patient : 1 ≤ limits.idle) (gives : GivesEach state lanes back lists)
    (sound : (k : ℕ) (list : List LaneInput) → slice_get lists k ≡ Some list → GoesThrough limits.shift list) (moves : MovesEach state limits lanes back counts) where
  -- the lane of a pass, all that it had to give, and what its mover took of that
  record LaneAt (k : ℕ) (n : Numbers) : Type 0 where
    old : L
    new : L
    list : List LaneInput
    at : slice_get lists k ≡ Some list
    moved : IsMoved (bounds_at limits k) (state old) (state new) nothing n
    took : Took list moved.inputs (state new).left
    calm : ¬ Rose (state old).faults (state new).faults

  lane_at : (k : ℕ) (n : Numbers) → slice_get counts k ≡ Some n → LaneAt k n
  lane_at k n at =
      let lt = slice_get_within counts k n at in
      let each = moves.one_each in
      let given_back = moves.lanes_back in
      let many = gives.many in
      let a = there lanes k (omega (arith, lt, each)) in
      let b = there back k (omega (arith, lt, each, given_back)) in
      let c = there lists k (omega (arith, lt, each, many)) in
      let m = moves.each k a.0 b.0 n a.1 b.1 at in
      record {
        old = a.0;
        new = b.0;
        list = c.0;
        at = c.1;
        moved = m;
        took = took_of c.0 m.inputs (state a.0).left (state b.0).left (gives.left k a.0 c.0 a.1 c.1) m.gives.left;
        calm = gives.no_fault k a.0 b.0 a.1 b.1;
      }

  module _ (k : ℕ) (n : Numbers) (h : LaneAt k n) where
    its : GoesThrough limits.shift h.list
    its = sound k h.list h.at

    shown : first_cause k limits.shift h.moved.inputs ≡ None
    shown = shows_none limits.shift h.list its.smooth its.ends its.no_refusal (gives.in_turn k h.list h.at) k h.took.later h.moved.inputs h.took.is

    not_lanes : (cause : Cause) → IsLanesCause (bounds_at limits k) h.moved.inputs (Rose (state h.old).faults (state h.new).faults) cause → ⊥
    not_lanes cause (inl first) = none-some cause (sym shown ∙ first)
    not_lanes cause (inr (none, inl idle)) =
        let quiet = is_heard limits.shift h.list its.smooth its.ends its.no_refusal (gives.in_turn k h.list h.at) h.took.later h.moved.inputs h.took.is in
        let long : limits.idle ≤ silences h.moved.inputs = idle.2 in
        absurd (omega (arith, quiet, long, patient))
    not_lanes cause (inr (none, inr link)) = h.calm link.1

    -- a mover that is done has booked all of it
    all_booked : IsDoneWith (bounds_at limits k) h.moved.inputs h.moved.rest (GaveAll (state h.new)) (numbers_after h.moved.booked nothing) n → n ≡ numbers_after (lane_arrivals limits.shift h.list) nothing
    all_booked d =
        let booked : lane_arrivals limits.shift h.moved.inputs ≡ h.moved.booked = h.moved.front ∙ ap (λ (l : List Arrival). h.moved.booked ++ l) d.all ∙ append-nil h.moved.booked in
        let list : h.list ≡ h.moved.inputs = h.took.all d.done.1 in
        d.numbers ∙ ap (λ (l : List Arrival). numbers_after l nothing) (sym booked ∙ ap (lane_arrivals limits.shift) (sym list))

    -- and any mover a front
    abbrev its_front : BooksFront limits.shift lists k n
    its_front =
        let had = numbers_after h.moved.booked nothing in
        let grown = arrivals_more limits.shift h.took.later h.moved.inputs in
        record {
          list = h.list;
          at = h.at;
          booked = h.moved.booked;
          rest = h.moved.rest;
          more = grown.0;
          front = ap (lane_arrivals limits.shift) h.took.is ∙ grown.1 ∙ ap (λ (l : List Arrival). l ++ grown.0) h.moved.front ∙ append_assoc h.moved.booked h.moved.rest grown.0;
          counted = ⊎_elim
              (λ (done : IsDoneWith (bounds_at limits k) h.moved.inputs h.moved.rest (GaveAll (state h.new)) had n). ap (λ (m : Numbers). m.eods) done.numbers)
              (λ other. ⊎_elim
              (λ (stopped : n ≡ as_stopped had). ap (λ (m : Numbers). m.eods) stopped)
              (λ (failed : HasFailedFor (bounds_at limits k) h.moved.inputs h.moved.rest (Rose (state h.old).faults (state h.new).faults) had n). ap (λ (m : Numbers). m.eods) failed.kept)
              other)
              h.moved.ends;
        }

  pub books_front : (k : ℕ) (n : Numbers) → slice_get counts k ≡ Some n → BooksFront limits.shift lists k n
  books_front k n at = its_front k n (lane_at k n at)

  -- numbers that only booked arrivals have no cause
  no_cause : (list : List Arrival) (n : Numbers) (cause : Cause) → n.cause ≡ (numbers_after list nothing).cause → n.cause ≡ Some cause → ⊥
  no_cause list n cause is kept = none-some cause (sym (is ∙ cause-after list nothing) ∙ kept)

  pub books_whole : (k : ℕ) (n : Numbers) → slice_get counts k ≡ Some n → n.cause ≡ None → (n.stopped ≡ true) ⊎ BooksWhole limits.shift lists k n
  books_whole k n at none =
      let h = lane_at k n at in
      let had = numbers_after h.moved.booked nothing in
      ⊎_elim
      (λ (done : IsDoneWith (bounds_at limits k) h.moved.inputs h.moved.rest (GaveAll (state h.new)) had n). inr (record { list = h.list; at = h.at; numbers = all_booked k n h done }))
      (λ other. ⊎_elim
      (λ (stopped : n ≡ as_stopped had). inl (ap (λ (m : Numbers). m.stopped) stopped))
      (λ (failed : HasFailedFor (bounds_at limits k) h.moved.inputs h.moved.rest (Rose (state h.old).faults (state h.new).faults) had n).
      absurd (none-some failed.cause (sym none ∙ ap (λ (m : Numbers). m.cause) failed.kept)))
      other)
      h.moved.ends

  -- no cause is a lane's, so the Book found it
  its_found : (cause : Cause) → KeepsIt counts cause → BookFound limits.shift lists counts cause
  its_found cause kept =
      let n = kept.count in
      let h = lane_at kept.lane n kept.at in
      let had = numbers_after h.moved.booked nothing in
      ⊎_elim
      (λ (done : IsDoneWith (bounds_at limits kept.lane) h.moved.inputs h.moved.rest (GaveAll (state h.new)) had n).
      absurd (no_cause h.moved.booked n cause (ap (λ (m : Numbers). m.cause) done.numbers) kept.kept))
      (λ other. ⊎_elim
      (λ (stopped : n ≡ as_stopped had). absurd (no_cause h.moved.booked n cause (ap (λ (m : Numbers). m.cause) stopped) kept.kept))
      (λ (failed : HasFailedFor (bounds_at limits kept.lane) h.moved.inputs h.moved.rest (Rose (state h.old).faults (state h.new).faults) had n).
      let same : failed.cause ≡ cause = same_Some failed.cause cause (sym (ap (λ (m : Numbers). m.cause) failed.kept) ∙ kept.kept) in
      ⊎_elim
      (λ (shown_ : IsLanesCause (bounds_at limits kept.lane) h.moved.inputs (Rose (state h.old).faults (state h.new).faults) failed.cause). absurd (not_lanes kept.lane n h failed.cause shown_))
      (λ (books : IsBooksCause h.moved.rest failed.cause). record { lane = kept.lane; count = n; at = kept.at; books = its_front kept.lane n h; found = subst (IsBooksCause h.moved.rest) same books })
      failed.shown)
      other)
      h.moved.ends

  module _ (teller : Numbers) where
    -- or it is the teller's
    pub book_found : (cause : Cause) → causes (counts ++ teller ∷ []) ≡ cause ∷ [] → BookFound limits.shift lists counts cause ⊎ (teller.cause ≡ Some cause)
    book_found cause is = ⊎_elim
        (λ (kept : KeepsIt counts cause). inl (its_found cause kept))
        (λ (mine : teller.cause ≡ Some cause). inr mine)
        (keeper counts teller cause is)

    -- ---- the count of all passes

    pub in_all : (k : ℕ) (n : Numbers) → slice_get counts k ≡ Some n → IsAt (counts ++ teller ∷ []) k n
    in_all k n at = elem_at (counts ++ teller ∷ []) k n (at_front counts (teller ∷ []) k n at)

    module _ (quiet : teller.eods ≡ 0) (count : Count) (cause : Option Cause) (agree : NumbersAgree (counts ++ teller ∷ []) count cause) where
      pub sum_all : count.eods ≡ sum_by (λ (n : Numbers). n.eods) counts
      sum_all =
          let sum : sum_by (λ (n : Numbers). n.eods) (counts ++ teller ∷ []) ≡ sum_by (λ (n : Numbers). n.eods) counts + teller.eods = sum_by_push (λ (n : Numbers). n.eods) counts teller in
          let all = agree.eods in
          omega (arith, sum, all, quiet)

      -- the EODs of a pass are those that it booked
      few_eods : (k : ℕ) (n : Numbers) → slice_get counts k ≡ Some n → n.eods < 2 ^ 64 - 1
      few_eods k n at =
          let most = few_counted count.total count.eods agree.within in
          let all = agree.eods in
          let below = sum_by-at (λ (m : Numbers). m.eods) (counts ++ teller ∷ []) k n (in_all k n at) in
          omega (arith, most, all, below)

      eods_of : (k : ℕ) (n : Numbers) → slice_get counts k ≡ Some n → (list : List Arrival) → n.eods ≡ (numbers_after list nothing).eods → n.eods ≡ eods list
      eods_of k n at list is =
          let few = few_eods k n at in
          let after = eods-after list nothing (omega (arith, is, few)) in
          omega (arith, is, after)

      pub eods_front : (k : ℕ) (n : Numbers) → slice_get counts k ≡ Some n → (b : BooksFront limits.shift lists k n) → n.eods ≡ eods b.booked
      eods_front k n at b = eods_of k n at b.booked b.counted

      pub eods_whole : (k : ℕ) (n : Numbers) → slice_get counts k ≡ Some n → (b : BooksWhole limits.shift lists k n) → n.eods ≡ eods (lane_arrivals limits.shift b.list)
      eods_whole k n at b = eods_of k n at (lane_arrivals limits.shift b.list) (ap (λ (m : Numbers). m.eods) b.numbers)

      -- a total that a lane announces is taken where all of each lane is booked
      pub total_taken : IsSome (first_of (all_totals limits.shift lists)) → ((k : ℕ) (n : Numbers) → slice_get counts k ≡ Some n → BooksWhole limits.shift lists k n) → (total : ℕ) × (count.total ≡ Some total)
      total_taken announced each =
          let shift = limits.shift in
          let told = announcer shift lists announced in
          let lt = slice_get_within lists told.lane told.list told.at in
          let one_each = moves.one_each in
          let many = gives.many in
          let c = there counts told.lane (omega (arith, lt, one_each, many)) in
          let b = each told.lane c.0 c.1 in
          let same : told.list ≡ b.list = same_Some told.list b.list (sym told.at ∙ b.at) in
          let has : IsSome (numbers_after (lane_arrivals shift told.list) nothing).total = total-after (lane_arrivals shift told.list) nothing told.told in
          let numbers : c.0 ≡ numbers_after (lane_arrivals shift told.list) nothing = b.numbers ∙ ap (λ (l : List LaneInput). numbers_after (lane_arrivals shift l) nothing) (sym same) in
          let total = is_there c.0.total (subst (λ (m : Numbers). IsSome m.total) (sym numbers) has) in
          (total.0, agree.totals told.lane total.0 c.0 (in_all told.lane c.0 c.1) total.1)

    -- where no pass has a cause all EODs came, or all of each lane is booked
    pub met_or_whole : (count : Count) → NumbersAgree (counts ++ teller ∷ []) count None → IsMet count ⊎ ((k : ℕ) (n : Numbers) → slice_get counts k ≡ Some n → BooksWhole limits.shift lists k n)
    met_or_whole count agree = one_or_all counts (IsMet count) (BooksWhole limits.shift lists) each
      where
        each : (k : ℕ) (n : Numbers) → slice_get counts k ≡ Some n → IsMet count ⊎ BooksWhole limits.shift lists k n
        each k n at = ⊎_elim
            (λ (stopped : n.stopped ≡ true). inl (⊎_elim
            (λ (kept : IsSome {T = Cause} None). absurd (no_both false kept refl))
            (λ (met : IsMet count). met)
            (agree.stopped k n (in_all k n at) stopped)))
            (λ (b : BooksWhole limits.shift lists k n). inr b)
            (books_whole k n at (causes-none (counts ++ teller ∷ []) k n agree.causes (in_all k n at)))
