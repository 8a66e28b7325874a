-- A mover, over all its turns.
use Rattle.std.proofs.Common.{◌≡◌, ◌⊎◌, ℕ, zero, suc, ◌<◌, ◌≤◌, List, [], ◌∷◌, ◌++◌, length, map, reverse, take, Some, None, true, false, refl, sym, ap, ◌∙◌, subst, ⊎_elim, inl, inr, arith}
use Rattle.std.specs.Prelude.{Option, Result, Ok, Err, IfSome, IsSome}
use Rattle.std.proofs.lemmas.List.{append_assoc, append-nil, reverse-append, reverse-reverse, take-append-le}
use Rattle.gft_base.specs.Words.{Rose}
use Rattle.gft_eblock.specs.Words.{Arrival, totals}
use Rattle.gft_drive.specs.Words.{Sent}
use Rattle.gft_outside.specs.Words.{AllAre, AreInTurn, Came, Channels, Ended, Gives, LaneInput, LaneState, Loses, Opened, Silence, channels_after, gained, is_live, lane_arrivals, no_channels, stream}
use Rattle.gft_outside.proofs.Lemmas.{channels_after-append, cuts, gives_more, gives_none, in_turn-older}
use Rattle.gft_pass.specs.declared.Cause.{Cause}
use Rattle.gft_pass.specs.declared.Numbers.{Numbers}
use Rattle.gft_pass.specs.Words.{Lane, nothing}
use Rattle.gft_book.specs.Words.{Learns, SamePass, Start, as_stopped, left_out, with_cause}
use Rattle.gft_receive.specs.declared.mover.Mover.{Mover}
use Rattle.gft_receive.specs.declared.halt.Halt.{Halt}
use Rattle.gft_receive.specs.declared.halt.Halt.TheVariants.{Done, Stopped, Failed}
use Rattle.gft_receive.specs.Booking.{IsBooksCause, numbers_after}
use Rattle.gft_receive.specs.Causes.{first_cause}
use Rattle.gft_receive.specs.Honest.{AreOfSource, AreOfTotal, IsHonestFor, IsHonestLeft, MayBring, TellsTotal}
use Rattle.gft_receive.specs.Moved.{Bounds, MoverEnds, GaveAll, IsLanesCause, IsMoved}
use Rattle.gft_receive.specs.Turns.{Awaits, FeedsHonest, HasMoved, StandsBehind, TellsHonest, TurnEnds, Turned, TurnedBy, bounds_of}
use Rattle.gft_receive.proofs.BookingLemmas.{numbers_after-append}
use Rattle.gft_receive.proofs.TableLemmas.{no_both}
use Rattle.gft_receive.proofs.HonestLemmas.{MayBring-front, MayBring-rest, honest_source}

-- ---- one turn

-- a cause is shown the more, the more may have happened
shows_more : (bounds : Bounds) (inputs : List LaneInput) (rose : Type 0) (cause : Cause) → IsLanesCause bounds inputs ⊥ cause → IsLanesCause bounds inputs rose cause
shows_more bounds inputs rose cause (inl first) = inl first
shows_more bounds inputs rose cause (inr (none, inl idle)) = inr (none, inl idle)
shows_more bounds inputs rose cause (inr (none, inr link)) = absurd link.1

ends_more : {A : Type 0} → (bounds : Bounds) (all : List LaneInput) (rest : List Arrival) (rose done : Type 0) (now : Mover) (result : Result A Halt) (had after : Numbers) → TurnEnds bounds all rest ⊥ ⊥ now result had after → TurnEnds bounds all rest rose done now result had after
ends_more bounds all rest rose done now (Ok x) had after e = e
ends_more bounds all rest rose done now (Err Done) had after e = absurd e.2
ends_more bounds all rest rose done now (Err Stopped) had after e = e
ends_more bounds all rest rose done now (Err (Failed cause)) had after e = (e.0, shows_more bounds all rose cause e.1, e.2)

pub turned_more : {A : Type 0} → (bounds : Bounds) (inputs given : List LaneInput) (rose done : Type 0) (now : Mover) (before after : Lane) (result : Result A Halt) → Turned bounds inputs given ⊥ ⊥ now before after result → Turned bounds inputs given rose done now before after result
turned_more bounds inputs given rose done now before after result t = record {
  booked = t.booked;
  rest = t.rest;
  front = t.front;
  same = t.same;
  ends = ends_more bounds (given ++ inputs) t.rest rose done now result (numbers_after t.booked before.count) after.count t.ends;
}

-- one input, of which nothing is booked
pub turned_one : {A : Type 0} → (bounds : Bounds) (inputs : List LaneInput) (input : LaneInput) (rose done : Type 0) (now : Mover) (pass : Lane) (result : Result A Halt) → lane_arrivals bounds.shift (input ∷ inputs) ≡ lane_arrivals bounds.shift inputs
    → TurnEnds bounds (input ∷ inputs) [] ⊥ ⊥ now result pass.count pass.count → Turned bounds inputs (input ∷ []) rose done now pass pass result
turned_one bounds inputs input rose done now pass result quiet ends = record {
  booked = [];
  rest = [];
  front = quiet ∙ sym (append-nil (lane_arrivals bounds.shift inputs));
  same = record { table = refl; lane = refl };
  ends = ends_more bounds (input ∷ inputs) [] rose done now result pass.count pass.count ends;
}

-- none at all
pub turned_none : {A : Type 0} → (bounds : Bounds) (inputs : List LaneInput) (rose done : Type 0) (now : Mover) (pass : Lane) (result : Result A Halt) → TurnEnds bounds inputs [] rose done now result pass.count pass.count → Turned bounds inputs [] rose done now pass pass result
turned_none bounds inputs rose done now pass result ends = record {
  booked = [];
  rest = [];
  front = sym (append-nil (lane_arrivals bounds.shift inputs));
  same = record { table = refl; lane = refl };
  ends = ends;
}

-- ---- what the lane gives

-- bytes come on a live channel
pub piece_live : (channel : ℕ) (bytes : List ℕ) (before : Channels) → 0 < length bytes → AreInTurn (reverse (map (λ value. Came channel value) bytes)) before → is_live channel before.live ≡ true
piece_live channel [] before some turn = absurd (omega (arith, some))
piece_live channel (b ∷ bs) before some turn =
    (in_turn-older (reverse (map (λ value. Came channel value) bs)) (Came channel b ∷ []) before (subst (λ (l : List LaneInput). AreInTurn l before) (reverse-append (Came channel b ∷ []) (map (λ value. Came channel value) bs)) turn)).1

-- a lane brings at least what its older inputs did
pub arrivals_more : (shift : ℕ) (newer older : List LaneInput) → (more : List Arrival) × (lane_arrivals shift (newer ++ older) ≡ lane_arrivals shift older ++ more)
arrivals_more shift [] older = ([], sym (append-nil (lane_arrivals shift older)))
arrivals_more shift (Opened n ∷ newer) older = arrivals_more shift newer older
arrivals_more shift (Ended n ∷ newer) older = arrivals_more shift newer older
arrivals_more shift (Silence ∷ newer) older = arrivals_more shift newer older
arrivals_more shift (Came n value ∷ newer) older =
    let before = arrivals_more shift newer older in
    let here = gained shift (stream n (newer ++ older)) (value ∷ []) in
    (before.0 ++ here, ap (λ (l : List Arrival). l ++ here) before.1 ∙ append_assoc (lane_arrivals shift older) before.0 here)

some_bind : {A : Type 0} (o : Option A) (P Q : A → Type 0) → ((x : A) → o ≡ Some x → P x → IfSome o Q) → IfSome o P → IfSome o Q
some_bind None P Q f h = tt
some_bind (Some x) P Q f h = f x refl h

some_if : {A : Type 0} (o : Option A) (Q : A → Type 0) → (IsSome o → IfSome o Q) → IfSome o Q
some_if None Q f = tt
some_if (Some x) Q f = f refl

-- what has to be shown only where there is a source, or a known total
may_if : (sent : List ℕ → Option Sent) (start : Start) (lane : ℕ) (n : Numbers) (list : List Arrival) → (IsSome (sent start.label) ⊎ IsSome start.total → MayBring sent start lane n list) → MayBring sent start lane n list
may_if sent start lane n list f = (some_if (sent start.label) _ (λ some. (f (inl some)).0), some_if start.total _ (λ some. (f (inr some)).1))

same_list : {A : Type 0} (a b : List A) → Some a ≡ Some b → a ≡ b
same_list a b e = cc

-- a lane that tells what it has left goes on to tell it
left_now : (old new : Option (List LaneInput)) (given left : List LaneInput) → old ≡ Some left → Loses old new given → (later : List LaneInput) × (new ≡ Some later) × (left ≡ reverse given ++ later)
left_now None new given left is lost = absurd (let e = is in cc)
left_now (Some a) None given left is lost = absurd lost
left_now (Some a) (Some b) given left is lost = (b, refl, sym (same_list a left is) ∙ lost)

-- all that it brings, before and after a turn
same_all : (given later left inputs : List LaneInput) → left ≡ reverse given ++ later → reverse left ++ inputs ≡ reverse later ++ (given ++ inputs)
same_all given later left inputs is =
    ap (λ (l : List LaneInput). reverse l ++ inputs) is
    ∙ ap (λ (l : List LaneInput). l ++ inputs) (reverse-append (reverse given) later ∙ ap (λ (l : List LaneInput). reverse later ++ l) (reverse-reverse given))
    ∙ append_assoc (reverse later) given inputs

pub tells_on : (sent : List ℕ → Option Sent) (start : Start) (shift lane : ℕ) (inputs given : List LaneInput) (old new : LaneState) → Gives given old new → TellsHonest sent start shift lane inputs old → TellsHonest sent start shift lane (given ++ inputs) new
tells_on sent start shift lane inputs given old new gives h asked =
    let told = h asked in
    let later = left_now old.left new.left given told.0 told.1 gives.left in
    (later.0, later.1, subst (λ (l : List LaneInput). MayBring sent start lane nothing (lane_arrivals shift l)) (same_all given later.0 told.0 inputs later.2) told.2)

-- what a lane that is honest gives next may be booked
pub next_honest : (sent : List ℕ → Option Sent) (start : Start) (state new : LaneState) (m : Mover) (pass : Lane) (channel : ℕ) (bytes : List ℕ) → Awaits sent start state m pass → Gives (reverse (map (λ value. Came channel value) bytes)) state new → FeedsHonest sent start m pass channel bytes
next_honest sent start state new m pass channel bytes awaits gives =
    let a = awaits.1 in
    let inputs = awaits.0 in
    let shift = m.channels.shift in
    let given = reverse (map (λ value. Came channel value) bytes) in
    let had = lane_arrivals shift inputs in
    let here = gained shift (stream channel inputs) bytes in (
      inputs,
      a.stands,
      subst (λ (n : Numbers). MayBring sent start pass.lane n here) (sym a.booked)
          (may_if sent start pass.lane (numbers_after had nothing) here (λ asked.
          let told = a.honest asked in
          let later = left_now state.left new.left given told.0 told.1 gives.left in
          let more = arrivals_more shift (reverse later.0) (given ++ inputs) in
          let all : lane_arrivals shift (reverse told.0 ++ inputs) ≡ had ++ (here ++ more.0) =
          ap (lane_arrivals shift) (same_all given later.0 told.0 inputs later.2) ∙ more.1 ∙ ap (λ (l : List Arrival). l ++ more.0) (cuts shift channel bytes inputs) ∙ append_assoc had here more.0 in
          MayBring-front sent start pass.lane (numbers_after had nothing) here more.0 (MayBring-rest sent start pass.lane nothing had (here ++ more.0) (subst (MayBring sent start pass.lane nothing) all told.2)))),
    )

-- ---- before the first turn

-- a lane that tells what it has left for its source, or for a known total, tells it once
module _ (sent : List ℕ → Option Sent) (start : Start) (shift lane : ℕ) (left : Option (List LaneInput)) (honest : IsHonestLeft sent start shift lane left) (total : TellsTotal start shift left) where
  told_left : IsSome (sent start.label) ⊎ IsSome start.total → (inputs : List LaneInput) × (left ≡ Some inputs)
  told_left (inl some) = by_source (sent start.label) some honest
    where
      by_source : (o : Option Sent) → IsSome o → IfSome o (λ s. (inputs : List LaneInput) × (left ≡ Some inputs) × IsHonestFor s (left_out start.how) lane (lane_arrivals shift (reverse inputs))) → (inputs : List LaneInput) × (left ≡ Some inputs)
      by_source None some h = absurd (no_both false some refl)
      by_source (Some s) some h = (h.0, h.1)
  told_left (inr some) = by_total start.total some total
    where
      by_total : (o : Option ℕ) → IsSome o → IfSome o (λ n. (inputs : List LaneInput) × (left ≡ Some inputs) × AllAre n (totals (lane_arrivals shift (reverse inputs)))) → (inputs : List LaneInput) × (left ≡ Some inputs)
      by_total None some h = absurd (no_both false some refl)
      by_total (Some n) some h = (h.0, h.1)

  left_may : (inputs : List LaneInput) → left ≡ Some inputs → MayBring sent start lane nothing (lane_arrivals shift (reverse inputs))
  left_may inputs is = (
    some_bind (sent start.label) _ _
        (λ s is_s told. subst (λ (l : List LaneInput). AreOfSource sent start lane nothing (lane_arrivals shift (reverse l))) (same_list told.0 inputs (sym told.1 ∙ is)) (honest_source sent start lane (lane_arrivals shift (reverse told.0)) s is_s told.2))
        honest,
    some_bind start.total _ _
        (λ n is_n told. subst (λ (l : List LaneInput). AreOfTotal start (lane_arrivals shift (reverse l))) (same_list told.0 inputs (sym told.1 ∙ is)) (subst (λ (o : Option ℕ). IfSome o (λ m. AllAre m (totals (lane_arrivals shift (reverse told.0))))) (sym is_n) told.2))
        total,
  )

  pub tells_first : (state : LaneState) → state.left ≡ left → TellsHonest sent start shift lane [] state
  tells_first state is asked =
      let told = told_left asked in
      (told.0, is ∙ told.1, subst (λ (l : List LaneInput). MayBring sent start lane nothing (lane_arrivals shift l)) (sym (append-nil (reverse told.0))) (left_may told.0 told.1))

-- ---- all turns

module _ (sent : List ℕ → Option Sent) (start : Start) (bounds : Bounds) (old : LaneState) (before : Lane) where
  -- before the first
  pub moved_first : (m : Mover) → StandsBehind [] m → bounds_of m ≡ bounds → old.channels ≡ no_channels → before.count ≡ nothing → IsHonestLeft sent start bounds.shift before.lane old.left × TellsTotal start bounds.shift old.left → HasMoved sent start bounds old old before m before
  moved_first m stands is channels fresh honest = record {
    inputs = [];
    gives = gives_none old;
    later = omega arith;
    awaits = record {
      stands = stands;
      channels = channels;
      booked = fresh;
      honest = subst (λ (k : ℕ). TellsHonest sent start k before.lane [] old) (sym (ap (λ (b : Bounds). b.shift) is)) (tells_first sent start bounds.shift before.lane old.left honest.0 honest.1 old refl);
    };
    same = record { table = refl; lane = refl };
    bounds = is;
  }

  -- a look at the Book that leaves the pass
  pub moved_still : (state : LaneState) (m : Mover) (pass after : Lane) → HasMoved sent start bounds old state before m pass → SamePass pass after → after.count ≡ pass.count → HasMoved sent start bounds old state before m after
  moved_still state m pass after h same count = record {
    inputs = h.inputs;
    gives = h.gives;
    later = h.later;
    awaits = record {
      stands = h.awaits.stands;
      channels = h.awaits.channels;
      booked = count ∙ h.awaits.booked;
      honest = subst (λ (k : ℕ). TellsHonest sent start m.channels.shift k h.inputs state) (sym same.lane) h.awaits.honest;
    };
    same = record { table = same.table ∙ h.same.table; lane = same.lane ∙ h.same.lane };
    bounds = h.bounds;
  }

  -- a turn more
  pub moved_on : {A : Type 0} → (state new : LaneState) (m now : Mover) (pass after : Lane) (answer : A) → (h : HasMoved sent start bounds old state before m pass) → TurnedBy {A = A} (bounds_of m) h.inputs state new now pass after (Ok answer) → HasMoved sent start bounds old new before now after
  moved_on state new m now pass after answer h turned =
      let given = turned.0 in
      let gives = turned.1 in
      let t = turned.3 in
      let risen = turned.2 in
      let later = h.later in
      let shift = m.channels.shift in
      let had = lane_arrivals shift h.inputs in
      let same_shift : now.channels.shift ≡ shift = ap (λ (b : Bounds). b.shift) t.ends.3 in
      let all : lane_arrivals shift (given ++ h.inputs) ≡ had ++ t.booked = t.front ∙ ap (λ (l : List Arrival). had ++ (t.booked ++ l)) t.ends.0 ∙ ap (λ (l : List Arrival). had ++ l) (append-nil t.booked) in
      record {
        inputs = given ++ h.inputs;
        gives = gives_more old state new h.inputs given h.gives gives;
        later = omega (arith, later, risen);
        awaits = record {
          stands = t.ends.2;
          channels = gives.channels ∙ ap (channels_after given) h.awaits.channels ∙ sym (channels_after-append given h.inputs no_channels);
          booked = t.ends.1 ∙ ap (numbers_after t.booked) h.awaits.booked ∙ sym (numbers_after-append had t.booked nothing) ∙ ap (λ (l : List Arrival). numbers_after l nothing) (sym all)
              ∙ ap (λ (k : ℕ). numbers_after (lane_arrivals k (given ++ h.inputs)) nothing) (sym same_shift);
          honest = subst (λ (k : ℕ). TellsHonest sent start k after.lane (given ++ h.inputs) new) (sym same_shift)
              (subst (λ (k : ℕ). TellsHonest sent start shift k (given ++ h.inputs) new) (sym t.same.lane) (tells_on sent start shift pass.lane h.inputs given state new gives h.awaits.honest));
        };
        same = record { table = t.same.table ∙ h.same.table; lane = t.same.lane ∙ h.same.lane };
        bounds = t.ends.3 ∙ h.bounds;
      }

  -- how it ends: by inputs of which a front is booked
  module _ (fresh : before.count ≡ nothing) (state : LaneState) (m : Mover) (pass : Lane) (h : HasMoved sent start bounds old state before m pass) where
    shift_is : m.channels.shift ≡ bounds.shift
    shift_is = ap (λ (b : Bounds). b.shift) h.bounds

    had_all : pass.count ≡ numbers_after (lane_arrivals bounds.shift h.inputs) before.count
    had_all = h.awaits.booked ∙ ap (λ (k : ℕ). numbers_after (lane_arrivals k h.inputs) nothing) shift_is ∙ ap (numbers_after (lane_arrivals bounds.shift h.inputs)) (sym fresh)

    -- the transfer has ended
    pub moved_ended : (after : Lane) → SamePass pass after → after.count ≡ as_stopped pass.count → SamePass before after × IsMoved bounds old state before.count after.count
    moved_ended after same noted = (
      record { table = same.table ∙ h.same.table; lane = same.lane ∙ h.same.lane },
      record {
        inputs = h.inputs;
        gives = h.gives;
        booked = lane_arrivals bounds.shift h.inputs;
        rest = [];
        front = sym (append-nil (lane_arrivals bounds.shift h.inputs));
        ends = inr (inl (noted ∙ ap as_stopped had_all));
      },
    )

    module _ (new : LaneState) (now : Mover) (after : Lane) (given : List LaneInput) (gives : Gives given state new) (risen : state.faults ≤ new.faults) (booked rest : List Arrival)
        (front : lane_arrivals (bounds_of m).shift (given ++ h.inputs) ≡ lane_arrivals (bounds_of m).shift h.inputs ++ (booked ++ rest)) (same : SamePass pass after) where
      whole : lane_arrivals bounds.shift (given ++ h.inputs) ≡ (lane_arrivals bounds.shift h.inputs ++ booked) ++ rest
      whole = subst (λ (k : ℕ). lane_arrivals k (given ++ h.inputs) ≡ lane_arrivals k h.inputs ++ (booked ++ rest)) shift_is front ∙ sym (append_assoc (lane_arrivals bounds.shift h.inputs) booked rest)

      numbers : numbers_after booked pass.count ≡ numbers_after (lane_arrivals bounds.shift h.inputs ++ booked) before.count
      numbers = ap (numbers_after booked) had_all ∙ sym (numbers_after-append (lane_arrivals bounds.shift h.inputs) booked before.count)

      moved_as : (last : Lane) → SamePass after last
          → MoverEnds bounds (given ++ h.inputs) rest (Rose old.faults new.faults) (GaveAll new) (numbers_after booked pass.count) last.count → SamePass before last × IsMoved bounds old new before.count last.count
      moved_as last same_last ends = (
        record { table = same_last.table ∙ same.table ∙ h.same.table; lane = same_last.lane ∙ same.lane ∙ h.same.lane },
        record {
          inputs = given ++ h.inputs;
          gives = gives_more old state new h.inputs given h.gives gives;
          booked = lane_arrivals bounds.shift h.inputs ++ booked;
          rest = rest;
          front = whole;
          ends = subst (λ (n : Numbers). MoverEnds bounds (given ++ h.inputs) rest (Rose old.faults new.faults) (GaveAll new) n last.count) numbers ends;
        },
      )

      shows_since : (b : Bounds) (cause : Cause) → IsLanesCause b (given ++ h.inputs) (Rose state.faults new.faults) cause → IsLanesCause b (given ++ h.inputs) (Rose old.faults new.faults) cause
      shows_since b cause (inl first) = inl first
      shows_since b cause (inr (none, inl idle)) = inr (none, inl idle)
      shows_since b cause (inr (none, inr link)) = let rose = link.1 in let later = h.later in inr (none, inr (link.0, omega (arith, rose, later)))

      pub ends_done : TurnEnds {A = Unit {0}} (bounds_of m) (given ++ h.inputs) rest (Rose state.faults new.faults) (GaveAll new) now (Err Done) (numbers_after booked pass.count) after.count
          → MoverEnds bounds (given ++ h.inputs) rest (Rose old.faults new.faults) (GaveAll new) (numbers_after booked pass.count) after.count
      ends_done e = inl (record { numbers = e.1; done = e.2; all = e.0; none = subst (λ (b : Bounds). first_cause b.lane b.shift (given ++ h.inputs) ≡ None) h.bounds e.3 })

      pub ends_stopped : TurnEnds {A = Unit {0}} (bounds_of m) (given ++ h.inputs) rest (Rose state.faults new.faults) (GaveAll new) now (Err Stopped) (numbers_after booked pass.count) after.count
          → MoverEnds bounds (given ++ h.inputs) rest (Rose old.faults new.faults) (GaveAll new) (numbers_after booked pass.count) after.count
      ends_stopped e = ⊎_elim
          (λ (stopped : after.count ≡ as_stopped (numbers_after booked pass.count)). inr (inl stopped))
          (λ (kept : (cause : Cause) × IsBooksCause rest cause × (after.count ≡ with_cause cause (numbers_after booked pass.count))). inr (inr (record { cause = kept.0; kept = kept.2; shown = inr kept.1 })))
          e

      pub ends_failed : (cause : Cause) (last : Lane) → TurnEnds {A = Unit {0}} (bounds_of m) (given ++ h.inputs) rest (Rose state.faults new.faults) (GaveAll new) now (Err (Failed cause)) (numbers_after booked pass.count) after.count
          → Learns (λ kept. kept ≡ cause) after.count last.count → MoverEnds bounds (given ++ h.inputs) rest (Rose old.faults new.faults) (GaveAll new) (numbers_after booked pass.count) last.count
      ends_failed cause last e learned = ⊎_elim
          (λ (stopped : last.count ≡ as_stopped after.count). inr (inl (stopped ∙ ap as_stopped e.0)))
          (λ (kept : (k : Cause) × (k ≡ cause) × (last.count ≡ with_cause k after.count)). inr (inr (record {
            cause = cause;
            kept = kept.2 ∙ ap (λ (k : Cause). with_cause k after.count) kept.1 ∙ ap (with_cause cause) e.0;
            shown = inl (subst (λ (b : Bounds). IsLanesCause b (given ++ h.inputs) (Rose old.faults new.faults) cause) h.bounds (shows_since (bounds_of m) cause e.1));
          })))
          learned

-- ---- bytes at the front of a buffer

-- those that an event of bytes gives
pub front_of : (n : ℕ) (buf rest : List ℕ) → n ≤ length buf → take n (buf ++ rest) ≡ take n buf
front_of n buf rest le = take-append-le n buf rest le

pub some_front : (n : ℕ) (buf : List ℕ) → 1 ≤ n → n ≤ length buf → 0 < length (take n buf)
some_front zero buf some le = absurd (omega (arith, some))
some_front (suc n) [] some le = absurd (omega (arith, le))
some_front (suc n) (x ∷ buf) some le = omega arith

-- ---- the end of a mover

-- its lane is done
pub moved_done : (sent : List ℕ → Option Sent) (start : Start) (bounds : Bounds) (old : LaneState) (before : Lane) (fresh : before.count ≡ nothing) (state new : LaneState) (m now : Mover) (pass after : Lane) (h : HasMoved sent start bounds old state before m pass)
    → TurnedBy {A = Unit {0}} (bounds_of m) h.inputs state new now pass after (Err Done) → SamePass before after × IsMoved bounds old new before.count after.count
moved_done sent start bounds old before fresh state new m now pass after h turned =
    let t = turned.3 in
    moved_as sent start bounds old before fresh state m pass h new now after turned.0 turned.1 turned.2 t.booked t.rest t.front t.same after (record { table = refl; lane = refl })
    (ends_done sent start bounds old before fresh state m pass h new now after turned.0 turned.1 turned.2 t.booked t.rest t.front t.same t.ends)

-- the Book stopped it
pub moved_stopped : (sent : List ℕ → Option Sent) (start : Start) (bounds : Bounds) (old : LaneState) (before : Lane) (fresh : before.count ≡ nothing) (state new : LaneState) (m now : Mover) (pass after : Lane) (h : HasMoved sent start bounds old state before m pass)
    → TurnedBy {A = Unit {0}} (bounds_of m) h.inputs state new now pass after (Err Stopped) → SamePass before after × IsMoved bounds old new before.count after.count
moved_stopped sent start bounds old before fresh state new m now pass after h turned =
    let t = turned.3 in
    moved_as sent start bounds old before fresh state m pass h new now after turned.0 turned.1 turned.2 t.booked t.rest t.front t.same after (record { table = refl; lane = refl })
    (ends_stopped sent start bounds old before fresh state m pass h new now after turned.0 turned.1 turned.2 t.booked t.rest t.front t.same t.ends)

-- its lane showed a cause, and the Book was told
pub moved_failed : (sent : List ℕ → Option Sent) (start : Start) (bounds : Bounds) (old : LaneState) (before : Lane) (fresh : before.count ≡ nothing) (state new : LaneState) (m now : Mover) (pass after last : Lane) (cause : Cause) (h : HasMoved sent start bounds old state before m pass)
    → TurnedBy {A = Unit {0}} (bounds_of m) h.inputs state new now pass after (Err (Failed cause)) → SamePass after last → Learns (λ kept. kept ≡ cause) after.count last.count → SamePass before last × IsMoved bounds old new before.count last.count
moved_failed sent start bounds old before fresh state new m now pass after last cause h turned same learned =
    let t = turned.3 in
    moved_as sent start bounds old before fresh state m pass h new now after turned.0 turned.1 turned.2 t.booked t.rest t.front t.same last same
    (ends_failed sent start bounds old before fresh state m pass h new now after turned.0 turned.1 turned.2 t.booked t.rest t.front t.same cause last t.ends learned)
