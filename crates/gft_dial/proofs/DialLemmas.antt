-- Stripes whose data connections are opened one after another.
use Rattle.std.proofs.Common.{◌≡◌, ◌≤◌, ◌<◌, ◌≢◌, ◌-◌, ℕ, zero, suc, below_more, ◌+◌, List, [], ◌∷◌, ◌++◌, length, get_or, get_or-set_other, get_or-set_same, length-set, set, take, drop, refl, sym, ap, ◌∙◌, subst, arith, length-append, append_assoc, append-nil, map}
use Rattle.std.specs.Prelude.{All, slice_index_or, vec_len}
use Rattle.std.specs.List.{repeat}
use Rattle.std.proofs.Math.Seq.{take-append_seam}
use Rattle.std.proofs.lemmas.Grind.{flat_map-append}
use Rattle.std.proofs.lemmas.List.{drop_more, take-append-drop, take_more}
use Rattle.std.proofs.lemmas.List.Elements.{All-append}
use Rattle.gft_text.specs.declared.host_port.HostPort.{HostPort}
use Rattle.gft_outside.specs.Words.{Dialled, IsNewOutLane, LinkState, NotDialled, OutLaneState}
use Rattle.gft_send.specs.declared.transfer.Stripe.{Stripe}
use Rattle.gft_dial.specs.Dials.{DialsTo, ReturnsOut, StopsAt, each_times, outs_of}
use Rattle.gft_dial.specs.Stripes.{DialsFailed, IsNewStripe, IsUnopened}
use Rattle.gft_dial.proofs.Lemmas.{dials_join, dials_none, dials_one, returned_later, returns_join}

-- ---- lists of stripes

pub outs_more : {D X : Type 0} (stripes : List (Stripe D X)) (stripe : Stripe D X) → outs_of (stripes ++ stripe ∷ []) ≡ outs_of stripes ++ stripe.channels.items
outs_more stripes stripe = flat_map-append (λ s. s.channels.items) stripes (stripe ∷ []) ∙ ap (λ l. outs_of stripes ++ l) (append-nil stripe.channels.items)

pub outs_first : {D X : Type 0} (stripe : Stripe D X) (stripes : List (Stripe D X)) → length (outs_of (stripe ∷ stripes)) ≡ length stripe.channels.items + length (outs_of stripes)
outs_first stripe stripes = length-append stripe.channels.items (outs_of stripes)

pub outs_next : {D X : Type 0} (all rest : List (Stripe D X)) (stripe : Stripe D X) → all ≡ stripe ∷ rest → length (outs_of all) ≡ length stripe.channels.items + length (outs_of rest)
outs_next all rest stripe is = ap (λ l. length (outs_of l)) is ∙ outs_first stripe rest

-- one stripe more is given back
pub returns_stripe : {L D X : Type 0} (state : X → OutLaneState) (a b c : LinkState L X) (stripes : List (Stripe D X)) (stripe : Stripe D X) → ReturnsOut state a b (outs_of stripes) → ReturnsOut state b c stripe.channels.items
    → ReturnsOut state a c (outs_of (stripes ++ stripe ∷ []))
returns_stripe state a b c stripes stripe first next =
    subst (λ l. ReturnsOut state a c l) (sym (outs_more stripes stripe)) (returns_join state a b c (outs_of stripes) stripe.channels.items first next)

-- none of the stripes from here on has a data connection
abbrev pub AreUnopened : {D X : Type 0} → ℕ → ℕ → List (Stripe D X) → Type 0
AreUnopened {D} {X} channels from stripes = (k : ℕ) (d : Stripe D X) → from ≤ k → k < length stripes → IsUnopened channels (slice_index_or stripes k d)

pub outs_unopened : {D X : Type 0} (channels : ℕ) (stripes : List (Stripe D X)) → AreUnopened channels 0 stripes → outs_of stripes ≡ []
outs_unopened channels [] all = refl
outs_unopened channels (stripe ∷ stripes) all =
    ap (λ l. l ++ outs_of stripes) (all 0 stripe (omega arith) (omega arith)).none
    ∙ outs_unopened channels stripes (λ k d from lt. all (suc k) d (omega arith) (omega arith))

-- a stripe is opened behind which none is
pub outs_set : {D X : Type 0} (channels : ℕ) (stripes : List (Stripe D X)) (i : ℕ) (stripe : Stripe D X) → i < length stripes → AreUnopened channels i stripes
    → outs_of (set stripes i stripe) ≡ outs_of stripes ++ stripe.channels.items
outs_set channels [] i stripe lt all = absurd (omega arith)
outs_set channels (first ∷ stripes) zero stripe lt all =
    let later = outs_unopened channels stripes (λ k d from lt. all (suc k) d (omega arith) (omega arith)) in
    let here = (all 0 first (omega arith) (omega arith)).none in
    ap (λ l. stripe.channels.items ++ l) later ∙ append-nil stripe.channels.items
    ∙ sym (ap (λ l. (l ++ outs_of stripes) ++ stripe.channels.items) here ∙ ap (λ l. l ++ stripe.channels.items) later)
outs_set channels (first ∷ stripes) (suc i) stripe lt all =
    ap (λ l. first.channels.items ++ l) (outs_set channels stripes i stripe (omega arith) (λ k d from lt. all (suc k) d (omega arith) (omega arith)))
    ∙ sym (append_assoc first.channels.items (outs_of stripes) stripe.channels.items)

pub drives_set : {D X : Type 0} (stripes : List (Stripe D X)) (i : ℕ) (stripe d : Stripe D X) → i < length stripes → stripe.drive ≡ (slice_index_or stripes i d).drive
    → map (λ s. s.drive) (set stripes i stripe) ≡ map (λ s. s.drive) stripes
drives_set [] i stripe d lt same = absurd (omega arith)
drives_set (first ∷ stripes) zero stripe d lt same = ap (λ x. x ∷ map (λ s. s.drive) stripes) same
drives_set (first ∷ stripes) (suc i) stripe d lt same = ap (λ l. first.drive ∷ l) (drives_set stripes i stripe d (omega arith) same)

-- ---- places

pub repeat_length : (n : ℕ) (at : HostPort) → length (repeat n (at ∷ [])) ≡ n
repeat_length zero at = refl
repeat_length (suc n) at = omega (arith, repeat_length n at)

-- one of several is the next
pub repeat_next : (n m : ℕ) (at : HostPort) → n < m → repeat m (at ∷ []) ≡ repeat n (at ∷ []) ++ at ∷ repeat (m - suc n) (at ∷ [])
repeat_next n zero at lt = absurd (omega arith)
repeat_next zero (suc m) at lt = let e : m ≡ suc m - 1 = omega arith in ap (λ k. at ∷ repeat k (at ∷ [])) e
repeat_next (suc n) (suc m) at lt =
    let e : m - suc n ≡ suc m - suc (suc n) = omega arith in
    ap (λ l. at ∷ l) (repeat_next n m at (omega arith) ∙ ap (λ k. repeat n (at ∷ []) ++ at ∷ repeat k (at ∷ [])) e)

pub repeat_more : (n : ℕ) (at : HostPort) → repeat n (at ∷ []) ++ at ∷ [] ≡ repeat (n + 1) (at ∷ [])
repeat_more zero at = refl
repeat_more (suc n) at = let e : suc (n + 1) ≡ suc n + 1 = omega arith in ap (λ l. at ∷ l) (repeat_more n at) ∙ ap (λ k. repeat k (at ∷ [])) e

-- ---- the data connections of one stripe

-- one more dial is made to the same place
pub dials_next : {L X : Type 0} (a b c : LinkState L X) (at : HostPort) (xs ys : List X) (out : X) → ys ≡ xs ++ out ∷ [] → DialsTo a b (repeat (length xs) (at ∷ [])) xs → Dialled b c (record { at = at; out = out })
    → DialsTo a c (repeat (length ys) (at ∷ [])) ys
dials_next a b c at xs ys out is dialled next =
    let many : length xs + 1 ≡ length ys = omega (arith, ap length is, length-append xs (out ∷ [])) in
    let joined = dials_join a b c (repeat (length xs) (at ∷ [])) (at ∷ []) xs (out ∷ []) dialled (dials_one b c at out next) in
    let e : repeat (length xs) (at ∷ []) ++ at ∷ [] ≡ repeat (length ys) (at ∷ []) = repeat_more (length xs) at ∙ ap (λ k. repeat k (at ∷ [])) many in
    subst (λ ps. DialsTo a c ps ys) e (subst (λ l. DialsTo a c (repeat (length xs) (at ∷ []) ++ at ∷ []) l) (sym is) joined)

pub stops_next : {L X : Type 0} (a b c : LinkState L X) (at : HostPort) (channels : ℕ) (xs : List X) → length xs < channels → DialsTo a b (repeat (length xs) (at ∷ [])) xs → NotDialled b c
    → StopsAt (repeat channels (at ∷ [])) a c xs
stops_next a b c at channels xs lt dialled refused = record {
  made = repeat (length xs) (at ∷ []);
  at = at;
  later = repeat (channels - suc (length xs)) (at ∷ []);
  all = repeat_next (length xs) channels at lt;
  mid = b;
  dialled = dialled;
  refused = refused;
}

-- ---- all stripes

-- the drives stay the same, and so far each stripe has its data connections
pub record Opened {L D X : Type 0} (state : X → OutLaneState) (channels : ℕ) (places : List HostPort) (a : LinkState L X) (old : List (Stripe D X)) (i : ℕ) (b : LinkState L X) (now : List (Stripe D X)) : Type 0 where
  pub drives : map (λ s. s.drive) now ≡ map (λ s. s.drive) old
  pub new : (k : ℕ) (d : Stripe D X) → k < i → IsNewStripe state channels (slice_index_or now k d)
  pub unopened : AreUnopened channels i now
  pub fresh : All (λ out. IsNewOutLane (state out)) (outs_of now)
  pub dialled : DialsTo a b (each_times channels (take i places)) (outs_of now)

pub opened_none : {L D X : Type 0} (state : X → OutLaneState) (channels : ℕ) (places : List HostPort) (a : LinkState L X) (old : List (Stripe D X)) → All (IsUnopened channels) old → Opened state channels places a old 0 a old
opened_none {L} {D} {X} state channels places a old all =
    let none : outs_of old ≡ [] = outs_unopened channels old (λ k d from lt. all k d lt) in
    record {
      drives = refl;
      new = λ k d lt. absurd (omega arith);
      unopened = λ k d from lt. all k d lt;
      fresh = subst (λ l. All (λ out. IsNewOutLane (state out)) l) (sym none) (λ k d lt. absurd (omega arith));
      dialled = subst (λ l. DialsTo a a [] l) (sym none) (dials_none a);
    }

places_more : (channels : ℕ) (places : List HostPort) (i : ℕ) (at : HostPort) → i < length places → at ≡ get_or places i at
    → each_times channels (take (i + 1) places) ≡ each_times channels (take i places) ++ repeat channels (at ∷ [])
places_more channels places i at lt is =
    ap (λ l. each_times channels l) (take_more places i at lt)
    ∙ flat_map-append (λ p. repeat channels (p ∷ [])) (take i places) (get_or places i at ∷ [])
    ∙ ap (λ l. each_times channels (take i places) ++ l) (append-nil (repeat channels (get_or places i at ∷ [])))
    ∙ ap (λ p. each_times channels (take i places) ++ repeat channels (p ∷ [])) (sym is)

places_all : (channels : ℕ) (places : List HostPort) (i : ℕ) (at : HostPort) → i < length places → at ≡ get_or places i at
    → each_times channels places ≡ each_times channels (take i places) ++ (repeat channels (at ∷ []) ++ each_times channels (drop (i + 1) places))
places_all channels places i at lt is =
    ap (λ l. each_times channels l) (sym (take-append-drop i places))
    ∙ flat_map-append (λ p. repeat channels (p ∷ [])) (take i places) (drop i places)
    ∙ ap (λ l. each_times channels (take i places) ++ each_times channels l) (drop_more places i at lt)
    ∙ ap (λ p. each_times channels (take i places) ++ (repeat channels (p ∷ []) ++ each_times channels (drop (i + 1) places))) (sym is)

-- the stripe of this number is as it was, but for its data connections
pub record Filled {D X : Type 0} (state : X → OutLaneState) (places : List HostPort) (now : List (Stripe D X)) (i : ℕ) (stripe d : Stripe D X) (place : HostPort) : Type 0 where
  pub within : i < length now
  pub named : i < length places
  pub is_place : (e : HostPort) → place ≡ get_or places i e
  pub drive : stripe.drive ≡ (slice_index_or now i d).drive
  pub sent : stripe.sent ≡ (slice_index_or now i d).sent
  pub len : vec_len stripe.channels ≡ length stripe.channels.items
  pub fresh : All (λ out. IsNewOutLane (state out)) stripe.channels.items

-- nothing was put on any data connection
pub fresh_more : {L D X : Type 0} (state : X → OutLaneState) (channels : ℕ) (places : List HostPort) (a b : LinkState L X) (old now : List (Stripe D X)) (i : ℕ) (stripe : Stripe D X)
    → Opened state channels places a old i b now → i < length now → All (λ out. IsNewOutLane (state out)) stripe.channels.items → All (λ out. IsNewOutLane (state out)) (outs_of (set now i stripe))
fresh_more state channels places a b old now i stripe so_far within fresh =
    subst (λ l. All (λ out. IsNewOutLane (state out)) l) (sym (outs_set channels now i stripe within so_far.unopened))
    (All-append (λ out. IsNewOutLane (state out)) (outs_of now) stripe.channels.items so_far.fresh fresh)

new_more : {D X : Type 0} (state : X → OutLaneState) (channels : ℕ) (now : List (Stripe D X)) (i : ℕ) (stripe : Stripe D X) → ((k : ℕ) (d : Stripe D X) → k < i → IsNewStripe state channels (slice_index_or now k d)) → i < length now → IsNewStripe state channels stripe
    → (k : ℕ) (e : Stripe D X) → k < i + 1 → IsNewStripe state channels (slice_index_or (set now i stripe) k e)
new_more {D} {X} state channels now i stripe before within here k e lt =
    below_more (λ m. IsNewStripe state channels (slice_index_or (set now i stripe) m e)) i
    (λ m below. let ne : m ≢ i = omega arith in subst (λ s. IsNewStripe state channels s) (sym (get_or-set_other now i m stripe e ne)) (before m e below))
    (subst (λ s. IsNewStripe state channels s) (sym (get_or-set_same now i stripe e within)) here) k lt

-- all data connections of one stripe more are opened
pub opened_more : {L D X : Type 0} (state : X → OutLaneState) (channels : ℕ) (places : List HostPort) (a b c : LinkState L X) (old now : List (Stripe D X)) (i : ℕ) (stripe d : Stripe D X) (place : HostPort)
    → Opened state channels places a old i b now → Filled state places now i stripe d place → DialsTo b c (repeat channels (place ∷ [])) stripe.channels.items
    → Opened state channels places a old (i + 1) c (set now i stripe)
opened_more {L} {D} {X} state channels places a b c old now i stripe d place so_far filled next = record {
  drives = drives_set now i stripe d filled.within filled.drive ∙ so_far.drives;
  new = new_more state channels now i stripe so_far.new filled.within (record { count = omega (arith, filled.len, next.count, repeat_length channels place); new = filled.fresh; unsent = filled.sent ∙ (so_far.unopened i d (omega arith) filled.within).unsent });
  unopened = λ k e from lt. let ne : k ≢ i = omega arith in subst (λ s. IsUnopened channels s) (sym (get_or-set_other now i k stripe e ne)) (so_far.unopened k e (omega arith) (omega (arith, length-set now i stripe)));
  fresh = fresh_more state channels places a b old now i stripe so_far filled.within filled.fresh;
  dialled = subst (λ l. DialsTo a c (each_times channels (take (i + 1) places)) l) (sym (outs_set channels now i stripe filled.within so_far.unopened))
      (subst (λ ps. DialsTo a c ps (outs_of now ++ stripe.channels.items)) (sym (places_more channels places i place filled.named (filled.is_place place)))
      (dials_join a b c (each_times channels (take i places)) (repeat channels (place ∷ [])) (outs_of now) stripe.channels.items so_far.dialled next));
}

-- a dial of the stripe failed
pub opened_cut : {L D X : Type 0} (state : X → OutLaneState) (channels : ℕ) (places : List HostPort) (a b c : LinkState L X) (old now : List (Stripe D X)) (i : ℕ) (stripe d : Stripe D X) (place : HostPort)
    → Opened state channels places a old i b now → Filled state places now i stripe d place → StopsAt (repeat channels (place ∷ [])) b c stripe.channels.items
    → StopsAt (each_times channels places) a c (outs_of (set now i stripe))
opened_cut state channels places a b c old now i stripe d place so_far filled stops =
    let before = each_times channels (take i places) in
    let behind = each_times channels (drop (i + 1) places) in
    subst (λ l. StopsAt (each_times channels places) a c l) (sym (outs_set channels now i stripe filled.within so_far.unopened))
    (record {
      made = before ++ stops.made;
      at = stops.at;
      later = stops.later ++ behind;
      all = places_all channels places i place filled.named (filled.is_place place)
          ∙ ap (λ l. before ++ (l ++ behind)) stops.all
          ∙ ap (λ l. before ++ l) (append_assoc stops.made (stops.at ∷ stops.later) behind)
          ∙ sym (append_assoc before stops.made (stops.at ∷ (stops.later ++ behind)));
      mid = stops.mid;
      dialled = dials_join a b stops.mid before stops.made (outs_of now) stripe.channels.items so_far.dialled stops.dialled;
      refused = stops.refused;
    })

-- ---- a dial failed

-- what was dialled was given back: as many are handed out as before, and the count of faults rose
pub failed_after : {L X : Type 0} (state : X → OutLaneState) (places : List HostPort) (a b c : LinkState L X) (outs : List X) → StopsAt places a b outs → All (λ out. IsNewOutLane (state out)) outs → ReturnsOut state b c outs
    → DialsFailed state places a c
failed_after state places a b c outs stops unused returned =
    let handed : b.handed_out ≡ stops.mid.handed_out = ap (λ s. s.handed_out) stops.refused.nothing_else in
    record {
      outs = outs;
      mid = b;
      stops = stops;
      unused = unused;
      returned = returned;
      handed_out = omega (arith, returned.handed_out, stops.dialled.handed_out, handed);
      rose = omega (arith, stops.dialled.faults, stops.refused.rose, returned_later state b c outs returned);
    }

-- so many are handed out
pub stops_handed : {L X : Type 0} (places : List HostPort) (a b : LinkState L X) (outs : List X) → StopsAt places a b outs → length outs ≤ b.handed_out
stops_handed places a b outs stops = let handed : b.handed_out ≡ stops.mid.handed_out = ap (λ s. s.handed_out) stops.refused.nothing_else in omega (arith, stops.dialled.handed_out, handed)

-- a list that is written back whole
pub written_back : {A : Type 0} (n : ℕ) (new rest : List A) → n ≡ length new → take n (new ++ rest) ≡ new
written_back n new rest is = ap (λ (k : ℕ). take k (new ++ rest)) is ∙ take-append_seam new rest

pub returned_same : {L D X : Type 0} (state : X → OutLaneState) (a b : LinkState L X) (written new : List (Stripe D X)) → written ≡ new → ReturnsOut state a b (outs_of written) → ReturnsOut state a b (outs_of new)
returned_same state a b written new is returned = subst (λ l. ReturnsOut state a b (outs_of l)) is returned
