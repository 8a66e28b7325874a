-- What honest senders bring, cut in two.
use Rattle.std.proofs.Common.{◌≡◌, ℕ, zero, suc, ◌+◌, ◌^◌, ◌<◌, ◌≤◌, ◌==◌, List, [], ◌∷◌, ◌++◌, length, Some, None, Bool, true, false, refl, sym, ap, ◌∙◌, subst, inl, inr, arith}
use Rattle.std.specs.Prelude.{Option, IfSome, slice_get, if◌then◌else◌}
use Rattle.std.proofs.lemmas.Bool.{cases_lt, eq-eqb, eqb-true}
use Rattle.std.proofs.lemmas.Option.{none-some, slice_get_within}
use Rattle.std.proofs.lemmas.List.{append-nil}
use mathlib.Core.Logic.{dite}
use native.Mathlib.Decide.{ℕ_discrete}
use Rattle.gft_eod.specs.declared.TheConstants.{MAX_EODS}
use Rattle.gft_range.specs.declared.Range.{Range}
use Rattle.gft_eblock.specs.Words.{Arrival, At, Bad, Eod, Eof, data_at, totals}
use Rattle.gft_drive.specs.Words.{Orders, Sent, sum_below, total_of}
use Rattle.gft_core.specs.declared.event.CoreEvent.{CoreEvent}
use Rattle.gft_core.specs.declared.event.CoreEvent.TheVariants as event
use Rattle.gft_core.specs.Words.{IsInOrder, byte_at, lane_eods, lane_offsets}
use Rattle.gft_outside.specs.Words.{AllAre, IsTruthful, arrival_event, arrival_events}
use Rattle.gft_pass.specs.declared.Numbers.{Numbers}
use Rattle.gft_pass.specs.Words.{Lane, nothing}
use Rattle.gft_book.specs.Words.{BlockIn, EodIn, IsOfSource, Start, TotalIn, left_out, more_bytes, one_eod, with_total}
use Rattle.gft_receive.specs.Booking.{numbers_after}
use Rattle.gft_receive.specs.Honest.{AreOfSource, FollowsOrder, IsHonestFor, MayBring}

pub some_map : {A : Type 0} (o : Option A) (P Q : A → Type 0) → ((x : A) → P x → Q x) → IfSome o P → IfSome o Q
some_map None P Q f h = h
some_map (Some x) P Q f h = f x h

FollowsOrder-front : (orders : Orders) (lane : ℕ) (n : Numbers) (a b : List Arrival) → FollowsOrder orders lane n (a ++ b) → FollowsOrder orders lane n a
FollowsOrder-front orders lane n [] b h = tt
FollowsOrder-front orders lane n (At offset value ∷ a) b h = (h.0, FollowsOrder-front orders lane (more_bytes 1 n) a b h.1)
FollowsOrder-front orders lane n (Eof total ∷ a) b h = (h.0, FollowsOrder-front orders lane (with_total total n) a b h.1)
FollowsOrder-front orders lane n (Eod ∷ a) b h = (h.0, FollowsOrder-front orders lane (one_eod n) a b h.1)
FollowsOrder-front orders lane n (Bad refusal ∷ a) b h = FollowsOrder-front orders lane n a b h

FollowsOrder-rest : (orders : Orders) (lane : ℕ) (n : Numbers) (a b : List Arrival) → FollowsOrder orders lane n (a ++ b) → FollowsOrder orders lane (numbers_after a n) b
FollowsOrder-rest orders lane n [] b h = h
FollowsOrder-rest orders lane n (At offset value ∷ a) b h = FollowsOrder-rest orders lane (more_bytes 1 n) a b h.1
FollowsOrder-rest orders lane n (Eof total ∷ a) b h = FollowsOrder-rest orders lane (with_total total n) a b h.1
FollowsOrder-rest orders lane n (Eod ∷ a) b h = FollowsOrder-rest orders lane (one_eod n) a b h.1
FollowsOrder-rest orders lane n (Bad refusal ∷ a) b h = FollowsOrder-rest orders lane n a b h

IsTruthful-front : (source : List ℕ) (a b : List Arrival) → IsTruthful source (a ++ b) → IsTruthful source a
IsTruthful-front source [] b h = tt
IsTruthful-front source (At offset value ∷ a) b h = (h.0, IsTruthful-front source a b h.1)
IsTruthful-front source (Eof total ∷ a) b h = IsTruthful-front source a b h
IsTruthful-front source (Eod ∷ a) b h = IsTruthful-front source a b h
IsTruthful-front source (Bad refusal ∷ a) b h = IsTruthful-front source a b h

IsTruthful-rest : (source : List ℕ) (a b : List Arrival) → IsTruthful source (a ++ b) → IsTruthful source b
IsTruthful-rest source [] b h = h
IsTruthful-rest source (At offset value ∷ a) b h = IsTruthful-rest source a b h.1
IsTruthful-rest source (Eof total ∷ a) b h = IsTruthful-rest source a b h
IsTruthful-rest source (Eod ∷ a) b h = IsTruthful-rest source a b h
IsTruthful-rest source (Bad refusal ∷ a) b h = IsTruthful-rest source a b h

totals-front : (total : ℕ) (a b : List Arrival) → AllAre total (totals (a ++ b)) → AllAre total (totals a)
totals-front total [] b h = tt
totals-front total (At offset value ∷ a) b h = totals-front total a b h
totals-front total (Eof t ∷ a) b h = (h.0, totals-front total a b h.1)
totals-front total (Eod ∷ a) b h = totals-front total a b h
totals-front total (Bad refusal ∷ a) b h = totals-front total a b h

totals-rest : (total : ℕ) (a b : List Arrival) → AllAre total (totals (a ++ b)) → AllAre total (totals b)
totals-rest total [] b h = h
totals-rest total (At offset value ∷ a) b h = totals-rest total a b h
totals-rest total (Eof t ∷ a) b h = totals-rest total a b h.1
totals-rest total (Eod ∷ a) b h = totals-rest total a b h
totals-rest total (Bad refusal ∷ a) b h = totals-rest total a b h

pub MayBring-front : (sent : List ℕ → Option Sent) (start : Start) (lane : ℕ) (n : Numbers) (a b : List Arrival) → MayBring sent start lane n (a ++ b) → MayBring sent start lane n a
MayBring-front sent start lane n a b h = (
  some_map (sent start.label) _ _
      (λ s one. (IsTruthful-front s.source a b one.0, some_map (left_out start.how) _ _ (λ rest follows. (follows.0, FollowsOrder-front (s.orders rest) lane n a b follows.1)) one.1)) h.0,
  some_map start.total _ _ (λ total one. totals-front total a b one) h.1,
)

pub MayBring-rest : (sent : List ℕ → Option Sent) (start : Start) (lane : ℕ) (n : Numbers) (a b : List Arrival) → MayBring sent start lane n (a ++ b) → MayBring sent start lane (numbers_after a n) b
MayBring-rest sent start lane n a b h = (
  some_map (sent start.label) _ _
      (λ s one. (IsTruthful-rest s.source a b one.0, some_map (left_out start.how) _ _ (λ rest follows. (follows.0, FollowsOrder-rest (s.orders rest) lane n a b follows.1)) one.1)) h.0,
  some_map start.total _ _ (λ total one. totals-rest total a b one) h.1,
)

-- ---- an honest lane goes by its plan

order_before : (orders : Orders) (lane : ℕ) (before : List CoreEvent) (list : List Arrival) → IsInOrder orders (arrival_events lane before list) → IsInOrder orders before
order_before orders lane before [] order = order
order_before orders lane before (arrival ∷ list) order = (order_before orders lane (arrival_event lane arrival ∷ before) list order).0

-- the next of a list that goes on
next_of : (a : List ℕ) (x : ℕ) (rest : List ℕ) → slice_get ((a ++ x ∷ []) ++ rest) (length a) ≡ Some x
next_of [] x rest = refl
next_of (y ∷ a) x rest = next_of a x rest

fewer : (a : List ℕ) (x : ℕ) (rest : List ℕ) → length a < length ((a ++ x ∷ []) ++ rest)
fewer [] x rest = omega arith
fewer (y ∷ a) x rest = let h = fewer a x rest in omega (arith, h)

length-more : (a : List ℕ) (x : ℕ) → length (a ++ x ∷ []) ≡ length a + 1
length-more [] x = refl
length-more (y ∷ a) x = let h = length-more a x in omega (arith, h)

-- the lane's offsets and EODs with an event of its own more
own_offset : (lane offset value : ℕ) (before : List CoreEvent) → lane_offsets lane (event.Block lane 0 offset (value ∷ []) false ∷ before) ≡ lane_offsets lane before ++ offset ∷ []
own_offset lane offset value before = ap (λ (c : Bool). lane_offsets lane before ++ (if c then offset ∷ [] else [])) (eq-eqb lane lane refl)

own_eod : (lane : ℕ) (before : List CoreEvent) → lane_eods lane (event.Eod lane ∷ before) ≡ lane_eods lane before + 1
own_eod lane before = ap (λ (c : Bool). lane_eods lane before + (if c then 1 else 0)) (eq-eqb lane lane refl)

follows_of : (orders : Orders) (lane : ℕ) → length (orders.order lane) < 2 ^ 64 → orders.number lane < 2 ^ 64 → (before : List CoreEvent) (list : List Arrival) (n : Numbers)
    → n.bytes ≡ length (lane_offsets lane before) → n.eods ≡ lane_eods lane before → IsInOrder orders (arrival_events lane before list) → FollowsOrder orders lane n list
follows_of orders lane short few before [] n bytes eods order = tt
follows_of orders lane short few before (At offset value ∷ list) n bytes eods order =
    let next = event.Block lane 0 offset (value ∷ []) false in
    let was = lane_offsets lane before in
    let one = (order_before orders lane (next ∷ before) list order).1 in
    let is : (was ++ offset ∷ []) ++ one.0 ≡ orders.order lane = one.1 in
    let below = fewer was offset one.0 in
    let same = ap (λ (l : List ℕ). length l) is in
    let longer : length (lane_offsets lane (next ∷ before)) ≡ length was + 1 = ap (λ (l : List ℕ). length l) (own_offset lane offset value before) ∙ length-more was offset in (
      ap (λ (l : List ℕ). slice_get l n.bytes) (sym is) ∙ ap (λ (k : ℕ). slice_get ((was ++ offset ∷ []) ++ one.0) k) bytes ∙ next_of was offset one.0,
      follows_of orders lane short few (next ∷ before) list (more_bytes 1 n) (omega (arith, bytes, longer, below, same, short)) (omega (arith, eods)) order,
    )
follows_of orders lane short few before (Eof total ∷ list) n bytes eods order =
    let none = ap (λ (l : List ℕ). length l) (append-nil (lane_offsets lane before)) in (
      (order_before orders lane (event.Eof total ∷ before) list order).1,
      follows_of orders lane short few (event.Eof total ∷ before) list (with_total total n) (bytes ∙ sym none) (omega (arith, eods)) order,
    )
follows_of orders lane short few before (Eod ∷ list) n bytes eods order =
    let one = (order_before orders lane (event.Eod lane ∷ before) list order).1 in
    let fewer_eods = one.0 in
    let none = ap (λ (l : List ℕ). length l) (append-nil (lane_offsets lane before)) in (
      (omega (arith, eods, fewer_eods), λ last. bytes ∙ ap (λ (l : List ℕ). length l) (one.1 (ap (λ (k : ℕ). k + 1) (sym eods) ∙ last))),
      follows_of orders lane short few (event.Eod lane ∷ before) list (one_eod n) (bytes ∙ sym none) (let more = own_eod lane before in omega (arith, eods, fewer_eods, few, more)) order,
    )
follows_of orders lane short few before (Bad refusal ∷ list) n bytes eods order =
    let none = ap (λ (l : List ℕ). length l) (append-nil (lane_offsets lane before)) in
    follows_of orders lane short few (event.Lost ∷ before) list n (bytes ∙ sym none) (omega (arith, eods)) order

at_most : (f : ℕ → ℕ) (k n : ℕ) → k < n → f k ≤ sum_below f n
at_most f k zero lt = absurd (omega (arith, lt))
at_most f k (suc n) lt = dite (ℕ_discrete k n)
    (λ same. let is = ap f same in omega (arith, is))
    (λ apart. let h = at_most f k n (omega (arith, lt, apart)) in omega (arith, h))

few_eods : (orders : Orders) (lane : ℕ) → ((k : ℕ) → orders.lanes ≤ k → orders.number k ≡ 0) → total_of orders ≤ MAX_EODS → orders.number lane < 2 ^ 64
few_eods orders lane no_more most = elim (cases_lt lane orders.lanes) [
  | inl inside ↦ let h = at_most orders.number lane orders.lanes inside in omega (arith, h, most)
  | inr outside ↦ let h = no_more lane outside in omega (arith, h)
]

-- what an honest lane brings is of the source
pub honest_source : (sent : List ℕ → Option Sent) (start : Start) (lane : ℕ) (list : List Arrival) (s : Sent) → sent start.label ≡ Some s → IsHonestFor s (left_out start.how) lane list → AreOfSource sent start lane nothing list
honest_source sent start lane list s is honest =
    subst (λ (o : Option Sent). IfSome o (λ t. IsTruthful t.source list × IfSome (left_out start.how) (λ rest. (length ((t.orders rest).order lane) < 2 ^ 64) × FollowsOrder (t.orders rest) lane nothing list))) (sym is) (cases (left_out start.how) honest)
  where
    cases : (rest : Option (List Range)) → IsHonestFor s rest lane list → IsTruthful s.source list × IfSome rest (λ r. (length ((s.orders r).order lane) < 2 ^ 64) × FollowsOrder (s.orders r) lane nothing list)
    cases None h = (h, tt)
    cases (Some r) h =
        let sending = s.is r in
        (h.0.truthful, (h.1, follows_of (s.orders r) lane h.1 (few_eods (s.orders r) lane sending.plan.no_more sending.most) [] list nothing refl refl h.0.in_order))

-- ---- a piece, as the Book asks for it

of_source : (source : List ℕ) (offset : ℕ) (bytes : List ℕ) → IsTruthful source (data_at offset bytes) → IsOfSource source offset bytes
of_source source offset [] truthful x v is = absurd (none-some v is)
of_source source offset (b ∷ bs) truthful x v is = cases (x == offset) refl is (of_source source (offset + 1) bs truthful.1 x v)
  where
    cases : (c : Bool) → (x == offset) ≡ c → (if c then Some b else byte_at (offset + 1) bs x) ≡ Some v → (byte_at (offset + 1) bs x ≡ Some v → slice_get source x ≡ Some v) → slice_get source x ≡ Some v
    cases true here got later = ap (slice_get source) (eqb-true x offset here) ∙ truthful.0 ∙ got
    cases false there got later = later got

-- a place that an order has lies inside it
within : (l : List ℕ) (k x : ℕ) → slice_get l k ≡ Some x → k < length l
within l k x is = slice_get_within l k x is

next_piece : (orders : Orders) (lane : ℕ) → length (orders.order lane) < 2 ^ 64 → (n : Numbers) (offset : ℕ) (bytes : List ℕ) → FollowsOrder orders lane n (data_at offset bytes)
    → (k : ℕ) → k < length bytes → slice_get (orders.order lane) (n.bytes + k) ≡ Some (offset + k)
next_piece orders lane short n offset [] follows k lt = absurd (omega (arith, lt))
next_piece orders lane short n offset (b ∷ bs) follows zero lt =
    ap (slice_get (orders.order lane)) (omega arith) ∙ follows.0 ∙ ap (λ (x : ℕ). Some x) (omega arith)
next_piece orders lane short n offset (b ∷ bs) follows (suc k) lt =
    let inside = within (orders.order lane) n.bytes offset follows.0 in
    let later = next_piece orders lane short (more_bytes 1 n) (offset + 1) bs follows.1 k (omega (arith, lt)) in
    ap (slice_get (orders.order lane)) (omega (arith, inside, short)) ∙ later ∙ ap (λ (x : ℕ). Some x) (omega arith)

pub block_in : (sent : List ℕ → Option Sent) (start : Start) (pass : Lane) (offset : ℕ) (bytes : List ℕ) → MayBring sent start pass.lane pass.count (data_at offset bytes) → BlockIn sent start pass offset bytes
block_in sent start pass offset bytes h = some_map (sent start.label) _ _
    (λ s one. (of_source s.source offset bytes one.0, some_map (left_out start.how) _ _ (λ rest follows. next_piece (s.orders rest) pass.lane follows.0 pass.count offset bytes follows.1) one.1)) h.0

-- ---- an EOF, and an EOD

pub total_in : (sent : List ℕ → Option Sent) (start : Start) (pass : Lane) (total : ℕ) → MayBring sent start pass.lane pass.count (Eof total ∷ []) → TotalIn sent start total
total_in sent start pass total h = (
  some_map start.total _ _ (λ known one. one.0) h.1,
  some_map (sent start.label) _ _ (λ s one. some_map (left_out start.how) _ _ (λ rest follows. follows.1.0) one.1) h.0,
)

pub eod_in : (sent : List ℕ → Option Sent) (start : Start) (pass : Lane) → MayBring sent start pass.lane pass.count (Eod ∷ []) → EodIn sent start pass
eod_in sent start pass h = some_map (sent start.label) _ _ (λ s one. some_map (left_out start.how) _ _ (λ rest follows. follows.1.0) one.1) h.0
