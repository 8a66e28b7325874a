-- Lanes that bring the streams of a whole file are whole.
use Rattle.std.proofs.Common.{◌≡◌, ◌⊎◌, ℕ, zero, suc, ◌*◌, ◌^◌, ◌<◌, ◌≤◌, List, [], ◌∷◌, ◌++◌, length, Some, None, refl, ap, ◌∙◌, sym, subst, inl, inr, arith}
use Rattle.std.specs.Prelude.{IsSome, Option, slice_get, sum_by}
use Rattle.std.specs.List.{AllByRecursion}
use Rattle.std.proofs.Math.Nat.{mul-le-mul_left, mul-le-mul_right, one-le-mul}
use Rattle.std.proofs.lemmas.Bool.{cases_lt}
use Rattle.std.proofs.lemmas.List.Sums.{sum_by-cons}
use Rattle.std.proofs.lemmas.Option.{none-some, same_Some, slice_get_past, slice_get_within}
use Rattle.gft_eblock.specs.declared.TheConstants.{MAX_BYTES}
use Rattle.gft_range.specs.declared.Range.{Range}
use Rattle.gft_range.specs.Words.{HasOffset, InRange}
use Rattle.gft_eblock.specs.Words.{Arrival, Arrives, arrivals, eods, totals}
use Rattle.gft_eblock.proofs.Lemmas.{eods-append}
use Rattle.gft_layout.specs.Words.{IsLeft, Owner, owner_of, plan_of}
use Rattle.gft_layout.proofs.Lemmas.{NamesItsOffsets-plan, owner_within}
use Rattle.gft_drive.specs.Words.{IsAmong, IsSending, Orders, sum_below, total_of}
use Rattle.gft_outside.specs.Words.{AreWhole, EndsItsChannels, IsSmooth, IsWholeLane, LaneInput, all_totals, byte_count, first_of, lane_arrivals, stream}
use Rattle.gft_send.specs.declared.SendPlan.{SendPlan}
use Rattle.gft_send.specs.Words.{sent_stream}
use Rattle.gft_delivery.specs.Brought.{BringsStreams, CarriesStreams, SendsWhole, eods_of, order_on, orders_of}
use Rattle.gft_delivery.specs.Laws.{OrdersAreShortLaw, StreamsAreSendingLaw, StreamsAreWholeLaw}
use Rattle.gft_delivery.proofs.ListLemmas.{IsClosed, IsSound, among_offsets, byte_many, byte_many-append, closed-none, offsets, sound_below, sound_no_bad, sound_truthful, total_count, total_count-append}
use Rattle.gft_delivery.proofs.SumLemmas.{at_most_sum, sum_at_most, sum_first, sum_ones}
use Rattle.gft_delivery.proofs.LaneLemmas.{CameBelow, arrivals_none, came_below, lane_all, lane_arrives, lane_bytes, lane_closed, lane_many, unopened_stream}
use Rattle.gft_delivery.proofs.OrderLemmas.{in_order, lane_offsets-arrivals}
use Rattle.gft_delivery.proofs.StreamLemmas.{AreWithin, OneBlock, announced_told, arrives_told, byte_many_told, closed_told, eods_told, is_first, sound_told, tells, told_of, within_all}

-- ---- places of lists

module _ {A : Type 0} where
  there : (l : List A) (k : ℕ) → k < length l → (x : A) × (slice_get l k ≡ Some x)
  there [] k lt = absurd (omega (arith, lt))
  there (x ∷ l) zero lt = (x, refl)
  there (x ∷ l) (suc k) lt = there l k (omega (arith, lt))

offset_or_not : (rs : List Range) (x : ℕ) → HasOffset rs x ⊎ (HasOffset rs x → ⊥)
offset_or_not [] x = inr (λ h. h)
offset_or_not (r ∷ rs) x = elim (offset_or_not rs x) [
  | inl later ↦ inl (inr later)
  | inr none ↦ elim (cases_lt x r.start) [
    | inl low ↦ inr (λ h. elim h [ inl here ↦ let from = here.0 in absurd (omega (arith, low, from)) | inr later ↦ none later ])
    | inr from ↦ elim (cases_lt x r.end) [
      | inl below ↦ inl (inl (from, below))
      | inr past ↦ inr (λ h. elim h [ inl here ↦ let below = here.1 in absurd (omega (arith, past, below)) | inr later ↦ none later ])
    ]
  ]
]

abbrev pub total_sent : SendPlan → ℕ
total_sent plan = plan.shape.stripes * plan.shape.parallel

abbrev pub blocks_of : SendPlan → List Range → Owner → List Range
blocks_of plan done owner = plan_of plan.region done plan.layout plan.shape owner.stripe owner.channel

abbrev pub told_by : List ℕ → SendPlan → List Range → Owner → List Arrival
told_by file plan done owner = told_of file (blocks_of plan done owner) (is_first owner.stripe owner.channel) (total_sent plan)

module _ (block : OneBlock) (file : List ℕ) (plan : SendPlan) (done : List Range) (whole : SendsWhole file plan) where
  -- ---- one data connection

  total_few : total_sent plan ≤ 1024
  total_few =
      let wide : plan.shape.stripes * plan.shape.parallel ≤ 16 * plan.shape.parallel = mul-le-mul_right plan.shape.parallel whole.shape.stripes in
      let deep : 16 * plan.shape.parallel ≤ 16 * 64 = mul-le-mul_left 16 whole.shape.parallel in
      omega (arith, wide, deep)

  total_some : 1 ≤ total_sent plan
  total_some = one-le-mul whole.shape.a_stripe whole.shape.a_channel

  plan_within : (owner : Owner) → AreWithin (length file) (blocks_of plan done owner)
  plan_within owner =
      let names = NamesItsOffsets-plan plan.region done plan.layout plan.shape owner in
      within_all (length file) (blocks_of plan done owner) names.ascending (λ x has.
      let left = (names.offsets x).0 has in
      let below : x < plan.region.end = left.0.0.1 in
      let is : plan.region.end ≡ length file = whole.end in
      omega (arith, below, is))

  tells_owner : (owner : Owner) → arrivals 0 (sent_stream file plan done owner.stripe owner.channel) ≡ told_by file plan done owner
  tells_owner owner = let few = total_few in tells block file whole.bound plan done owner.stripe owner.channel (omega (arith, few)) (plan_within owner)

  -- ---- one lane

  module _ (owners : List Owner) (inputs : List LaneInput) (carries : CarriesStreams file plan done owners inputs) where
    below : CameBelow (length owners) inputs
    below = let is = carries.opened in came_below inputs carries.in_turn (length owners) (omega (arith, is))

    carried : (channel : ℕ) (owner : Owner) → slice_get owners channel ≡ Some owner → arrivals 0 (stream channel inputs) ≡ told_by file plan done owner
    carried channel owner at = ap (arrivals 0) (carries.streams channel owner at) ∙ tells_owner owner

    empty : (channel : ℕ) → length owners ≤ channel → stream channel inputs ≡ []
    empty channel past = unopened_stream (length owners) channel past inputs below

    -- a channel has nothing, or carries one connection
    of_channel : (P : List Arrival → Type 0) → P [] → ((owner : Owner) → P (told_by file plan done owner)) → (channel : ℕ) → P (arrivals 0 (stream channel inputs))
    of_channel P none some channel = elim (cases_lt channel (length owners)) [
      | inl lt ↦ let owner = there owners channel lt in subst P (sym (carried channel owner.0 owner.1)) (some owner.0)
      | inr past ↦ subst P (sym (ap (arrivals 0) (empty channel past) ∙ arrivals_none)) none
    ]

    lane_sound : AllByRecursion (IsSound file (total_sent plan)) (lane_arrivals 0 inputs)
    lane_sound = lane_all (IsSound file (total_sent plan)) inputs
        (of_channel (AllByRecursion (IsSound file (total_sent plan))) tt (λ owner. sound_told file (blocks_of plan done owner) (is_first owner.stripe owner.channel) (total_sent plan)))

    lane_ends : IsClosed (lane_arrivals 0 inputs)
    lane_ends = lane_closed inputs (of_channel IsClosed tt (λ owner. closed_told file (blocks_of plan done owner) (is_first owner.stripe owner.channel) (total_sent plan)))

    one_eod : (channel : ℕ) → channel < length owners → eods (arrivals 0 (stream channel inputs)) ≡ 1
    one_eod channel lt =
        let owner = there owners channel lt in
        ap eods (carried channel owner.0 owner.1) ∙ eods_told file (blocks_of plan done owner.0) (is_first owner.0.stripe owner.0.channel) (total_sent plan)

    lane_number : eods (lane_arrivals 0 inputs) ≡ length owners
    lane_number =
        lane_many eods refl eods-append (length owners) inputs below
        ∙ sum_ones (λ channel. eods (arrivals 0 (stream channel inputs))) (length owners) one_eod

    ends_channels : EndsItsChannels 0 inputs
    ends_channels channel some = elim (cases_lt channel (length owners)) [
      | inl lt ↦ one_eod channel lt
      | inr past ↦ let none = ap (λ (l : List ℕ). length l) (empty channel past) in absurd (omega (arith, some, none))
    ]

    -- no more bytes arrive than come
    fewer_bytes : (channel : ℕ) → channel < length owners → byte_many (arrivals 0 (stream channel inputs)) ≤ length (stream channel inputs)
    fewer_bytes channel lt =
        let owner = there owners channel lt in
        let told = ap byte_many (carried channel owner.0 owner.1) in
        let came = ap (λ (l : List ℕ). length l) (carries.streams channel owner.0 owner.1) in
        let few = byte_many_told file plan done owner.0.stripe owner.0.channel (is_first owner.0.stripe owner.0.channel) (total_sent plan) in
        omega (arith, told, came, few)

    bytes_few : (list : List LaneInput) → IsSmooth list → byte_count list < MAX_BYTES
    bytes_few [] smooth = omega arith
    bytes_few (input ∷ older) smooth = smooth.4

    pub lane_short : length (offsets (lane_arrivals 0 inputs)) < 2 ^ 64
    lane_short =
        let all = lane_many byte_many refl byte_many-append (length owners) inputs below in
        let fewer = sum_at_most (λ channel. byte_many (arrivals 0 (stream channel inputs))) (λ channel. length (stream channel inputs)) (length owners) fewer_bytes in
        let came = lane_bytes (length owners) inputs below in
        let few = bytes_few inputs carries.smooth in
        omega (arith, all, fewer, came, few)

    -- what is left of the file for a connection comes on the lane that carries it
    lane_brings : (channel : ℕ) (owner : Owner) → slice_get owners channel ≡ Some owner → (x : ℕ) → IsLeft plan.region done x × (owner_of plan.region plan.layout plan.shape x ≡ owner) → Arrives (lane_arrivals 0 inputs) x
    lane_brings channel owner at x left =
        let names = NamesItsOffsets-plan plan.region done plan.layout plan.shape owner in
        let told = arrives_told file (blocks_of plan done owner) (is_first owner.stripe owner.channel) (total_sent plan) (plan_within owner) x ((names.offsets x).1 left) in
        lane_arrives inputs channel x (subst (λ (l : List Arrival). Arrives l x) (sym (carried channel owner at)) told)

    -- the lane that carries the first connection announces the total
    lane_announces : (channel : ℕ) → slice_get owners channel ≡ Some (record { stripe = 0; channel = 0 }) → 0 < total_count (lane_arrivals 0 inputs)
    lane_announces channel at =
        let owner : Owner = record { stripe = 0; channel = 0 } in
        let told = announced_told file (blocks_of plan done owner) (total_sent plan) in
        let same : total_count (arrivals 0 (stream channel inputs)) ≡ total_count (told_by file plan done owner) = ap total_count (carried channel owner at) in
        let least = at_most_sum (λ c. total_count (arrivals 0 (stream c inputs))) channel (length owners) (slice_get_within owners channel owner at) in
        let all = lane_many total_count refl total_count-append (length owners) inputs below in
        omega (arith, told, same, least, all)

    whole_lane : (orders : Orders) (k : ℕ) → total_of orders ≡ total_sent plan → orders.order k ≡ offsets (lane_arrivals 0 inputs) → orders.number k ≡ eods (lane_arrivals 0 inputs) → IsWholeLane file orders k inputs
    whole_lane orders k all order number =
        let sound = lane_sound in
        record {
          smooth = carries.smooth;
          ends = ends_channels;
          honest = record {
            truthful = sound_truthful file (total_sent plan) (lane_arrivals 0 inputs) sound;
            no_refusal = sound_no_bad file (total_sent plan) (lane_arrivals 0 inputs) sound;
            in_order = in_order file orders k (lane_arrivals 0 inputs) (subst (λ (t : ℕ). AllByRecursion (IsSound file t) (lane_arrivals 0 inputs)) (sym all) sound) lane_ends (sym order) (sym number);
          };
          order = lane_offsets-arrivals k (lane_arrivals 0 inputs) ∙ sym order;
          number = sym number;
        }

  -- ---- all lanes

  module _ (lists : List (List LaneInput)) (brings : BringsStreams file plan done lists) where
    -- a lane and what it carries
    record LaneAt (k : ℕ) : Type 0 where
      owners : List Owner
      inputs : List LaneInput
      dealt : slice_get brings.deal k ≡ Some owners
      at : slice_get lists k ≡ Some inputs
      carries : CarriesStreams file plan done owners inputs

    lane_at : (k : ℕ) → k < length lists → LaneAt k
    lane_at k lt =
        let many : length brings.deal ≡ length lists = brings.many in
        let owners = there brings.deal k (omega (arith, lt, many)) in
        let inputs = there lists k lt in
        record { owners = owners.0; inputs = inputs.0; dealt = owners.1; at = inputs.1; carries = brings.lanes k owners.0 inputs.0 owners.1 inputs.1 }

    order_at : (k : ℕ) (inputs : List LaneInput) → slice_get lists k ≡ Some inputs → (orders_of lists).order k ≡ offsets (lane_arrivals 0 inputs)
    order_at k inputs at = ap (order_on k) at ∙ lane_offsets-arrivals k (lane_arrivals 0 inputs)

    number_at : (k : ℕ) (inputs : List LaneInput) → slice_get lists k ≡ Some inputs → (orders_of lists).number k ≡ eods (lane_arrivals 0 inputs)
    number_at k inputs at = ap eods_of at

    -- the EODs of all lanes are as many as the connections
    all_numbers : (deal : List (List Owner)) (l : List (List LaneInput)) → length deal ≡ length l
        → ((k : ℕ) (owners : List Owner) (inputs : List LaneInput) → slice_get deal k ≡ Some owners → slice_get l k ≡ Some inputs → eods (lane_arrivals 0 inputs) ≡ length owners)
        → sum_below (λ k. eods_of (slice_get l k)) (length l) ≡ sum_by (λ (owners : List Owner). length owners) deal
    all_numbers [] [] many each = refl
    all_numbers [] (inputs ∷ l) many each = absurd (omega (arith, many))
    all_numbers (owners ∷ deal) [] many each = absurd (omega (arith, many))
    all_numbers (owners ∷ deal) (inputs ∷ l) many each =
        let first : eods (lane_arrivals 0 inputs) ≡ length owners = each 0 owners inputs refl refl in
        let later = all_numbers deal l (omega (arith, many)) (λ k os is at_os at_is. each (suc k) os is at_os at_is) in
        let split = sum_first (λ k. eods_of (slice_get (inputs ∷ l) k)) (length l) in
        let by = sum_by-cons (λ (os : List Owner). length os) owners deal in
        omega (arith, first, later, split, by)

    total_is : total_of (orders_of lists) ≡ total_sent plan
    total_is =
        all_numbers brings.deal lists brings.many (λ k owners inputs dealt at. lane_number owners inputs (brings.lanes k owners inputs dealt at))
        ∙ brings.dealt.many

    in_an_order : (x k : ℕ) (inputs : List LaneInput) → slice_get lists k ≡ Some inputs → Arrives (lane_arrivals 0 inputs) x → (lane : ℕ) × (lane < length lists) × IsAmong x ((orders_of lists).order lane)
    in_an_order x k inputs at came = (k, slice_get_within lists k inputs at, subst (IsAmong x) (sym (order_at k inputs at)) (among_offsets (lane_arrivals 0 inputs) x came))

    -- an offset of the file that isn't done comes on a lane
    comes : (x : ℕ) → x < length file → (HasOffset done x → ⊥) → (lane : ℕ) × (lane < length lists) × IsAmong x ((orders_of lists).order lane)
    comes x lt missing =
        let owner = owner_of plan.region plan.layout plan.shape x in
        let start : plan.region.start ≡ 0 = whole.start in
        let end : plan.region.end ≡ length file = whole.end in
        let inside : InRange plan.region x = (omega (arith, start), omega (arith, lt, end)) in
        let place = brings.dealt.each owner (owner_within plan.region plan.layout plan.shape x whole.shape inside) in
        let many : length brings.deal ≡ length lists = brings.many in
        let within = slice_get_within brings.deal place.lane place.owners place.at_lane in
        let inputs = there lists place.lane (omega (arith, within, many)) in
        let carries = brings.lanes place.lane place.owners inputs.0 place.at_lane inputs.1 in
        let came = lane_brings place.owners inputs.0 carries place.channel owner place.at_channel x ((inside, missing), refl) in
        in_an_order x place.lane inputs.0 inputs.1 came

    lane_cases : (P : ℕ → Type 0) → ((k : ℕ) → LaneAt k → P k) → ((k : ℕ) → slice_get lists k ≡ None → P k) → (k : ℕ) → P k
    lane_cases P inside outside k = elim (cases_lt k (length lists)) [
      | inl lt ↦ inside k (lane_at k lt)
      | inr past ↦ outside k (slice_get_past lists k past)
    ]

    silent : (k : ℕ) → (orders_of lists).number k ≡ 0 → (orders_of lists).order k ≡ []
    silent = lane_cases (λ k. (orders_of lists).number k ≡ 0 → (orders_of lists).order k ≡ [])
        (λ k h none. order_at k h.inputs h.at ∙ ap offsets (closed-none (lane_arrivals 0 h.inputs) (lane_ends h.owners h.inputs h.carries) (sym (number_at k h.inputs h.at) ∙ none)))
        (λ k past none. ap (order_on k) past)

    below_end : (k x : ℕ) → IsAmong x ((orders_of lists).order k) → x < length file
    below_end k x = lane_cases (λ j. IsAmong x ((orders_of lists).order j) → x < length file)
        (λ j h among. sound_below file (total_sent plan) (lane_arrivals 0 h.inputs) (lane_sound h.owners h.inputs h.carries) x (subst (IsAmong x) (order_at j h.inputs h.at) among))
        (λ j past among. absurd (subst (IsAmong x) (ap (order_on j) past) among)) k

    pub orders_short : (k : ℕ) → length ((orders_of lists).order k) < 2 ^ 64
    orders_short = lane_cases (λ k. length ((orders_of lists).order k) < 2 ^ 64)
        (λ k h.
        let short = lane_short h.owners h.inputs h.carries in
        let same = ap (λ (l : List ℕ). length l) (order_at k h.inputs h.at) in
        omega (arith, short, same))
        (λ k past. let none = ap (λ (o : Option (List LaneInput)). length (order_on k o)) past in omega (arith, none))

    pub sending : IsSending file done (orders_of lists)
    sending =
        let all = total_is in
        let few = total_few in
        let some = total_some in
        record {
          bound = whole.bound;
          plan = record {
            silent = silent;
            no_more = λ k past. ap eods_of (slice_get_past lists k past);
            all = λ x lt. elim (offset_or_not done x) [ inl has ↦ inl has | inr missing ↦ inr (comes x lt missing) ];
          };
          below = below_end;
          some = omega (arith, all, some);
          most = omega (arith, all, few);
        }

    -- ---- the lane that announces the total

    announces : (l : List (List LaneInput)) (k : ℕ) (inputs : List LaneInput) → slice_get l k ≡ Some inputs → 0 < total_count (lane_arrivals 0 inputs) → IsSome (first_of (all_totals 0 l))
    announces [] k inputs at told = absurd (none-some inputs at)
    announces (inputs ∷ l) zero same at told = cases (totals (lane_arrivals 0 inputs)) (subst (λ (i : List LaneInput). 0 < total_count (lane_arrivals 0 i)) (sym (same_Some inputs same at)) told)
      where
        cases : (ts : List ℕ) → 0 < length ts → IsSome (first_of (ts ++ all_totals 0 l))
        cases [] none = absurd (omega (arith, none))
        cases (t ∷ ts) some = refl
    announces (inputs ∷ l) (suc k) other at told = cases (totals (lane_arrivals 0 inputs)) (announces l k other at told)
      where
        cases : (ts : List ℕ) → IsSome (first_of (all_totals 0 l)) → IsSome (first_of (ts ++ all_totals 0 l))
        cases [] later = later
        cases (t ∷ ts) later = refl

    announced : IsSome (first_of (all_totals 0 lists))
    announced =
        let owner : Owner = record { stripe = 0; channel = 0 } in
        let some_stripe : 1 ≤ plan.shape.stripes = whole.shape.a_stripe in
        let some_channel : 1 ≤ plan.shape.parallel = whole.shape.a_channel in
        let place = brings.dealt.each owner (record { stripe = omega (arith, some_stripe); channel = omega (arith, some_channel) }) in
        let many : length brings.deal ≡ length lists = brings.many in
        let within = slice_get_within brings.deal place.lane place.owners place.at_lane in
        let inputs = there lists place.lane (omega (arith, within, many)) in
        let carries = brings.lanes place.lane place.owners inputs.0 place.at_lane inputs.1 in
        announces lists place.lane inputs.0 inputs.1 (lane_announces place.owners inputs.0 carries place.channel place.at_channel)

    pub all_whole : AreWhole file (orders_of lists) lists
    all_whole = record {
      each = λ k inputs at.
          let lt = slice_get_within lists k inputs at in
          let many : length brings.deal ≡ length lists = brings.many in
          let owners = there brings.deal k (omega (arith, lt, many)) in
          whole_lane owners.0 inputs (brings.lanes k owners.0 inputs owners.1 at) (orders_of lists) k total_is (order_at k inputs at) (number_at k inputs at);
      announced = announced;
      sum = refl;
    }

pub sending_law : OneBlock → StreamsAreSendingLaw
sending_law block file plan done lists whole brings = sending block file plan done whole lists brings

pub whole_law : OneBlock → StreamsAreWholeLaw
whole_law block file plan done lists whole brings = all_whole block file plan done whole lists brings

pub short_law : OneBlock → OrdersAreShortLaw
short_law block file plan done lists whole brings = orders_short block file plan done whole lists brings
