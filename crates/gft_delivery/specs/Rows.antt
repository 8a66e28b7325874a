-- What the rows of round trips begin with.
use Rattle.std.specs.Prelude.{◌≡◌, ◌≤◌, ℕ, true, All, List, [], ◌∷◌, codes, length, reverse, vec_len}
use Rattle.gft_layout.specs.declared.Layout.TheVariants.{Blocked}
use Rattle.std.specs.Prelude.{zero, suc, ◌<◌, Some}
use Rattle.std.proofs.Common.{arith, inl, inr, refl, subst, sym, ap, ◌∙◌}
use Rattle.std.proofs.lemmas.Bool.{cases_lt}
use Rattle.std.proofs.lemmas.Option.{same_Some}
use Rattle.gft_range.specs.declared.Range.{Range}
use Rattle.gft_eblock.specs.Words.{Arrival, At, Eod, Eof, arrivals, blocks_from, data_then, eods, good_block, has_flag, header_of, is_bad, spelling}
use Rattle.gft_layout.specs.Words.{plan_of}
use Rattle.gft_core.specs.Words.{lane_offsets}
use Rattle.gft_drive.specs.Words.{AreFit, IsAmong, IsSending, Orders, offsets_from}
use Rattle.gft_drive.proofs.Lemmas.{among_offsets, offsets_below}
use Rattle.gft_drive.specs.declared.memory.MemoryDrive.{MemoryDrive}
use Rattle.gft_drive.specs.Words.{image_of}
use Rattle.gft_outside.specs.declared.memory_out_lane.MemoryOutLane.{MemoryOutLane}
use Rattle.gft_outside.specs.Words.{LaneInput, LaneState, arrival_events, lane_arrivals}
use Rattle.gft_send.specs.declared.SendPlan.{SendPlan}
use Rattle.gft_send.specs.declared.Stripe.{Stripe}
use Rattle.gft_send.specs.Words.{sent_stream}
use Rattle.gft_receive.specs.Words.{BringsBytes, channel_inputs}
use Rattle.gft_receive.proofs.Lemmas.{channel_arrivals}
use Rattle.gft_delivery.specs.Brought.{orders_of}

-- a stripe that has so many open data connections, and a file of at least this size
pub record HasFile (size parallel : ℕ) (stripe : Stripe MemoryDrive MemoryOutLane) : Type 0 where
  pub channels : vec_len stripe.channels ≡ parallel
  pub is_open : All (λ out. out.is_open ≡ true) stripe.channels.items
  pub there : size ≤ length (image_of stripe.drive).bytes

-- ---- ten bytes in blocks of four, over three stripes of one data connection

abbrev pub ten : List ℕ
ten = codes "abcdefghij"

abbrev pub ten_plan : SendPlan
ten_plan = record {
  region = record { start = 0; end = 10 };
  layout = Blocked 4;
  shape = record { stripes = 3; parallel = 1 };
}

-- what a stripe's connection carries
abbrev pub ten_stream : ℕ → List ℕ
ten_stream stripe = sent_stream ten ten_plan [] stripe 0

-- what comes on the lane of a stripe, newest first
abbrev pub ten_list : ℕ → List LaneInput
ten_list stripe = reverse (channel_inputs (ten_stream stripe))

abbrev pub ten_lists : List (List LaneInput)
ten_lists = ten_list 0 ∷ ten_list 1 ∷ ten_list 2 ∷ []

abbrev pub ten_orders : Orders
ten_orders = orders_of ten_lists

-- ---- which are orders of senders

-- what comes on the lane of each stripe
first_tells : lane_arrivals 0 (ten_list 0) ≡ At 0 97 ∷ At 1 98 ∷ At 2 99 ∷ At 3 100 ∷ Eof 3 ∷ Eod ∷ []
unfolding arrivals blocks_from good_block data_then header_of is_bad has_flag plan_of spelling
first_tells = channel_arrivals (ten_stream 0) ∙ refl

second_tells : lane_arrivals 0 (ten_list 1) ≡ At 4 101 ∷ At 5 102 ∷ At 6 103 ∷ At 7 104 ∷ Eod ∷ []
unfolding arrivals blocks_from good_block data_then header_of is_bad has_flag plan_of spelling
second_tells = channel_arrivals (ten_stream 1) ∙ refl

third_tells : lane_arrivals 0 (ten_list 2) ≡ At 8 105 ∷ At 9 106 ∷ Eod ∷ []
unfolding arrivals blocks_from good_block data_then header_of is_bad has_flag plan_of spelling
third_tells = channel_arrivals (ten_stream 2) ∙ refl

first_order : ten_orders.order 0 ≡ offsets_from 0 (codes "abcd")
first_order = ap (λ (l : List Arrival). lane_offsets 0 (arrival_events 0 [] l)) first_tells

second_order : ten_orders.order 1 ≡ offsets_from 4 (codes "efgh")
second_order = ap (λ (l : List Arrival). lane_offsets 1 (arrival_events 1 [] l)) second_tells

third_order : ten_orders.order 2 ≡ offsets_from 8 (codes "ij")
third_order = ap (λ (l : List Arrival). lane_offsets 2 (arrival_events 2 [] l)) third_tells

first_number : ten_orders.number 0 ≡ 1
first_number = ap eods first_tells

second_number : ten_orders.number 1 ≡ 1
second_number = ap eods second_tells

third_number : ten_orders.number 2 ≡ 1
third_number = ap eods third_tells

ten_silent : (lane : ℕ) → ten_orders.number lane ≡ 0 → ten_orders.order lane ≡ []
ten_silent zero none = absurd (omega (arith, none, first_number))
ten_silent (suc zero) none = absurd (omega (arith, none, second_number))
ten_silent (suc (suc zero)) none = absurd (omega (arith, none, third_number))
ten_silent (suc (suc (suc lane))) none = refl

no_fourth : (lane : ℕ) → 3 ≤ lane → ten_orders.number lane ≡ 0
no_fourth zero le = absurd (omega (arith, le))
no_fourth (suc zero) le = absurd (omega (arith, le))
no_fourth (suc (suc zero)) le = absurd (omega (arith, le))
no_fourth (suc (suc (suc lane))) le = refl

first_has : (x : ℕ) → x < 4 → IsAmong x (ten_orders.order 0)
first_has x lt =
    subst (IsAmong x) (sym first_order) (among_offsets 0 x (codes "abcd") (omega arith) (omega (arith, lt)))

second_has : (x : ℕ) → 4 ≤ x → x < 8 → IsAmong x (ten_orders.order 1)
second_has x le lt =
    subst (IsAmong x) (sym second_order) (among_offsets 4 x (codes "efgh") le (omega (arith, lt)))

third_has : (x : ℕ) → 8 ≤ x → x < 10 → IsAmong x (ten_orders.order 2)
third_has x le lt = subst (IsAmong x) (sym third_order) (among_offsets 8 x (codes "ij") le (omega (arith, lt)))

each_of_ten : (x : ℕ) → x < length ten
    → (lane : ℕ) × (lane < ten_orders.lanes) × IsAmong x (ten_orders.order lane)
each_of_ten x lt = elim (cases_lt x 4) [
  | inl first ↦ (0, omega arith, first_has x (omega (arith, first)))
  | inr later ↦ elim (cases_lt x 8) [
    | inl second ↦ (1, omega arith, second_has x (omega (arith, later)) (omega (arith, second)))
    | inr third ↦ (2, omega arith, third_has x (omega (arith, third)) (omega (arith, lt)))
  ]
]

ten_below : (lane x : ℕ) → IsAmong x (ten_orders.order lane) → x < length ten
ten_below zero x among =
    let below = offsets_below 0 x (codes "abcd") (subst (IsAmong x) first_order among) in
    omega (arith, below)
ten_below (suc zero) x among =
    let below = offsets_below 4 x (codes "efgh") (subst (IsAmong x) second_order among) in
    omega (arith, below)
ten_below (suc (suc zero)) x among =
    let below = offsets_below 8 x (codes "ij") (subst (IsAmong x) third_order among) in
    omega (arith, below)
ten_below (suc (suc (suc lane))) x none = absurd none

ten_sending : (rest : List Range) → IsSending ten rest ten_orders
ten_sending rest = record {
  bound = omega arith;
  plan = record {
    silent = ten_silent;
    no_more = no_fourth;
    all = λ x lt. inr (each_of_ten x lt);
  };
  below = ten_below;
  some = omega (arith, first_number, second_number, third_number);
  most = omega (arith, first_number, second_number, third_number);
}

pub ten_fit : AreFit (λ _. Some ten) (λ _ _. ten_orders)
ten_fit label bytes told rest =
    subst (λ (all : List ℕ). IsSending all rest ten_orders) (same_Some ten bytes told) (ten_sending rest)

-- three lanes, each with its stripe's stream
abbrev pub AreTen : {L : Type 0} → (L → LaneState) → List L → Type 0
AreTen state [] = ⊥
AreTen state (first ∷ []) = ⊥
AreTen state (first ∷ second ∷ []) = ⊥
AreTen state (first ∷ second ∷ third ∷ []) =
    BringsBytes (ten_stream 0) (state first) × BringsBytes (ten_stream 1) (state second)
    × BringsBytes (ten_stream 2) (state third)
AreTen state (first ∷ second ∷ third ∷ more ∷ others) = ⊥
