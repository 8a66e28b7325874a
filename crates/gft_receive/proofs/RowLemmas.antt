-- The first row: what two lanes bring of ten bytes is honest.
use Rattle.std.proofs.Common.{◌≡◌, ℕ, zero, suc, ◌<◌, List, [], ◌∷◌, length, map, reverse, Some, arith, refl, subst}
use Rattle.std.specs.Prelude.{slice_get}
use Rattle.std.proofs.Common.{◌∙◌, ap, sym}
use Rattle.std.specs.Prelude.{◌^◌, Option}
use Rattle.std.proofs.lemmas.List.{append-nil}
use Rattle.std.proofs.lemmas.List.Elements.{All-cons, All-nil}
use Rattle.std.proofs.lemmas.Option.{same_Some}
use Rattle.gft_eblock.specs.Words.{Arrival, At, Eod, Eof, arrivals, blocks_from, data_then, good_block, has_flag, header_of, is_bad}
use Rattle.gft_drive.specs.Words.{Sent, sent_by}
use Rattle.gft_outside.specs.declared.memory_lane.MemoryLane.{MemoryLane}
use Rattle.gft_outside.specs.Words.{Came, IsHonestLane, LaneInput, LaneState, Opened, gained, lane_arrivals, lane_state, no_channels}
use Rattle.gft_outside.proofs.Lemmas.{cuts, reverse-push}
use Rattle.gft_book.specs.declared.usage.How.{How}
use Rattle.gft_book.specs.declared.usage.How.TheVariants.{Fresh}
use Rattle.gft_book.specs.Words.{Start, left_out}
use Rattle.gft_receive.specs.Honest.{IsHonestFor, IsHonestLeft}
use Rattle.gft_receive.specs.Rows.{halves_fit, AreHalves, BringsBytes, channel_inputs, first_half, hello_world, second_half, two_halves}
use Rattle.gft_receive.specs.Transfer.{AreReady}

-- ---- what the lanes bring

second_arrivals : arrivals 0 second_half ≡ At 5 119 ∷ At 6 111 ∷ At 7 114 ∷ At 8 108 ∷ At 9 100 ∷ Eof 2 ∷ Eod ∷ []
unfolding arrivals blocks_from good_block data_then header_of is_bad has_flag
second_arrivals = refl

first_arrivals : arrivals 0 first_half ≡ At 0 104 ∷ At 1 101 ∷ At 2 108 ∷ At 3 108 ∷ At 4 111 ∷ Eod ∷ []
unfolding arrivals blocks_from good_block data_then header_of is_bad has_flag
first_arrivals = refl

gained_first : (bytes : List ℕ) → gained 0 [] bytes ≡ arrivals 0 bytes
unfolding arrivals blocks_from
gained_first bytes = refl

-- a lane whose one channel has these bytes brings what they tell
pub channel_arrivals : (bytes : List ℕ) → lane_arrivals 0 (reverse (channel_inputs bytes)) ≡ arrivals 0 bytes
channel_arrivals bytes =
    let came : List LaneInput = map (λ value. Came 0 value) bytes in
    ap (lane_arrivals 0) (sym (append-nil (reverse (channel_inputs bytes))) ∙ reverse-push (Opened 0) came [])
    ∙ cuts 0 0 bytes (Opened 0 ∷ []) ∙ gained_first bytes

second_honest : IsHonestLane hello_world two_halves 0 (At 5 119 ∷ At 6 111 ∷ At 7 114 ∷ At 8 108 ∷ At 9 100 ∷ Eof 2 ∷ Eod ∷ [])
second_honest = record {
  truthful = (refl, (refl, (refl, (refl, (refl, tt)))));
  no_refusal = tt;
  in_order = (((((((tt, (6 ∷ 7 ∷ 8 ∷ 9 ∷ [], refl)), (7 ∷ 8 ∷ 9 ∷ [], refl)), (8 ∷ 9 ∷ [], refl)), (9 ∷ [], refl)), ([], refl)), refl), (omega arith, λ all. refl));
}

first_honest : IsHonestLane hello_world two_halves 1 (At 0 104 ∷ At 1 101 ∷ At 2 108 ∷ At 3 108 ∷ At 4 111 ∷ Eod ∷ [])
first_honest = record {
  truthful = (refl, (refl, (refl, (refl, (refl, tt)))));
  no_refusal = tt;
  in_order = ((((((tt, (1 ∷ 2 ∷ 3 ∷ 4 ∷ [], refl)), (2 ∷ 3 ∷ 4 ∷ [], refl)), (3 ∷ 4 ∷ [], refl)), (4 ∷ [], refl)), ([], refl)), (omega arith, λ all. refl));
}

-- ---- the transfer

-- what is known of each label
abbrev hello_sent : List ℕ → Option Sent
hello_sent = sent_by (λ _. Some hello_world) (λ _ _. two_halves) halves_fit

half_left : (start : Start) → start.how ≡ Fresh → (lane : ℕ) (bytes : List ℕ) (list : List Arrival) (state : LaneState) → BringsBytes bytes state → arrivals 0 bytes ≡ list → IsHonestLane hello_world two_halves lane list → length (two_halves.order lane) < 2 ^ 64 → IsHonestLeft hello_sent start 0 lane state.left
half_left start fresh lane bytes list state brings tell honest few =
    let known : Sent = record { source = hello_world; orders = λ rest. two_halves; is = halves_fit start.label hello_world refl } in
    let came = lane_arrivals 0 (reverse (channel_inputs bytes)) in
    let is : IsHonestLane hello_world two_halves lane came = subst (λ (l : List Arrival). IsHonestLane hello_world two_halves lane l) (sym (channel_arrivals bytes ∙ tell)) honest in
    (channel_inputs bytes, brings.left, subst (λ (how : How). IsHonestFor known (left_out how) lane came) (sym fresh) (is, few))

half_at : (start : Start) → start.how ≡ Fresh → (second first : MemoryLane) → AreHalves lane_state (second ∷ first ∷ []) → (k : ℕ) (lane : MemoryLane) → slice_get (second ∷ first ∷ []) k ≡ Some lane → IsHonestLeft hello_sent start 0 k (lane_state lane).left
half_at start fresh second first halves zero lane at =
    subst (λ (l : MemoryLane). IsHonestLeft hello_sent start 0 0 (lane_state l).left) (same_Some second lane at)
    (half_left start fresh 0 second_half _ (lane_state second) halves.0 second_arrivals second_honest (omega arith))
half_at start fresh second first halves (suc zero) lane at =
    subst (λ (l : MemoryLane). IsHonestLeft hello_sent start 0 1 (lane_state l).left) (same_Some first lane at)
    (half_left start fresh 1 first_half _ (lane_state first) halves.1 first_arrivals first_honest (omega arith))
half_at start fresh second first halves (suc (suc k)) lane at = absurd (cc at)

abbrev IsUnopened : MemoryLane → Type 0
IsUnopened lane = (lane_state lane).channels ≡ no_channels

pub halves_ready : (start : Start) → start.how ≡ Fresh → (lanes : List MemoryLane) → AreHalves lane_state lanes → AreReady lane_state hello_sent start 0 lanes
halves_ready start fresh [] none = absurd none
halves_ready start fresh (second ∷ []) none = absurd none
halves_ready start fresh (second ∷ first ∷ more ∷ others) none = absurd none
halves_ready start fresh (second ∷ first ∷ []) halves = record {
  unopened = All-cons IsUnopened second (first ∷ []) halves.0.unopened (All-cons IsUnopened first [] halves.1.unopened (All-nil IsUnopened));
  honest = λ k lane at. half_at start fresh second first halves k lane at;
}

pub halves_many : (lanes : List MemoryLane) → AreHalves lane_state lanes → length lanes ≡ 2
halves_many [] none = absurd none
halves_many (second ∷ []) none = absurd none
halves_many (second ∷ first ∷ []) halves = refl
halves_many (second ∷ first ∷ more ∷ others) none = absurd none
