-- The row of ten bytes: three lanes that bring what is sent of them.
use Rattle.std.proofs.Common.{◌≡◌, ◌⊎◌, inl, inr, ℕ, zero, suc, ◌+◌, ◌<◌, ◌≤◌, List, [], ◌∷◌, ◌++◌, length, map, reverse, Some, arith, refl, subst, sym, ap, ◌∙◌}
use Rattle.std.specs.Prelude.{◌^◌, true, slice_get, IsSome, Option}
use Rattle.std.proofs.lemmas.List.{append-nil, reverse-reverse}
use Rattle.std.proofs.lemmas.List.Elements.{All-cons, All-nil}
use Rattle.std.proofs.lemmas.List.Elements.{All-cons, All-nil}
use Rattle.std.proofs.lemmas.Option.{same_Some}
use Rattle.gft_eblock.specs.Words.{spelling}
use Rattle.gft_layout.specs.Words.{IsOwner, Owner, plan_of}
use Rattle.gft_drive.specs.Words.{Sent, sent_by}
use Rattle.gft_outside.specs.declared.memory_lane.MemoryLane.{MemoryLane}
use Rattle.gft_outside.specs.Words.{AreInTurn, Came, IsSmooth, LaneInput, LaneState, Opened, byte_count, channels_after, is_live, lane_state, no_channels, stream}
use Rattle.gft_outside.proofs.Lemmas.{reverse-push, stream_came}
use Rattle.gft_book.specs.declared.usage.How.{How}
use Rattle.gft_book.specs.declared.usage.How.TheVariants.{Fresh}
use Rattle.gft_pass.specs.Words.{Lane}
use Rattle.gft_book.specs.declared.transfer.Stage.{Stage}
use Rattle.gft_book.specs.Words.{BeginsStore, BookState, Start, left_out, start_at, start_now}
use Rattle.gft_send.specs.declared.SendPlan.{SendPlan}
use Rattle.gft_send.specs.Words.{sent_stream}
use Rattle.gft_receive.specs.Words.{BringsBytes, channel_inputs}
use Rattle.gft_delivery.specs.Brought.{BringsStreams, CarriesStreams, DealsOut, IsCarried, SendsWhole, orders_of}
use Rattle.gft_delivery.specs.Delivery.{HasLeft, IsDelivery}
use Rattle.gft_delivery.specs.Rows.{AreTen, ten, ten_fit, ten_list, ten_lists, ten_orders, ten_plan, ten_stream}

-- ---- a lane of one channel

abbrev came : List ℕ → List LaneInput
came bytes = map (λ value. Came 0 value) bytes

-- one channel is open, and no more bytes came than can
pub record IsOneChannel (bytes : ℕ) (inputs : List LaneInput) : Type 0 where
  pub in_turn : AreInTurn inputs no_channels
  pub smooth : IsSmooth inputs
  pub channels : channels_after inputs no_channels ≡ record { opened = 1; live = 0 ∷ [] }
  pub count : byte_count inputs ≡ bytes

one_more : (n value : ℕ) (inputs : List LaneInput) → n + 1 < 2 ^ 58 → IsOneChannel n inputs → IsOneChannel (n + 1) (Came 0 value ∷ inputs)
one_more n value inputs few one = record {
  in_turn = (one.in_turn, subst (λ c. is_live 0 c.live ≡ true) (sym one.channels) refl);
  smooth = (one.smooth, tt, subst (λ c. length c.live ≤ 64) (sym one.channels) (omega arith), subst (λ c. c.opened ≤ 65536) (sym one.channels) (omega arith), omega (arith, one.count, few));
  channels = one.channels;
  count = omega (arith, one.count);
}

all_came : (bytes : List ℕ) (n : ℕ) (inputs : List LaneInput) → n + length bytes < 2 ^ 58 → IsOneChannel n inputs → IsOneChannel (n + length bytes) (reverse (came bytes) ++ inputs)
all_came [] n inputs few one = subst (λ (m : ℕ). IsOneChannel m inputs) (omega arith) one
all_came (value ∷ bytes) n inputs few one =
    let more = all_came bytes (n + 1) (Came 0 value ∷ inputs) (omega (arith, few)) (one_more n value inputs (omega (arith, few)) one) in
    subst (λ l. IsOneChannel (n + length (value ∷ bytes)) l) (sym (reverse-push (Came 0 value) (came bytes) inputs))
    (subst (λ m. IsOneChannel m (reverse (came bytes) ++ (Came 0 value ∷ inputs))) (omega arith) more)

abbrev opened : List LaneInput
opened = Opened 0 ∷ []

opened_one : IsOneChannel 0 opened
opened_one = record { in_turn = (tt, refl); smooth = (tt, tt, omega arith, omega arith, omega arith); channels = refl; count = refl }

newest_first : (bytes : List ℕ) → reverse (channel_inputs bytes) ≡ reverse (came bytes) ++ opened
newest_first bytes = sym (append-nil (reverse (channel_inputs bytes))) ∙ reverse-push (Opened 0) (came bytes) []

one_channel : (bytes : List ℕ) → length bytes < 2 ^ 58 → IsOneChannel (length bytes) (reverse (channel_inputs bytes))
one_channel bytes few =
    let all : IsOneChannel (0 + length bytes) (reverse (came bytes) ++ opened) = all_came bytes 0 opened (omega (arith, few)) opened_one in
    let none : 0 + length bytes ≡ length bytes = omega arith in
    subst (λ (n : ℕ). IsOneChannel n (reverse (channel_inputs bytes))) none
    (subst (IsOneChannel (0 + length bytes)) (sym (newest_first bytes)) all)

one_stream : (bytes : List ℕ) → stream 0 (reverse (channel_inputs bytes)) ≡ bytes
one_stream bytes = ap (stream 0) (newest_first bytes) ∙ stream_came 0 bytes opened

carries_one : (file : List ℕ) (plan : SendPlan) (owner : Owner) → length (sent_stream file plan [] owner.stripe owner.channel) < 2 ^ 58 → CarriesStreams file plan [] (owner ∷ []) (reverse (channel_inputs (sent_stream file plan [] owner.stripe owner.channel)))
carries_one file plan owner few =
    let one = one_channel (sent_stream file plan [] owner.stripe owner.channel) few in
    record {
      in_turn = one.in_turn;
      smooth = one.smooth;
      opened = ap (λ c. c.opened) one.channels;
      streams = on_channel;
    }
  where
    bytes : List ℕ
    bytes = sent_stream file plan [] owner.stripe owner.channel

    on_channel : (channel : ℕ) (other : Owner) → slice_get (owner ∷ []) channel ≡ Some other → stream channel (reverse (channel_inputs bytes)) ≡ sent_stream file plan [] other.stripe other.channel
    on_channel zero other at = subst (λ (o : Owner). stream 0 (reverse (channel_inputs bytes)) ≡ sent_stream file plan [] o.stripe o.channel) (same_Some owner other at) (one_stream bytes)
    on_channel (suc channel) other at = absurd (cc at)

-- ---- the three lanes

abbrev owner_at : ℕ → Owner
owner_at stripe = record { stripe = stripe; channel = 0 }

abbrev deal : List (List Owner)
deal = (owner_at 0 ∷ []) ∷ (owner_at 1 ∷ []) ∷ (owner_at 2 ∷ []) ∷ []

carried_at : (stripe channel : ℕ) → stripe < 3 → channel < 1 → IsCarried deal (record { stripe = stripe; channel = channel })
carried_at zero zero within one = record { lane = 0; owners = owner_at 0 ∷ []; channel = 0; at_lane = refl; at_channel = refl }
carried_at (suc zero) zero within one = record { lane = 1; owners = owner_at 1 ∷ []; channel = 0; at_lane = refl; at_channel = refl }
carried_at (suc (suc zero)) zero within one = record { lane = 2; owners = owner_at 2 ∷ []; channel = 0; at_lane = refl; at_channel = refl }
carried_at (suc (suc (suc stripe))) zero within one = absurd (omega (arith, within))
carried_at stripe (suc channel) within one = absurd (omega (arith, one))

dealt : DealsOut ten_plan.shape deal
dealt = record { each = λ owner is. carried_at owner.stripe owner.channel is.stripe is.channel; many = refl }

few_bytes : (length (ten_stream 0) < 2 ^ 58) × (length (ten_stream 1) < 2 ^ 58) × (length (ten_stream 2) < 2 ^ 58)
unfolding plan_of spelling
few_bytes = (omega arith, omega arith, omega arith)

carries_at : (k : ℕ) (owners : List Owner) (inputs : List LaneInput) → slice_get deal k ≡ Some owners → slice_get ten_lists k ≡ Some inputs → CarriesStreams ten ten_plan [] owners inputs
carries_at zero owners inputs at there =
    subst (λ (o : List Owner). CarriesStreams ten ten_plan [] o inputs) (same_Some (owner_at 0 ∷ []) owners at)
    (subst (λ (i : List LaneInput). CarriesStreams ten ten_plan [] (owner_at 0 ∷ []) i) (same_Some (ten_list 0) inputs there) (carries_one ten ten_plan (owner_at 0) few_bytes.0))
carries_at (suc zero) owners inputs at there =
    subst (λ (o : List Owner). CarriesStreams ten ten_plan [] o inputs) (same_Some (owner_at 1 ∷ []) owners at)
    (subst (λ (i : List LaneInput). CarriesStreams ten ten_plan [] (owner_at 1 ∷ []) i) (same_Some (ten_list 1) inputs there) (carries_one ten ten_plan (owner_at 1) few_bytes.1))
carries_at (suc (suc zero)) owners inputs at there =
    subst (λ (o : List Owner). CarriesStreams ten ten_plan [] o inputs) (same_Some (owner_at 2 ∷ []) owners at)
    (subst (λ (i : List LaneInput). CarriesStreams ten ten_plan [] (owner_at 2 ∷ []) i) (same_Some (ten_list 2) inputs there) (carries_one ten ten_plan (owner_at 2) few_bytes.2))
carries_at (suc (suc (suc k))) owners inputs at there = absurd (cc at)

whole : SendsWhole ten ten_plan
whole = record {
  bound = omega arith;
  start = refl;
  end = refl;
  shape = record { a_stripe = omega arith; stripes = omega arith; a_channel = omega arith; parallel = omega arith };
}

brings : BringsStreams ten ten_plan [] ten_lists
brings = record { deal = deal; many = refl; dealt = dealt; lanes = carries_at }

-- ---- the transfer

abbrev ten_sent : List ℕ → Option Sent
ten_sent = sent_by (λ _. Some ten) (λ _ _. ten_orders) ten_fit

left_at : (bytes : List ℕ) (state : LaneState) (list : List LaneInput) → BringsBytes bytes state → reverse (channel_inputs bytes) ≡ list → state.left ≡ Some (reverse list)
left_at bytes state list brought is = brought.left ∙ ap Some (sym (ap reverse (sym is) ∙ reverse-reverse (channel_inputs bytes)))

abbrev IsUnopened : MemoryLane → Type 0
IsUnopened lane = (lane_state lane).channels ≡ no_channels

has_left : (first second third : MemoryLane) → AreTen lane_state (first ∷ second ∷ third ∷ []) → HasLeft lane_state (first ∷ second ∷ third ∷ []) ten_lists
has_left first second third are = record {
  many = refl;
  unopened =
      All-cons IsUnopened first (second ∷ third ∷ []) are.0.unopened
      (All-cons IsUnopened second (third ∷ []) are.1.unopened (All-cons IsUnopened third [] are.2.unopened (All-nil IsUnopened)));
  left = left;
}
  where
    left : (k : ℕ) (lane : MemoryLane) (list : List LaneInput) → slice_get (first ∷ second ∷ third ∷ []) k ≡ Some lane → slice_get ten_lists k ≡ Some list → (lane_state lane).left ≡ Some (reverse list)
    left zero lane list at there = subst (λ (l : MemoryLane). (lane_state l).left ≡ Some (reverse list)) (same_Some first lane at) (left_at (ten_stream 0) (lane_state first) list are.0 (same_Some (ten_list 0) list there))
    left (suc zero) lane list at there = subst (λ (l : MemoryLane). (lane_state l).left ≡ Some (reverse list)) (same_Some second lane at) (left_at (ten_stream 1) (lane_state second) list are.1 (same_Some (ten_list 1) list there))
    left (suc (suc zero)) lane list at there = subst (λ (l : MemoryLane). (lane_state l).left ≡ Some (reverse list)) (same_Some third lane at) (left_at (ten_stream 2) (lane_state third) list are.2 (same_Some (ten_list 2) list there))
    left (suc (suc (suc k))) lane list at there = absurd (cc at)

pub is_delivery : (start : Start) → start.how ≡ Fresh → IsSome start.read → (lanes : List MemoryLane) → AreTen lane_state lanes → IsDelivery lane_state ten_sent start lanes
is_delivery start fresh tells [] are = absurd are
is_delivery start fresh tells (first ∷ []) are = absurd are
is_delivery start fresh tells (first ∷ second ∷ []) are = absurd are
is_delivery start fresh tells (first ∷ second ∷ third ∷ more ∷ others) are = absurd are
is_delivery start fresh tells (first ∷ second ∷ third ∷ []) are = record {
  from = record { source = ten; orders = λ rest. ten_orders; is = ten_fit start.label ten refl };
  rest = [];
  plan = ten_plan;
  lists = ten_lists;
  source = refl;
  stor = ap left_out fresh;
  tells = tells;
  orders = refl;
  whole = whole;
  brings = brings;
  left = has_left first second third are;
}

pub ten_many : (lanes : List MemoryLane) → AreTen lane_state lanes → length lanes ≡ 3
ten_many [] are = absurd are
ten_many (first ∷ []) are = absurd are
ten_many (first ∷ second ∷ []) are = absurd are
ten_many (first ∷ second ∷ third ∷ []) are = refl
ten_many (first ∷ second ∷ third ∷ more ∷ others) are = absurd are

-- a transfer that has just begun reads what its Book's drive reads
pub tells_begun : (old new : BookState) (way : How) (lanes : ℕ) (dealt : List Lane) → BeginsStore old new way lanes dealt → IsSome new.keep.drive.contents → IsSome (start_now new).read
tells_begun old new way lanes dealt b some = subst (λ (s : Stage). IsSome (start_at new s).read) (sym b.stage) some

-- lanes that bring the streams' bytes as they are written out
pub are_ten : (first second third : MemoryLane) → BringsBytes (0 ∷ 0 ∷ 0 ∷ 0 ∷ 0 ∷ 0 ∷ 0 ∷ 0 ∷ 4 ∷ 0 ∷ 0 ∷ 0 ∷ 0 ∷ 0 ∷ 0 ∷ 0 ∷ 0 ∷ 97 ∷ 98 ∷ 99 ∷ 100 ∷ 64 ∷ 0 ∷ 0 ∷ 0 ∷ 0 ∷ 0 ∷ 0 ∷ 0 ∷ 0 ∷ 0 ∷ 0 ∷ 0 ∷ 0 ∷ 0 ∷ 0 ∷ 0 ∷ 3 ∷ 12 ∷ 0 ∷ 0 ∷ 0 ∷ 0 ∷ 0 ∷ 0 ∷ 0 ∷ 0 ∷ 0 ∷ 0 ∷ 0 ∷ 0 ∷ 0 ∷ 0 ∷ 0 ∷ 0 ∷ []) (lane_state first) → BringsBytes (0 ∷ 0 ∷ 0 ∷ 0 ∷ 0 ∷ 0 ∷ 0 ∷ 0 ∷ 4 ∷ 0 ∷ 0 ∷ 0 ∷ 0 ∷ 0 ∷ 0 ∷ 0 ∷ 4 ∷ 101 ∷ 102 ∷ 103 ∷ 104 ∷ 12 ∷ 0 ∷ 0 ∷ 0 ∷ 0 ∷ 0 ∷ 0 ∷ 0 ∷ 0 ∷ 0 ∷ 0 ∷ 0 ∷ 0 ∷ 0 ∷ 0 ∷ 0 ∷ 0 ∷ []) (lane_state second) → BringsBytes (0 ∷ 0 ∷ 0 ∷ 0 ∷ 0 ∷ 0 ∷ 0 ∷ 0 ∷ 2 ∷ 0 ∷ 0 ∷ 0 ∷ 0 ∷ 0 ∷ 0 ∷ 0 ∷ 8 ∷ 105 ∷ 106 ∷ 12 ∷ 0 ∷ 0 ∷ 0 ∷ 0 ∷ 0 ∷ 0 ∷ 0 ∷ 0 ∷ 0 ∷ 0 ∷ 0 ∷ 0 ∷ 0 ∷ 0 ∷ 0 ∷ 0 ∷ []) (lane_state third) → AreTen lane_state (first ∷ second ∷ third ∷ [])
unfolding plan_of spelling
are_ten first second third one two three = (one, two, three)
