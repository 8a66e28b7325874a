-- The senders of the first row: two lanes bring the halves of ten bytes.
use Rattle.std.specs.Prelude.{◌≡◌, ℕ, zero, suc, List, [], ◌∷◌, ◌++◌, codes, map, Some}
use Rattle.std.specs.Prelude.{◌<◌, ◌≤◌, length}
use Rattle.std.proofs.Common.{arith, inl, inr, refl, subst}
use Rattle.std.proofs.lemmas.Bool.{cases_lt}
use Rattle.std.proofs.lemmas.Option.{same_Some}
use Rattle.gft_range.specs.declared.Range.{Range}
use Rattle.gft_drive.specs.Words.{AreFit, IsAmong, IsSending, Orders, offsets_from}
use Rattle.gft_drive.proofs.Lemmas.{among_offsets, offsets_below}
use Rattle.gft_outside.specs.Words.{Came, LaneInput, LaneState, Opened, no_channels}

abbrev pub hello_world : List ℕ
hello_world = codes "helloworld"

-- for lane 0, for lane 1, and for each other lane
abbrev pub by_lane : {A : Type 0} → A → A → A → ℕ → A
by_lane first second other zero = first
by_lane first second other (suc zero) = second
by_lane first second other (suc (suc lane)) = other

-- lane 0 sends the second half and lane 1 the first, each with one EOD
abbrev pub two_halves : Orders
two_halves = record {
  lanes = 2;
  order = by_lane (offsets_from 5 (codes "world")) (offsets_from 0 (codes "hello")) [];
  number = by_lane 1 1 0;
}

half_silent : (lane : ℕ) → two_halves.number lane ≡ 0 → two_halves.order lane ≡ []
half_silent zero none = absurd (omega (arith, none))
half_silent (suc zero) none = absurd (omega (arith, none))
half_silent (suc (suc lane)) none = refl

no_half : (lane : ℕ) → 2 ≤ lane → two_halves.number lane ≡ 0
no_half zero le = absurd (omega (arith, le))
no_half (suc zero) le = absurd (omega (arith, le))
no_half (suc (suc lane)) le = refl

half_below : (lane x : ℕ) → IsAmong x (two_halves.order lane) → x < length hello_world
half_below zero x among = let below = offsets_below 5 x (codes "world") among in omega (arith, below)
half_below (suc zero) x among = let below = offsets_below 0 x (codes "hello") among in omega (arith, below)
half_below (suc (suc lane)) x none = absurd none

each_half : (x : ℕ) → x < length hello_world
    → (lane : ℕ) × (lane < two_halves.lanes) × IsAmong x (two_halves.order lane)
each_half x lt = elim (cases_lt x 5) [
  | inl first ↦ (1, omega arith, among_offsets 0 x (codes "hello") (omega arith) (omega (arith, first)))
  | inr second ↦ (0, omega arith, among_offsets 5 x (codes "world") second (omega (arith, lt)))
]

halves_sending : (rest : List Range) → IsSending hello_world rest two_halves
halves_sending rest = record {
  bound = omega arith;
  plan = record {
    silent = half_silent;
    no_more = no_half;
    all = λ x lt. inr (each_half x lt);
  };
  below = half_below;
  some = omega arith;
  most = omega arith;
}

-- and so for each label
pub halves_fit : AreFit (λ _. Some hello_world) (λ _ _. two_halves)
halves_fit label bytes told rest =
    subst (λ (all : List ℕ). IsSending all rest two_halves) (same_Some hello_world bytes told) (halves_sending rest)

-- a header whose numbers are below 256
abbrev pub small_header : ℕ → ℕ → ℕ → List ℕ
small_header flags count offset =
    flags ∷ 0 ∷ 0 ∷ 0 ∷ 0 ∷ 0 ∷ 0 ∷ 0 ∷ count ∷ 0 ∷ 0 ∷ 0 ∷ 0 ∷ 0 ∷ 0 ∷ 0 ∷ offset ∷ []

-- the block of the second half, an EOF with the total 2, and an EOD
abbrev pub second_half : List ℕ
second_half = small_header 0 5 5 ++ codes "world" ++ small_header 64 0 2 ++ small_header 8 0 0

-- the block of the first half and an EOD
abbrev pub first_half : List ℕ
first_half = small_header 0 5 0 ++ codes "hello" ++ small_header 8 0 0

-- one channel is opened on which these bytes come
abbrev pub channel_inputs : List ℕ → List LaneInput
channel_inputs bytes = Opened 0 ∷ map (λ value. Came 0 value) bytes

-- a new lane that tells what it has left: one channel with these bytes
pub record BringsBytes (bytes : List ℕ) (state : LaneState) : Type 0 where
  pub unopened : state.channels ≡ no_channels
  pub left : state.left ≡ Some (channel_inputs bytes)

-- the two lanes, that of the second half first
abbrev pub AreHalves : {L : Type 0} → (L → LaneState) → List L → Type 0
AreHalves state [] = ⊥
AreHalves state (second ∷ []) = ⊥
AreHalves state (second ∷ first ∷ []) =
    BringsBytes second_half (state second) × BringsBytes first_half (state first)
AreHalves state (second ∷ first ∷ more ∷ others) = ⊥
