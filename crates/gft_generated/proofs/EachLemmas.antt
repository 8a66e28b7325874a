-- What holds of each place of a list holds of one more.
use Rattle.std.proofs.Common.{◌≡◌, ℕ, zero, suc, List, [], ◌∷◌, ◌++◌, length, Some, subst}
use Rattle.std.specs.Prelude.{slice_get}
use Rattle.gft_outside.specs.Words.{Channels, no_channels}
use Rattle.gft_generated.specs.Lanes.{OnLane, generated_lane_state, live_from}
use Rattle.gft_generated.specs.declared.lane.Connection.{Connection}
use Rattle.std.proofs.Common.{ap}

same_of : {A : Type 0} (a b : A) → Some a ≡ Some b → a ≡ b
same_of a b e = cc

pub each_more : {A : Type 0} (P : ℕ → A → Type 0) (xs : List A) (x : A) → ((k : ℕ) (y : A) → slice_get xs k ≡ Some y → P k y) → P (length xs) x
    → (k : ℕ) (y : A) → slice_get (xs ++ x ∷ []) k ≡ Some y → P k y
each_more P [] x each last zero y at = subst (λ z. P 0 z) (same_of x y at) last
each_more P [] x each last (suc k) y at = cc
each_more P (z ∷ xs) x each last zero y at = each 0 y at
each_more P (z ∷ xs) x each last (suc k) y at = each_more (λ n. P (suc n)) xs x (λ n. each (suc n)) last k y at

-- a lane on which none was opened
abbrev channels_from : List Connection → Channels
channels_from opened = record { opened = length opened; live = live_from 0 opened }

pub none_opened : (lane : OnLane) → lane.opened ≡ [] → (generated_lane_state lane).channels ≡ no_channels
none_opened lane is = ap channels_from is
