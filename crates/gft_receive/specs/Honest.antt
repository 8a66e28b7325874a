-- What an honest sender's lane may bring.
use Rattle.std.specs.Prelude.{◌≡◌, ℕ, ◌+◌, ◌<◌, ◌^◌, List, [], ◌∷◌, length, reverse, slice_get}
use Rattle.std.specs.Prelude.{Option, Some, None, IfSome}
use Rattle.gft_range.specs.declared.Range.{Range}
use Rattle.gft_eblock.specs.Words.{Arrival, At, Bad, Eod, Eof, totals}
use Rattle.gft_drive.specs.Words.{Orders, Sent, total_of}
use Rattle.gft_outside.specs.Words.{AllAre, IsHonestLane, IsTruthful, LaneInput, lane_arrivals}
use Rattle.gft_pass.specs.declared.Numbers.{Numbers}
use Rattle.gft_book.specs.Words.{Start, left_out, more_bytes, one_eod, with_total}

-- the arrivals are the next ones that a lane with these numbers sends by its plan
abbrev pub FollowsOrder : Orders → ℕ → Numbers → List Arrival → Type 0
FollowsOrder orders lane n [] = Unit {0}
FollowsOrder orders lane n (At offset value ∷ list) =
    (slice_get (orders.order lane) n.bytes ≡ Some offset) × FollowsOrder orders lane (more_bytes 1 n) list
FollowsOrder orders lane n (Eof total ∷ list) =
    (total ≡ total_of orders) × FollowsOrder orders lane (with_total total n) list
FollowsOrder orders lane n (Eod ∷ list) =
    ((n.eods < orders.number lane) × (n.eods + 1 ≡ orders.number lane → n.bytes ≡ length (orders.order lane)))
    × FollowsOrder orders lane (one_eod n) list
FollowsOrder orders lane n (Bad refusal ∷ list) = FollowsOrder orders lane n list

-- if the transfer's label has a source, they bring its bytes, for a STOR in the lane's order
abbrev pub AreOfSource : (List ℕ → Option Sent) → Start → ℕ → Numbers → List Arrival → Type 0
AreOfSource sent start lane n list =
    IfSome (sent start.label) (λ s. IsTruthful s.source list
    × IfSome (left_out start.how) (λ rest. (length ((s.orders rest).order lane) < 2 ^ 64)
    × FollowsOrder (s.orders rest) lane n list))

-- if the transfer's total is known, they announce no other
abbrev pub AreOfTotal : Start → List Arrival → Type 0
AreOfTotal start list = IfSome start.total (λ total. AllAre total (totals list))

abbrev pub MayBring : (List ℕ → Option Sent) → Start → ℕ → Numbers → List Arrival → Type 0
MayBring sent start lane n list = AreOfSource sent start lane n list × AreOfTotal start list

-- what a lane brings is honest for a source: for a STOR by the plan of its transfer, else byte by byte
abbrev pub IsHonestFor : Sent → Option (List Range) → ℕ → List Arrival → Type 0
IsHonestFor s None lane list = IsTruthful s.source list
IsHonestFor s (Some rest) lane list =
    IsHonestLane s.source (s.orders rest) lane list × (length ((s.orders rest).order lane) < 2 ^ 64)

-- if the transfer's label has a source, the lane tells what it has left, and that is honest
abbrev pub IsHonestLeft : (List ℕ → Option Sent) → Start → ℕ → ℕ → Option (List LaneInput) → Type 0
IsHonestLeft sent start shift lane left =
    IfSome (sent start.label) (λ s. (inputs : List LaneInput) × (left ≡ Some inputs)
    × IsHonestFor s (left_out start.how) lane (lane_arrivals shift (reverse inputs)))

-- if the transfer's total is known, the lane tells what it has left, and announces no other
abbrev pub TellsTotal : Start → ℕ → Option (List LaneInput) → Type 0
TellsTotal start shift left =
    IfSome start.total (λ total. (inputs : List LaneInput) × (left ≡ Some inputs)
    × AllAre total (totals (lane_arrivals shift (reverse inputs))))
