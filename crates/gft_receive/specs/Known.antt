-- Which total is known of a transfer before its lanes are read.
use Rattle.std.specs.Prelude.{ℕ, nat_eq, ◌&&◌, if◌then◌else◌, Bool, true, List, [], ◌∷◌, ◌++◌, map, reverse}
use Rattle.std.specs.Prelude.{Option, Some, None}
use Rattle.gft_eblock.specs.Words.{totals}
use Rattle.gft_outside.specs.Words.{LaneInput, LaneState, lane_arrivals}
use Rattle.gft_book.specs.declared.transfer.Stage.{Stage}
use Rattle.gft_book.specs.declared.transfer.Stage.TheVariants.{Storing}
use Rattle.gft_receive.specs.declared.transfer.LaneWork.{LaneWork}

abbrev pub and_those : List ℕ → Option (List ℕ) → Option (List ℕ)
and_those ns None = None
and_those ns (Some ms) = Some (ns ++ ms)

-- the totals that lanes announce by what they have left, if all tell that
abbrev pub totals_left : ℕ → List (Option (List LaneInput)) → Option (List ℕ)
totals_left shift [] = Some []
totals_left shift (None ∷ lanes) = None
totals_left shift (Some inputs ∷ lanes) =
    and_those (totals (lane_arrivals shift (reverse inputs))) (totals_left shift lanes)

abbrev pub are_all : ℕ → List ℕ → Bool
are_all n [] = true
are_all n (m ∷ ms) = nat_eq m n && are_all n ms

-- the first of them, if the others are the same
abbrev pub only_total : Option (List ℕ) → Option ℕ
only_total (Some (n ∷ ns)) = if are_all n ns then Some n else None
only_total other = None

-- it is known if none was taken before
abbrev pub if_untold : Option ℕ → Option ℕ → Option ℕ
if_untold None only = only
if_untold (Some taken) only = None

abbrev pub total_known : Stage → Option ℕ → Option ℕ
total_known (Storing t) only = if_untold t.count.total only
total_known other only = None

abbrev pub left_of : {L : Type 0} → (L → LaneState) → LaneWork L → Option (List LaneInput)
left_of state work = (state work.lane).left

-- what is known where the movers begin
abbrev pub works_total : {L : Type 0} → (L → LaneState) → ℕ → Stage → List (LaneWork L) → Option ℕ
works_total state shift stage works =
    total_known stage (only_total (totals_left shift (map (left_of state) works)))
