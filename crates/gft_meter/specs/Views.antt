-- What the seats of a meter know, and the rule that ties them to its words.
use Rattle.std.specs.Prelude.{◌≡◌, ℕ, ◌+◌, ◌-◌, ◌*◌, ◌≤◌, List, [], ◌∷◌, ◌++◌, true, false, length, slice_index, sum_by, if◌then◌else◌}
use mathlib.Core.Option.{some}
use lib.ListN.{get_elem?}
use Rattle.gft_meter.specs.declared.view.Add.{Add}
use Rattle.gft_meter.specs.declared.view.View.{View}
use Rattle.gft_meter.specs.Adds.{added_on, all_rights, most_added}

-- the place of a stripe's word
abbrev pub word_of : ℕ → ℕ
word_of stripe = stripe * 8

-- ---- views

abbrev pub live_view : ℕ → List Add → View
live_view rights adds = record { is_live = true; rights = rights; adds = adds }

abbrev pub opening_view : View
opening_view = live_view all_rights []

-- a seat that was joined into another
abbrev pub spent : View
spent = record { is_live = false; rights = 0; adds = [] }

-- ---- steps

abbrev pub with_add : ℕ → ℕ → View → View
with_add stripe bytes v = record v { adds = record { stripe = stripe; bytes = bytes } ∷ v.adds }

abbrev pub behind_deal : View → View
behind_deal v = live_view (v.rights - 1) v.adds

abbrev pub newcomer : View
newcomer = live_view 0 []

abbrev pub together : View → View → View
together v w = live_view (v.rights + w.rights + 1) (v.adds ++ w.adds)

-- ---- the rule

-- a live seat has one share more than rights: its own
abbrev pub shares : View → ℕ
shares v = if v.is_live then v.rights + 1 else 0

-- what was added through a seat is bounded by its shares
abbrev pub IsBounded : View → Type 0
IsBounded v = (stripe : ℕ) → added_on stripe v.adds ≤ shares v * most_added

-- the word of each stripe is the sum of what was added through all seats, who have all shares
abbrev pub AreSums : ℕ → List ℕ → List View → Type 0
AreSums stripes words views =
    (length words ≡ word_of stripes + 1)
    × (sum_by shares views ≡ all_rights + 1)
    × ((stripe : ℕ) → slice_index words (word_of stripe) ≡ sum_by (λ v. added_on stripe v.adds) views)
    × ((i : ℕ) (v : View) → get_elem? views i ≡ some v → IsBounded v)

-- what a seat learns of the word of a stripe
abbrev pub Shows : ℕ → ℕ → View → Type 0
Shows stripe word v =
    (added_on stripe v.adds ≤ word)
    × (v.rights ≡ all_rights → word ≡ added_on stripe v.adds)
    × (word ≤ (all_rights + 1) * most_added)
