-- The totals that arrivals announce.
use Rattle.std.specs.Prelude.{◌≡◌, ℕ, ◌≤◌, Option, Some, None, List, [], ◌∷◌}
use Rattle.gft_eod.specs.declared.TheConstants.{MAX_EODS}

abbrev pub first_of : List ℕ → Option ℕ
first_of [] = None
first_of (n ∷ ns) = Some n

abbrev pub AllAre : ℕ → List ℕ → Type 0
AllAre n [] = Unit {0}
AllAre n (m ∷ ms) = (m ≡ n) × AllAre n ms

-- each total may be announced, and is the same as the first
abbrev pub AreAgreed : List ℕ → Type 0
AreAgreed [] = Unit {0}
AreAgreed (n ∷ ns) = (1 ≤ n) × (n ≤ MAX_EODS) × AllAre n ns
