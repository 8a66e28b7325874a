-- What contracts see of a transfer's roster and of a pass. Lanes are counted from 0.
use Rattle.std.specs.Prelude.{◌≡◌, ℕ, zero, suc, List, [], ◌∷◌, ◌++◌, map, None, false}
use mathlib.Core.Option.{some}
use lib.ListN.{get_elem?}
use Rattle.atomic_table.specs.Seated.{TableId}
use Rattle.gft_pass.specs.declared.numbers.Numbers.{Numbers}

-- the numbers of a pass that has had nothing
abbrev pub nothing : Numbers
nothing = record { bytes = 0; eods = 0; total = None; cause = None; stopped = false }

-- a transfer: its table, by which its passes are known, and the numbers of its lanes in order
pub record Ledger : Type 0 where
  pub table : TableId
  pub counts : List Numbers

-- a pass: the table of its transfer, its lane there, and its numbers
pub record Lane : Type 0 where
  pub table : TableId
  pub lane : ℕ
  pub count : Numbers

-- the lanes below n of a table, in order
abbrev pub lanes_below : TableId → ℕ → List (TableId × ℕ)
lanes_below table zero = []
lanes_below table (suc n) = lanes_below table n ++ (table, n) ∷ []

-- these are the passes of all n lanes of a table, in order
abbrev pub AllPasses : TableId → ℕ → List Lane → Type 0
AllPasses table n passes = map (λ (p : Lane). (p.table, p.lane)) passes ≡ lanes_below table n

-- the list has the lane, with these numbers
abbrev pub IsAt : List Numbers → ℕ → Numbers → Type 0
IsAt counts lane numbers = get_elem? counts lane ≡ some numbers
