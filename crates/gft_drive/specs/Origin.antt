-- What the senders of a file are known to send.
use Rattle.std.specs.Prelude.{◌≡◌, ◌⊎◌, ℕ, zero, suc, ◌+◌, ◌<◌, ◌≤◌, List, [], ◌∷◌, length}
use Rattle.std.specs.Prelude.{Option, Some, None}
use Rattle.std.proofs.Common.{refl}
use Rattle.gft_base.specs.declared.TheConstants.{LIMIT}
use Rattle.gft_eod.specs.declared.TheConstants.{MAX_EODS}
use Rattle.gft_range.specs.declared.Range.{Range}
use Rattle.gft_range.specs.Words.{HasOffset}

abbrev pub IsAmong : ℕ → List ℕ → Type 0
IsAmong x [] = ⊥
IsAmong x (y ∷ ys) = (x ≡ y) ⊎ IsAmong x ys

-- the sum of f over the lanes below n
abbrev pub sum_below : (ℕ → ℕ) → ℕ → ℕ
sum_below f zero = 0
sum_below f (suc n) = sum_below f n + f n

-- the offsets of bytes that lie at this offset and onwards
abbrev pub offsets_from : ℕ → List ℕ → List ℕ
offsets_from offset [] = []
offsets_from offset (b ∷ bs) = offset ∷ offsets_from (offset + 1) bs

-- what each lane of one transfer sends: the offsets of its order, one after another, and a number of EODs
pub record Orders : Type 0 where
  pub lanes : ℕ
  pub order : ℕ → List ℕ
  pub number : ℕ → ℕ

abbrev pub total_of : Orders → ℕ
total_of orders = sum_below orders.number orders.lanes

-- the lanes send a source, but that the offsets of a REST list need not be sent. A lane without an EOD
-- sends nothing
pub record IsPlan (source : List ℕ) (rest : List Range) (orders : Orders) : Type 0 where
  pub silent : (lane : ℕ) → orders.number lane ≡ 0 → orders.order lane ≡ []
  pub no_more : (lane : ℕ) → orders.lanes ≤ lane → orders.number lane ≡ 0
  pub all : (x : ℕ) → x < length source
      → HasOffset rest x ⊎ ((lane : ℕ) × (lane < orders.lanes) × IsAmong x (orders.order lane))

-- a source that the product can take, and what its lanes send: its offsets, and 1 to 1,024 EODs
pub record IsSending (source : List ℕ) (rest : List Range) (orders : Orders) : Type 0 where
  pub bound : length source ≤ LIMIT
  pub plan : IsPlan source rest orders
  pub below : (lane x : ℕ) → IsAmong x (orders.order lane) → x < length source
  pub some : 1 ≤ total_of orders
  pub most : total_of orders ≤ MAX_EODS

-- what is known of a label: a source, and what is sent of it for each REST list, the empty one for a transfer
-- that begins afresh
pub record Sent : Type 0 where
  pub source : List ℕ
  pub orders : List Range → Orders
  pub is : (rest : List Range) → IsSending source rest (orders rest)

-- the orders of each label that has a source fit it
abbrev pub AreFit : (List ℕ → Option (List ℕ)) → (List ℕ → List Range → Orders) → Type 0
AreFit source orders =
    (label bytes : List ℕ) → source label ≡ Some bytes → (rest : List Range)
    → IsSending bytes rest (orders label rest)

abbrev pub sent_if : (source : Option (List ℕ)) → (orders : List Range → Orders)
    → ((bytes : List ℕ) → source ≡ Some bytes → (rest : List Range) → IsSending bytes rest (orders rest))
    → Option Sent
sent_if None orders fit = None
sent_if (Some bytes) orders fit = Some (record { source = bytes; orders = orders; is = fit bytes refl })

-- what is known of each label
abbrev pub sent_by : (source : List ℕ → Option (List ℕ)) → (orders : List ℕ → List Range → Orders)
    → AreFit source orders → List ℕ → Option Sent
sent_by source orders fit label = sent_if (source label) (orders label) (fit label)

-- this for lane 0, and the other for each further lane
abbrev pub only_first : {A : Type 0} → A → A → ℕ → A
only_first first other zero = first
only_first first other (suc lane) = other

-- one lane sends all of a source, in ascending order
abbrev pub one_lane : List ℕ → Orders
one_lane source =
    record { lanes = 1; order = only_first (offsets_from 0 source) []; number = only_first 1 0 }

-- nothing is known
abbrev pub no_orders : Orders
no_orders = record { lanes = 0; order = λ lane. []; number = λ lane. 0 }

pub none_fits : AreFit (λ _. None) (λ _ _. no_orders)
none_fits label bytes told rest = absurd (cc told)
