-- How many bytes plans have: over all data connections and stripes no more than their region.
use Rattle.std.proofs.Common.{◌≡◌, ℕ, zero, suc, ◌+◌, ◌-◌, ◌<◌, ◌≤◌, Bool, true, false, List, [], ◌∷◌, refl, ap, subst, arith, add-one, ⊎_elim}
use Rattle.std.proofs.Math.Nat.{eq-or-lt_of_le}
use Rattle.std.specs.Prelude.{◌&&◌, not, nat_eq}
use Rattle.std.proofs.lemmas.Bool.Decides.{nat_tests}
use Rattle.gft_range.specs.declared.Range.{Range}
use Rattle.gft_drive.specs.Words.{sum_below}
use Rattle.gft_layout.specs.Words.{block_at, owner_of}
use Rattle.gft_layout.specs.Plan.{is_in, is_sent, join_first, longest_runs, plan_of}
use Rattle.gft_send.specs.declared.plan.SendPlan.{SendPlan}
use Rattle.gft_send.specs.Stripes.{bytes_in, channel_plan, stripe_bytes}

-- ---- sums

pub sum_add : (f g : ℕ → ℕ) (n : ℕ) → sum_below (λ c. f c + g c) n ≡ sum_below f n + sum_below g n
sum_add f g zero = refl
sum_add f g (suc n) = let e = sum_add f g n in omega arith

pub sum_le : (f g : ℕ → ℕ) (n : ℕ) → ((c : ℕ) → f c ≤ g c) → sum_below f n ≤ sum_below g n
sum_le f g zero le = omega arith
sum_le f g (suc n) le = let e = sum_le f g n le in let h = le n in omega arith

pub sum_more : (f : ℕ → ℕ) (n : ℕ) → sum_below f (n + 1) ≡ sum_below f n + f n
sum_more f n = ap (λ (k : ℕ). sum_below f k) (add-one n)

-- a part of a sum and the next one are in the sum
pub sum_front : (f : ℕ → ℕ) (k n : ℕ) → k < n → sum_below f k + f k ≤ sum_below f n
sum_front f k zero lt = absurd (omega arith)
sum_front f k (suc n) lt = ⊎_elim
    (λ (e : k ≡ n). subst (λ (m : ℕ). sum_below f k + f k ≤ sum_below f m + f m) e (omega arith))
    (λ (below : k < n). let h = sum_front f k n below in omega arith)
    (eq-or-lt_of_le (omega arith))

-- ---- places

abbrev weight : Bool → ℕ
weight true = 1
weight false = 0

abbrev count_sent : (ℕ → Bool) → ℕ → ℕ → ℕ
count_sent sent x zero = 0
count_sent sent x (suc n) = weight (sent x) + count_sent sent (x + 1) n

count_all : (x n : ℕ) → count_sent (λ y. true) x n ≡ n
count_all x zero = refl
count_all x (suc n) = let e = count_all (x + 1) n in omega arith

-- where at each place only one of them counts, all count no more than there are places
spread : (S : ℕ → ℕ → Bool) (B : ℕ → Bool) (m : ℕ) → ((y : ℕ) → sum_below (λ c. weight (S c y)) m ≤ weight (B y)) → (x n : ℕ) → sum_below (λ c. count_sent (S c) x n) m ≤ count_sent B x n
spread S B m few x zero = let e = sum_zero m in omega arith
  where
    sum_zero : (m : ℕ) → sum_below (λ c. 0) m ≡ 0
    sum_zero zero = refl
    sum_zero (suc m) = let e = sum_zero m in omega arith
spread S B m few x (suc n) =
    let here = few x in
    let later = spread S B m few (x + 1) n in
    let both = sum_add (λ c. weight (S c x)) (λ c. count_sent (S c) (x + 1) n) m in
    omega arith

-- ---- runs

abbrev AreSome : List Range → Type 0
AreSome [] = Unit {0}
AreSome (r ∷ rs) = (r.start < r.end) × AreSome rs

abbrev IsJoined : ℕ → List Range → List Range → Type 0
IsJoined x rs new = AreSome rs → AreSome new × (bytes_in new ≡ 1 + bytes_in rs)

joined : (number : ℕ → ℕ) (x : ℕ) (rs : List Range) → IsJoined x rs (join_first number x rs)
joined number x [] some = ((omega arith, tt), omega arith)
joined number x (r ∷ rs) some = by (nat_eq r.start (x + 1) && nat_eq (number r.start) (number x)) refl
  where
    by : (b : Bool) → (nat_eq r.start (x + 1) && nat_eq (number r.start) (number x)) ≡ b → AreSome (join_first number x (r ∷ rs)) × (bytes_in (join_first number x (r ∷ rs)) ≡ 1 + bytes_in (r ∷ rs))
    by true is = let at : r.start ≡ x + 1 = grind (arith, nat_tests) in let s = some.0 in rw is ((omega arith, some.1), omega arith)
    by false is = let s = some.0 in rw is ((omega arith, (s, some.1)), omega arith)

runs_count : (sent : ℕ → Bool) (number : ℕ → ℕ) (x n : ℕ) → AreSome (longest_runs sent number x n) × (bytes_in (longest_runs sent number x n) ≡ count_sent sent x n)
runs_count sent number x zero = (tt, refl)
runs_count sent number x (suc n) = by (sent x) refl (runs_count sent number (x + 1) n)
  where
    by : (b : Bool) → sent x ≡ b → AreSome (longest_runs sent number (x + 1) n) × (bytes_in (longest_runs sent number (x + 1) n) ≡ count_sent sent (x + 1) n)
        → AreSome (longest_runs sent number x (suc n)) × (bytes_in (longest_runs sent number x (suc n)) ≡ count_sent sent x (suc n))
    by true is later = let j = joined number x (longest_runs sent number (x + 1) n) later.0 in let e = later.1 in rw is (j.0, omega arith)
    by false is later = let e = later.1 in rw is (later.0, omega arith)

-- ---- plans

none_yet : (k m : ℕ) → m ≤ k → sum_below (λ c. weight (nat_eq k c)) m ≡ 0
none_yet k zero le = refl
none_yet k (suc m) le = let e = none_yet k m (omega arith) in by (nat_eq k m) refl e
  where
    by : (b : Bool) → nat_eq k m ≡ b → sum_below (λ c. weight (nat_eq k c)) m ≡ 0 → sum_below (λ c. weight (nat_eq k c)) m + weight (nat_eq k m) ≡ 0
    by true is e = let same : k ≡ m = grind (arith, nat_tests) in absurd (omega arith)
    by false is e = rw is (omega arith)

one_stripe : (k m : ℕ) → sum_below (λ c. weight (nat_eq k c)) m ≤ 1
one_stripe k zero = omega arith
one_stripe k (suc m) = by (nat_eq k m) refl (one_stripe k m)
  where
    by : (b : Bool) → nat_eq k m ≡ b → sum_below (λ c. weight (nat_eq k c)) m ≤ 1 → sum_below (λ c. weight (nat_eq k c)) m + weight (nat_eq k m) ≤ 1
    by true is e = let same : k ≡ m = grind (arith, nat_tests) in let none = none_yet k m (omega arith) in rw is (omega arith)
    by false is e = rw is (omega arith)

no_sum : (m : ℕ) → sum_below (λ c. 0) m ≡ 0
no_sum zero = refl
no_sum (suc m) = let e = no_sum m in omega arith

one_channel : (a b : Bool) (k m : ℕ) → sum_below (λ c. weight (not a && (b && nat_eq k c))) m ≤ weight b
one_channel true b k m = let e = no_sum m in omega arith
one_channel false true k m = one_stripe k m
one_channel false false k m = let e = no_sum m in omega arith

count_within : (sent : ℕ → Bool) (x n : ℕ) → count_sent sent x n ≤ n
count_within sent x zero = omega arith
count_within sent x (suc n) = let e = count_within sent (x + 1) n in let h = light (sent x) in omega arith
  where
    light : (b : Bool) → weight b ≤ 1
    light true = omega arith
    light false = omega arith

module _ (plan : SendPlan) (done : List Range) where
  abbrev size : ℕ
  size = plan.region.end - plan.region.start

  abbrev is_of : ℕ → ℕ → Bool
  is_of stripe y = nat_eq (owner_of plan.region plan.layout plan.shape y).stripe stripe

  bytes_counted : (stripe channel : ℕ) → bytes_in (channel_plan plan done stripe channel) ≡ count_sent (is_sent plan.region done plan.layout plan.shape stripe channel) plan.region.start size
  unfolding plan_of
  bytes_counted stripe channel = (runs_count (is_sent plan.region done plan.layout plan.shape stripe channel) (λ x. (block_at plan.region plan.layout plan.shape x).number) plan.region.start size).1

  stripe_counted : (stripe : ℕ) → stripe_bytes plan done stripe ≤ count_sent (is_of stripe) plan.region.start size
  stripe_counted stripe =
      let sent = λ (c : ℕ). is_sent plan.region done plan.layout plan.shape stripe c in
      let same = sum_le (λ c. bytes_in (channel_plan plan done stripe c)) (λ c. count_sent (sent c) plan.region.start size) plan.shape.parallel (λ c. let e = bytes_counted stripe c in omega arith) in
      let few = spread sent (is_of stripe) plan.shape.parallel (λ y. one_channel (is_in done y) (is_of stripe y) (owner_of plan.region plan.layout plan.shape y).channel plan.shape.parallel) plan.region.start size in
      omega arith

  -- a stripe sends no more bytes than the region has
  pub stripe_within : (stripe : ℕ) → stripe_bytes plan done stripe ≤ plan.region.end - plan.region.start
  stripe_within stripe = let e = stripe_counted stripe in let h = count_within (is_of stripe) plan.region.start size in omega arith

  -- nor does one of its data connections
  pub channel_within : (stripe channel : ℕ) → channel < plan.shape.parallel → bytes_in (channel_plan plan done stripe channel) ≤ plan.region.end - plan.region.start
  channel_within stripe channel lt =
      let h = stripe_within stripe in
      let e = sum_front (λ c. bytes_in (channel_plan plan done stripe c)) channel plan.shape.parallel lt in
      omega arith

  -- nor do those of its data connections that were sent, with the next one
  pub so_far_within : (stripe channel sent count : ℕ) → channel < plan.shape.parallel → sent ≡ sum_below (λ c. bytes_in (channel_plan plan done stripe c)) channel → count ≡ bytes_in (channel_plan plan done stripe channel) → sent + count ≤ plan.region.end - plan.region.start
  so_far_within stripe channel sent count lt so_far next =
      let h = stripe_within stripe in
      let e = sum_front (λ c. bytes_in (channel_plan plan done stripe c)) channel plan.shape.parallel lt in
      omega arith

  pub so_far_more : (stripe channel sent count : ℕ) → sent ≡ sum_below (λ c. bytes_in (channel_plan plan done stripe c)) channel → count ≡ bytes_in (channel_plan plan done stripe channel) → sent + count ≡ sum_below (λ c. bytes_in (channel_plan plan done stripe c)) (channel + 1)
  so_far_more stripe channel sent count so_far next = let e = sum_more (λ c. bytes_in (channel_plan plan done stripe c)) channel in omega arith

  -- nor do all stripes
  pub stripes_within : sum_below (stripe_bytes plan done) plan.shape.stripes ≤ plan.region.end - plan.region.start
  stripes_within =
      let each = sum_le (stripe_bytes plan done) (λ s. count_sent (is_of s) plan.region.start size) plan.shape.stripes stripe_counted in
      let few = spread is_of (λ y. true) plan.shape.stripes (λ y. one_stripe (owner_of plan.region plan.layout plan.shape y).stripe plan.shape.stripes) plan.region.start size in
      let all = count_all plan.region.start size in
      omega arith
