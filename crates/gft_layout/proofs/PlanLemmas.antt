-- A plan is what is left of the layout blocks of its channel.
use Rattle.std.proofs.Common.{◌≡◌, ℕ, ◌+◌, ◌-◌, ◌*◌, ◌/◌, ◌%◌, ◌<◌, ◌≤◌, min, List, [], inl, inr, arith, refl, sym, subst, ap, ◌∙◌, lit<}
use Rattle.std.specs.Int.{div_ceil}
use Rattle.std.specs.List.{flat_map}
use Rattle.std.proofs.lemmas.Bool.{cases_lt, cases_eq}
use Rattle.std.proofs.lemmas.Grind.{div_ceil_times}
use Rattle.std.proofs.lemmas.Nat.{div-mul-add, mod-mul-add}
use Rattle.std.proofs.Math.Arith.{mod-mul}
use Rattle.std.proofs.Math.Nat.{div-add-mod, div-eq_of_lt-le, lt-mul-div-succ, mod-eq-sub-mul-div, mod-lt, mul-div-le, mul-le-mul_right, mul_comm}
use Rattle.gft_range.specs.declared.range.Range.{Range}
use Rattle.gft_layout.specs.declared.Layout.{Layout}
use Rattle.gft_layout.specs.declared.Layout.TheVariants.{Partitioned, Blocked}
use Rattle.gft_layout.specs.declared.Shape.{Shape}
use Rattle.gft_layout.specs.declared.TheConstants.{PARTITION_BLOCK}
use Rattle.gft_layout.specs.Owner.{block_at, IsLayout, IsOwner, Owner}
use Rattle.gft_layout.specs.Plan.{is_sent, plan_of}
use Rattle.gft_layout.specs.Blocks.{channel_blocks, left_in, ranges_every}
use Rattle.gft_layout.proofs.RunLemmas.{AreRuns, AreRuns-back, AreRuns-front, AreRuns-longest, AreRuns-one}
use Rattle.gft_layout.proofs.LeftLemmas.{not_sent, own_sent}
use Rattle.gft_layout.proofs.BlockLemmas.{ranges-none}
use Rattle.gft_layout.proofs.TurnLemmas.{AreRuns-all_turns, TakesTurns}

same_owner : (s s' c c' : ℕ) → s ≡ s' → c ≡ c' → (let o : Owner = record { stripe = s; channel = c } in o) ≡ record { stripe = s'; channel = c' }
same_owner s s' c c' stripes channels =
    let make : ℕ → ℕ → Owner = λ s c. record { stripe = s; channel = c } in
    ap (λ x. make x c) stripes ∙ ap (make s') channels

-- ---- Blocked

-- the remainder by n times p, and those by n and by p
two_digits : (k n p s c : ℕ) → 0 < n → 0 < p → s < n → k % n ≡ s → (k / n) % p ≡ c → k % (n * p) ≡ c * n + s
two_digits k n p s c some_n some_p lt low high =
    ap (λ m. k % m) (mul_comm n p) ∙ mod-mul k some_p some_n ∙ ap (λ d. d * n + k % n) high ∙ ap (λ d. c * n + d) low

low_digit : (k n p s c : ℕ) → 0 < n → 0 < p → s < n → k % (n * p) ≡ c * n + s → k % n ≡ s
low_digit k n p s c some_n some_p lt is =
    let two = sym (mod-mul k some_p some_n) ∙ ap (λ m. k % m) (mul_comm p n) ∙ is in
    sym (mod-mul-add ((k / n) % p) n (k % n) (mod-lt k some_n)) ∙ ap (λ m. m % n) two ∙ mod-mul-add c n s lt

high_digit : (k n p s c : ℕ) → 0 < n → 0 < p → s < n → k % (n * p) ≡ c * n + s → (k / n) % p ≡ c
high_digit k n p s c some_n some_p lt is =
    let two = sym (mod-mul k some_p some_n) ∙ ap (λ m. k % m) (mul_comm p n) ∙ is in
    sym (div-mul-add ((k / n) % p) n (k % n) (mod-lt k some_n)) ∙ ap (λ m. m / n) two ∙ div-mul-add c n s lt

blocked_turns : (region : Range) (done : List Range) (block : ℕ) (shape : Shape) (stripe channel : ℕ) → 0 < block → stripe < shape.stripes → channel < shape.parallel → TakesTurns (is_sent region done (Blocked block) shape stripe channel) (λ x. (block_at region (Blocked block) shape x).number) done region.start block (shape.stripes * shape.parallel) (channel * shape.stripes + stripe) region.end
blocked_turns region done block shape stripe channel some lt_s lt_c =
    let n = shape.stripes in
    let p = shape.parallel in
    let some_n : 0 < n = omega arith in
    let some_p : 0 < p = omega arith in
    let k : ℕ → ℕ = λ x. (x - region.start) / block in
    let far : (channel + 1) * n ≤ p * n = mul-le-mul_right n (omega arith) in
    record {
      some = some;
      turn = omega arith;
      own = λ x from below is. own_sent region done (Blocked block) shape stripe channel x
          (same_owner (k x % n) stripe ((k x / n) % p) channel
          (low_digit (k x) n p stripe channel some_n some_p lt_s is)
          (high_digit (k x) n p stripe channel some_n some_p lt_s is));
      other = λ x from below isn't. not_sent region done (Blocked block) shape stripe channel x (λ is.
          isn't (two_digits (k x) n p stripe channel some_n some_p lt_s
          (ap (λ (o : Owner). o.stripe) is) (ap (λ (o : Owner). o.channel) is)));
      one = λ x y _ _ _ _ same. ap (λ a. a / n) same;
      apart = λ x y _ _ _ _ own_x own_y same.
          let low_x = low_digit (k x) n p stripe channel some_n some_p lt_s own_x in
          let low_y = low_digit (k y) n p stripe channel some_n some_p lt_s own_y in
          sym (div-add-mod (k x) n) ∙ ap (λ a. n * a + k x % n) same ∙ ap (λ a. n * (k y / n) + a) (low_x ∙ sym low_y) ∙ div-add-mod (k y) n;
    }

blocked_runs : (region : Range) (done : List Range) (block : ℕ) (shape : Shape) (stripe channel : ℕ) → 0 < block → stripe < shape.stripes → channel < shape.parallel → AreRuns (is_sent region done (Blocked block) shape stripe channel) (λ x. (block_at region (Blocked block) shape x).number) region.start region.end (flat_map (left_in done) (channel_blocks region (Blocked block) shape stripe channel))
blocked_runs region done block shape stripe channel some lt_s lt_c =
    AreRuns-all_turns (is_sent region done (Blocked block) shape stripe channel) (λ x. (block_at region (Blocked block) shape x).number) done region.start block (shape.stripes * shape.parallel) (channel * shape.stripes + stripe) region.end
    (blocked_turns region done block shape stripe channel some lt_s lt_c)

-- ---- Partitioned

-- the share of a stripe: of w places each, the places of number s
share_of : (w s i : ℕ) → s * w ≤ i → i < s * w + w → i / w ≡ s
share_of w s i low high = div-eq_of_lt-le w low (omega arith)

in_share : (w s i : ℕ) → s * w ≤ i → i < s * w + w → i % w ≡ i - s * w
in_share w s i low high =
    let share = share_of w s i low high in
    let e : w * s ≡ s * w = mul_comm w s in
    mod-eq-sub-mul-div i w ∙ ap (λ q. i - w * q) share ∙ ap (λ a. i - a) e

partitioned_turns : (region : Range) (done : List Range) (shape : Shape) (stripe channel w : ℕ) → w ≡ div_ceil (region.end - region.start) shape.stripes → channel < shape.parallel → TakesTurns (is_sent region done Partitioned shape stripe channel) (λ x. (block_at region Partitioned shape x).number) done (region.start + stripe * w) PARTITION_BLOCK shape.parallel channel (min (region.start + stripe * w + w) region.end)
partitioned_turns region done shape stripe channel w is_w lt_c =
    let s = region.start in
    let o = s + stripe * w in
    let end = min (o + w) region.end in
    let p = shape.parallel in
    let wide = div_ceil (region.end - region.start) shape.stripes in
    let share : (x : ℕ) → o ≤ x → x < end → (x - s) / wide ≡ stripe = λ x from below.
    subst (λ v. (x - s) / v ≡ stripe) is_w (share_of w stripe (x - s) (omega arith) (omega arith)) in
    let inner : (x : ℕ) → o ≤ x → x < end → (x - s) % wide ≡ x - o = λ x from below.
    let e : x - s - stripe * w ≡ x - o = omega arith in
    subst (λ v. (x - s) % v ≡ x - o) is_w (in_share w stripe (x - s) (omega arith) (omega arith) ∙ e) in
    let number : (x : ℕ) → o ≤ x → x < end → ((x - s) % wide) / PARTITION_BLOCK ≡ (x - o) / PARTITION_BLOCK = λ x from below.
    ap (λ i. i / PARTITION_BLOCK) (inner x from below) in
    record {
      some = lit< tt;
      turn = lt_c;
      own = λ x from below is. own_sent region done Partitioned shape stripe channel x
          (same_owner ((x - s) / wide) stripe ((((x - s) % wide) / PARTITION_BLOCK) % p) channel (share x from below)
          (ap (λ a. a % p) (number x from below) ∙ is));
      other = λ x from below isn't. not_sent region done Partitioned shape stripe channel x (λ is.
          isn't (ap (λ a. a % p) (sym (number x from below)) ∙ ap (λ (o : Owner). o.channel) is));
      one = λ x y x_from x_below y_from y_below same. number x x_from x_below ∙ same ∙ sym (number y y_from y_below);
      apart = λ x y x_from x_below y_from y_below _ _ same. sym (number x x_from x_below) ∙ same ∙ number y y_from y_below;
    }

partitioned_runs : (region : Range) (done : List Range) (shape : Shape) (stripe channel w : ℕ) → w ≡ div_ceil (region.end - region.start) shape.stripes → region.start < region.end → stripe < shape.stripes → channel < shape.parallel → AreRuns (is_sent region done Partitioned shape stripe channel) (λ x. (block_at region Partitioned shape x).number) region.start region.end (flat_map (left_in done) (ranges_every (region.start + stripe * w + channel * PARTITION_BLOCK) PARTITION_BLOCK (shape.parallel * PARTITION_BLOCK) (min (region.start + stripe * w + w) region.end)))
partitioned_runs region done shape stripe channel w is_w lt lt_s lt_c =
    let s = region.start in
    let o = s + stripe * w in
    let end = min (o + w) region.end in
    let n = shape.stripes in
    let len = region.end - region.start in
    let wide = div_ceil len n in
    let sent = is_sent region done Partitioned shape stripe channel in
    let number : ℕ → ℕ = λ x. (block_at region Partitioned shape x).number in
    let blocks = flat_map (left_in done) (ranges_every (o + channel * PARTITION_BLOCK) PARTITION_BLOCK (shape.parallel * PARTITION_BLOCK) end) in
    let covers : len ≤ wide * n = (div_ceil_times len n (omega arith)).0 in
    let some : 0 < wide = elim (cases_eq wide 0) [
      | inl zero_wide ↦ let none : wide * n ≡ 0 * n = ap (λ v. v * n) zero_wide in absurd (omega arith)
      | inr ne ↦ omega arith
    ] in
    let turns = AreRuns-all_turns sent number done o PARTITION_BLOCK shape.parallel channel end
    (partitioned_turns region done shape stripe channel w is_w lt_c) in
    let product : stripe * wide ≡ stripe * w = ap (λ v. stripe * v) (sym is_w) in
    let from_o = AreRuns-front sent number s o end blocks (omega arith) (λ x from before below.
    not_sent region done Partitioned shape stripe channel x (λ is.
    let share = ap (λ (o : Owner). o.stripe) is in
    let low : wide * ((x - s) / wide) ≤ x - s = mul-div-le (x - s) wide in
    let e : wide * ((x - s) / wide) ≡ stripe * wide = ap (λ q. wide * q) share ∙ mul_comm wide stripe in
    omega arith)) turns in
    AreRuns-back sent number s end region.end blocks (omega arith) (omega arith) (λ x from below.
    not_sent region done Partitioned shape stripe channel x (λ is.
    let share = ap (λ (o : Owner). o.stripe) is in
    let high : x - s < wide * ((x - s) / wide + 1) = lt-mul-div-succ (x - s) some in
    let e : wide * ((x - s) / wide + 1) ≡ wide * (stripe + 1) = ap (λ q. wide * (q + 1)) share in
    let e' : wide * (stripe + 1) ≡ stripe * wide + wide = omega (arith, mul_comm wide stripe) in
    omega arith)) from_o

-- ---- both

no_blocks : (region : Range) (layout : Layout) (shape : Shape) (stripe channel : ℕ) → region.end ≤ region.start → channel_blocks region layout shape stripe channel ≡ []
no_blocks region Partitioned shape stripe channel le =
    let width = div_ceil (region.end - region.start) shape.stripes in
    let start = region.start + stripe * width in
    let end = min (start + width) region.end in
    let at = start + channel * PARTITION_BLOCK in
    ranges-none at PARTITION_BLOCK (shape.parallel * PARTITION_BLOCK) end (end - at) (omega arith)
no_blocks region (Blocked block) shape stripe channel le =
    let at = region.start + (channel * shape.stripes + stripe) * block in
    ranges-none at block (shape.stripes * shape.parallel * block) region.end (region.end - at) (omega arith)

runs_of_blocks : (region : Range) (done : List Range) (layout : Layout) (shape : Shape) (stripe channel : ℕ) → IsLayout layout → IsOwner shape (record { stripe = stripe; channel = channel }) → region.start < region.end → AreRuns (is_sent region done layout shape stripe channel) (λ x. (block_at region layout shape x).number) region.start region.end (flat_map (left_in done) (channel_blocks region layout shape stripe channel))
runs_of_blocks region done Partitioned shape stripe channel some owner lt =
    partitioned_runs region done shape stripe channel (div_ceil (region.end - region.start) shape.stripes) refl lt owner.stripe owner.channel
runs_of_blocks region done (Blocked block) shape stripe channel some owner lt =
    blocked_runs region done block shape stripe channel (omega arith) owner.stripe owner.channel

pub plan-blocks : (region : Range) (done : List Range) (layout : Layout) (shape : Shape) (stripe channel : ℕ) → IsLayout layout → IsOwner shape (record { stripe = stripe; channel = channel }) → flat_map (left_in done) (channel_blocks region layout shape stripe channel) ≡ plan_of region done layout shape stripe channel
unfolding plan_of
plan-blocks region done layout shape stripe channel some owner =
    let sent = is_sent region done layout shape stripe channel in
    let number : ℕ → ℕ = λ x. (block_at region layout shape x).number in
    let blocks = channel_blocks region layout shape stripe channel in
    elim (cases_lt region.start region.end) [
      | inl lt ↦
          AreRuns-one sent number region.start region.end (flat_map (left_in done) blocks) (plan_of region done layout shape stripe channel)
          (runs_of_blocks region done layout shape stripe channel some owner lt)
          (AreRuns-longest sent number region.start (region.end - region.start) region.end (omega arith))
      | inr le ↦
          let none : region.end - region.start ≡ 0 = omega arith in
          ap (flat_map (left_in done)) (no_blocks region layout shape stripe channel le) ∙ rw none refl
    ]
