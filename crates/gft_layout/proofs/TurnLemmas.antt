-- Blocks that a channel takes in turn: what is left of them is what it sends.
use Rattle.std.proofs.Common.{◌≡◌, ℕ, zero, suc, ◌+◌, ◌-◌, ◌*◌, ◌/◌, ◌%◌, ◌<◌, ◌≤◌, min, Bool, true, false, not, List, inl, inr, arith, refl, sym, subst, ap, ◌∙◌}
use Rattle.std.specs.List.{flat_map}
use Rattle.std.proofs.lemmas.Bool.{cases_lt, cases_eq, both_ways, lt-ltb, le-ltb}
use Rattle.std.proofs.Math.Nat.{div-add-mod, div-eq_of_lt-le, mod-eq_of_lt, add-mod_right, mul-le-mul_left, mul-le-mul_right}
use Rattle.gft_range.specs.declared.range.Range.{Range}
use Rattle.gft_layout.specs.Plan.{is_in}
use Rattle.gft_layout.specs.Blocks.{left_in, ranges_every, some_ranges}
use Rattle.gft_layout.proofs.RunLemmas.{AreRuns, AreRuns-append, AreRuns-at, AreRuns-front}
use Rattle.gft_layout.proofs.LeftLemmas.{AreRuns-left_in}

-- ---- division

-- the number of the piece of u places in which y lies
piece_of : (u q y : ℕ) → q * u ≤ y → y < q * u + u → y / u ≡ q
piece_of u q y low high = div-eq_of_lt-le u low (omega arith)

-- two numbers with one remainder are no less than the divisor apart
remainder_once : (m a b : ℕ) → a < b → b < a + m → b % m ≡ a % m → ⊥
remainder_once m a b lt near same =
    let at_a = div-add-mod a m in
    let at_b = div-add-mod b m in
    elim (cases_lt (a / m) (b / m)) [
      | inl less ↦
          let far : m * (a / m + 1) ≤ m * (b / m) = mul-le-mul_left m (omega arith) in
          omega arith
      | inr no_less ↦
          let far : m * (b / m) ≤ m * (a / m) = mul-le-mul_left m no_less in
          omega arith
    ]

-- ---- turns

-- from o on, and below end, the channel sends what isn't done of the pieces of u places whose number has the remainder r by m
pub record TakesTurns (sent : ℕ → Bool) (number : ℕ → ℕ) (done : List Range) (o u m r end : ℕ) : Type 0 where
  pub some : 0 < u
  pub turn : r < m
  pub own : (x : ℕ) → o ≤ x → x < end → ((x - o) / u) % m ≡ r → sent x ≡ not (is_in done x)
  pub other : (x : ℕ) → o ≤ x → x < end → (((x - o) / u) % m ≡ r → ⊥) → sent x ≡ false
  pub one : (x y : ℕ) → o ≤ x → x < end → o ≤ y → y < end → (x - o) / u ≡ (y - o) / u → number x ≡ number y
  pub apart : (x y : ℕ) → o ≤ x → x < end → o ≤ y → y < end → ((x - o) / u) % m ≡ r → ((y - o) / u) % m ≡ r → number x ≡ number y → (x - o) / u ≡ (y - o) / u

-- what is left of the first of its blocks
first_block : (sent : ℕ → Bool) (number : ℕ → ℕ) (done : List Range) (o u m r end at q : ℕ) → TakesTurns sent number done o u m r end → at ≡ o + q * u → q % m ≡ r → at < end → AreRuns sent number at (min (at + u) end) (left_in done (record { start = at; end = min (at + u) end }))
first_block sent number done o u m r end at q turns begins turn lt =
    let some = turns.some in
    let block : Range = record { start = at; end = min (at + u) end } in
    let piece = λ (y : ℕ) (from : at ≤ y) (below : y < min (at + u) end).
    piece_of u q (y - o) (omega arith) (omega arith) in
    AreRuns-at (λ x. not (is_in done x)) sent (λ _. 0) number at (min (at + u) end) (left_in done block)
    (λ y from below. turns.own y (omega arith) (omega arith) (ap (λ k. k % m) (piece y from below) ∙ turn))
    (λ y z _ _ _ _. refl)
    (λ y z y_from y_below z_from z_below. turns.one y z (omega arith) (omega arith) (omega arith) (omega arith)
    (piece y y_from y_below ∙ sym (piece z z_from z_below)))
    (AreRuns-left_in done block (omega arith))

-- between two of its blocks it sends nothing
between : (sent : ℕ → Bool) (number : ℕ → ℕ) (done : List Range) (o u m r end at q : ℕ) → TakesTurns sent number done o u m r end → at ≡ o + q * u → q % m ≡ r → (y : ℕ) → at + u ≤ y → y < at + m * u → y < end → sent y ≡ false
between sent number done o u m r end at q turns begins turn y from before below =
    let some = turns.some in
    let place = y - o in
    let k = place / u in
    let at_k = div-add-mod place u in
    turns.other y (omega arith) below (λ same.
    let after : q < k = elim (cases_lt q k) [
      | inl lt ↦ lt
      | inr le ↦ let far : u * k ≤ u * q = mul-le-mul_left u le in absurd (omega arith)
    ] in
    let near : k < q + m = elim (cases_lt k (q + m)) [
      | inl lt ↦ lt
      | inr le ↦ let far : u * (q + m) ≤ u * k = mul-le-mul_left u le in absurd (omega arith)
    ] in
    remainder_once m q k after near (same ∙ sym turn))

-- its next block is another one
next_apart : (sent : ℕ → Bool) (number : ℕ → ℕ) (done : List Range) (o u m r end at q : ℕ) → TakesTurns sent number done o u m r end → at ≡ o + q * u → q % m ≡ r → at < end → min (at + u) end < end → sent (min (at + u) end) ≡ true → number (min (at + u) end) ≡ number (min (at + u) end - 1) → ⊥
next_apart sent number done o u m r end at q turns begins turn lt below sends same =
    let some = turns.some in
    let e : min (at + u) end ≡ at + u = omega arith in
    let mid = at + u in
    let last = mid - 1 in
    let sends' = subst (λ x. sent x ≡ true) e sends in
    let same' = subst (λ x. number x ≡ number (x - 1)) e same in
    let this = piece_of u q (last - o) (omega arith) (omega arith) in
    let next = piece_of u (q + 1) (mid - o) (omega arith) (omega arith) in
    elim (cases_eq (((mid - o) / u) % m) r) [
      | inr other ↦ both_ways (sent mid) (turns.other mid (omega arith) (omega arith) other) sends'
      | inl own ↦
          let two = turns.apart mid last (omega arith) (omega arith) (omega arith) (omega arith) own (ap (λ k. k % m) this ∙ turn) same' in
          omega (arith, two, this, next)
    ]

-- from one of its blocks on
AreRuns-turns : (sent : ℕ → Bool) (number : ℕ → ℕ) (done : List Range) (o u m r end n at q : ℕ) → TakesTurns sent number done o u m r end → at ≡ o + q * u → q % m ≡ r → end ≤ at + n → AreRuns sent number at end (flat_map (left_in done) (some_ranges at u (m * u) end n))
AreRuns-turns sent number done o u m r end zero at q turns begins turn enough = λ y from below. absurd (omega arith)
AreRuns-turns sent number done o u m r end (suc n) at q turns begins turn enough =
    elim (cases_lt at end) [
      | inr le ↦ rw (le-ltb at end le) (λ y from below. absurd (omega arith))
      | inl lt ↦
          let some = turns.some in
          let first_turn = turns.turn in
          let mid = min (at + u) end in
          let wide : 1 * u ≤ m * u = mul-le-mul_right u (omega arith) in
          let rest = flat_map (left_in done) (some_ranges (at + m * u) u (m * u) end n) in
          let later = AreRuns-turns sent number done o u m r end n (at + m * u) (q + m) turns (omega arith)
          (add-mod_right q m ∙ turn) (omega arith) in
          let behind = AreRuns-front sent number mid (at + m * u) end rest (omega arith)
          (λ y from before below. between sent number done o u m r end at q turns begins turn y (omega arith) before below) later in
          rw (lt-ltb at end lt)
          (AreRuns-append sent number at mid end (left_in done (record { start = at; end = mid })) rest
          (omega arith) (omega arith) (first_block sent number done o u m r end at q turns begins turn lt) behind
          (next_apart sent number done o u m r end at q turns begins turn lt))
    ]

-- all of them
pub AreRuns-all_turns : (sent : ℕ → Bool) (number : ℕ → ℕ) (done : List Range) (o u m r end : ℕ) → TakesTurns sent number done o u m r end → AreRuns sent number o end (flat_map (left_in done) (ranges_every (o + r * u) u (m * u) end))
AreRuns-all_turns sent number done o u m r end turns =
    let some = turns.some in
    let turn = turns.turn in
    let at = o + r * u in
    AreRuns-front sent number o at end (flat_map (left_in done) (ranges_every at u (m * u) end)) (omega arith)
    (λ y from before below.
    let place = y - o in
    let k = place / u in
    let at_k = div-add-mod place u in
    let less : k < r = elim (cases_lt k r) [
      | inl lt ↦ lt
      | inr le ↦ let far : u * r ≤ u * k = mul-le-mul_left u le in absurd (omega arith)
    ] in
    let itself : k % m ≡ k = mod-eq_of_lt (omega arith) in
    turns.other y from below (λ same. omega arith))
    (AreRuns-turns sent number done o u m r end (end - at) at r turns refl (mod-eq_of_lt turn) (omega arith))
