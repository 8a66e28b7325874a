-- The layout blocks of a channel: how the next is found, also at the top of 64 bits, and that what is left of them is the plan.
use Rattle.std.proofs.Common.{◌≡◌, ℕ, zero, suc, ◌+◌, ◌-◌, ◌<◌, ◌≤◌, min, List, [], ◌∷◌, inl, inr, arith, refl, sym, ap, ◌∙◌}
use Rattle.std.proofs.lemmas.Bool.{cases_lt, lt-ltb, le-ltb}
use Rattle.gft_range.specs.declared.range.Range.{Range}
use Rattle.gft_layout.specs.Blocks.{ranges_every, some_ranges}

-- no range begins at the end or above it
pub ranges-none : (at len step end n : ℕ) → end ≤ at → some_ranges at len step end n ≡ []
ranges-none at len step end zero le = refl
ranges-none at len step end (suc n) le = rw (le-ltb at end le)

-- more ranges than there are serve as well
ranges-enough : (n m at len step end : ℕ) → 0 < step → end ≤ at + n → end ≤ at + m → some_ranges at len step end n ≡ some_ranges at len step end m
ranges-enough zero m at len step end some few enough = sym (ranges-none at len step end m (omega arith))
ranges-enough (suc n) zero at len step end some few enough = ranges-none at len step end (suc n) (omega arith)
ranges-enough (suc n) (suc m) at len step end some few enough =
    elim (cases_lt at end) [
      | inl lt ↦ rw (lt-ltb at end lt)
          (let first : Range = record { start = at; end = min (at + len) end } in
          ap (λ rest. first ∷ rest) (ranges-enough n m (at + step) len step end some (omega arith) (omega arith)))
      | inr le ↦ rw (le-ltb at end le)
    ]

-- the first range, and those behind it
ranges-first : (at len step end : ℕ) → 0 < step → at < end → ranges_every at len step end ≡ (record { start = at; end = min (at + len) end }) ∷ ranges_every (at + step) len step end
ranges-first at len step end some lt =
    ranges-enough (end - at) (suc (end - at)) at len step end some (omega arith) (omega arith)
    ∙ rw (lt-ltb at end lt)
    (let first : Range = record { start = at; end = min (at + len) end } in
    ap (λ rest. first ∷ rest)
    (ranges-enough (end - at) (end - (at + step)) (at + step) len step end some (omega arith) (omega arith)))

-- a start that would lie above the top lies behind the end too
ranges-capped : (top at len step end : ℕ) → end ≤ top → ranges_every (min at top) len step end ≡ ranges_every at len step end
ranges-capped top at len step end below =
    elim (cases_lt at top) [
      | inl lt ↦ let e : min at top ≡ at = omega arith in ap (λ a. ranges_every a len step end) e
      | inr past ↦ ranges-none (min at top) len step end (end - min at top) (omega arith) ∙ sym (ranges-none at len step end (end - at) (omega arith))
    ]

-- so does a step above the top
ranges-step_capped : (top at len step end : ℕ) → end ≤ top → 0 < step → ranges_every at len (min step top) end ≡ ranges_every at len step end
ranges-step_capped top at len step end below some =
    elim (cases_lt step top) [
      | inl lt ↦ let e : min step top ≡ step = omega arith in ap (λ s. ranges_every at len s end) e
      | inr past ↦ elim (cases_lt at end) [
        | inr done ↦ ranges-none at len (min step top) end (end - at) done ∙ sym (ranges-none at len step end (end - at) done)
        | inl lt ↦
            let capped : 0 < min step top = omega arith in
            let first : Range = record { start = at; end = min (at + len) end } in
            let e = ranges-none (at + min step top) len (min step top) end (end - (at + min step top)) (omega arith) ∙ sym (ranges-none (at + step) len step end (end - (at + step)) (omega arith)) in
            ranges-first at len (min step top) end capped lt ∙ ap (λ rest. first ∷ rest) e ∙ sym (ranges-first at len step end some lt)
      ]
    ]

-- where start and step are capped
pub ranges-both_capped : (top at len step end : ℕ) → end ≤ top → 0 < step → ranges_every (min at top) len (min step top) end ≡ ranges_every at len step end
ranges-both_capped top at len step end below some =
    ranges-step_capped top (min at top) len step end below some ∙ ranges-capped top at len step end below

-- what one call of the iterator gives
pub ranges-next : (top at len step end : ℕ) → end ≤ top → 0 < step → at < end → ranges_every at len step end ≡ (record { start = at; end = min (min (at + len) top) end }) ∷ ranges_every (min (at + step) top) len step end
ranges-next top at len step end below some lt =
    let e : min (at + len) end ≡ min (min (at + len) top) end = omega arith in
    let rest = sym (ranges-capped top (at + step) len step end below) in
    let make : ℕ → List Range → List Range = λ (stop : ℕ) (others : List Range). record { start = at; end = stop } ∷ others in
    ranges-first at len step end some lt ∙ ap (λ stop. make stop (ranges_every (at + step) len step end)) e
    ∙ ap (make (min (min (at + len) top) end)) rest
