-- The laws of plans.
use Rattle.std.proofs.Common.{◌≡◌, ℕ, ◌+◌, ◌-◌, ◌*◌, ◌%◌, ◌<◌, ◌≤◌, Bool, true, List, [], ◌∷◌, inl, inr, arith, refl, sym, subst, ap, ◌∙◌}
use Rattle.std.specs.List.{AllByRecursion}
use Rattle.std.specs.Int.{div_ceil}
use Rattle.std.proofs.lemmas.Bool.{cases_lt, cases_eq, both_ways}
use Rattle.std.proofs.lemmas.Grind.{div_ceil_times}
use Rattle.std.proofs.Math.Nat.{div-lt_iff_lt-mul, mod-lt}
use Rattle.gft_range.specs.declared.range.Range.{Range}
use Rattle.gft_range.specs.Words.{HasOffset, InRange}
use Rattle.gft_layout.specs.declared.Layout.{Layout}
use Rattle.gft_layout.specs.declared.Layout.TheVariants.{Partitioned, Blocked}
use Rattle.gft_layout.specs.declared.Shape.{Shape}
use Rattle.gft_layout.specs.Owner.{block_at, IsOwner, IsShape, LayoutBlock, Owner, owner_of}
use Rattle.gft_layout.specs.Plan.{is_sent, plan_of}
use Rattle.gft_layout.specs.Runs.{BeginsFrom, IsAscending, IsLongestRun, NamesItsOffsets}
use Rattle.gft_layout.proofs.RunLemmas.{AreRuns, AreRuns-longest}
use Rattle.gft_layout.proofs.LeftLemmas.{owner_sent, sent_owner}

-- ---- runs ascend, and have the places that are sent

begins_from : (sent : ℕ → Bool) (number : ℕ → ℕ) (x end : ℕ) (rs : List Range) → AreRuns sent number x end rs → BeginsFrom x rs
begins_from sent number x end [] runs = tt
begins_from sent number x end (r ∷ rs) runs = runs.0.from

ascending : (sent : ℕ → Bool) (number : ℕ → ℕ) (x end : ℕ) (rs : List Range) → AreRuns sent number x end rs → IsAscending rs
ascending sent number x end [] runs = tt
ascending sent number x end (r ∷ rs) runs =
    (runs.0.non_empty, begins_from sent number r.end end rs runs.1, ascending sent number r.end end rs runs.1)

-- an offset of a run is sent
offset_sent : (sent : ℕ → Bool) (number : ℕ → ℕ) (x end : ℕ) (rs : List Range) → AreRuns sent number x end rs → (y : ℕ) → HasOffset rs y → (x ≤ y) × (y < end) × (sent y ≡ true)
offset_sent sent number x end [] runs y had = absurd had
offset_sent sent number x end (r ∷ rs) runs y had =
    let first = runs.0 in
    let low = first.from in
    let high = first.within in
    let full = first.non_empty in
    elim had [
      | inl here ↦ (omega arith, omega arith, first.inside y here.0 here.1)
      | inr later ↦ let rest = offset_sent sent number r.end end rs runs.1 y later in (omega arith, rest.1, rest.2)
    ]

-- a place that is sent is in a run
sent_offset : (sent : ℕ → Bool) (number : ℕ → ℕ) (x end : ℕ) (rs : List Range) → AreRuns sent number x end rs → (y : ℕ) → x ≤ y → y < end → sent y ≡ true → HasOffset rs y
sent_offset sent number x end [] runs y from below is = absurd (both_ways (sent y) (runs y from below) is)
sent_offset sent number x end (r ∷ rs) runs y from below is =
    elim (cases_lt y r.start) [
      | inl low ↦ absurd (both_ways (sent y) (runs.0.before y from low) is)
      | inr high ↦ elim (cases_lt y r.end) [
        | inl here ↦ inl (high, here)
        | inr past ↦ inr (sent_offset sent number r.end end rs runs.1 y past below is)
      ]
    ]

plan_runs : (region : Range) (done : List Range) (layout : Layout) (shape : Shape) (stripe channel : ℕ) → AreRuns (is_sent region done layout shape stripe channel) (λ x. (block_at region layout shape x).number) region.start (region.start + (region.end - region.start)) (plan_of region done layout shape stripe channel)
unfolding plan_of
plan_runs region done layout shape stripe channel =
    AreRuns-longest (is_sent region done layout shape stripe channel) (λ x. (block_at region layout shape x).number)
    region.start (region.end - region.start) (region.start + (region.end - region.start)) refl

pub NamesItsOffsets-plan : (region : Range) (done : List Range) (layout : Layout) (shape : Shape) (owner : Owner) → NamesItsOffsets region done layout shape owner (plan_of region done layout shape owner.stripe owner.channel)
NamesItsOffsets-plan region done layout shape owner =
    let sent = is_sent region done layout shape owner.stripe owner.channel in
    let number : ℕ → ℕ = λ x. (block_at region layout shape x).number in
    let end = region.start + (region.end - region.start) in
    let plan = plan_of region done layout shape owner.stripe owner.channel in
    let runs = plan_runs region done layout shape owner.stripe owner.channel in
    record {
      ascending = ascending sent number region.start end plan runs;
      offsets = λ x. (
        λ had.
            let is = offset_sent sent number region.start end plan runs x had in
            let own = sent_owner region done layout shape owner.stripe owner.channel x is.2 in
            let low = is.0 in
            let high = is.1 in
            (((low, omega arith), own.0), own.1),
        λ left.
            let inside = left.0.0 in
            let low = inside.0 in
            let high = inside.1 in
            sent_offset sent number region.start end plan runs x low (omega arith)
            (owner_sent region done layout shape owner x left.0.1 left.1),
      );
    }

-- ---- runs are longest

-- the place below x isn't in one run with x
Edge : (ℕ → Bool) → (ℕ → ℕ) → Range → ℕ → Type 0
Edge sent number region x = (y : ℕ) → y + 1 ≡ x → region.start ≤ y → x < region.end → sent x ≡ true → number x ≡ number y → ⊥

longest : (region : Range) (done : List Range) (layout : Layout) (shape : Shape) (stripe channel x : ℕ) (rs : List Range) → region.start ≤ x → AreRuns (is_sent region done layout shape stripe channel) (λ x. (block_at region layout shape x).number) x region.end rs → Edge (is_sent region done layout shape stripe channel) (λ x. (block_at region layout shape x).number) region x → AllByRecursion (IsLongestRun region done layout shape) rs
unfolding Edge
longest region done layout shape stripe channel x [] from runs edge = tt
longest region done layout shape stripe channel x (r ∷ rs) from runs edge =
    let first = runs.0 in
    let low = first.from in
    let high = first.within in
    let full = first.non_empty in
    let owner : Owner = record { stripe = stripe; channel = channel } in
    let own = λ (y : ℕ) (here : r.start ≤ y) (below : y < r.end).
    sent_owner region done layout shape stripe channel y (first.inside y here below) in
    let first_own = own r.start (omega arith) full in
    let sends = λ (y : ℕ) (left : HasOffset done y → ⊥) (same : block_at region layout shape y ≡ block_at region layout shape r.start).
    owner_sent region done layout shape owner y left
    (ap (λ (b : LayoutBlock). let o : Owner = record { stripe = b.stripe; channel = b.number % shape.parallel } in o) same ∙ first_own.1) in (
      record {
        non_empty = full;
        inside = λ y inside.
            let here = own y inside.0 inside.1 in
            let stripes = ap (λ (o : Owner). o.stripe) here.1 ∙ sym (ap (λ (o : Owner). o.stripe) first_own.1) in
            let make : ℕ → ℕ → LayoutBlock = λ s n. record { stripe = s; number = n } in
            let start = inside.0 in
            let end = inside.1 in (
              ((omega arith, omega arith), here.0),
              ap (λ s. make s (block_at region layout shape y).number) stripes
                  ∙ ap (λ n. make (block_at region layout shape r.start).stripe n) (first.same y inside.0 inside.1),
            );
        before = λ y next left same.
            let is = sends y left.1 same in
            elim (cases_lt y x) [
              | inl lt ↦
                  let at : r.start ≡ x = omega arith in
                  let here : y + 1 ≡ x = omega arith in
                  let start = first.inside r.start (omega arith) full in
                  edge y here left.0.0 (omega arith) (subst (λ z. is_sent region done layout shape stripe channel z ≡ true) at start)
                  (ap (λ z. (block_at region layout shape z).number) (sym at) ∙ sym (ap (λ (b : LayoutBlock). b.number) same))
              | inr le ↦ both_ways (is_sent region done layout shape stripe channel y) (first.before y le (omega arith)) is
            ];
        behind = λ left same.
            first.behind left.0.1 (sends r.end left.1 same) (ap (λ (b : LayoutBlock). b.number) same);
      },
      longest region done layout shape stripe channel r.end rs (omega arith) runs.1 (λ y next start below is same.
          first.behind below is (same ∙ first.same y (omega arith) (omega arith))),
    )

pub plan_longest : (region : Range) (done : List Range) (layout : Layout) (shape : Shape) (stripe channel : ℕ) → AllByRecursion (IsLongestRun region done layout shape) (plan_of region done layout shape stripe channel)
unfolding plan_of Edge
plan_longest region done layout shape stripe channel =
    elim (cases_lt region.start region.end) [
      | inl lt ↦
          let all : region.start + (region.end - region.start) ≡ region.end = omega arith in
          let sent = is_sent region done layout shape stripe channel in
          let number : ℕ → ℕ = λ x. (block_at region layout shape x).number in
          let plan = plan_of region done layout shape stripe channel in
          longest region done layout shape stripe channel region.start plan (omega arith)
          (subst (λ end. AreRuns sent number region.start end plan) all (plan_runs region done layout shape stripe channel))
          (λ y next start below is same. absurd (omega arith))
      | inr le ↦
          let none : region.end - region.start ≡ 0 = omega arith in
          rw none tt
    ]

-- ---- each place has an owner

pub owner_within : (region : Range) (layout : Layout) (shape : Shape) (x : ℕ) → IsShape shape → InRange region x → IsOwner shape (owner_of region layout shape x)
owner_within region Partitioned shape x fit inside =
    let low = inside.0 in
    let high = inside.1 in
    let n = shape.stripes in
    let a_stripe : 0 < n = omega (arith, fit.a_stripe) in
    let a_channel : 0 < shape.parallel = omega (arith, fit.a_channel) in
    let len = region.end - region.start in
    let width = div_ceil len n in
    let covers : len ≤ width * n = (div_ceil_times len n a_stripe).0 in
    let some : 0 < width = elim (cases_eq width 0) [
      | inl zero_width ↦ let none : width * n ≡ 0 * n = ap (λ w. w * n) zero_width in absurd (omega arith)
      | inr ne ↦ omega arith
    ] in
    let below : x - region.start < n * width = omega arith in
    record {
      stripe = (div-lt_iff_lt-mul some).1 below;
      channel = mod-lt _ a_channel;
    }
owner_within region (Blocked block) shape x fit inside =
    let a_stripe : 0 < shape.stripes = omega (arith, fit.a_stripe) in
    let a_channel : 0 < shape.parallel = omega (arith, fit.a_channel) in
    record { stripe = mod-lt _ a_stripe; channel = mod-lt _ a_channel }
