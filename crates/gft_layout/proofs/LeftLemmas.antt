-- What is left of a range, and which offsets a channel sends.
use Rattle.std.proofs.Common.{◌≡◌, ℕ, ◌-◌, ◌<◌, ◌≤◌, true, false, not, ◌&&◌, eqb, leb, ltb, List, [], ◌∷◌, inl, inr, arith, refl, sym, ap, ◌∙◌}
use Rattle.std.proofs.lemmas.Bool.{cases_Bool, cases_lt, and_parts, and_from, or_cases, or_left, or_right, leb-true, ltb-true, le-leb, lt-ltb, eqb-true, eq-eqb, both_ways, not-true, not_from_false, false_from_ne_true}
use Rattle.gft_range.specs.declared.range.Range.{Range}
use Rattle.gft_range.specs.Words.{HasOffset, IsMissing, IsNormal}
use Rattle.gft_layout.specs.declared.Layout.{Layout}
use Rattle.gft_layout.specs.declared.Shape.{Shape}
use Rattle.gft_layout.specs.Owner.{Owner, owner_of}
use Rattle.gft_layout.specs.Plan.{is_in, is_sent, longest_runs}
use Rattle.gft_layout.specs.Blocks.{left_in}
use Rattle.gft_layout.proofs.RunLemmas.{AreRuns, AreRuns-longest, AreRuns-normal, AreRuns-one}

-- ---- the test of an offset

pub is_in-HasOffset : (rs : List Range) (x : ℕ) → is_in rs x ≡ true → HasOffset rs x
is_in-HasOffset [] x is = absurd (cc)
is_in-HasOffset (r ∷ rs) x is =
    elim (or_cases (leb r.start x && ltb x r.end) (is_in rs x) is) [
      | inl here ↦
          let parts = and_parts (leb r.start x) (ltb x r.end) here in
          inl (leb-true r.start x parts.0, ltb-true x r.end parts.1)
      | inr later ↦ inr (is_in-HasOffset rs x later)
    ]

pub HasOffset-is_in : (rs : List Range) (x : ℕ) → HasOffset rs x → is_in rs x ≡ true
HasOffset-is_in [] x had = absurd had
HasOffset-is_in (r ∷ rs) x had =
    elim had [
      | inl here ↦ or_left (leb r.start x && ltb x r.end) (is_in rs x)
          (and_from (leb r.start x) (ltb x r.end) (le-leb r.start x here.0) (lt-ltb x r.end here.1))
      | inr later ↦ or_right (leb r.start x && ltb x r.end) (is_in rs x) (HasOffset-is_in rs x later)
    ]

pub not_in : (rs : List Range) (x : ℕ) → (HasOffset rs x → ⊥) → is_in rs x ≡ false
not_in rs x out = false_from_ne_true (is_in rs x) (λ is. out (is_in-HasOffset rs x is))

pub out_of : (rs : List Range) (x : ℕ) → is_in rs x ≡ false → HasOffset rs x → ⊥
out_of rs x is had = both_ways (is_in rs x) is (HasOffset-is_in rs x had)

-- ---- what is left

pub AreRuns-left_in : (done : List Range) (r : Range) → r.start ≤ r.end → AreRuns (λ x. not (is_in done x)) (λ _. 0) r.start r.end (left_in done r)
AreRuns-left_in done r le = AreRuns-longest (λ x. not (is_in done x)) (λ _. 0) r.start (r.end - r.start) r.end (omega arith)

-- an empty range has nothing left
pub left_in-empty : (done : List Range) (r : Range) → r.end ≤ r.start → left_in done r ≡ []
left_in-empty done r le =
    let none : r.end - r.start ≡ 0 = omega arith in
    ap (longest_runs (λ x. not (is_in done x)) (λ _. 0) r.start) none

empty_list : (rs : List Range) → IsNormal rs → ((x : ℕ) → HasOffset rs x → ⊥) → rs ≡ []
empty_list [] normal none = refl
empty_list (r ∷ rs) normal none =
    let full : r.start < r.end = normal.0 in absurd (none r.start (inl (omega arith, full)))

-- what a set leaves out of a range
pub left_in-IsMissing : (done : List Range) (r : Range) (missing : List Range) → IsMissing done r missing → missing ≡ left_in done r
left_in-IsMissing done r missing gone =
    elim (cases_lt r.start r.end) [
      | inl lt ↦
          AreRuns-one (λ x. not (is_in done x)) (λ _. 0) r.start r.end missing (left_in done r)
          (AreRuns-normal (λ x. not (is_in done x)) (λ _. 0) r.start r.end missing gone.normal
          (λ y had. let out = (gone.offsets y).0 had in (out.0.0, out.0.1, not_from_false (is_in done y) (not_in done y out.1)))
          (λ y from below lacks. elim (cases_Bool (is_in done y)) [
            | inl is ↦ rw is refl
            | inr is ↦ absurd (lacks ((gone.offsets y).1 ((from, below), out_of done y is)))
          ])
          (λ y z _ _ _ _. refl))
          (AreRuns-left_in done r (omega arith))
      | inr le ↦
          empty_list missing gone.normal (λ x had. let out = (gone.offsets x).0 had in let inside = out.0 in omega arith)
          ∙ sym (left_in-empty done r le)
    ]

-- ---- which offsets a channel sends

pub sent_owner : (region : Range) (done : List Range) (layout : Layout) (shape : Shape) (stripe channel x : ℕ) → is_sent region done layout shape stripe channel x ≡ true → (HasOffset done x → ⊥) × (owner_of region layout shape x ≡ (record { stripe = stripe; channel = channel }))
sent_owner region done layout shape stripe channel x is =
    let owner = owner_of region layout shape x in
    let parts = and_parts (not (is_in done x)) (eqb owner.stripe stripe && eqb owner.channel channel) is in
    let both = and_parts (eqb owner.stripe stripe) (eqb owner.channel channel) parts.1 in
    let stripes = eqb-true owner.stripe stripe both.0 in
    let channels = eqb-true owner.channel channel both.1 in
    let make : ℕ → ℕ → Owner = λ s c. record { stripe = s; channel = c } in (
      out_of done x (not-true (is_in done x) parts.0),
      ap (λ s. make s owner.channel) stripes ∙ ap (λ c. make stripe c) channels,
    )

pub owner_sent : (region : Range) (done : List Range) (layout : Layout) (shape : Shape) (owner : Owner) (x : ℕ) → (HasOffset done x → ⊥) → owner_of region layout shape x ≡ owner → is_sent region done layout shape owner.stripe owner.channel x ≡ true
owner_sent region done layout shape owner x out is =
    let own = owner_of region layout shape x in
    and_from (not (is_in done x)) (eqb own.stripe owner.stripe && eqb own.channel owner.channel)
    (not_from_false (is_in done x) (not_in done x out))
    (and_from (eqb own.stripe owner.stripe) (eqb own.channel owner.channel)
    (eq-eqb own.stripe owner.stripe (ap (λ (o : Owner). o.stripe) is))
    (eq-eqb own.channel owner.channel (ap (λ (o : Owner). o.channel) is)))

-- what another stripe or channel sends
pub not_sent : (region : Range) (done : List Range) (layout : Layout) (shape : Shape) (stripe channel x : ℕ) → (owner_of region layout shape x ≡ (record { stripe = stripe; channel = channel }) → ⊥) → is_sent region done layout shape stripe channel x ≡ false
not_sent region done layout shape stripe channel x other =
    false_from_ne_true (is_sent region done layout shape stripe channel x)
    (λ is. other (sent_owner region done layout shape stripe channel x is).1)

-- what it sends of its own places is what isn't done
pub own_sent : (region : Range) (done : List Range) (layout : Layout) (shape : Shape) (stripe channel x : ℕ) → owner_of region layout shape x ≡ (record { stripe = stripe; channel = channel }) → is_sent region done layout shape stripe channel x ≡ not (is_in done x)
own_sent region done layout shape stripe channel x is =
    elim (cases_Bool (is_in done x)) [
      | inl gone ↦ rw gone refl
      | inr left ↦
          owner_sent region done layout shape (record { stripe = stripe; channel = channel }) x (out_of done x left) is
          ∙ sym (not_from_false (is_in done x) left)
    ]
