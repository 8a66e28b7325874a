-- Longest runs of places: what they are, that there is one list of them, and how they stand together.
use Rattle.std.proofs.Common.{◌≡◌, ℕ, zero, suc, ◌+◌, ◌-◌, ◌<◌, ◌≤◌, Bool, true, false, ◌&&◌, eqb, List, [], ◌∷◌, ◌++◌, inl, inr, arith, refl, sym, subst, ap, ◌∙◌}
use Rattle.std.proofs.lemmas.Bool.{cases_Bool, cases_lt, cases_eq, and_parts, and_from, eqb-true, eq-eqb, both_ways}
use Rattle.gft_range.specs.declared.range.Range.{Range}
use Rattle.gft_range.specs.Words.{BeginsAbove, HasOffset, IsNormal}
use Rattle.gft_layout.specs.Plan.{join_first, longest_runs}

-- from x on, and below end, this run is the first
pub record IsFirstRun (sent : ℕ → Bool) (number : ℕ → ℕ) (x end : ℕ) (r : Range) : Type 0 where
  pub from : x ≤ r.start
  pub non_empty : r.start < r.end
  pub within : r.end ≤ end
  pub before : (y : ℕ) → x ≤ y → y < r.start → sent y ≡ false
  pub inside : (y : ℕ) → r.start ≤ y → y < r.end → sent y ≡ true
  pub same : (y : ℕ) → r.start ≤ y → y < r.end → number y ≡ number r.start
  pub behind : r.end < end → sent r.end ≡ true → number r.end ≡ number r.start → ⊥

-- from x up to end, these are the longest runs of places that are sent and have one number
abbrev pub AreRuns : (ℕ → Bool) → (ℕ → ℕ) → ℕ → ℕ → List Range → Type 0
AreRuns sent number x end [] = (y : ℕ) → x ≤ y → y < end → sent y ≡ false
AreRuns sent number x end (r ∷ rs) = IsFirstRun sent number x end r × AreRuns sent number r.end end rs

-- places that aren't sent may stand before them
pub AreRuns-front : (sent : ℕ → Bool) (number : ℕ → ℕ) (x mid end : ℕ) (rs : List Range) → x ≤ mid → ((y : ℕ) → x ≤ y → y < mid → y < end → sent y ≡ false) → AreRuns sent number mid end rs → AreRuns sent number x end rs
AreRuns-front sent number x mid end [] le none runs = λ y from below.
    elim (cases_lt y mid) [ inl lt ↦ none y from lt below | inr past ↦ runs y past below ]
AreRuns-front sent number x mid end (r ∷ rs) le none runs =
    let first = runs.0 in (
      record {
        from = omega (arith, first.from);
        non_empty = first.non_empty;
        within = first.within;
        before = λ y from lt. elim (cases_lt y mid) [
          | inl low ↦ none y from low (omega (arith, first.non_empty, first.within))
          | inr past ↦ first.before y past lt
        ];
        inside = first.inside;
        same = first.same;
        behind = first.behind;
      },
      runs.1,
    )

-- a place that is sent stands before them
AreRuns-join_first : (sent : ℕ → Bool) (number : ℕ → ℕ) (x end : ℕ) (rs : List Range) → x < end → sent x ≡ true → AreRuns sent number (x + 1) end rs → AreRuns sent number x end (join_first number x rs)
AreRuns-join_first sent number x end [] lt is_sent runs = (
  record {
    from = omega arith;
    non_empty = omega arith;
    within = omega arith;
    before = λ y from below. absurd (omega arith);
    inside = λ y from below. let e : y ≡ x = omega arith in rw e is_sent;
    same = λ y from below. let e : y ≡ x = omega arith in rw e refl;
    behind = λ below sends same. both_ways (sent (x + 1)) (runs (x + 1) (omega arith) below) sends;
  },
  runs,
)
AreRuns-join_first sent number x end (r ∷ rs) lt is_sent runs =
    let first = runs.0 in
    let from = first.from in
    let full = first.non_empty in
    let within = first.within in
    elim (cases_Bool (eqb r.start (x + 1) && eqb (number r.start) (number x))) [
      | inl joins ↦
          let parts = and_parts (eqb r.start (x + 1)) (eqb (number r.start) (number x)) joins in
          let start = eqb-true r.start (x + 1) parts.0 in
          let one = eqb-true (number r.start) (number x) parts.1 in
          rw joins (
            record {
              from = omega arith;
              non_empty = omega arith;
              within = within;
              before = λ y low below. absurd (omega arith);
              inside = λ y low below. elim (cases_eq y x) [
                | inl e ↦ rw e is_sent
                | inr ne ↦ first.inside y (omega arith) below
              ];
              same = λ y low below. elim (cases_eq y x) [
                | inl e ↦ rw e refl
                | inr ne ↦ first.same y (omega arith) below ∙ one
              ];
              behind = λ below sends same. first.behind below sends (same ∙ sym one);
            },
            runs.1,
          )
      | inr apart ↦ rw apart (
        record {
          from = omega arith;
          non_empty = omega arith;
          within = omega arith;
          before = λ y low below. absurd (omega arith);
          inside = λ y low below. let e : y ≡ x = omega arith in rw e is_sent;
          same = λ y low below. let e : y ≡ x = omega arith in rw e refl;
          behind = λ below sends same. elim (cases_eq r.start (x + 1)) [
            | inl e ↦ both_ways (eqb r.start (x + 1) && eqb (number r.start) (number x)) apart
                (and_from (eqb r.start (x + 1)) (eqb (number r.start) (number x)) (eq-eqb r.start (x + 1) e)
                (eq-eqb (number r.start) (number x) (ap number e ∙ same)))
            | inr ne ↦ both_ways (sent (x + 1)) (first.before (x + 1) (omega arith) (omega arith)) sends
          ];
        },
        runs,
      )
    ]

-- `longest_runs` gives them
pub AreRuns-longest : (sent : ℕ → Bool) (number : ℕ → ℕ) (x n end : ℕ) → x + n ≡ end → AreRuns sent number x end (longest_runs sent number x n)
AreRuns-longest sent number x zero end e = λ y from below. absurd (omega arith)
AreRuns-longest sent number x (suc n) end e =
    let later = AreRuns-longest sent number (x + 1) n end (omega arith) in
    let lt : x < end = omega arith in
    elim (cases_Bool (sent x)) [
      | inl sends ↦ rw sends (AreRuns-join_first sent number x end (longest_runs sent number (x + 1) n) lt sends later)
      | inr rests ↦ rw rests (AreRuns-front sent number x (x + 1) end (longest_runs sent number (x + 1) n) (omega arith)
          (λ y from low below. let same : y ≡ x = omega arith in rw same rests) later)
    ]

-- ---- one list of runs

first_begins : (sent : ℕ → Bool) (number : ℕ → ℕ) (x end : ℕ) (r q : Range) → IsFirstRun sent number x end r → IsFirstRun sent number x end q → r.start ≤ q.start
first_begins sent number x end r q a b =
    elim (cases_lt q.start r.start) [
      | inl lt ↦ absurd (both_ways (sent q.start) (a.before q.start b.from lt) (b.inside q.start (omega arith) b.non_empty))
      | inr le ↦ le
    ]

first_ends : (sent : ℕ → Bool) (number : ℕ → ℕ) (x end : ℕ) (r q : Range) → IsFirstRun sent number x end r → IsFirstRun sent number x end q → r.start ≡ q.start → q.end ≤ r.end
first_ends sent number x end r q a b starts =
    elim (cases_lt r.end q.end) [
      | inl lt ↦
          let full = a.non_empty in
          let within = b.within in
          absurd (a.behind (omega arith) (b.inside r.end (omega arith) lt)
          (b.same r.end (omega arith) lt ∙ ap number (sym starts)))
      | inr le ↦ le
    ]

pub AreRuns-one : (sent : ℕ → Bool) (number : ℕ → ℕ) (x end : ℕ) (a b : List Range) → AreRuns sent number x end a → AreRuns sent number x end b → a ≡ b
AreRuns-one sent number x end [] [] runs_a runs_b = refl
AreRuns-one sent number x end [] (q ∷ b) runs_a runs_b =
    let first = runs_b.0 in
    absurd (both_ways (sent q.start) (runs_a q.start first.from (omega (arith, first.non_empty, first.within)))
    (first.inside q.start (omega arith) first.non_empty))
AreRuns-one sent number x end (r ∷ a) [] runs_a runs_b =
    let first = runs_a.0 in
    absurd (both_ways (sent r.start) (runs_b r.start first.from (omega (arith, first.non_empty, first.within)))
    (first.inside r.start (omega arith) first.non_empty))
AreRuns-one sent number x end (r ∷ a) (q ∷ b) runs_a runs_b =
    let low = first_begins sent number x end r q runs_a.0 runs_b.0 in
    let high = first_begins sent number x end q r runs_b.0 runs_a.0 in
    let starts : r.start ≡ q.start = omega arith in
    let starts' : q.start ≡ r.start = omega arith in
    let ends_low = first_ends sent number x end r q runs_a.0 runs_b.0 starts in
    let ends_high = first_ends sent number x end q r runs_b.0 runs_a.0 starts' in
    let ends : r.end ≡ q.end = omega arith in
    let ends' : q.end ≡ r.end = omega arith in
    let make : ℕ → ℕ → Range = λ s e. record { start = s; end = e } in
    let same : r ≡ q = ap (λ s. make s r.end) starts ∙ ap (λ e. make q.start e) ends in
    let tail : AreRuns sent number r.end end b = subst (λ m. AreRuns sent number m end b) ends' runs_b.1 in
    let tails = AreRuns-one sent number r.end end a b runs_a.1 tail in
    ap (λ first. first ∷ a) same ∙ ap (λ rest. q ∷ rest) tails

-- ---- runs side by side

pub AreRuns-append : (sent : ℕ → Bool) (number : ℕ → ℕ) (x mid end : ℕ) (a b : List Range) → x ≤ mid → mid ≤ end → AreRuns sent number x mid a → AreRuns sent number mid end b → (mid < end → sent mid ≡ true → number mid ≡ number (mid - 1) → ⊥) → AreRuns sent number x end (a ++ b)
AreRuns-append sent number x mid end [] b le within runs_a runs_b apart =
    AreRuns-front sent number x mid end b le (λ y from low below. runs_a y from low) runs_b
AreRuns-append sent number x mid end (r ∷ a) b le within runs_a runs_b apart =
    let first = runs_a.0 in
    let full = first.non_empty in
    let inner = first.within in (
      record {
        from = first.from;
        non_empty = full;
        within = omega arith;
        before = first.before;
        inside = first.inside;
        same = first.same;
        behind = λ below sends same. elim (cases_lt r.end mid) [
          | inl lt ↦ first.behind lt sends same
          | inr past ↦
              let at : r.end ≡ mid = omega arith in
              let last = first.same (mid - 1) (omega arith) (omega arith) in
              apart (omega arith) (ap sent (sym at) ∙ sends) (ap number (sym at) ∙ same ∙ sym last)
        ];
      },
      AreRuns-append sent number r.end mid end a b inner within runs_a.1 runs_b apart,
    )

-- places that aren't sent may stand behind them
pub AreRuns-back : (sent : ℕ → Bool) (number : ℕ → ℕ) (x mid end : ℕ) (rs : List Range) → x ≤ mid → mid ≤ end → ((y : ℕ) → mid ≤ y → y < end → sent y ≡ false) → AreRuns sent number x mid rs → AreRuns sent number x end rs
AreRuns-back sent number x mid end [] le within none runs = λ y from below.
    elim (cases_lt y mid) [ inl lt ↦ runs y from lt | inr past ↦ none y past below ]
AreRuns-back sent number x mid end (r ∷ rs) le within none runs =
    let first = runs.0 in
    let inner = first.within in (
      record {
        from = first.from;
        non_empty = first.non_empty;
        within = omega arith;
        before = first.before;
        inside = first.inside;
        same = first.same;
        behind = λ below sends same. elim (cases_lt r.end mid) [
          | inl lt ↦ first.behind lt sends same
          | inr past ↦ both_ways (sent r.end) (none r.end past below) sends
        ];
      },
      AreRuns-back sent number r.end mid end rs inner within none runs.1,
    )

-- runs by another number, where both have one number all along
pub AreRuns-at : (sent test : ℕ → Bool) (number other : ℕ → ℕ) (x end : ℕ) (rs : List Range) → ((y : ℕ) → x ≤ y → y < end → test y ≡ sent y) → ((y z : ℕ) → x ≤ y → y < end → x ≤ z → z < end → number y ≡ number z) → ((y z : ℕ) → x ≤ y → y < end → x ≤ z → z < end → other y ≡ other z) → AreRuns sent number x end rs → AreRuns test other x end rs
AreRuns-at sent test number other x end [] tests one another runs = λ y from below. tests y from below ∙ runs y from below
AreRuns-at sent test number other x end (r ∷ rs) tests one another runs =
    let first = runs.0 in
    let low = first.from in
    let full = first.non_empty in
    let high = first.within in (
      record {
        from = first.from;
        non_empty = first.non_empty;
        within = first.within;
        before = λ y from below. tests y from (omega arith) ∙ first.before y from below;
        inside = λ y from below. tests y (omega arith) (omega arith) ∙ first.inside y from below;
        same = λ y from below. another y r.start (omega arith) (omega arith) low (omega arith);
        behind = λ below sends same. first.behind below (sym (tests r.end (omega arith) below) ∙ sends)
            (one r.end r.start (omega arith) below low (omega arith));
      },
      AreRuns-at sent test number other r.end end rs (λ y from below. tests y (omega arith) below)
          (λ y z y_from y_below z_from z_below. one y z (omega arith) y_below (omega arith) z_below)
          (λ y z y_from y_below z_from z_below. another y z (omega arith) y_below (omega arith) z_below) runs.1,
    )

-- what lies behind an offset in a normal list
below_all : (qs : List Range) (e : ℕ) → BeginsAbove e qs → IsNormal qs → (y : ℕ) → HasOffset qs y → e < y
below_all [] e above normal y had = absurd had
below_all (q ∷ qs) e above normal y had =
    let full : q.start < q.end = normal.0 in
    elim had [ inl here ↦ omega arith | inr later ↦ let far = below_all qs q.end normal.1 normal.2 y later in omega arith ]

-- the normal list of the places that are sent, where all have one number
pub AreRuns-normal : (sent : ℕ → Bool) (number : ℕ → ℕ) (x end : ℕ) (rs : List Range) → IsNormal rs → ((y : ℕ) → HasOffset rs y → (x ≤ y) × (y < end) × (sent y ≡ true)) → ((y : ℕ) → x ≤ y → y < end → (HasOffset rs y → ⊥) → sent y ≡ false) → ((y z : ℕ) → x ≤ y → y < end → x ≤ z → z < end → number y ≡ number z) → AreRuns sent number x end rs
AreRuns-normal sent number x end [] normal has lacks one = λ y from below. lacks y from below (λ none. none)
AreRuns-normal sent number x end (r ∷ rs) normal has lacks one =
    let full : r.start < r.end = normal.0 in
    let head = has r.start (inl (omega arith, full)) in
    let last = has (r.end - 1) (inl (omega arith, omega arith)) in
    let high : r.end ≤ end = omega (arith, last.1) in
    let low : x ≤ r.start = head.0 in
    let above = below_all rs r.end normal.1 normal.2 in (
      record {
        from = low;
        non_empty = full;
        within = high;
        before = λ y from below. lacks y from (omega arith) (λ had. elim had [
          | inl here ↦ omega arith
          | inr later ↦ omega (arith, above y later)
        ]);
        inside = λ y from below. (has y (inl (from, below))).2;
        same = λ y from below. one y r.start (omega arith) (omega arith) low (omega arith);
        behind = λ below sends same. both_ways (sent r.end) (lacks r.end (omega arith) below (λ had. elim had [
          | inl here ↦ omega arith
          | inr later ↦ omega (arith, above r.end later)
        ])) sends;
      },
      AreRuns-normal sent number r.end end rs normal.2
          (λ y had. let all = has y (inr had) in (omega (arith, above y had), all.1, all.2))
          (λ y from below out. lacks y (omega arith) below (λ had. elim had [ inl here ↦ omega arith | inr later ↦ out later ]))
          (λ y z y_from y_below z_from z_below. one y z (omega arith) y_below (omega arith) z_below),
    )
