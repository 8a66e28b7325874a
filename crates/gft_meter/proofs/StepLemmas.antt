-- Each step on a meter keeps its rule.
use Rattle.std.proofs.Common.{◌≡◌, ◌≢◌, ℕ, ◌+◌, ◌*◌, ◌^◌, ◌%◌, ◌<◌, ◌≤◌, List, [], ◌∷◌, ◌++◌, set, Bool, true, refl, sym, ap, ◌∙◌, subst, ⊎_elim, length-set, arith}
use Rattle.std.specs.Prelude.{slice_index, sum_by, if◌then◌else◌}
use Rattle.std.proofs.Math.Nat.{mod-eq_of_lt}
use Rattle.std.proofs.lemmas.List.{get_or-set_same, get_or-set_other, set-get_or}
use Rattle.std.proofs.lemmas.List.Sums.{sum_by_push}
use mathlib.Core.Option.{some}
use mathlib.Core.Logic.{dite}
use native.Mathlib.Decide.{ℕ_discrete}
use lib.ListN.{get_elem?}
use Rattle.atomic_table.proofs.Lists.{at_set, at_snoc, set_else, set_again}
use Rattle.gft_meter.specs.declared.view.Add.{Add}
use Rattle.gft_meter.specs.declared.view.View.{View}
use Rattle.gft_meter.specs.Adds.{added_on, most_added}
use Rattle.gft_meter.specs.Views.{word_of, spent, with_add, behind_deal, newcomer, together, shares, IsBounded, AreSums, Shows}
use Rattle.gft_meter.proofs.AddLemmas.{added_on-append, added_on-cons, added_on-cons_other}
use Rattle.gft_meter.proofs.SumLemmas.{IsBoundedBy, sum_by-set, sum_by-at, sum_by-bounded, sum_by-alone}

-- ---- sums of one view

-- what was added through a seat on a stripe
abbrev on : ℕ → View → ℕ
on stripe v = added_on stripe v.adds

live_shares : (v : View) → v.is_live ≡ true → shares v ≡ v.rights + 1
live_shares v live = ap (λ (b : Bool). if b then v.rights + 1 else 0) live

nothing_bounded : (v : View) → v.adds ≡ [] → IsBounded v
nothing_bounded v nothing stripe =
    let none : added_on stripe v.adds ≡ 0 = ap (λ (l : List Add). added_on stripe l) nothing in omega (arith, none)

-- ---- the bounds of all views

abbrev AreBounded : List View → Type 0
AreBounded views = (i : ℕ) (v : View) → get_elem? views i ≡ some v → IsBounded v

bounded_set : (views : List View) (id : ℕ) (w : View) → AreBounded views → IsBounded w → AreBounded (set views id w)
bounded_set views id w all mine j u at =
    ⊎_elim
    (λ (x : (j ≡ id) × (w ≡ u)). subst IsBounded x.1 mine)
    (λ (x : (j ≢ id) × (get_elem? views j ≡ some u)). all j u x.1)
    (at_set views id j w u at)

bounded_push : (views : List View) (w : View) → AreBounded views → IsBounded w → AreBounded (views ++ w ∷ [])
bounded_push views w all mine j u at = ⊎_elim (λ x. all j u x) (λ (x : w ≡ u). subst IsBounded x mine) (at_snoc views w u j at)

on_bounded : (views : List View) → AreBounded views → (stripe : ℕ) → IsBoundedBy (on stripe) shares views
on_bounded views all stripe i v at = all i v at stripe

-- ---- adding

abbrev grown : List ℕ → ℕ → ℕ → List ℕ
grown words place bytes = set words place ((slice_index words place + bytes) % 2 ^ 64)

adds_here : (stripes : ℕ) (words : List ℕ) (views : List View) (id : ℕ) (v : View) (stripe bytes : ℕ) → v.is_live ≡ true → stripe < stripes → on stripe v + bytes ≤ most_added → AreSums stripes words views → get_elem? views id ≡ some v
    → AreSums stripes (grown words (word_of stripe) bytes) (set views id (with_add stripe bytes v))
adds_here stripes words views id v stripe bytes live below small h at =
    let w = with_add stripe bytes v in
    let place : ℕ = word_of stripe in
    let all = sum_by-bounded (on stripe) shares views (on_bounded views h.3 stripe) in
    let low : slice_index words place + bytes < 2 ^ 64 = omega (arith, small, all, h.1, h.2 stripe) in
    let next : ℕ = (slice_index words place + bytes) % 2 ^ 64 in
    let whole : next ≡ slice_index words place + bytes = mod-eq_of_lt low in
    let here = added_on-cons stripe bytes v.adds in (
      length-set words place next ∙ h.0,
      (let sums = sum_by-set shares views id v w at in omega (arith, sums, h.1)),
      λ k. dite (ℕ_discrete k stripe)
          (λ e. subst (λ (j : ℕ). slice_index (set words place next) (word_of j) ≡ sum_by (on j) (set views id w)) (sym e)
          (let word : slice_index (set words place next) place ≡ next = get_or-set_same words place next 0 (omega (arith, h.0, below)) in
          let sums = sum_by-set (on stripe) views id v w at in
          omega (arith, word, whole, sums, here, h.2 stripe)))
          (λ ne.
          let word : slice_index (set words place next) (word_of k) ≡ slice_index words (word_of k) = get_or-set_other words place (word_of k) next 0 (λ e. ne (omega arith)) in
          let sums = sum_by-set (on k) views id v w at in
          omega (arith, word, sums, added_on-cons_other k stripe bytes v.adds ne, h.2 k)),
      bounded_set views id w h.3
          (λ k. dite (ℕ_discrete k stripe)
          (λ e. subst (λ (j : ℕ). on j w ≤ shares w * most_added) (sym e) (omega (arith, here, small, live_shares v live)))
          (λ ne. let mine = h.3 id v at k in omega (arith, mine, added_on-cons_other k stripe bytes v.adds ne))),
    )

pub adds : (stripes : ℕ) (words : List ℕ) (views : List View) (id : ℕ) (v : View) (stripe bytes place : ℕ) → place ≡ word_of stripe → v.is_live ≡ true → stripe < stripes → on stripe v + bytes ≤ most_added → AreSums stripes words views → get_elem? views id ≡ some v
    → AreSums stripes (grown words place bytes) (set views id (with_add stripe bytes v))
adds stripes words views id v stripe bytes place is_place live below small h at =
    subst (λ (p : ℕ). AreSums stripes (grown words p bytes) (set views id (with_add stripe bytes v))) (sym is_place) (adds_here stripes words views id v stripe bytes live below small h at)

-- two stripes don't have one word
pub word_of-one : (place stripe k : ℕ) → place ≡ word_of stripe → place ≡ word_of k → stripe ≡ k
word_of-one place stripe k is_place is_other = omega arith

-- ---- reading

pub stays : (stripes : ℕ) (words : List ℕ) (views : List View) (id : ℕ) (v : View) (place : ℕ) → AreSums stripes words views → get_elem? views id ≡ some v
    → AreSums stripes (set words place (slice_index words place)) (set views id v)
stays stripes words views id v place h at =
    subst (λ (p : List ℕ × List View). AreSums stripes p.0 p.1) (λ i. (sym (set-get_or words place 0) i, sym (set_again views id v at) i)) h

shows_here : (stripes : ℕ) (words : List ℕ) (views : List View) (id : ℕ) (v : View) (stripe : ℕ) → v.is_live ≡ true → AreSums stripes words views → get_elem? views id ≡ some v
    → Shows stripe (slice_index words (word_of stripe)) v
shows_here stripes words views id v stripe live h at =
    let bounded = on_bounded views h.3 stripe in
    let all = sum_by-bounded (on stripe) shares views bounded in (
      omega (arith, h.2 stripe, sum_by-at (on stripe) views id v at),
      λ has_all.
          let whole : shares v ≡ sum_by shares views = omega (arith, has_all, live_shares v live, h.1) in
          h.2 stripe ∙ sum_by-alone (on stripe) shares views id v bounded at whole,
      omega (arith, all, h.1, h.2 stripe),
    )

pub shows : (stripes : ℕ) (words : List ℕ) (views : List View) (id : ℕ) (v : View) (place stripe : ℕ) → v.is_live ≡ true → AreSums stripes words views → get_elem? views id ≡ some v
    → place ≡ word_of stripe → Shows stripe (slice_index words place) v
shows stripes words views id v place stripe live h at is_place =
    subst (λ (p : ℕ). Shows stripe (slice_index words p) v) (sym is_place) (shows_here stripes words views id v stripe live h at)

-- ---- splitting and joining

pub splits : (stripes : ℕ) (words : List ℕ) (views : List View) (id : ℕ) (v : View) → v.is_live ≡ true → 0 < v.rights → v.adds ≡ [] → AreSums stripes words views → get_elem? views id ≡ some v
    → AreSums stripes words (set views id (behind_deal v) ++ newcomer ∷ [])
splits stripes words views id v live some_right nothing h at =
    let w = behind_deal v in
    let rest = set views id w in (
      h.0,
      (let sums = sum_by-set shares views id v w at in
          omega (arith, sums, sum_by_push shares rest newcomer, live_shares v live, some_right, h.1)),
      λ k.
          let sums = sum_by-set (on k) views id v w at in
          omega (arith, sums, sum_by_push (on k) rest newcomer, h.2 k),
      bounded_push rest newcomer (bounded_set views id w h.3 (nothing_bounded w nothing)) (nothing_bounded newcomer refl),
    )

pub joins : (stripes : ℕ) (words : List ℕ) (views : List View) (id : ℕ) (v : View) (other : ℕ) (w : View) → v.is_live ≡ true → w.is_live ≡ true → AreSums stripes words views → get_elem? views id ≡ some v → (other ≡ id → ⊥)
    → get_elem? (set views id (together v w)) other ≡ some w → AreSums stripes words (set (set views id (together v w)) other spent)
joins stripes words views id v other w live too h at apart there =
    let both = together v w in
    let first = set views id both in
    let theirs : get_elem? views other ≡ some w = sym (set_else views id other both apart) ∙ there in
    let on_both : (k : ℕ) → on k both ≡ on k v + on k w = λ k. added_on-append k v.adds w.adds in (
      h.0,
      (let sums = sum_by-set shares views id v both at in
          let rest = sum_by-set shares first other w spent there in
          omega (arith, sums, rest, live_shares v live, live_shares w too, h.1)),
      λ k.
          let sums = sum_by-set (on k) views id v both at in
          let rest = sum_by-set (on k) first other w spent there in
          omega (arith, sums, rest, on_both k, h.2 k),
      bounded_set first other spent
          (bounded_set views id both h.3
          (λ k. let mine = h.3 id v at k in let its = h.3 other w theirs k in omega (arith, mine, its, on_both k, live_shares v live, live_shares w too)))
          (nothing_bounded spent refl),
    )
