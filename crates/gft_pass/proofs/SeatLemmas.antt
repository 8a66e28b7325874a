-- Each step on a transfer's table keeps its rule.
use Rattle.std.proofs.Common.{◌≡◌, ◌≢◌, ◌⊎◌, ℕ, zero, suc, ◌+◌, ◌<◌, List, [], ◌∷◌, ◌++◌, length, set, replicate, inl, inr, true, false, true≢false, refl, sym, ap, ◌∙◌, subst, ⊎_elim, arith}
use Rattle.std.specs.Prelude.{slice_index_or}
use mathlib.Core.Option.{some, some-ne-none, some-injective}
use lib.ListN.{get_elem?}
use Rattle.atomic_table.proofs.Lists.{at_set, at_snoc, set_here, set_else}
use Rattle.gft_pass.specs.declared.numbers.Numbers.{Numbers}
use Rattle.gft_pass.specs.declared.view.View.{View}
use Rattle.gft_pass.specs.Ledger.{nothing}
use Rattle.gft_pass.proofs.LedgerLemmas.{IsAt-below}
use Rattle.gft_pass.specs.Views.{blank_view, opening_view, behind_deal, next_lane, with_lane, without_lane, its_lane, changed, IsListed, AgreesWith, AllAgree, HaveOwnLanes, AreSeats}

off : false ≡ true → ⊥
off e = true≢false (sym e)

module _ {A : Type 0} where
  at_end : (l : List A) (a b : A) (j : ℕ) → get_elem? (l ++ a ∷ []) j ≡ some b → (get_elem? l j ≡ some b) ⊎ ((j ≡ length l) × (a ≡ b))
  at_end [] a b zero e = inr (refl, some-injective a b e)
  at_end [] a b (suc j) e = absurd (some-ne-none b (sym e))
  at_end (x ∷ xs) a b zero e = inl e
  at_end (x ∷ xs) a b (suc j) e = ⊎_elim (λ t. inl t) (λ t. inr (ap suc t.0, t.1)) (at_end xs a b j e)

  set_comm : (l : List A) (i j : ℕ) (a b : A) → i ≢ j → set (set l i a) j b ≡ set (set l j b) i a
  set_comm [] i j a b n = refl
  set_comm (x ∷ xs) zero zero a b n = absurd (n refl)
  set_comm (x ∷ xs) zero (suc j) a b n = refl
  set_comm (x ∷ xs) (suc i) zero a b n = refl
  set_comm (x ∷ xs) (suc i) (suc j) a b n = ap (λ l. x ∷ l) (set_comm xs i j a b (λ e. n (ap suc e)))

index_get : (l : List Numbers) (i : ℕ) → i < length l → get_elem? l i ≡ some (slice_index_or l i nothing)
index_get [] i h = absurd (omega arith)
index_get (x ∷ xs) zero h = refl
index_get (x ∷ xs) (suc i) h = index_get xs i (omega arith)

fit_set : (seat : ℕ) (counts : List Numbers) (dealt : ℕ) (views : List View) (by : ℕ) (w : View) → ((j : ℕ) (u : View) → j ≢ by → get_elem? views j ≡ some u → AgreesWith seat counts dealt j u) → AgreesWith seat counts dealt by w → AllAgree seat counts dealt (set views by w)
fit_set seat counts dealt views by w others mine j u e =
    ⊎_elim
    (λ (x : (j ≡ by) × (w ≡ u)). subst (λ (y : ℕ × View). AgreesWith seat counts dealt y.0 y.1) (λ i. (sym x.0 i, x.1 i)) mine)
    (λ (x : (j ≢ by) × (get_elem? views j ≡ some u)). others j u x.0 x.1)
    (at_set views by j w u e)

fit_end : (seat : ℕ) (counts : List Numbers) (dealt : ℕ) (views : List View) (w : View) → AllAgree seat counts dealt views → ((j : ℕ) → AgreesWith seat counts dealt j w) → AllAgree seat counts dealt (views ++ w ∷ [])
fit_end seat counts dealt views w others mine j u e =
    ⊎_elim
    (λ (x : get_elem? views j ≡ some u). others j u x)
    (λ (x : w ≡ u). subst (AgreesWith seat counts dealt j) x (mine j))
    (at_snoc views w u j e)

-- no other seat has the lane of w
abbrev Free : List View → ℕ → View → Type 0
Free views by w = (j : ℕ) (u : View) → j ≢ by → get_elem? views j ≡ some u → w.has_lane ≡ true → u.has_lane ≡ true → w.lane ≡ u.lane → ⊥

apart_set : (views : List View) (by : ℕ) (w : View) → HaveOwnLanes views → Free views by w → HaveOwnLanes (set views by w)
apart_set views by w apart free i j v u e f hv hu same =
    ⊎_elim
    (λ (x : (i ≡ by) × (w ≡ v)). ⊎_elim
    (λ (y : (j ≡ by) × (w ≡ u)). x.0 ∙ sym y.0)
    (λ (y : (j ≢ by) × (get_elem? views j ≡ some u)). absurd (free j u y.0 y.1 (ap (λ (z : View). z.has_lane) x.1 ∙ hv) hu (ap (λ (z : View). z.lane) x.1 ∙ same)))
    (at_set views by j w u f))
    (λ (x : (i ≢ by) × (get_elem? views i ≡ some v)). ⊎_elim
    (λ (y : (j ≡ by) × (w ≡ u)). absurd (free i v x.0 x.1 (ap (λ (z : View). z.has_lane) y.1 ∙ hu) hv (ap (λ (z : View). z.lane) y.1 ∙ sym same)))
    (λ (y : (j ≢ by) × (get_elem? views j ≡ some u)). apart i j v u x.1 y.1 hv hu same)
    (at_set views by j w u f))
    (at_set views by i w v e)

apart_end : (views : List View) (w : View) → HaveOwnLanes views → ((j : ℕ) (u : View) → get_elem? views j ≡ some u → w.has_lane ≡ true → u.has_lane ≡ true → w.lane ≡ u.lane → ⊥) → HaveOwnLanes (views ++ w ∷ [])
apart_end views w apart free i j v u e f hv hu same =
    ⊎_elim
    (λ (x : get_elem? views i ≡ some v). ⊎_elim
    (λ (y : get_elem? views j ≡ some u). apart i j v u x y hv hu same)
    (λ (y : (j ≡ length views) × (w ≡ u)). absurd (free i v x (ap (λ (z : View). z.has_lane) y.1 ∙ hu) hv (ap (λ (z : View). z.lane) y.1 ∙ sym same)))
    (at_end views w u j f))
    (λ (x : (i ≡ length views) × (w ≡ v)). ⊎_elim
    (λ (y : get_elem? views j ≡ some u). absurd (free j u y (ap (λ (z : View). z.has_lane) x.1 ∙ hv) hu (ap (λ (z : View). z.lane) x.1 ∙ same)))
    (λ (y : (j ≡ length views) × (w ≡ u)). x.0 ∙ sym y.0)
    (at_end views w u j f))
    (at_end views w v i e)

pub opens : (lanes : ℕ) → AreSeats (opening_view lanes ∷ [])
opens lanes = (0, replicate lanes nothing, 0, fit, apart)
  where
    fit : AllAgree 0 (replicate lanes nothing) 0 (opening_view lanes ∷ [])
    fit zero v e = subst (AgreesWith 0 (replicate lanes nothing) 0 0) (some-injective _ _ e) ((λ _. (refl, refl, refl)), (λ h. absurd (off h)))
    fit (suc by) v e = absurd (some-ne-none v (sym e))

    apart : HaveOwnLanes (opening_view lanes ∷ [])
    apart zero zero v w e f hv hw same = refl
    apart zero (suc j) v w e f hv hw same = absurd (some-ne-none w (sym f))
    apart (suc i) j v w e f hv hw same = absurd (some-ne-none v (sym e))

pub enters : (views : List View) → AreSeats views → AreSeats (views ++ blank_view ∷ [])
enters views h = (h.0, h.1, h.2, fit_end h.0 h.1 h.2 views blank_view h.3 (λ j. ((λ k. absurd (off k)), (λ k. absurd (off k)))), apart_end views blank_view h.4 (λ j u e k _ _. off k))

pub deals : (views : List View) (id : ℕ) (v : View) → v.keeps_list ≡ true → v.dealt < length v.counts → AreSeats views → get_elem? views id ≡ some v → AreSeats (set views id (behind_deal v) ++ next_lane v ∷ [])
deals views id v keeps room h at =
    let k = (h.3 id v at).0 keeps in
    let left = behind_deal v in
    let right = next_lane v in
    let more : (j : ℕ) (u : View) → j ≢ id → get_elem? views j ≡ some u → AgreesWith h.0 h.1 (v.dealt + 1) j u = λ j u apart e. (
      (λ ku. absurd (apart (((h.3 j u e).0 ku).0 ∙ sym k.0))),
      (λ hu. let f = (h.3 j u e).1 hu in let m = k.2 in (omega arith, f.1)),
    ) in
    let there : get_elem? h.1 v.dealt ≡ some (slice_index_or v.counts v.dealt nothing) = ap (λ c. get_elem? c v.dealt) (sym k.1) ∙ index_get v.counts v.dealt room in (
      h.0,
      h.1,
      v.dealt + 1,
      fit_end h.0 h.1 (v.dealt + 1) (set views id left) right
          (fit_set h.0 h.1 (v.dealt + 1) views id left more ((λ _. (k.0, k.1, refl)), (λ e. absurd (off e))))
          (λ j. ((λ e. absurd (off e)), (λ _. (omega arith, there)))),
      apart_end (set views id left) right
          (apart_set views id left h.4 (λ j u _ _ e _ _. off e))
          (λ j u e _ hu same. ⊎_elim
          (λ (x : (j ≡ id) × (left ≡ u)). off (ap (λ (z : View). z.has_lane) x.1 ∙ hu))
          (λ (x : (j ≢ id) × (get_elem? views j ≡ some u)). let f = ((h.3 j u x.1).1 hu).0 in let m = k.2 in omega arith)
          (at_set views id j left u e)),
    )

pub joins : (views : List View) (id : ℕ) (v : View) (other : ℕ) (w : View) → AreSeats views → get_elem? views id ≡ some v → (other ≡ id → ⊥) → get_elem? (set views id (with_lane v w)) other ≡ some w → AreSeats (set (set views id (with_lane v w)) other blank_view)
joins views id v other w h at ne there =
    let both = with_lane v w in
    let theirs : get_elem? views other ≡ some w = sym (set_else views id other both ne) ∙ there in (
      h.0,
      h.1,
      h.2,
      fit_set h.0 h.1 h.2 (set views id both) other blank_view
          (λ j u _ e. fit_set h.0 h.1 h.2 views id both (λ i y _ e'. h.3 i y e') ((h.3 id v at).0, (h.3 other w theirs).1) j u e)
          ((λ k. absurd (off k)), (λ k. absurd (off k))),
      subst HaveOwnLanes (set_comm views other id blank_view both ne)
          (apart_set (set views other blank_view) id both
          (apart_set views other blank_view h.4 (λ j u _ _ k _ _. off k))
          (λ j u apart e hw hu same. ⊎_elim
          (λ (x : (j ≡ other) × (blank_view ≡ u)). off (ap (λ (z : View). z.has_lane) x.1 ∙ hu))
          (λ (x : (j ≢ other) × (get_elem? views j ≡ some u)). x.0 (sym (h.4 other j w u theirs x.1 hw hu same)))
          (at_set views other j blank_view u e))),
    )

pub listed : (views : List View) (id : ℕ) (v : View) → v.keeps_list ≡ true → v.has_lane ≡ true → AreSeats views → get_elem? views id ≡ some v → IsListed v
listed views id v keeps has h at = let f = h.3 id v at in ap (λ c. get_elem? c v.lane) (f.0 keeps).1 ∙ (f.1 has).1

pub grows : (views : List View) (id : ℕ) (v : View) (n : Numbers) → v.keeps_list ≡ true → v.has_lane ≡ true → AreSeats views → get_elem? views id ≡ some v → AreSeats (set views id (changed n v))
grows views id v n keeps has h at =
    let f = h.3 id v at in
    let k = f.0 keeps in
    let m = f.1 has in
    let w = changed n v in
    let here : v.lane < length v.counts = IsAt-below v.counts v.lane v.count (listed views id v keeps has h at) in (
      h.0,
      w.counts,
      h.2,
      fit_set h.0 w.counts h.2 views id w
          (λ j u apart e. let g = h.3 j u e in (
            (λ ku. absurd (apart ((g.0 ku).0 ∙ sym k.0))),
            (λ hu. ((g.1 hu).0, set_else v.counts v.lane u.lane n (λ same. apart (sym (h.4 id j v u at e has hu (sym same)))) ∙ ap (λ c. get_elem? c u.lane) k.1 ∙ (g.1 hu).1)),
          ))
          ((λ _. (k.0, refl, k.2)), (λ _. (m.0, set_here v.counts v.lane n here))),
      apart_set views id w h.4 (λ j u apart e _ hu same. apart (sym (h.4 id j v u at e has hu same))),
    )

pub gives_back : (views : List View) (id : ℕ) (v : View) → v.keeps_list ≡ true → v.has_lane ≡ true → AreSeats views → get_elem? views id ≡ some v → AreSeats (set views id (without_lane v) ++ its_lane v ∷ [])
gives_back views id v keeps has h at =
    let f = h.3 id v at in
    let k = f.0 keeps in
    let left = without_lane v in
    let right = its_lane v in (
      h.0,
      h.1,
      h.2,
      fit_end h.0 h.1 h.2 (set views id left) right
          (fit_set h.0 h.1 h.2 views id left (λ j u _ e. h.3 j u e) ((λ _. k), (λ e. absurd (off e))))
          (λ j. ((λ e. absurd (off e)), (λ _. f.1 has))),
      apart_end (set views id left) right
          (apart_set views id left h.4 (λ j u _ _ e _ _. off e))
          (λ j u e _ hu same. ⊎_elim
          (λ (x : (j ≡ id) × (left ≡ u)). off (ap (λ (z : View). z.has_lane) x.1 ∙ hu))
          (λ (x : (j ≢ id) × (get_elem? views j ≡ some u)). x.0 (sym (h.4 id j v u at x.1 has hu same)))
          (at_set views id j left u e)),
    )
