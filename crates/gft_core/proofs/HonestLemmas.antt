-- What honest blocks leave is what was sent.
use Rattle.std.proofs.Common.{◌≡◌, ℕ, zero, suc, ◌<◌, ◌≤◌, List, [], ◌∷◌, length, Some, None, refl, sym, ◌∙◌, inl, inr, ⊎_elim, arith}
use Rattle.std.specs.Prelude.{Option, slice_get}
use Rattle.std.proofs.lemmas.Option.{none-some}
use Rattle.gft_core.specs.declared.event.CoreEvent.{CoreEvent}
use Rattle.gft_core.specs.declared.event.CoreEvent.TheVariants.{Crash, Fresh}
use Rattle.gft_core.specs.Kept.{answered, generation, kept}
use Rattle.gft_core.specs.Laws.{AllCarry, HasNoCrash, OneHas, HonestLaw, PrefixLaw}
use Rattle.gft_core.proofs.OptionLemmas.{first_some_front, first_some_back, first_some_either, same_options}

pub below_length : (l : List ℕ) (i v : ℕ) → slice_get l i ≡ Some v → i < length l
below_length [] i v e = absurd (none-some v e)
below_length (x ∷ xs) zero v e = omega arith
below_length (x ∷ xs) (suc i) v e = let h = below_length xs i v e in omega arith

carry_kept : (source : List ℕ) (events : List CoreEvent) → HasNoCrash (generation events) → AllCarry source (generation events) → (x v : ℕ) → kept events x ≡ Some v → slice_get source x ≡ Some v
carry_kept source [] no_crash all x v k = absurd (none-some v k)
carry_kept source (Fresh ∷ older) no_crash all x v k = absurd (none-some v k)
carry_kept source (Crash image ∷ older) no_crash all x v k = absurd no_crash
carry_kept source (e ∷ older) no_crash all x v k =
    ⊎_elim (λ p. carry_kept source older no_crash all.0 x v p) (λ p. all.1 x v p) (first_some_either (kept older x) (answered e x) v k)

booked_where_sent : (events : List CoreEvent) → HasNoCrash (generation events) → (x : ℕ) → OneHas x (generation events) → (v : ℕ) × (kept events x ≡ Some v)
booked_where_sent [] no_crash x h = absurd h
booked_where_sent (Fresh ∷ older) no_crash x h = ⊎_elim (λ p. absurd p) (λ p. absurd (none-some p.0 p.1)) h
booked_where_sent (Crash image ∷ older) no_crash x h = absurd no_crash
booked_where_sent (e ∷ older) no_crash x h =
    ⊎_elim
    (λ p. let b = booked_where_sent older no_crash x p in (b.0, first_some_front (kept older x) (answered e x) b.0 b.1))
    (λ p. first_some_back (kept older x) (answered e x) p.0 p.1)
    h

-- what is kept was sent
pub sent_where_booked : (events : List CoreEvent) → HasNoCrash (generation events) → (x v : ℕ) → kept events x ≡ Some v → OneHas x (generation events)
sent_where_booked [] no_crash x v k = absurd (none-some v k)
sent_where_booked (Fresh ∷ older) no_crash x v k = absurd (none-some v k)
sent_where_booked (Crash image ∷ older) no_crash x v k = absurd no_crash
sent_where_booked (e ∷ older) no_crash x v k =
    ⊎_elim (λ p. inl (sent_where_booked older no_crash x v p)) (λ p. inr (v, p)) (first_some_either (kept older x) (answered e x) v k)

pub honest : HonestLaw
honest source events no_crash is_honest done x =
    same_options (kept events x) (slice_get source x)
    (λ v k. carry_kept source events no_crash is_honest.carry x v k)
    (λ v at. booked_where_sent events no_crash x (is_honest.cover x (below_length source x v at)))

none_where_absent : (o : Option ℕ) → ((v : ℕ) × (o ≡ Some v) → ⊥) → o ≡ None
none_where_absent (Some v) absent = absurd (absent (v, refl))
none_where_absent None absent = refl

below_end : (source : List ℕ) (end : ℕ) → ((x : ℕ) → x < end → x < length source) → end ≤ length source
below_end source zero each = omega arith
below_end source (suc n) each = let last = each n (omega arith) in omega arith

pub front_kept : PrefixLaw
front_kept source events no_crash carry done =
    let whole = done.whole.1 in
    let sent : (x : ℕ) → x < done.whole.0 → (kept events x ≡ slice_get source x) × (x < length source) =
    λ x lt.
    let byte = (whole x).1 lt in
    let there = carry_kept source events no_crash carry x byte.0 byte.1 in
    (byte.1 ∙ sym there, below_length source x byte.0 there)
    in (
      done.whole.0,
      below_end source done.whole.0 (λ x lt. (sent x lt).1),
      λ x lt. (sent x lt).0,
      λ x le. none_where_absent (kept events x) (λ b. let lt = (whole x).0 b in omega arith),
    )
