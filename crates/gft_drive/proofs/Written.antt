-- A write has one outcome.
use Rattle.std.proofs.Common.{◌≡◌, ⊎_elim, ℕ, ◌+◌, ◌-◌, ◌≤◌, List, length, get_or, subst, sym, ◌∙◌, ap, arith}
use Rattle.std.proofs.lemmas.Bool.{cases_lt}
use Rattle.std.proofs.lemmas.List.{ext_get_or}
use Rattle.gft_drive.specs.Write.{Written, Torn}
use Rattle.gft_drive.specs.Replay.{overwritten}
use Rattle.gft_drive.specs.Replaying.{overwrites, torn_written}

one_outcome : (at : ℕ) (bytes old a b : List ℕ) → Written at bytes old a → Written at bytes old b → a ≡ b
one_outcome at bytes old a b first second = ext_get_or 0 a b (omega (arith, first.size, second.size)) (λ x lt. ⊎_elim
    (λ before. first.before x before ∙ sym (second.before x before))
    (λ above. ⊎_elim
    (λ inside.
    let back : at + (x - at) ≡ x = omega (arith, above) in
    let here : get_or a (at + (x - at)) 0 ≡ get_or b (at + (x - at)) 0 = first.inside (x - at) (omega (arith, inside, above)) ∙ sym (second.inside (x - at) (omega (arith, inside, above))) in
    ap (λ (i : ℕ). get_or a i 0) (sym back) ∙ here ∙ ap (λ (i : ℕ). get_or b i 0) back)
    (λ after. first.after x after ∙ sym (second.after x after))
    (cases_lt x (at + length bytes)))
    (cases_lt x at))

pub is_overwritten : (at : ℕ) (bytes old new : List ℕ) → Written at bytes old new → new ≡ overwritten at bytes old
is_overwritten at bytes old new written = one_outcome at bytes old new (overwritten at bytes old) written (overwrites at bytes old)

pub torn_overwritten : (at n : ℕ) (bytes old new : List ℕ) → new ≡ overwritten at bytes old → length bytes ≤ n → Torn at n old new
torn_overwritten at n bytes old new is few = subst (λ (xs : List ℕ). Torn at n old xs) (sym is) (torn_written at n bytes old (overwritten at bytes old) few (overwrites at bytes old))
