-- Tables of words.
use Rattle.std.proofs.Common.{◌≡◌, ℕ, ◌<◌, true, false, zero, suc, List, [], ◌∷◌, length, get_or, refl, sym, arith}
use Rattle.std.proofs.lemmas.List.Sums.{AllPass-from_list_all}
use Rattle.std.proofs.lemmas.Bool.{and_parts, both_ways, not-true, eq-eqb, and_from}
use Rattle.gft_text.specs.Table.{folded, same_bytes, are_apart, are_distinct}
use Rattle.gft_text.specs.declared.table.Entry.{Entry}

same_bytes-refl : (xs : List ℕ) → same_bytes xs xs ≡ true
same_bytes-refl [] = refl
same_bytes-refl (x ∷ xs) = and_from _ _ (eq-eqb x x refl) (same_bytes-refl xs)

-- texts that the test tells apart are not equal
pub texts_apart : (a b : List ℕ) → same_bytes a b ≡ false → a ≡ b → ⊥
texts_apart a b differ same =
    let equal : same_bytes a b ≡ true = rw (← same) (same_bytes-refl a) in
    both_ways _ differ equal

apart : (a b : Entry) → are_apart a b ≡ true → folded a.text.now ≡ folded b.text.now → ⊥
apart a b h same =
    let differ = not-true _ (and_parts _ _ h).0 in
    let equal : same_bytes (folded a.text.now) (folded b.text.now) ≡ true = rw (← same) (same_bytes-refl (folded a.text.now)) in
    both_ways _ differ equal

-- in a table of distinct words one text has one code
pub same_code : (es : List Entry) → are_distinct es ≡ true → (i j : ℕ) (d f : Entry) → i < length es → j < length es → folded (get_or es i d).text.now ≡ folded (get_or es j f).text.now → (get_or es i d).code ≡ (get_or es j f).code
same_code [] distinct i j d f li lj same = absurd (omega (arith, li))
same_code (e ∷ es) distinct zero zero d f li lj same = refl
same_code (e ∷ es) distinct zero (suc j) d f li lj same =
    absurd (apart e (get_or es j f) (AllPass-from_list_all (are_apart e) es (and_parts _ _ distinct).0 j f (omega (arith, lj))) same)
same_code (e ∷ es) distinct (suc i) zero d f li lj same =
    absurd (apart e (get_or es i d) (AllPass-from_list_all (are_apart e) es (and_parts _ _ distinct).0 i d (omega (arith, li))) (sym same))
same_code (e ∷ es) distinct (suc i) (suc j) d f li lj same =
    same_code es (and_parts _ _ distinct).1 i j d f (omega (arith, li)) (omega (arith, lj)) same
