-- How many offsets a normal list has.
use Rattle.std.proofs.Common.{◌≡◌, ℕ, ◌+◌, ◌-◌, ◌<◌, ◌≤◌, List, [], ◌∷◌, refl, ap, arith, inl, inr}
use Rattle.gft_range.specs.declared.Range.{Range}
use Rattle.gft_range.specs.Words.{InRange, HasOffset, IsNormal, BeginsAbove, IsMissing}
use Rattle.gft_range.proofs.Lemmas.{one_list}
use Rattle.gft_keep.specs.Store.{offset_count}
use Rattle.gft_keep.specs.Writing.{AreLeft}

begins_at : (rs : List Range) (low high : ℕ) → IsNormal rs → ((x : ℕ) → HasOffset rs x → x < high) → BeginsAbove low rs → low ≤ high → offset_count rs + low ≤ high
begins_at [] low high normal within above le = omega arith
begins_at (r ∷ rs) low high normal within above le =
    let full : r.start < r.end = normal.0 in
    let first : low < r.start = above in
    let last = within (r.end - 1) (inl (omega arith, omega arith)) in
    let rest = begins_at rs r.end high normal.2 (λ x later. within x (inr later)) normal.1 (omega arith) in
    omega arith

-- no more offsets are left than the block has
pub offset_count-within : (set : List Range) (block : Range) (left : List Range) → AreLeft set block left → offset_count left ≤ block.end
offset_count-within set block [] are = omega arith
offset_count-within set block (r ∷ rs) are =
    let full : r.start < r.end = are.normal.0 in
    let last = (are.within (r.end - 1) (inl (omega arith, omega arith))).0 in
    let within = λ (x : ℕ) (later : HasOffset rs x). (are.within x (inr later)).0.1 in
    let rest = begins_at rs r.end block.end are.normal.2 within are.normal.1 (omega arith) in
    omega arith

pub offset_count-first : (left : List Range) (q : Range) (rest : List Range) → left ≡ q ∷ rest → offset_count left ≡ (q.end - q.start) + offset_count rest
offset_count-first left q rest first = ap offset_count first

-- one list only is missing
pub one_missing : (set : List Range) (block : Range) (a b : List Range) → IsMissing set block a → IsMissing set block b → a ≡ b
one_missing set block a b first second = one_list a b first.normal second.normal (λ x. (λ has. (second.offsets x).1 ((first.offsets x).0 has), λ has. (first.offsets x).1 ((second.offsets x).0 has)))

-- where all is there nothing is missing
pub nothing_missing : (set : List Range) (block : Range) (missing : List Range) → IsMissing set block missing → ((x : ℕ) → InRange block x → HasOffset set x) → 0 ≡ offset_count missing
nothing_missing set block [] is all = refl
nothing_missing set block (r ∷ rs) is all =
    let here = (is.offsets r.start).0 (inl (omega arith, is.normal.0)) in
    absurd (here.1 (all r.start here.0))
