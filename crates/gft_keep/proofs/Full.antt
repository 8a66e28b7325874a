-- When one range more would be needed than may be kept.
use Rattle.std.proofs.Common.{◌≡◌, ℕ, ◌+◌, ◌<◌, List, length, arith, ap, ◌∙◌, inl, inr}
use Rattle.gft_range.specs.declared.Range.{Range}
use Rattle.gft_range.specs.Words.{InRange, HasOffset, IsNormal, IsUnion}
use Rattle.gft_range.proofs.Lemmas.{one_list, union_of}
use Rattle.gft_drive.specs.declared.TheConstants.{MAX_RANGES}
use Rattle.gft_keep.specs.Store.{IsFull}

-- a block that is kept already needs no range
pub covered_not_full : (set : List Range) (block : Range) → IsNormal set → ((x : ℕ) → InRange block x → HasOffset set x) → IsFull set block → ⊥
covered_not_full set block normal covered full =
    let same = one_list full.union set full.is_union.normal normal (λ x. (λ has. elim ((full.is_union.offsets x).0 has) [ inl had ↦ had | inr here ↦ covered x here ], λ had. (full.is_union.offsets x).1 (inl had))) in
    omega (arith, ap length same, full.one_more, full.at_limit)

pub is_full : (set : List Range) (block : Range) → IsNormal set → block.start < block.end → length set ≡ MAX_RANGES → ((union : List Range) → IsUnion set block union → length union ≡ length set + 1) → IsFull set block
is_full set block normal full at_limit apart =
    let union = union_of set block normal full in
    record { normal = normal; at_limit = at_limit; union = union.0; is_union = union.1; one_more = apart union.0 union.1 ∙ ap (λ n. n + 1) at_limit }
