-- The missing ranges of a block are named one after another.
use Rattle.std.proofs.Common.{◌≡◌, ◌⊎◌, ◌↔◌, inl, inr, ⊎_elim, ℕ, ◌+◌, ◌<◌, ◌≤◌, List, [], ◌∷◌, ◌++◌, length, Some, IsSome, refl, sym, ap, ◌∙◌, subst, append_assoc, arith}
use Rattle.gft_base.specs.declared.TheConstants.{LIMIT}
use Rattle.gft_range.specs.declared.Range.{Range}
use Rattle.gft_range.specs.Words.{HasOffset, InRange, IsMissing}
use Rattle.gft_drive.specs.declared.Part.TheVariants.{Ranges}
use Rattle.gft_drive.specs.Words.{Covers, DriveState, Elapses, Image, IsLawful, IsSynced, Leaves, MayLeave, Reads}
use Rattle.gft_drive.proofs.Lemmas.{told_some}
use Rattle.gft_journal.specs.Words.{AddsOrNot, AddsRange, IsJournalOf, IsRange, KeepsRest, SameJournal}
use Rattle.gft_journal.specs.declared.Journal.{Journal}
use Rattle.gft_keep.specs.Appending.{AddsAllBut, AddsFront, AddsMissing}
use Rattle.gft_keep.specs.Writing.{AreLeft}
use Rattle.gft_keep.proofs.Filling.{in_block}
use Rattle.gft_keep.proofs.Fronts.{has_either}
use Rattle.gft_keep.proofs.Images.{iff_refl, iff_then}
use Rattle.gft_keep.proofs.Running.{leaves_then}

rest_refl : (xs : List ℕ) → KeepsRest xs xs
rest_refl xs = record { complete = λ len. iff_refl; born = iff_refl; sound = λ is. is }

rest_then : (xs ys zs : List ℕ) → KeepsRest xs ys → KeepsRest ys zs → KeepsRest xs zs
rest_then xs ys zs first second = record {
  complete = λ len. iff_then (second.complete len) (first.complete len);
  born = iff_then second.born first.born;
  sound = λ is. second.sound (first.sound is);
}

pub adds_none : (set : List Range) (block : Range) (missing : List Range) → IsMissing set block missing → (xs : List ℕ) → AddsAllBut set block missing xs xs
adds_none set block missing is xs = record {
  front = [];
  missing = is;
  ranges = λ x. (λ covered. inl covered, λ either. elim either [ inl covered ↦ covered | inr none ↦ absurd none ]);
  rest = rest_refl xs;
}

adds_more : (set : List Range) (block : Range) (q : Range) (rest : List Range) (xs ys zs : List ℕ) → AddsAllBut set block (q ∷ rest) xs ys → AddsRange q ys zs → AddsAllBut set block rest xs zs
adds_more set block q rest xs ys zs adds more = record {
  front = adds.front ++ (q ∷ []);
  missing = subst (λ (l : List Range). IsMissing set block l) (sym (append_assoc adds.front (q ∷ []) rest)) adds.missing;
  ranges = λ x.
      let either = has_either adds.front (q ∷ []) x in (
        λ covered. elim ((more.ranges x).0 covered) [
          | inl was ↦ elim ((adds.ranges x).0 was) [ inl old ↦ inl old | inr new ↦ inr (either.1 (inl new)) ]
          | inr here ↦ inr (either.1 (inr (inl here)))
        ],
        λ has. elim has [
          | inl old ↦ (more.ranges x).1 (inl ((adds.ranges x).1 (inl old)))
          | inr new ↦ elim (either.0 new) [
            | inl before ↦ (more.ranges x).1 (inl ((adds.ranges x).1 (inr before)))
            | inr last ↦ elim last [ inl here ↦ (more.ranges x).1 (inr here) | inr none ↦ absurd none ]
          ]
        ],
      );
  rest = rest_then xs ys zs adds.rest more.rest;
}

adds_same : (set : List Range) (block : Range) (left : List Range) (xs ys zs : List ℕ) → AddsAllBut set block left xs ys → SameJournal ys zs → AddsAllBut set block left xs zs
adds_same set block left xs ys zs adds same = record {
  front = adds.front;
  missing = adds.missing;
  ranges = λ x. iff_then (same.ranges x) (adds.ranges x);
  rest = rest_then xs ys zs adds.rest same.rest;
}

-- once none is left
pub adds_all : (set : List Range) (block : Range) (left : List Range) → left ≡ [] → (xs ys : List ℕ) → AddsAllBut set block left xs ys → AddsMissing set block xs ys
adds_all set block left none xs ys adds =
    let missing = subst (λ (l : List Range). IsMissing set block (adds.front ++ l)) none adds.missing in
    record {
      ranges = λ x.
          let either = has_either adds.front [] x in (
            λ covered. elim ((adds.ranges x).0 covered) [ inl old ↦ inl old | inr new ↦ inr ((missing.offsets x).0 (either.1 (inl new))) ],
            λ has. elim has [
              | inl old ↦ (adds.ranges x).1 (inl old)
              | inr lacks ↦ elim (either.0 ((missing.offsets x).1 lacks)) [ inl new ↦ (adds.ranges x).1 (inr new) | inr none ↦ absurd none ]
            ],
          );
      rest = adds.rest;
    }

pub first_range : (set : List Range) (block : Range) (left : List Range) (q : Range) (rest : List Range) → AreLeft set block left → left ≡ q ∷ rest → block.end ≤ LIMIT → IsRange q
first_range set block left q rest are first in_limit = let place = in_block set block left q rest are first in record { some = place.1; below = omega (arith, place.2, in_limit) }

-- one append more
module _ (set : List Range) (block : Range) (left : List Range) (q : Range) (rest : List Range) (first : left ≡ q ∷ rest) (old now new : DriveState) (journal : Journal) (lawful_now : IsLawful now)
    (synced : IsSynced Ranges old) (stands : IsJournalOf journal now) (reads : Reads Ranges (AddsAllBut set block left) old now) where
  step_from : (xs ys : List ℕ) → AddsAllBut set block left xs ys → AddsAllBut set block (q ∷ rest) xs ys
  step_from xs ys adds = subst (λ (l : List Range). AddsAllBut set block l xs ys) first adds

  pub append_leaves : Leaves Ranges (AddsFront set block) old now → Leaves Ranges (AddsOrNot q) now new → Elapses old now → Elapses now new → Leaves Ranges (AddsFront set block) old new
  append_leaves so_far leaves before after = leaves_then Ranges (AddsFront set block) (AddsOrNot q) (AddsFront set block) old now new lawful_now so_far leaves before after (λ xs ys adds. adds)
      (λ from d zs some may_from may_d adds step.
      let told = told_some old.contents some in
      let staged = reads told.0 told.1 in
      let exact : d.ranges ≡ staged.0.ranges = stands.synced staged.0 d staged.1 may_d in
      let began : from.ranges ≡ told.0.ranges = synced told.0 from told.1 may_from in
      let were = step_from told.0.ranges staged.0.ranges staged.2.changed in
      let now = subst (λ (l : List ℕ). AddsOrNot q l zs) exact step in
      subst (λ (l : List ℕ). AddsFront set block l zs) (sym began) (elim now as (λ _. AddsFront set block told.0.ranges zs) [
        | inl same ↦ record { left = q ∷ rest; adds = adds_same set block (q ∷ rest) told.0.ranges staged.0.ranges zs were same }
        | inr more ↦ record { left = rest; adds = adds_more set block q rest told.0.ranges staged.0.ranges zs were more }
      ]))

  pub append_reads : Reads Ranges (AddsRange q) now new → Reads Ranges (AddsAllBut set block rest) old new
  append_reads more from told =
      let staged = reads from told in
      let last = more staged.0 staged.1 in
      (last.0, last.1, record { changed = adds_more set block q rest from.ranges staged.0.ranges last.0.ranges (step_from from.ranges staged.0.ranges staged.2.changed) last.2.changed; kept = last.2.kept ∙ staged.2.kept })
