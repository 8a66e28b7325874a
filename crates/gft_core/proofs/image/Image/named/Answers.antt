use Rattle.std.proofs.Common.{◌≡◌, ◌+◌, ◌*◌, ◌%◌, ◌↔◌, ◌⊎◌, ℕ, List, ap, ◌∙◌, subst, slice_index, inl, ⊎_elim}
use Rattle.gft_range.specs.Words.{HasOffset}
use Rattle.gft_drive.specs.Words.{Has, Image, IsOpenAs, Names, bank_at, first_layout, range_kind, selected, slot, slot_at, slot_of}
use Rattle.gft_core.specs.Machine.{IsInside}
use Rattle.gft_core.proofs.HeldLemmas.{names_next, slot_place}
use Rattle.gft_core.proofs.image.Image.named.Goals as goal
use Rattle.gft_core.proofs.image.Image.named.Goals.{in-Some+in_ok-reserve, in_default}

pub loop-i-preserved : goal.loop-i-preserved
loop-i-preserved c =
    let xs = c.args.self.now.ranges in
    let i = c.loop-i.i in
    let part : c.bytes-part.result.now ≡ xs = c.bytes-part.ensures.bytes ∙ ap (λ (image : Image). image.ranges) c.self.view_is in
    let read : (x : ℕ) → IsInside c.range_at.result x ↔ (IsOpenAs range_kind (slot_of first_layout xs (slot_at first_layout (bank_at (selected xs)) i)) × Has (slot_of first_layout xs (slot_at first_layout (bank_at (selected xs)) i)) x)
    = subst (λ (at : ℕ). (x : ℕ) → IsInside c.range_at.result x ↔ (IsOpenAs range_kind (slot_of first_layout xs at) × Has (slot_of first_layout xs at) x))
    (slot_place xs c.byte.result i (c.byte.ensures.byte ∙ ap (λ (ys : List ℕ). slice_index ys 0) part))
    (subst (λ (ys : List ℕ). (x : ℕ) → IsInside c.range_at.result x ↔ (IsOpenAs range_kind (slot_of first_layout ys (64 + 1048576 * (c.byte.result % 2) + 32 + 16 * i)) × Has (slot_of first_layout ys (64 + 1048576 * (c.byte.result % 2) + 32 + 16 * i)) x)) part c.range_at.ensures) in
    let next : ((x : ℕ) → HasOffset c.match-range_at.set.ranges x ↔ (HasOffset c.loop-i.set.ranges x ⊎ IsInside c.range_at.result x)) → (x : ℕ) → HasOffset c.match-range_at.set.ranges x ↔ Names (slot xs (selected xs)) (i + 1) x
    = λ more x. names_next (slot xs (selected xs)) i x (HasOffset c.match-range_at.set.ranges x) (HasOffset c.loop-i.set.ranges x) (IsInside c.range_at.result x) (more x) (c.loop-i.invariant x) (read x) in
    elim c.match-range_at.branch [
      | in-Some+in_ok-reserve w ↦ next (rw (w.set-is, w.in-Some.is, ← w.in_ok-reserve.ensures.ranges) w.add.ensures.offsets)
      | in_default w ↦ next (rw (w.set-is, w.in_default.is) (λ x. (λ h. inl h, λ e. ⊎_elim (λ h. h) (λ n. absurd n) e)))
    ]
