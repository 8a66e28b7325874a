-- A block of several bytes, and the blocks of its single bytes.
use Rattle.std.proofs.Common.{◌≡◌, ℕ, ◌+◌, ◌==◌, Bool, true, false, List, [], ◌∷◌, ◌++◌, Some, None, refl, sym, ap, ◌∙◌}
use Rattle.std.specs.Prelude.{if◌then◌else◌}
use Rattle.std.proofs.lemmas.Bool.{eq-eqb}
use Rattle.std.proofs.lemmas.List.{append_assoc}
use Rattle.gft_core.specs.declared.event.CoreEvent.{CoreEvent}
use Rattle.gft_core.specs.declared.event.CoreEvent.TheVariants.{Block}
use Rattle.gft_core.specs.Words.{byte_at, first_some, kept, lane_offsets}
use Rattle.gft_drive.specs.Words.{offsets_from}
use Rattle.gft_core.proofs.Lemmas.{first_some-assoc, first_some-none}
use Rattle.gft_outside.specs.Laws.{PieceLaw, PieceOrderLaw}

-- the byte at an offset of several is that of the first, or else that of the others
byte_of_first : (offset b : ℕ) (bs : List ℕ) (x : ℕ) → first_some (byte_at offset (b ∷ []) x) (byte_at (offset + 1) bs x) ≡ byte_at offset (b ∷ bs) x
byte_of_first offset b bs x = elim (x == offset) as (λ c. first_some (if c then Some b else None) (byte_at (offset + 1) bs x) ≡ (if c then Some b else byte_at (offset + 1) bs x)) [ true ↦ refl | false ↦ refl ]

pub piece_kept : PieceLaw
piece_kept lane offset [] before x = sym (first_some-none (kept before x))
piece_kept lane offset (b ∷ bs) before x =
    let was = kept before x in
    piece_kept lane (offset + 1) bs (Block lane 0 offset (b ∷ []) false ∷ before) x
    ∙ first_some-assoc was (byte_at offset (b ∷ []) x) (byte_at (offset + 1) bs x)
    ∙ ap (first_some was) (byte_of_first offset b bs x)

-- the offsets of a lane with a byte more
offsets_more : (lane offset b : ℕ) (before : List CoreEvent) → lane_offsets lane (Block lane 0 offset (b ∷ []) false ∷ before) ≡ lane_offsets lane before ++ offset ∷ []
offsets_more lane offset b before = ap (λ (c : Bool). lane_offsets lane before ++ (if c then offset ∷ [] else [])) (eq-eqb lane lane refl)

pub piece_order : PieceOrderLaw
piece_order orders lane offset b [] before order = order
piece_order orders lane offset b (d ∷ ds) before order =
    let tail = piece_order orders lane (offset + 1) d ds (Block lane 0 offset (b ∷ []) false ∷ before) order in
    let later = offsets_from (offset + 1) (d ∷ ds) in
    let left = tail.1.0 in
    let was = lane_offsets lane before in
    (tail.0.0, (left, ap (λ l. l ++ left) (sym (ap (λ l. l ++ later) (offsets_more lane offset b before) ∙ append_assoc was (offset ∷ []) later)) ∙ tail.1.1))
