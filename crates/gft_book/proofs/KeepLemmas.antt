-- What a keep's clauses say of kept bytes and images.
use Rattle.std.proofs.Common.{◌≡◌, ◌⊎◌, ◌↔◌, ℕ, suc, ◌+◌, ◌-◌, ◌<◌, ◌≤◌, List, [], ◌∷◌, length, Some, None, refl, sym, ap, ◌∙◌, subst, ⊎_elim, inl, inr, arith}
use Rattle.std.specs.Prelude.{Option, IsSome, slice_get, slice_index}
use Rattle.std.proofs.lemmas.Option.{none-some, same_Some, slice_get-get_or, slice_get_within}
use Rattle.std.proofs.lemmas.Bool.{cases_lt}
use Rattle.gft_range.specs.declared.Range.{Range}
use Rattle.gft_range.specs.Words.{HasOffset, InRange, IsUnion}
use Rattle.gft_drive.specs.Words.{Covers, DriveState, Elapses, Image, LeavesBy, MayLeave}
use Rattle.gft_keep.specs.declared.Standing.{Standing}
use Rattle.gft_keep.specs.declared.Standing.TheVariants.{Whole, Torn}
use Rattle.gft_keep.specs.Words.{CompletesNothing, Holds, IsExact, IsKeep, IsSound, KeepState, StandsAs, StaysHeld, Stores, StoresSome, block_of}
use Rattle.gft_core.specs.Words.{byte_at, first_some, held}
use Rattle.gft_core.proofs.Lemmas.{byte_at-here, byte_at-later, byte_within, held_law, within_byte, first_some_either}
use Rattle.gft_book.specs.Keeping.{Keeps, KeepsByte, NeverFalls, byte_read}
use Rattle.gft_book.proofs.ChoiceLemmas.{is_there, none_or, same_options}

-- ---- what an image holds

pub holds_held : (image : Image) (x v : ℕ) → Holds image x v → held image x ≡ Some v
holds_held image x v h = (held_law image x v).1 (h.covered, slice_get-get_or image.bytes x 0 h.within ∙ ap (λ (n : ℕ). Some n) h.byte)

pub held_covers : (image : Image) (x v : ℕ) → held image x ≡ Some v → Covers image.ranges x
held_covers image x v e = ((held_law image x v).0 e).0

pub held_byte : (image : Image) (x v : ℕ) → held image x ≡ Some v → slice_get image.bytes x ≡ Some v
held_byte image x v e = ((held_law image x v).0 e).1

pub held_holds : (image : Image) (x v : ℕ) → held image x ≡ Some v → Holds image x v
held_holds image x v e =
    let h = (held_law image x v).0 e in
    let within : x < length image.bytes = slice_get_within image.bytes x v h.1 in
    record { covered = h.0; within = within; byte = same_Some (slice_index image.bytes x) v (sym (slice_get-get_or image.bytes x 0 within) ∙ h.1) }

-- what an image names it holds, since its data has it
pub sound_held : (image : Image) → IsSound image → (x : ℕ) → Covers image.ranges x → (v : ℕ) × (held image x ≡ Some v)
sound_held image sound x covered =
    let within = sound.within x covered in
    (slice_index image.bytes x, holds_held image x (slice_index image.bytes x) (record { covered = covered; within = within; byte = refl }))

-- ---- an unbroken keep

-- the image is what a read gives, and holds exactly what is kept
pub record IsReadImage (keep : KeepState) (image : Image) : Type 0 where
  pub exact : IsExact keep image
  pub read : keep.drive.contents ≡ Some image
  pub ranges : (x : ℕ) → Covers image.ranges x ↔ HasOffset keep.ranges x
  pub held : (x : ℕ) → HasOffset keep.ranges x → (v : ℕ) × (held image x ≡ Some v)

pub stands_now : (keep : KeepState) (how : Standing) → keep.standing ≡ how → IsKeep keep → StandsAs how keep
stands_now keep how is sound = subst (λ (s : Standing). StandsAs s keep) is sound.stands

pub whole_read : (keep : KeepState) → keep.standing ≡ Whole → IsKeep keep → IsSome keep.drive.contents → (image : Image) → MayLeave keep.drive image → IsReadImage keep image
whole_read keep whole sound told image now =
    let exact = (stands_now keep Whole whole sound).each told image now in
    record {
      exact = exact;
      read = exact.read;
      ranges = exact.ranges;
      held = λ x has. sound_held image exact.sound x ((exact.ranges x).1 has);
    }

-- what an image names of an unbroken keep it holds
pub read_held : (keep : KeepState) (image : Image) → IsReadImage keep image → (x : ℕ) → Covers image.ranges x → (v : ℕ) × (held image x ≡ Some v)
read_held keep image r x covered = sound_held image r.exact.sound x covered

-- the kept bytes are what an image that is read holds
pub kept_read : (keep : KeepState) (image : Image) → IsReadImage keep image → (x v : ℕ) → KeepsByte keep x v → held image x ≡ Some v
kept_read keep image r x v kept =
    let byte : slice_get image.bytes x ≡ Some v = ap (λ (o : Option Image). byte_read o x) (sym r.read) ∙ kept.1 in
    (held_law image x v).1 ((r.ranges x).1 kept.0, byte)

pub read_kept : (keep : KeepState) (image : Image) → IsReadImage keep image → (x v : ℕ) → held image x ≡ Some v → KeepsByte keep x v
read_kept keep image r x v here =
    let h = (held_law image x v).0 here in
    ((r.ranges x).0 h.0, ap (λ (o : Option Image). byte_read o x) r.read ∙ h.1)

-- ---- a torn keep

pub torn_held : (keep : KeepState) → keep.standing ≡ Torn → IsKeep keep → IsSome keep.drive.contents → (image : Image) → MayLeave keep.drive image → (x : ℕ) → HasOffset keep.ranges x → (v : ℕ) × (held image x ≡ Some v) × KeepsByte keep x v
torn_held keep torn sound told image now x has =
    let stands = stands_now keep Torn torn sound in
    let read = is_there keep.drive.contents told in
    let here = (stands.2 told image now).kept read.0 read.1 x has in
    let there = (stands.2 told read.0 (sound.lawful.read read.0 read.1)).kept read.0 read.1 x has in
    let v : ℕ = slice_index read.0.bytes x in
    (v, holds_held image x v here, (has, ap (λ (o : Option Image). byte_read o x) read.1 ∙ held_byte read.0 x v (holds_held read.0 x v there)))

-- ---- a block

pub block_byte : (offset : ℕ) (bytes : List ℕ) (x : ℕ) → InRange (block_of offset bytes) x → byte_at offset bytes x ≡ Some (slice_index bytes (x - offset))
block_byte offset [] x here = absurd (omega (arith, here.0, here.1))
block_byte offset (b ∷ bs) x here =
    ⊎_elim
    (λ (later : offset < x). let less : x - offset ≡ suc (x - (offset + 1)) = omega (arith, later) in
    let same : slice_index (b ∷ bs) (x - offset) ≡ slice_index bs (x - (offset + 1)) = ap (λ (k : ℕ). slice_index (b ∷ bs) k) less in
    byte_at-later offset b bs x (λ e. omega (arith, e, later))
    ∙ block_byte (offset + 1) bs x (omega (arith, later), omega (arith, here.1))
    ∙ ap (λ (n : ℕ). Some n) (sym same))
    (λ (le : x ≤ offset). let at : x ≡ offset = omega (arith, le, here.0) in
    let none : x - offset ≡ 0 = omega (arith, at) in
    byte_at-here offset b bs x at ∙ ap (λ (k : ℕ). Some (slice_index (b ∷ bs) k)) (sym none))
    (cases_lt offset x)

-- the offset of a block's byte
pub byte_offset : (offset : ℕ) (bytes : List ℕ) (x v : ℕ) → byte_at offset bytes x ≡ Some v → InRange (block_of offset bytes) x
byte_offset offset bytes x v e = within_byte offset bytes x v e

pub byte_inside : (offset : ℕ) (bytes : List ℕ) (x : ℕ) → offset ≤ x → x < offset + length bytes → (v : ℕ) × (byte_at offset bytes x ≡ Some v)
byte_inside offset bytes x le lt = byte_within offset bytes x le lt

-- what was held stays, and what else an image of a block names is the block's
pub record StoresHeld (offset : ℕ) (bytes : List ℕ) (from image : Image) : Type 0 where
  pub kept : (x v : ℕ) → held from x ≡ Some v → held image x ≡ Some v
  pub within : (x : ℕ) → Covers image.ranges x → (v : ℕ) × (held image x ≡ Some v) × (first_some (held from x) (byte_at offset bytes x) ≡ Some v)
  pub completes : CompletesNothing from image

pub stores_held : (keep : KeepState) (offset : ℕ) (bytes : List ℕ) (from image : Image) → IsReadImage keep from → StoresSome offset bytes from image → StoresHeld offset bytes from image
stores_held keep offset bytes from image read s =
    record {
      kept = kept;
      within = λ x covered. ⊎_elim
          (λ (was : (w : ℕ) × (held from x ≡ Some w)). (was.0, kept x was.0 was.1, ap (λ o. first_some o (byte_at offset bytes x)) was.1))
          (λ (none : held from x ≡ None). ⊎_elim
          (λ (before : Covers from.ranges x). let w = read_held keep from read x before in absurd (none-some w.0 (sym none ∙ w.1)))
          (λ (new : InRange (block_of offset bytes) x × Holds image x (slice_index bytes (x - offset))). (
            slice_index bytes (x - offset),
            holds_held image x (slice_index bytes (x - offset)) new.1,
            ap (λ o. first_some o (byte_at offset bytes x)) none ∙ block_byte offset bytes x new.0,
          ))
          (s.added x covered))
          (none_or (held from x));
      completes = s.completes;
    }
  where
    kept : (x v : ℕ) → held from x ≡ Some v → held image x ≡ Some v
    kept x v h = holds_held image x v (s.kept x v (held_holds from x v h))

-- all of the block is stored
pub held_stored : (keep : KeepState) (offset : ℕ) (bytes : List ℕ) (from image : Image) → IsReadImage keep from → Stores offset bytes from image → (x : ℕ) → held image x ≡ first_some (held from x) (byte_at offset bytes x)
held_stored keep offset bytes from image read s x =
    let some = stores_held keep offset bytes from image read s.some in
    same_options (held image x) (first_some (held from x) (byte_at offset bytes x))
    (λ v here. let w = some.within x (held_covers image x v here) in w.2 ∙ sym w.1 ∙ here)
    (λ v there. ⊎_elim
    (λ (was : held from x ≡ Some v). (v, some.kept x v was))
    (λ (new : byte_at offset bytes x ≡ Some v). ⊎_elim
    (λ (before : Covers from.ranges x). let w = read_held keep from read x before in (w.0, some.kept x w.0 w.1))
    (λ (holds : Holds image x (slice_index bytes (x - offset))). (slice_index bytes (x - offset), holds_held image x (slice_index bytes (x - offset)) holds))
    (s.all x (byte_offset offset bytes x v new)))
    (first_some_either (held from x) (byte_at offset bytes x) v there))

-- where the ranges and their bytes stay, what is held is the same
pub stays_same : (keep : KeepState) (from image : Image) → IsReadImage keep from → StaysHeld from image → (x : ℕ) → held image x ≡ held from x
stays_same keep from image read s x =
    same_options (held image x) (held from x)
    (λ v here. let w = read_held keep from read x ((s.ranges x).0 (held_covers image x v here)) in
    let there = holds_held image x w.0 (s.held x w.0 (held_holds from x w.0 w.1)) in
    w.1 ∙ sym there ∙ here)
    (λ v there. (v, holds_held image x v (s.held x v (held_holds from x v there))))

-- ---- a union with a block

pub union_has : (old new : List Range) (offset : ℕ) (bytes : List ℕ) → IsUnion old (block_of offset bytes) new → (x : ℕ) → HasOffset new x → HasOffset old x ⊎ ((v : ℕ) × (byte_at offset bytes x ≡ Some v))
union_has old new offset bytes u x has =
    ⊎_elim (λ was. inl was) (λ (here : InRange (block_of offset bytes) x). inr (byte_inside offset bytes x here.0 here.1)) ((u.offsets x).0 has)

pub union_old : (old new : List Range) (offset : ℕ) (bytes : List ℕ) → IsUnion old (block_of offset bytes) new → (x : ℕ) → HasOffset old x → HasOffset new x
union_old old new offset bytes u x has = (u.offsets x).1 (inl has)

pub union_new : (old new : List Range) (offset : ℕ) (bytes : List ℕ) → IsUnion old (block_of offset bytes) new → (x v : ℕ) → byte_at offset bytes x ≡ Some v → HasOffset new x
union_new old new offset bytes u x v e = (u.offsets x).1 (inr (byte_offset offset bytes x v e))

-- ---- time

pub has_same : (old new : KeepState) → new.ranges ≡ old.ranges → (x : ℕ) → HasOffset old.ranges x → HasOffset new.ranges x
has_same old new same x has = subst (λ (l : List Range). HasOffset l x) (sym same) has

pub has_back : (old new : KeepState) → new.ranges ≡ old.ranges → (x : ℕ) → HasOffset new.ranges x → HasOffset old.ranges x
has_back old new same x has = subst (λ (l : List Range). HasOffset l x) same has

-- each image of now is one since the call began
pub image_since : (old new : KeepState) (image : Image) → IsKeep new → Elapses old.drive new.drive → MayLeave new.drive image → new.drive.left_since old.drive.moment image
image_since old new image sound time now = sound.lawful.since old.drive.moment new.drive.moment image time.later (omega arith) now

-- a change in whose images what was held is held keeps all
pub Keeps-by : (step : Image → Image → Type 0) (old new : KeepState) → old.standing ≡ Whole → IsKeep old
    → ((from image : Image) → IsReadImage old from → step from image → (x v : ℕ) → held from x ≡ Some v → held image x ≡ Some v)
    → LeavesBy step old.drive new.drive → Elapses old.drive new.drive → NeverFalls old.drive.faults new.drive.faults
    → ((x : ℕ) → HasOffset old.ranges x → HasOffset new.ranges x) → Keeps old new
Keeps-by step old new whole sound holds leaves time counted ranges =
    record {
      time = time;
      counted = counted;
      ranges = ranges;
      held = λ told image left x v kept.
          let l = leaves told image left in
          let read = whole_read old whole sound told l.0 l.1 in
          holds l.0 image read l.2 x v (kept_read old l.0 read x v kept);
    }

pub Elapses-same : (drive : DriveState) → Elapses drive drive
Elapses-same drive =
    record {
      goes = record { label = refl; tells = (λ t. t, λ t. t) };
      later = omega arith;
      nothing_else = λ t image le left. inl left;
      keeps = λ t image le left. left;
    }

-- a keep that no begin was emptying keeps all while nothing is done to it
pub held_same : (keep : KeepState) → IsKeep keep → (keep.standing ≡ Whole) ⊎ (keep.standing ≡ Torn) → (x v : ℕ) → KeepsByte keep x v → IsSome keep.drive.contents → (image : Image) → MayLeave keep.drive image → held image x ≡ Some v
held_same keep sound how x v kept told image now = ⊎_elim
    (λ whole. kept_read keep image (whole_read keep whole sound told image now) x v kept)
    (λ torn. let h = torn_held keep torn sound told image now x kept.0 in
    h.1 ∙ sym h.2.1 ∙ kept.1)
    how

pub Keeps-same : (keep : KeepState) → IsKeep keep → (keep.standing ≡ Whole) ⊎ (keep.standing ≡ Torn) → Keeps keep keep
Keeps-same keep sound how =
    record {
      time = Elapses-same keep.drive;
      counted = omega arith;
      ranges = λ x h. h;
      held = λ told image left x v kept. held_same keep sound how x v kept told image left;
    }
