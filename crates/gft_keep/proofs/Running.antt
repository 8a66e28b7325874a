-- Calls of a drive, one after another, by what each image since the first is.
use Rattle.std.proofs.Common.{◌≡◌, ◌⊎◌, ⊎_elim, ℕ, ◌≤◌, List, Some, IsSome, refl, sym, ◌∙◌, subst, arith}
use Rattle.gft_drive.specs.declared.Part.{Part}
use Rattle.gft_drive.specs.Words.{DriveState, Elapses, Image, IsLawful, IsSynced, Leaves, LeavesBy, MayLeave, OnPart, Unchanged, part_of}
use Rattle.gft_drive.proofs.Lemmas.{both_exact, elapses_refl, elapses_trans, tells_some, told_some}
use Rattle.gft_journal.specs.Words.{Rests}
use Rattle.gft_journal.specs.declared.Journal.{Journal}
use Rattle.gft_keep.specs.Changing.{IsReady}
use Rattle.gft_keep.specs.Tearing.{EachSince}

-- before the first call
pub since_none : (P : Image → Image → Type 0) (old : DriveState) → ((read image : Image) → old.contents ≡ Some read → MayLeave old image → P read image) → EachSince P old old
since_none P old here = record { time = elapses_refl old; each = λ read told image left. here read image told left }

-- one call more, done or not
pub since_more : (P : Image → Image → Type 0) (step : Image → Image → Type 0) (old now new : DriveState) → IsLawful now → IsLawful new → EachSince P old now → LeavesBy step now new → Elapses now new
    → ((read from image : Image) → old.contents ≡ Some read → MayLeave now from → P read from → step from image → P read image) → EachSince P old new
since_more P step old now new lawful_now lawful_new since leaves time kept = record {
  time = elapses_trans old now new lawful_new since.time time;
  each = λ read told image left. ⊎_elim (since.each read told image) (during read told image) (time.nothing_else old.moment image since.time.later left);
}
  where
    during : (read : Image) → old.contents ≡ Some read → (image : Image) → new.left_since now.moment image → P read image
    during read told image left =
        let d = leaves (since.time.goes.tells.1 (tells_some old read told)) image left in
        kept read d.0 image told d.1 (since.each read told d.0 (lawful_now.since old.moment now.moment d.0 since.time.later (omega arith) d.1)) d.2

-- of the images now
pub since_now : (P : Image → Image → Type 0) (old new : DriveState) → IsLawful new → EachSince P old new → (read image : Image) → old.contents ≡ Some read → MayLeave new image → P read image
since_now P old new lawful since read image told left =
    since.each read told image (lawful.since old.moment new.moment image since.time.later (omega arith) left)

-- each image came by a step from what a read gave
pub since_leaves : (P step : Image → Image → Type 0) (old new : DriveState) → IsLawful old → EachSince P old new → ((read image : Image) → old.contents ≡ Some read → P read image → step read image) → LeavesBy step old new
since_leaves P step old new lawful since says some image left =
    let told = told_some old.contents some in
    (told.0, lawful.read told.0 told.1, says told.0 image told.1 (since.each told.0 told.1 image left))

-- a fact that follows
pub since_says : (P Q : Image → Image → Type 0) (old new : DriveState) → EachSince P old new → ((read image : Image) → old.contents ≡ Some read → P read image → Q read image) → EachSince Q old new
since_says P Q old new since says = record { time = since.time; each = λ read told image left. says read image told (since.each read told image left) }

-- a look after a call that leaves each image as it was
pub Rests-looked : (old mid new : DriveState) → IsLawful mid → IsLawful new → Rests old mid → Unchanged mid new → Rests old new
Rests-looked old mid new lawful_mid lawful_new rests looks = record {
  time = elapses_trans old mid new lawful_new rests.time looks.time;
  images = λ some image left. ⊎_elim
      (λ was. rests.images some image was)
      (λ during. rests.images some image (lawful_mid.since old.moment mid.moment image rests.time.later (omega arith) (looks.no_more image during)))
      (looks.time.nothing_else old.moment image rests.time.later left);
}

-- a ready drive leaves what a read gives
pub ready_exact : (journal : Journal) (drive : DriveState) → IsReady journal drive → (read image : Image) → drive.contents ≡ Some read → MayLeave drive image → image ≡ read
ready_exact journal drive ready read image told left = both_exact drive read told ready.synced ready.stands.synced image left

-- two calls in a row, where what the second came from is known
pub leaves_then : (part : Part) (first second both : List ℕ → List ℕ → Type 0) (old mid new : DriveState) → IsLawful mid → Leaves part first old mid → Leaves part second mid new → Elapses old mid → Elapses mid new
    → ((xs ys : List ℕ) → first xs ys → both xs ys) → ((from d : Image) (zs : List ℕ) → IsSome old.contents → MayLeave old from → MayLeave mid d → first (part_of part from) (part_of part d) → second (part_of part d) zs → both (part_of part from) zs) → Leaves part both old new
leaves_then part first second both old mid new lawful one two before after weaker join some image left = ⊎_elim
    (λ was. let from = one some image was in (from.0, from.1, record { changed = weaker _ _ from.2.changed; kept = from.2.kept }))
    (λ during.
    let d = two (before.goes.tells.1 some) image during in
    let from = one some d.0 (lawful.since old.moment mid.moment d.0 before.later (omega arith) d.1) in (
      from.0,
      from.1,
      record { changed = join from.0 d.0 _ some from.1 d.1 from.2.changed d.2.changed; kept = d.2.kept ∙ from.2.kept },
    ))
    (after.nothing_else old.moment image before.later left)

-- before the first call
pub leaves_none : (part : Part) (step : List ℕ → List ℕ → Type 0) (old : DriveState) → ((xs : List ℕ) → step xs xs) → Leaves part step old old
leaves_none part step old stays some image left = (image, left, record { changed = stays _; kept = refl })
