-- Runs of calls on whole images.
use Rattle.std.proofs.Common.{◌≡◌, ⊎_elim, ℕ, List, Some, IsSome, sym, ◌∙◌, ap, arith}
use Rattle.gft_drive.specs.Drive.{Image, DriveState, MayLeave, IsLawful, Elapses, LeavesBy, Reads, Leaves, IsSynced}
use Rattle.gft_drive.specs.declared.drive.Part.TheVariants.{Bytes, Ranges}
use Rattle.gft_drive.proofs.Run.{elapses_refl, elapses_trans}
use Rattle.gft_drive.proofs.Steps.{told_some, tells_some}

-- each image since old has P
pub record Always (old now : DriveState) (P : Image → Type 0) : Type 0 where
  pub time : Elapses old now
  pub each : (c : Image) → now.left_since old.moment c → P c

pub always_none : (old : DriveState) (P : Image → Type 0) → ((c : Image) → MayLeave old c → P c) → Always old old P
always_none old P here = record { time = elapses_refl old; each = here }

module _ (old now new : DriveState) (step : Image → Image → Type 0) (lawful_now : IsLawful now) (lawful_new : IsLawful new) (some : IsSome now.contents) (leaves : LeavesBy step now new) (time : Elapses now new) where
  pub always_on : (P : Image → Type 0) → Always old now P → ((d c : Image) → MayLeave now d → P d → step d c → P c) → Always old new P
  always_on P always kept = record {
    time = elapses_trans old now new lawful_new always.time time;
    each = λ c left. ⊎_elim (always.each c) (during c) (time.nothing_else old.moment c always.time.later left);
  }
    where
      during : (c : Image) → new.left_since now.moment c → P c
      during c left =
          let d = leaves some c left in
          kept d.0 c d.1 (always.each d.0 (lawful_now.since old.moment now.moment d.0 always.time.later (omega arith) d.1)) d.2

  pub now_on : (R : Image → Type 0) → ((d c : Image) → MayLeave now d → step d c → R c) → (c : Image) → MayLeave new c → R c
  now_on R kept c left =
      let d = leaves some c (lawful_new.since now.moment new.moment c time.later (omega arith) left) in
      kept d.0 c d.1 d.2

-- a start whose parts are both synced is exact
pub both_exact : (s : DriveState) (read : Image) → s.contents ≡ Some read → IsSynced Bytes s → IsSynced Ranges s → (c : Image) → MayLeave s c → c ≡ read
both_exact s read told bytes ranges c left =
    let b = bytes read c told left in
    let r = ranges read c told left in
    λ i. record { bytes = b i; ranges = r i }

-- a run from an exact start leaves what came from what a read gave
pub always_leaves : (old now : DriveState) (step : Image → Image → Type 0) → IsLawful old → ((read : Image) → old.contents ≡ Some read → Always old now (step read)) → LeavesBy step old now
always_leaves old now step lawful always some c left =
    let told = told_some old.contents some in
    (told.0, lawful.read told.0 told.1, (always told.0 told.1).each c left)

-- calls on the bytes leave the ranges synced
pub still_synced : (old now : DriveState) (step other : List ℕ → List ℕ → Type 0) → IsLawful now → IsSynced Ranges old → Leaves Bytes step old now → Reads Bytes other old now → Elapses old now → IsSynced Ranges now
still_synced old now step other lawful synced leaves reads time read c told left =
    let was = told_some old.contents (time.goes.tells.0 (tells_some now read told)) in
    let to = reads was.0 was.1 in
    let same : to.0 ≡ read = cc (to.1, told) in
    let d = leaves (time.goes.tells.0 (tells_some now read told)) c (lawful.since old.moment now.moment c time.later (omega arith) left) in
    d.2.kept ∙ synced was.0 d.0 was.1 d.1 ∙ sym to.2.kept ∙ ap (λ (i : Image). i.ranges) same

-- and calls on the ranges leave the bytes synced
pub bytes_still_synced : (old now : DriveState) (step other : List ℕ → List ℕ → Type 0) → IsLawful now → IsSynced Bytes old → Leaves Ranges step old now → Reads Ranges other old now → Elapses old now → IsSynced Bytes now
bytes_still_synced old now step other lawful synced leaves reads time read c told left =
    let was = told_some old.contents (time.goes.tells.0 (tells_some now read told)) in
    let to = reads was.0 was.1 in
    let same : to.0 ≡ read = cc (to.1, told) in
    let d = leaves (time.goes.tells.0 (tells_some now read told)) c (lawful.since old.moment now.moment c time.later (omega arith) left) in
    d.2.kept ∙ synced was.0 d.0 was.1 d.1 ∙ sym to.2.kept ∙ ap (λ (i : Image). i.bytes) same
