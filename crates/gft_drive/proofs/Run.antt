-- Runs of calls on the ranges part: what every image since a start has, what those of now have, and what a read gives.
use Rattle.std.proofs.Common.{◌≡◌, inl, inr, ⊎_elim, ℕ, List, Some, refl, sym, ◌∙◌, subst, arith}
use Rattle.gft_drive.specs.Drive.{Image, DriveState, MayLeave, IsLawful, Elapses, OnPart, Reads, Leaves, IsSynced}
use Rattle.gft_drive.specs.Write.{Same}
use Rattle.gft_drive.proofs.Steps.{Goes-refl, Goes-then, told_some, tells_some}
use Rattle.gft_drive.specs.declared.drive.Part.TheVariants.{Ranges}

pub elapses_refl : (old : DriveState) → Elapses old old
elapses_refl old = record { goes = Goes-refl old; later = omega arith; nothing_else = λ t c le left. inl left; keeps = λ t c le left. left }

pub elapses_trans : (old mid new : DriveState) → IsLawful new → Elapses old mid → Elapses mid new → Elapses old new
elapses_trans old mid new lawful first second = record {
  goes = Goes-then old mid new first.goes second.goes;
  later = omega (arith, first.later, second.later);
  nothing_else = λ t c le left. ⊎_elim
      (λ was. ⊎_elim (λ before. inl before) (λ during. inr (second.keeps old.moment c first.later during)) (first.nothing_else t c le was))
      (λ during. inr (lawful.since old.moment mid.moment c first.later second.later during))
      (second.nothing_else t c (omega (arith, le, first.later)) left);
  keeps = λ t c le left. second.keeps t c (omega (arith, le, first.later)) (first.keeps t c le left);
}

-- each image since old has a ranges part with P, and the bytes of one that a crash might have left then
pub record Since (old now : DriveState) (P : List ℕ → Type 0) : Type 0 where
  pub time : Elapses old now
  pub each : (c : Image) → now.left_since old.moment c → (from : Image) × MayLeave old from × (c.bytes ≡ from.bytes) × P c.ranges

-- and those of now have Q, and this is what a read gives
pub record Phase (old now : DriveState) (P Q : List ℕ → Type 0) (read : Image) : Type 0 where
  pub since : Since old now P
  pub held : (c : Image) → MayLeave now c → Q c.ranges
  pub told : now.contents ≡ Some read

pub started : (old : DriveState) (P Q : List ℕ → Type 0) (read : Image) → old.contents ≡ Some read → ((c : Image) → MayLeave old c → P c.ranges × Q c.ranges) → Phase old old P Q read
started old P Q read is here = record {
  since = record { time = elapses_refl old; each = λ c left. (c, left, refl, (here c left).0) };
  held = λ c left. (here c left).1;
  told = is;
}

module _ (old now new : DriveState) (P Q : List ℕ → Type 0) (read : Image) (step : List ℕ → List ℕ → Type 0)
    (lawful_now : IsLawful now) (lawful_new : IsLawful new) (phase : Phase old now P Q read) (leaves : Leaves Ranges step now new) (time : Elapses now new) where
  -- one call more, done or not: P is kept by its step
  pub goes_on : ((ys zs : List ℕ) → P ys → Q ys → step ys zs → P zs) → Since old new P
  goes_on kept = record {
    time = elapses_trans old now new lawful_new phase.since.time time;
    each = λ c left. ⊎_elim (phase.since.each c) (during c) (time.nothing_else old.moment c phase.since.time.later left);
  }
    where
      during : (c : Image) → new.left_since now.moment c → (from : Image) × MayLeave old from × (c.bytes ≡ from.bytes) × P c.ranges
      during c left =
          let d = leaves (tells_some now read phase.told) c left in
          let was = phase.since.each d.0 (lawful_now.since old.moment now.moment d.0 phase.since.time.later (omega arith) d.1) in
          (was.0, was.1, d.2.kept ∙ was.2, kept d.0.ranges c.ranges was.3 (phase.held d.0 d.1) d.2.changed)

  -- what the images of now have after it
  pub holds_on : (R : List ℕ → Type 0) → ((ys zs : List ℕ) → Q ys → step ys zs → R zs) → (c : Image) → MayLeave new c → R c.ranges
  holds_on R kept c left =
      let d = leaves (tells_some now read phase.told) c (lawful_new.since now.moment new.moment c time.later (omega arith) left) in
      kept d.0.ranges c.ranges (phase.held d.0 d.1) d.2.changed

-- after a sync of the ranges part the images have there what a read gives
pub is_exact : (s : DriveState) (read : Image) → s.contents ≡ Some read → IsSynced Ranges s → (c : Image) → MayLeave s c → c.ranges ≡ read.ranges
is_exact s read is synced c left = synced read c is left

-- a sync keeps P
pub sync_goes_on : (old now new : DriveState) (P : List ℕ → Type 0) (read : Image) → IsLawful now → IsLawful new → Since old now P → now.contents ≡ Some read
    → Leaves Ranges Same now new → Elapses now new → Since old new P
sync_goes_on old now new P read lawful_now lawful_new since told leaves time =
    let all : List ℕ → Type 0 = λ ys. Unit {0} in
    goes_on old now new P all read Same lawful_now lawful_new (record { since = since; held = λ c left. tt; told = told }) leaves time (λ ys zs p q same. subst P (sym same) p)

-- where each image was exact at the start, the run's images come by the step from those of then
pub leaves_by : (old now : DriveState) (step : List ℕ → List ℕ → Type 0) → IsSynced Ranges old → ((read : Image) → old.contents ≡ Some read → Since old now (step read.ranges)) → Leaves Ranges step old now
leaves_by old now step synced since some c left =
    let told = told_some old.contents some in
    let from = (since told.0 told.1).each c left in
    let exact : from.0.ranges ≡ told.0.ranges = synced told.0 from.0 told.1 from.1 in
    let P : List ℕ → Type 0 = λ ys. step ys c.ranges in
    (from.0, from.1, record { changed = subst P (sym exact) from.3; kept = from.2 })

-- a step from what a read gave, under another name
pub leaves_as : (old now : DriveState) (step other : List ℕ → List ℕ → Type 0) → IsSynced Ranges old
    → ((read : Image) → old.contents ≡ Some read → (zs : List ℕ) → step read.ranges zs → other read.ranges zs) → Leaves Ranges step old now → Leaves Ranges other old now
leaves_as old now step other synced named leaves some c left =
    let from = leaves some c left in
    let told = told_some old.contents some in
    let exact : from.0.ranges ≡ told.0.ranges = synced told.0 from.0 told.1 from.1 in
    let here = named told.0 told.1 c.ranges (subst (λ (l : List ℕ). step l c.ranges) exact from.2.changed) in
    (from.0, from.1, record { changed = subst (λ (l : List ℕ). other l c.ranges) (sym exact) here; kept = from.2.kept })

-- what a read gives came by the step from what it gave
pub reads_from : (old now : DriveState) (step : List ℕ → List ℕ → Type 0) → Elapses old now → Reads Ranges step old now → (read : Image) → now.contents ≡ Some read
    → (from : Image) × (old.contents ≡ Some from) × OnPart Ranges step from read
reads_from old now step time reads read told =
    let from = told_some old.contents (time.goes.tells.0 (tells_some now read told)) in
    let to = reads from.0 from.1 in
    let same : to.0 ≡ read = cc (to.1, told) in
    (from.0, from.1, subst (λ (image : Image). OnPart Ranges step from.0 image) same to.2)

-- before the first call of a run that began synced
pub since_nothing : (old : DriveState) (P : List ℕ → Type 0) (read : Image) → old.contents ≡ Some read → IsSynced Ranges old → P read.ranges → Since old old P
since_nothing old P read told synced is = record { time = elapses_refl old; each = λ c left. (c, left, refl, subst P (sym (synced read c told left)) is) }

-- one call more, where the images of now are exact
pub exact_goes_on : (old now new : DriveState) (P : List ℕ → Type 0) (step : List ℕ → List ℕ → Type 0) (read : Image) → IsLawful now → IsLawful new → Since old now P → now.contents ≡ Some read
    → IsSynced Ranges now → Leaves Ranges step now new → Elapses now new → ((zs : List ℕ) → step read.ranges zs → P zs) → Since old new P
exact_goes_on old now new P step read lawful_now lawful_new since told synced leaves time kept =
    let same : List ℕ → Type 0 = λ ys. ys ≡ read.ranges in
    goes_on old now new P same read step lawful_now lawful_new (record { since = since; held = λ c left. synced read c told left; told = told }) leaves time
    (λ ys zs p exact torn. kept zs (subst (λ (l : List ℕ). step l zs) exact torn))
