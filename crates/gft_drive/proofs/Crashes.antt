-- What a step leaves on a drive that keeps its steps.
use Rattle.std.proofs.Common.{◌≡◌, ◌⊎◌, inl, inr, ℕ, Bool, List, [], ◌∷◌, length, Result, Ok, Err, OnOk, OnErr, IsOk, true, refl, sym, ◌∙◌, ap, subst, arith}
use Rattle.gft_drive.specs.Drive.{Image, OnPart, Leaves, Reads}
use Rattle.gft_drive.specs.Write.{Written, Torn, TornCut, Same}
use Rattle.gft_drive.specs.declared.drive.Part.{Part}
use Rattle.gft_drive.specs.declared.drive.Part.TheVariants.{Bytes, Ranges}
use Rattle.gft_drive.specs.declared.disk.Step.{Step}
use Rattle.gft_drive.specs.declared.disk.Step.TheVariants.{Write, Cut, Sync}
use Rattle.std.specs.declared.alloc.Global.{Global}
use Rattle.std.specs.Prelude.{Vec}
use Rattle.gft_drive.specs.Replay.{Recorded, content_after, image_after, LeftAfter, ImagesAfter, ImagesSince, state_after}
use Rattle.gft_drive.specs.Replaying.{overwrites, torn_refl, torn_cut_refl, left_content, since_now}

-- the disk with one step more
abbrev pub more : Step → Recorded → Recorded
more s disk = record { first = disk.first; steps = s ∷ disk.steps }

-- a step was done or not, by what was answered
pub done_or_not : {T E : Type 0} (result : Result T E) (s : Step) (old before after new : Recorded)
    → OnOk result (after ≡ more s before) → OnErr result (after ≡ before) → before ≡ old → new ≡ after → (new ≡ more s old) ⊎ (new ≡ old)
done_or_not (Ok x) s old before after new done failed is was = inl (was ∙ done ∙ ap (more s) is)
done_or_not (Err e) s old before after new done failed is was = inr (was ∙ failed ∙ is)

-- an image since now is one now
pub now_since : (first : Image) (steps : List Step) (image : Image) → ImagesSince first steps (length steps) image → ImagesAfter first steps image
now_since first [] image left = left
now_since first (s ∷ older) image (inl now) = now
now_since first (s ∷ older) image (inr was) = absurd (omega (arith, was.0))

on_same : (part : Part) (step : List ℕ → List ℕ → Type 0) → ((xs : List ℕ) → step xs xs) → (image : Image) → OnPart part step image image
on_same Bytes step stays image = record { changed = stays image.bytes; kept = refl }
on_same Ranges step stays image = record { changed = stays image.ranges; kept = refl }

module _ (part : Part) (step : List ℕ → List ℕ → Type 0) (stays : (xs : List ℕ) → step xs xs) (label later : List ℕ) (old : Recorded) (faults more_faults : ℕ) where
  -- where nothing is done each image stays
  stays_leaves : Leaves part step (state_after label old faults) (state_after later old more_faults)
  stays_leaves some image left = (image, left, on_same part step stays image)

  -- where this step is done, and each image after it comes from one before it
  step_leaves : (s : Step) → ((image : Image) → ImagesAfter old.first (s ∷ old.steps) image → (from : Image) × ImagesAfter old.first old.steps from × OnPart part step from image)
      → Leaves part step (state_after label old faults) (state_after later (more s old) more_faults)
  step_leaves s comes some image (inl now) = let from = comes image now in (from.0, since_now old.first old.steps (length old.steps) from.0 from.1, from.2)
  step_leaves s comes some image (inr was) = (image, was.1, on_same part step stays image)

  leaves_either : (s : Step) (new : Recorded) → (new ≡ more s old) ⊎ (new ≡ old)
      → ((image : Image) → ImagesAfter old.first (s ∷ old.steps) image → (from : Image) × ImagesAfter old.first old.steps from × OnPart part step from image)
      → Leaves part step (state_after label old faults) (state_after later new more_faults)
  leaves_either s new (inl done) comes = subst (λ (d : Recorded). Leaves part step (state_after label old faults) (state_after later d more_faults)) (sym done) (step_leaves s comes)
  leaves_either s new (inr not) comes = subst (λ (d : Recorded). Leaves part step (state_after label old faults) (state_after later d more_faults)) (sym not) stays_leaves

module _ (label later : List ℕ) (old new : Recorded) (faults more_faults : ℕ) where
  pub write_leaves : (part : Part) (at : ℕ) (bytes : Vec ℕ Global) (is_done : Bool) → (new ≡ more (Write part at bytes is_done) old) ⊎ (new ≡ old)
      → Leaves part (Torn at (length bytes.items)) (state_after label old faults) (state_after later new more_faults)
  write_leaves part at bytes is_done either = leaves_either part (Torn at (length bytes.items)) (torn_refl at (length bytes.items)) label later old faults more_faults (Write part at bytes is_done) new either (by part)
    where
      by : (p : Part) (image : Image) → ImagesAfter old.first (Write p at bytes is_done ∷ old.steps) image → (from : Image) × ImagesAfter old.first old.steps from × OnPart p (Torn at (length bytes.items)) from image
      by Bytes image now = (record { bytes = now.0.0; ranges = image.ranges }, (now.0.1, now.1), record { changed = now.0.2; kept = refl })
      by Ranges image now = (record { bytes = image.bytes; ranges = now.1.0 }, (now.0, now.1.1), record { changed = now.1.2; kept = refl })

  pub cut_leaves : (part : Part) (len : ℕ) → (new ≡ more (Cut part len) old) ⊎ (new ≡ old) → Leaves part (TornCut len) (state_after label old faults) (state_after later new more_faults)
  cut_leaves part len either = leaves_either part (TornCut len) (torn_cut_refl len) label later old faults more_faults (Cut part len) new either (by part)
    where
      by : (p : Part) (image : Image) → ImagesAfter old.first (Cut p len ∷ old.steps) image → (from : Image) × ImagesAfter old.first old.steps from × OnPart p (TornCut len) from image
      by Bytes image now = (record { bytes = now.0.0; ranges = image.ranges }, (now.0.1, now.1), record { changed = now.0.2; kept = refl })
      by Ranges image now = (record { bytes = image.bytes; ranges = now.1.0 }, (now.0, now.1.1), record { changed = now.1.2; kept = refl })

  -- a part that is synced had no other image than what a read gave: each image stays
  pub sync_leaves : (part : Part) → (new ≡ more (Sync part) old) ⊎ (new ≡ old) → Leaves part Same (state_after label old faults) (state_after later new more_faults)
  sync_leaves part either = leaves_either part Same (λ xs. refl) label later old faults more_faults (Sync part) new either (by part)
    where
      by : (p : Part) (image : Image) → ImagesAfter old.first (Sync p ∷ old.steps) image → (from : Image) × ImagesAfter old.first old.steps from × OnPart p Same from image
      by Bytes image now = (image, (was now.0, now.1), record { changed = refl; kept = refl })
        where
          was : image.bytes ≡ content_after old.first old.steps Bytes → LeftAfter old.first old.steps Bytes image.bytes
          was is = subst (LeftAfter old.first old.steps Bytes) (sym is) (left_content old.first old.steps Bytes)
      by Ranges image now = (image, (now.0, was now.1), record { changed = refl; kept = refl })
        where
          was : image.ranges ≡ content_after old.first old.steps Ranges → LeftAfter old.first old.steps Ranges image.ranges
          was is = subst (LeftAfter old.first old.steps Ranges) (sym is) (left_content old.first old.steps Ranges)

-- what a write gives to read
pub write_reads : {T E U F : Type 0} (told : Result T E) (done : Result U F) (label later : List ℕ) (old before after new : Recorded) (faults more_faults : ℕ) (part : Part) (at : ℕ) (kept : Vec ℕ Global) (bytes : List ℕ)
    → (IsOk told → IsOk done) → OnOk done (after ≡ more (Write part at kept true) before) → before ≡ old → new ≡ after → kept.items ≡ bytes
    → OnOk told (Reads part (Written at bytes) (state_after label old faults) (state_after later new more_faults))
write_reads (Err e) done label later old before after new faults more_faults part at kept bytes says is same was items = tt
write_reads (Ok x) (Err e) label later old before after new faults more_faults part at kept bytes says is same was items = absurd (cc (says refl))
write_reads (Ok x) (Ok y) label later old before after new faults more_faults part at kept bytes says is same was items =
    let now : new ≡ more (Write part at kept true) old = was ∙ is ∙ ap (more (Write part at kept true)) same in
    subst (λ (d : Recorded). Reads part (Written at bytes) (state_after label old faults) (state_after later d more_faults)) (sym now)
    (subst (λ (b : List ℕ). Reads part (Written at b) (state_after label old faults) (state_after later (more (Write part at kept true) old) more_faults)) items (reads part))
  where
    reads : (p : Part) → Reads p (Written at kept.items) (state_after label old faults) (state_after later (more (Write p at kept true) old) more_faults)
    reads Bytes from told =
        let same : image_after old.first old.steps ≡ from = cc told in
        (image_after old.first (Write Bytes at kept true ∷ old.steps), refl, subst (λ (i : Image). OnPart Bytes (Written at kept.items) i (image_after old.first (Write Bytes at kept true ∷ old.steps))) same (record { changed = overwrites at kept.items (content_after old.first old.steps Bytes); kept = refl }))
    reads Ranges from told =
        let same : image_after old.first old.steps ≡ from = cc told in
        (image_after old.first (Write Ranges at kept true ∷ old.steps), refl, subst (λ (i : Image). OnPart Ranges (Written at kept.items) i (image_after old.first (Write Ranges at kept true ∷ old.steps))) same (record { changed = overwrites at kept.items (content_after old.first old.steps Ranges); kept = refl }))

pub more_or_same : (s : Step) (old before new : Recorded) → (new ≡ more s before) ⊎ (new ≡ before) → before ≡ old → (new ≡ more s old) ⊎ (new ≡ old)
more_or_same s old before new (inl done) is = inl (done ∙ ap (more s) is)
more_or_same s old before new (inr not) is = inr (not ∙ is)
