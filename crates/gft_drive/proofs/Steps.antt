-- Calls of a drive, one after another.
use Rattle.std.proofs.Common.{◌≡◌, List, ℕ, Option, Some, None, IsSome, refl, ◌∙◌, sym, subst}
use Rattle.gft_drive.specs.Drive.{Image, DriveState, Goes, Reads}
use Rattle.gft_drive.specs.declared.drive.Part.{Part}

pub Goes-refl : (old : DriveState) → Goes old old
Goes-refl old = record { label = refl; tells = (λ some. some, λ some. some) }

pub Goes-then : (old mid new : DriveState) → Goes old mid → Goes mid new → Goes old new
Goes-then old mid new first second = record {
  label = second.label ∙ first.label;
  tells = (λ some. first.tells.0 (second.tells.0 some), λ some. second.tells.1 (first.tells.1 some));
}

-- a part that nobody touched
pub Reads-same : (part : Part) (step : List ℕ → List ℕ → Type 0) (old : DriveState) → ((xs : List ℕ) → step xs xs) → Reads part step old old
Reads-same part step old stays from told = (from, told, record { changed = stays _; kept = refl })

-- two steps in a row
pub Reads-then : (part : Part) (first second both : List ℕ → List ℕ → Type 0) (old mid new : DriveState) → Reads part first old mid → Reads part second mid new → ((xs ys zs : List ℕ) → first xs ys → second ys zs → both xs zs) → Reads part both old new
Reads-then part first second both old mid new one other join from told =
    let here = one from told in
    let there = other here.0 here.1 in
    (there.0, there.1, record { changed = join _ _ _ here.2.changed there.2.changed; kept = there.2.kept ∙ here.2.kept })

-- a step says less
pub Reads-weaker : (part : Part) (step less : List ℕ → List ℕ → Type 0) (old new : DriveState) → ((xs ys : List ℕ) → step xs ys → less xs ys) → Reads part step old new → Reads part less old new
Reads-weaker part step less old new says reads from told =
    let there = reads from told in
    (there.0, there.1, record { changed = says _ _ there.2.changed; kept = there.2.kept })

pub told_some : (contents : Option Image) → IsSome contents → (from : Image) × (contents ≡ Some from)
told_some (Some from) some = (from, refl)
told_some None some = absurd (cc)

-- what is told is some contents
pub tells_some : (drive : DriveState) (read : Image) → drive.contents ≡ Some read → IsSome drive.contents
tells_some drive read told = let P : Option Image → Type 0 = λ o. IsSome o in subst P (sym told) refl

-- a drive that tells its contents now told them before
pub told_before : (old new : DriveState) (image : Image) → Goes old new → new.contents ≡ Some image → (from : Image) × (old.contents ≡ Some from)
told_before old new image goes told = told_some old.contents (goes.tells.0 (tells_some new image told))
