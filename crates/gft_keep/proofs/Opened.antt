-- What opening a drive finds.
use Rattle.std.proofs.Common.{◌≡◌, ◌⊎◌, ◌↔◌, inl, inr, ⊎_elim, ℕ, ◌-◌, ◌<◌, ◌≤◌, List, length, Option, Some, None, IfSome, IsSome, refl, sym, ap, ◌∙◌, subst, arith}
use Rattle.gft_range.specs.Words.{HasOffset, IsNormal}
use Rattle.gft_drive.specs.declared.Part.TheVariants.{Bytes, Ranges}
use Rattle.gft_drive.specs.Words.{DriveState, HasLength, Image, IsLawful, MayLeave, Unchanged}
use Rattle.gft_drive.proofs.Lemmas.{both_exact, synced_looked, told_some}
use Rattle.gft_journal.specs.Words.{Finds, FoundOn}
use Rattle.gft_journal.specs.declared.Found.{Found}
use Rattle.gft_keep.specs.declared.standing.Standing.TheVariants.{Whole}
use Rattle.gft_keep.specs.Image.{HasFewRanges, IsShort, IsSound}
use Rattle.gft_keep.specs.Keep.{IsExact, IsKeep}
use Rattle.gft_keep.specs.Opening.{IsReach, Opens}
use Rattle.gft_keep.specs.State.{KeepState}
use Rattle.gft_keep.proofs.Images.{iff_back}

pub FoundOn-looked : (old mid new : DriveState) (found : Found) → IsLawful new → FoundOn old mid found → Unchanged mid new → FoundOn old new found
FoundOn-looked old mid new found lawful on looks = record {
  read = looks.read ∙ on.read;
  finds = on.finds;
  few = on.few;
  in_limit = on.in_limit;
  end = on.end;
  stands = record {
    matches = λ image told. on.stands.matches image (sym looks.read ∙ told);
    synced = synced_looked Ranges mid new lawful looks on.stands.synced;
  };
  synced = synced_looked Bytes mid new lawful looks on.synced;
}

marked : (complete : Option ℕ) (len end : ℕ) → complete ≡ Some len → IfSome complete (λ n. n ≤ end) → len ≤ end
marked complete len end is mark = subst (λ (o : Option ℕ). IfSome o (λ n. n ≤ end)) is mark

module _ (old mid : DriveState) (found : Found) (on : FoundOn old mid found) (end len : ℕ) (reach : IsReach found.set.ranges found.complete end) (read : Image) (told : old.contents ≡ Some read) (size : HasLength Bytes mid len) where
  finds : Finds found read.ranges
  finds = on.finds read told

  few : HasFewRanges read.ranges
  few = record { set = found.set.ranges; normal = reach.normal; offsets = finds.ranges; few = on.few }

  long : len ≡ length read.bytes
  long = size read (on.read ∙ told)

  pub found_sound : end ≤ len → IsSound read
  found_sound le = record {
    intact = (on.stands.matches read (on.read ∙ told)).sound;
    few = few;
    within = λ x covered. omega (arith, reach.ranges x ((finds.ranges x).1 covered), le, long);
    complete = λ n is. omega (arith, marked found.complete n end ((finds.complete n).1 is) reach.mark, le, long);
  }

  pub found_short : len < end → IsShort read end len
  found_short lt = record {
    intact = (on.stands.matches read (on.read ∙ told)).sound;
    few = few;
    reaches = record {
      ranges = λ x covered. reach.ranges x ((finds.ranges x).1 covered);
      complete = λ n is. marked found.complete n end ((finds.complete n).1 is) reach.mark;
      reached = ⊎_elim (λ none. inl none) (λ some. inr (⊎_elim (λ has. inl ((finds.ranges (end - 1)).0 has)) (λ is. inr ((finds.complete end).0 is)) some)) reach.reached;
    };
    size = long;
    short = lt;
  }

-- the keep of what was found
abbrev pub found_keep : DriveState → Found → KeepState
found_keep drive found = record {
  drive = drive;
  ranges = found.set.ranges;
  complete = found.complete;
  is_born = found.born;
  standing = Whole;
  journal = found.journal;
}

pub found_is_keep : (old new : DriveState) (found : Found) → IsLawful new → Opens old new found → IsKeep (found_keep new found)
found_is_keep old new found lawful opens = record {
  lawful = lawful;
  normal = opens.normal;
  few = opens.is.few;
  in_limit = opens.is.in_limit;
  complete = opens.is.end;
  stands = record { journal = opens.is.stands; each = λ some image left. each image left some };
}
  where
    each : (image : Image) → MayLeave new image → IsSome new.contents → IsExact (found_keep new found) image
    each image left some =
        let read = told_some new.contents some in
        let was : old.contents ≡ Some read.0 = sym opens.is.read ∙ read.1 in
        let exact : image ≡ read.0 = both_exact new read.0 read.1 opens.is.synced opens.is.stands.synced image left in
        let P : Image → Type 0 = λ i. IsExact (found_keep new found) i in
        subst P (sym exact) (record {
          read = read.1;
          ranges = λ x. iff_back ((opens.is.finds read.0 was).ranges x);
          complete = λ len. iff_back ((opens.is.finds read.0 was).complete len);
          born = iff_back (opens.is.finds read.0 was).born;
          sound = opens.sound read.0 was;
        })
