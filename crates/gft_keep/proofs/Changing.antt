-- What `fresh`, `resume` and `finish` leave.
use Rattle.std.proofs.Common.{◌≡◌, ◌⊎◌, ◌↔◌, inl, inr, ⊎_elim, ℕ, ◌-◌, ◌<◌, ◌≤◌, min, List, [], length, take, get_or, Option, Some, None, refl, sym, ap, ◌∙◌, subst, arith}
use Rattle.std.specs.Prelude.{slice_index}
use Rattle.std.proofs.lemmas.Bool.{cases_lt}
use Rattle.std.proofs.lemmas.List.{length-take-le, get_or-take}
use Rattle.gft_range.specs.declared.Range.{Range}
use Rattle.gft_range.specs.Words.{HasOffset, IsNormal}
use Rattle.gft_drive.specs.declared.Part.TheVariants.{Bytes, Ranges}
use Rattle.gft_drive.specs.declared.TheConstants.{MAX_RANGES}
use Rattle.gft_drive.specs.Words.{Covers, CutTo, Image, IsBorn, IsComplete, IsIntact, OnPart, TornCut}
use Rattle.gft_journal.specs.Words.{Bears, BearsOrNot, Becomes, BecomesOrNot, Completes, CompletesOrNot, SameJournal}
use Rattle.gft_keep.specs.Changing.{IsFinished, IsReopened, Soundly}
use Rattle.gft_keep.specs.Image.{HasFewRanges, Holds, IsSound}
use Rattle.gft_keep.specs.Steps.{CompletesNothing, Empties, Finishes, IsEmpty, NamesNone, Reopens, StaysHeld}
use Rattle.gft_keep.proofs.Stages.{IsStart}
use Rattle.gft_keep.proofs.Images.{few_same, iff_back, iff_refl, iff_then}

-- the same ranges over data that is long enough
pub sound_kept : (read image : Image) → IsSound read → (IsIntact read.ranges → IsIntact image.ranges) → ((x : ℕ) → Covers image.ranges x ↔ Covers read.ranges x)
    → ((x : ℕ) → Covers read.ranges x → x < length image.bytes) → ((n : ℕ) → IsComplete image.ranges n → n ≤ length image.bytes) → IsSound image
sound_kept read image sound intact same within complete = record {
  intact = intact sound.intact;
  few = few_same read.ranges image.ranges sound.few same;
  within = λ x covered. within x ((same x).0 covered);
  complete = complete;
}

-- the same ranges over the same data
pub sound_same : (read image : Image) → IsSound read → image.bytes ≡ read.bytes → (IsIntact read.ranges → IsIntact image.ranges) → ((x : ℕ) → Covers image.ranges x ↔ Covers read.ranges x)
    → ((n : ℕ) → IsComplete image.ranges n → IsComplete read.ranges n) → IsSound image
sound_same read image sound bytes intact same complete =
    let size = ap length bytes in
    sound_kept read image sound intact same (λ x covered. omega (arith, sound.within x covered, size)) (λ n is. omega (arith, sound.complete n (complete n is), size))

pub holds_same : (read image : Image) → image.bytes ≡ read.bytes → ((x : ℕ) → Covers image.ranges x ↔ Covers read.ranges x) → StaysHeld read image
holds_same read image bytes same = record {
  ranges = same;
  held = λ x v holds. record {
    covered = (same x).1 holds.covered;
    within = omega (arith, holds.within, ap length bytes);
    byte = ap (λ (l : List ℕ). slice_index l x) bytes ∙ holds.byte;
  };
}

-- the journal says the same or less over the same data
reopens_by : (read image : Image) → image.bytes ≡ read.bytes → ((x : ℕ) → Covers image.ranges x ↔ Covers read.ranges x) → ((n : ℕ) → IsComplete image.ranges n → IsComplete read.ranges n) → (IsBorn read.ranges → IsBorn image.ranges) → Reopens read image
reopens_by read image bytes same complete born = record {
  stays = holds_same read image bytes same;
  completes = record {
    complete = λ len is. (complete len is, bytes);
    unborn = λ not_born. ((λ was. not_born (born was)), bytes);
  };
}

pub reopens_refl : (read : Image) → Reopens read read
reopens_refl read = reopens_by read read refl (λ x. iff_refl) (λ n is. is) (λ is. is)

-- while the birth is written
pub births : (read image : Image) → IsSound read → OnPart Ranges BearsOrNot read image → Soundly Reopens read image
births read image sound step = record {
  done = reopens_by read image step.kept step.changed.ranges (λ n is. (step.changed.complete n).0 is) step.changed.born;
  sound = sound_same read image sound step.kept step.changed.sound step.changed.ranges (λ n is. (step.changed.complete n).0 is);
}

-- the file is born, and all else is as before
pub record IsBornFrom (read image : Image) : Type 0 where
  pub bytes : image.bytes ≡ read.bytes
  pub bears : Bears read.ranges image.ranges
  pub sound : IsSound image

pub born_from : (read image : Image) → IsSound read → OnPart Ranges Bears read image → IsBornFrom read image
born_from read image sound step = record {
  bytes = step.kept;
  bears = step.changed;
  sound = sound_same read image sound step.kept step.changed.sound step.changed.ranges (λ n is. (step.changed.complete n).0 is);
}

-- a change over that was not made
same_reopens : (read staged image : Image) → IsBornFrom read staged → image.bytes ≡ staged.bytes → SameJournal staged.ranges image.ranges → Soundly Reopens read image
same_reopens read staged image born bytes same = record {
  done = reopens_by read image (bytes ∙ born.bytes) (λ x. iff_then (same.ranges x) (born.bears.ranges x)) (λ n is. (born.bears.complete n).0 ((same.rest.complete n).0 is)) (λ is. same.rest.born.1 born.bears.born);
  sound = sound_same staged image born.sound bytes same.rest.sound same.ranges (λ n is. (same.rest.complete n).0 is);
}

-- a change over to the ranges that are there
pub unmarks : (set : List Range) (read staged image : Image) → IsBornFrom read staged → ((x : ℕ) → Covers staged.ranges x ↔ HasOffset set x) → OnPart Ranges (BecomesOrNot set None) staged image → Soundly Reopens read image
unmarks set read staged image born names step = ⊎_elim
    (λ same. same_reopens read staged image born step.kept same)
    (λ becomes.
    let ranges = λ (x : ℕ). iff_then (becomes.ranges x) (iff_back (names x)) in
    let none = λ (n : ℕ) (is : IsComplete image.ranges n). unmarked image n becomes is in
    record {
      done = reopens_by read image (step.kept ∙ born.bytes) (λ x. iff_then (ranges x) (born.bears.ranges x)) (λ n is. absurd (none n is)) (λ is. becomes.born.1 born.bears.born);
      sound = sound_same staged image born.sound step.kept becomes.sound ranges (λ n is. absurd (none n is));
    })
    step.changed
  where
    unmarked : (image : Image) (n : ℕ) → Becomes set None staged.ranges image.ranges → IsComplete image.ranges n → ⊥
    unmarked image n becomes is = let gone : None ≡ Some n = (becomes.complete n).0 is in absurd (cc)

-- nothing is named
names_none : (staged image : Image) → IsBorn staged.ranges → Becomes [] None staged.ranges image.ranges → NamesNone image
names_none staged image born becomes = record {
  ranges = λ x covered. (becomes.ranges x).0 covered;
  complete = λ n is. let gone : None ≡ Some n = (becomes.complete n).0 is in absurd (cc);
  born = becomes.born.1 born;
}

pub none_sound : (image : Image) → IsIntact image.ranges → NamesNone image → IsSound image
none_sound image intact none = record {
  intact = intact;
  few = record { set = []; normal = tt; offsets = λ x. (λ has. absurd has, λ covered. absurd (none.ranges x covered)); few = omega arith };
  within = λ x covered. absurd (none.ranges x covered);
  complete = λ n is. absurd (none.complete n is);
}

pub empties : (set : List Range) (read staged image : Image) → set ≡ [] → IsBornFrom read staged → OnPart Ranges (BecomesOrNot set None) staged image → Soundly Empties read image
empties set read staged image no_range born step = ⊎_elim
    (λ same. let is = same_reopens read staged image born step.kept same in record { done = inl is.done; sound = is.sound })
    (λ becomes.
    let none = names_none staged image born.bears.born (subst (λ (s : List Range). Becomes s None staged.ranges image.ranges) no_range becomes) in
    record { done = inr none; sound = none_sound image (becomes.sound born.sound.intact) none })
    step.changed

-- nothing is named, whatever the data
pub record NamesNothing (read image : Image) : Type 0 where
  pub none : NamesNone image
  pub sound : IsSound image

pub named_nothing : (set : List Range) (read staged image : Image) → set ≡ [] → IsBornFrom read staged → OnPart Ranges (Becomes set None) staged image → NamesNothing read image
named_nothing set read staged image no_range born step =
    let none = names_none staged image born.bears.born (subst (λ (s : List Range). Becomes s None staged.ranges image.ranges) no_range step.changed) in
    record { none = none; sound = none_sound image (step.changed.sound born.sound.intact) none }

none_same : (staged image : Image) → image.ranges ≡ staged.ranges → NamesNone staged → NamesNone image
none_same staged image same none = record {
  ranges = subst (λ (l : List ℕ). (x : ℕ) → ¬ Covers l x) (sym same) none.ranges;
  complete = subst (λ (l : List ℕ). (n : ℕ) → ¬ IsComplete l n) (sym same) none.complete;
  born = subst (λ (l : List ℕ). IsBorn l) (sym same) none.born;
}

-- data that is cut beside it
pub cut_nothing : (step : List ℕ → List ℕ → Type 0) (read staged image : Image) → NamesNothing read staged → OnPart Bytes step staged image → NamesNothing read image
cut_nothing step read staged image nothing torn =
    let none = none_same staged image torn.kept nothing.none in
    record { none = none; sound = none_sound image (subst IsIntact (sym torn.kept) nothing.sound.intact) none }

pub record IsEmptied (read image : Image) : Type 0 where
  pub empty : IsEmpty read image
  pub sound : IsSound image

pub cut_empty : (read staged image : Image) → NamesNothing read staged → OnPart Bytes (CutTo 0) staged image → IsEmptied read image
cut_empty read staged image nothing cut =
    let here = cut_nothing (CutTo 0) read staged image nothing cut in
    record { empty = record { none = here.none; bytes = cut.changed }; sound = here.sound }

-- ---- at the start

pub start_births : (F : Image → Type 0) (read staged image : Image) → IsStart F read staged → OnPart Ranges BearsOrNot staged image → Soundly Reopens read image
start_births F read staged image start step = births read image start.sound (subst (λ (i : Image). OnPart Ranges BearsOrNot i image) start.same step)

pub start_born : (F : Image → Type 0) (read staged image : Image) → IsStart F read staged → OnPart Ranges Bears staged image → IsBornFrom read image
start_born F read staged image start step = born_from read image start.sound (subst (λ (i : Image). OnPart Ranges Bears i image) start.same step)

-- ---- finish

-- the data is cut to the length up to which all is kept
module _ (len : ℕ) (read : Image) (sound : IsSound read) (exact : (x : ℕ) → Covers read.ranges x ↔ (x < len)) (mark : (n : ℕ) → IsComplete read.ranges n → n ≤ len) where
  long : len ≤ length read.bytes
  long = ⊎_elim (λ some. let last = sound.within (len - 1) ((exact (len - 1)).1 (omega (arith, some))) in omega (arith, last, some)) (λ none. omega (arith, none)) (cases_lt 0 len)

  -- whatever is left above the length
  cut_finishes : (image : Image) → image.ranges ≡ read.ranges → len ≤ length image.bytes → ((x : ℕ) → x < len → slice_index image.bytes x ≡ slice_index read.bytes x) → Soundly (Finishes len) read image
  cut_finishes image ranges size bytes =
      let same = λ (x : ℕ). subst (λ (l : List ℕ). Covers l x ↔ Covers read.ranges x) (sym ranges) iff_refl in
      let complete = λ (n : ℕ) (is : IsComplete image.ranges n). subst (λ (l : List ℕ). IsComplete l n) ranges is in
      record {
        done = record {
          stays = record {
            ranges = same;
            held = λ x v holds.
                let below = (exact x).0 holds.covered in
                record { covered = (same x).1 holds.covered; within = omega (arith, below, size); byte = bytes x below ∙ holds.byte };
          };
          complete = λ n is. inl (complete n is);
          born = subst (λ (l : List ℕ). IsBorn l ↔ IsBorn read.ranges) (sym ranges) iff_refl;
        };
        sound = sound_kept read image sound (subst (λ (l : List ℕ). IsIntact read.ranges → IsIntact l) (sym ranges) (λ is. is)) same
            (λ x covered. let below = (exact x).0 covered in omega (arith, below, size)) (λ n is. let least = mark n (complete n is) in omega (arith, least, size));
      }

  pub finish_torn : (image : Image) → OnPart Bytes (TornCut len) read image → Soundly (Finishes len) read image
  finish_torn image torn = cut_finishes image torn.kept (omega (arith, long, torn.changed.no_shorter)) (λ x below. torn.changed.before x (omega (arith, below, long)) below)

  pub finish_cut : (image : Image) → OnPart Bytes (CutTo len) read image → Soundly (Finishes len) read image × (length image.bytes ≡ len)
  finish_cut image cut =
      let size : length image.bytes ≡ len = ap length cut.changed ∙ length-take-le len read.bytes long in
      (cut_finishes image cut.kept (omega (arith, size)) (λ x below. ap (λ (l : List ℕ). slice_index l x) cut.changed ∙ get_or-take len read.bytes x 0 below), size)

-- once it is cut
pub record IsCut (len : ℕ) (read image : Image) : Type 0 where
  pub finishes : Soundly (Finishes len) read image
  pub size : length image.bytes ≡ len
  pub exact : (x : ℕ) → Covers image.ranges x ↔ (x < len)

pub is_cut : (len : ℕ) (read image : Image) → IsSound read → ((x : ℕ) → Covers read.ranges x ↔ (x < len)) → ((n : ℕ) → IsComplete read.ranges n → n ≤ len) → OnPart Bytes (CutTo len) read image → IsCut len read image
is_cut len read image sound exact mark cut =
    let is = finish_cut len read sound exact mark image cut in
    record { finishes = is.0; size = is.1; exact = λ x. iff_then (is.0.done.stays.ranges x) (exact x) }

-- what has to be true before
pub record CanFinish (len : ℕ) (read : Image) : Type 0 where
  pub exact : (x : ℕ) → Covers read.ranges x ↔ (x < len)
  pub mark : (n : ℕ) → IsComplete read.ranges n → n ≤ len

pub start_finishes : (len : ℕ) (read : Image) → IsSound read → CanFinish len read → Soundly (Finishes len) read read
start_finishes len read sound can = cut_finishes len read sound can.exact can.mark read refl (long len read sound can.exact can.mark) (λ x below. refl)

pub start_torn : (len : ℕ) (read staged image : Image) → IsStart (CanFinish len) read staged → OnPart Bytes (TornCut len) staged image → Soundly (Finishes len) read image
start_torn len read staged image start torn = finish_torn len read start.sound start.facts.exact start.facts.mark image (subst (λ (i : Image). OnPart Bytes (TornCut len) i image) start.same torn)

pub start_cut : (len : ℕ) (read staged image : Image) → IsStart (CanFinish len) read staged → OnPart Bytes (CutTo len) staged image → IsCut len read image
start_cut len read staged image start cut = is_cut len read image start.sound start.facts.exact start.facts.mark (subst (λ (i : Image). OnPart Bytes (CutTo len) i image) start.same cut)

pub completes : (len : ℕ) (read staged image : Image) → IsCut len read staged → OnPart Ranges (CompletesOrNot len) staged image → Soundly (Finishes len) read image
completes len read staged image cut step =
    let size : length image.bytes ≡ len = ap length step.kept ∙ cut.size in
    let held = λ (same : (x : ℕ) → Covers image.ranges x ↔ Covers staged.ranges x). holds_then read staged image cut.finishes.done.stays (holds_same staged image step.kept same) in
    ⊎_elim
    (λ same. record {
      done = record {
        stays = held same.ranges;
        complete = λ n is. ⊎_elim (λ was. inl was) (λ now. inr (now.0, size)) (cut.finishes.done.complete n ((same.rest.complete n).0 is));
        born = iff_then same.rest.born cut.finishes.done.born;
      };
      sound = sound_same staged image cut.finishes.sound step.kept same.rest.sound same.ranges (λ n is. (same.rest.complete n).0 is);
    })
    (λ completes. completed size held completes)
    step.changed
  where
    holds_then : (a b c : Image) → StaysHeld a b → StaysHeld b c → StaysHeld a c
    holds_then a b c first second = record { ranges = λ x. iff_then (second.ranges x) (first.ranges x); held = λ x v holds. second.held x v (first.held x v holds) }

    completed : length image.bytes ≡ len → (((x : ℕ) → Covers image.ranges x ↔ Covers staged.ranges x) → StaysHeld read image) → Completes len staged.ranges image.ranges → Soundly (Finishes len) read image
    completed size held is = record {
      done = record {
        stays = held is.ranges;
        complete = λ n now. inr (sym ((is.complete n).0 now), size);
        born = iff_then is.born cut.finishes.done.born;
      };
      sound = sound_kept staged image cut.finishes.sound is.sound is.ranges (λ x covered. let below = (cut.exact x).0 covered in omega (arith, below, size)) (λ n now. let same = (is.complete n).0 now in omega (arith, same, size));
    }

pub record IsFinishedSoundly (len : ℕ) (read image : Image) : Type 0 where
  pub finished : IsFinished len read image
  pub sound : IsSound image

pub is_finished : (len : ℕ) (read staged image : Image) → IsCut len read staged → OnPart Ranges (Completes len) staged image → IsFinishedSoundly len read image
is_finished len read staged image cut step =
    let torn : OnPart Ranges (CompletesOrNot len) staged image = record { changed = inr step.changed; kept = step.kept } in
    let is = completes len read staged image cut torn in
    record {
      finished = record { finished = record { finishes = is.done; size = ap length step.kept ∙ cut.size }; complete = step.changed.complete };
      sound = is.sound;
    }

-- ---- resume

-- the file is born, and its ranges are those of the set
pub record BornNaming (set : List Range) (read image : Image) : Type 0 where
  pub born : IsBornFrom read image
  pub names : (x : ℕ) → Covers image.ranges x ↔ HasOffset set x

abbrev pub Naming : List Range → Image → Type 0
Naming set read = (x : ℕ) → Covers read.ranges x ↔ HasOffset set x

pub start_born_naming : (set : List Range) (read staged image : Image) → IsStart (Naming set) read staged → OnPart Ranges Bears staged image → BornNaming set read image
start_born_naming set read staged image start step =
    let born = start_born (Naming set) read staged image start step in
    record { born = born; names = λ x. iff_then (born.bears.ranges x) (start.facts x) }

pub resumes : (set : List Range) (read staged image : Image) → BornNaming set read staged → OnPart Ranges (BecomesOrNot set None) staged image → Soundly Reopens read image
resumes set read staged image naming step = unmarks set read staged image naming.born naming.names step

pub record IsReopenedSoundly (read image : Image) : Type 0 where
  pub reopened : IsReopened read image
  pub sound : IsSound image

pub is_resumed : (set : List Range) (read staged image : Image) → BornNaming set read staged → OnPart Ranges (Becomes set None) staged image → IsReopenedSoundly read image
is_resumed set read staged image naming step =
    let torn : OnPart Ranges (BecomesOrNot set None) staged image = record { changed = inr step.changed; kept = step.kept } in
    let is = resumes set read staged image naming torn in
    record {
      reopened = record {
        reopens = is.done;
        incomplete = λ n now. let gone : None ≡ Some n = (step.changed.complete n).0 now in absurd (cc);
        born = step.changed.born.1 naming.born.bears.born;
      };
      sound = is.sound;
    }

-- where there is no mark the birth is enough
pub is_born_only : (read image : Image) → ((n : ℕ) → ¬ IsComplete read.ranges n) → IsBornFrom read image → IsReopened read image
is_born_only read image none born = record {
  reopens = reopens_by read image born.bytes born.bears.ranges (λ n is. (born.bears.complete n).0 is) (λ is. born.bears.born);
  incomplete = λ n is. none n ((born.bears.complete n).0 is);
  born = born.bears.born;
}
