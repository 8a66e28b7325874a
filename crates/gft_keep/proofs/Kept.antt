-- A whole keep before and after its calls.
use Rattle.std.proofs.Common.{◌≡◌, ◌⊎◌, ◌↔◌, inl, inr, ⊎_elim, ℕ, ◌-◌, ◌<◌, ◌≤◌, List, [], length, Option, Some, None, Bool, true, false, IsSome, IsTrue, IfSome, refl, sym, ap, ◌∙◌, subst, arith}
use Rattle.std.specs.Option.{is_some}
use Rattle.std.proofs.lemmas.Bool.{cases_lt}
use Rattle.gft_base.specs.declared.TheConstants.{LIMIT}
use Rattle.gft_range.specs.declared.Range.{Range}
use Rattle.gft_range.specs.Words.{HasOffset, IsNormal}
use Rattle.gft_drive.specs.declared.Part.TheVariants.{Bytes, Ranges}
use Rattle.gft_drive.specs.Words.{Covers, DriveState, Elapses, Image, IsBorn, IsComplete, IsLawful, IsSynced, MayLeave, ReadsBy, Unchanged}
use Rattle.gft_drive.proofs.Lemmas.{synced_looked, tells_some, told_before, told_some}
use Rattle.gft_journal.specs.declared.Journal.{Journal}
use Rattle.gft_keep.specs.declared.standing.Standing.{Standing}
use Rattle.gft_keep.specs.declared.standing.Standing.TheVariants.{Whole, Emptying, Torn}
use Rattle.gft_keep.specs.Changing.{EmptiesSoundly, IsFinished, IsReady, IsReopened, MayFinish, ReadyBy, Soundly}
use Rattle.gft_keep.specs.Image.{Holds, IsSound}
use Rattle.gft_keep.specs.Keep.{IsEmptying, IsExact, IsKeep, IsUnbroken, MovesBy, StandsAs, StandsWhole}
use Rattle.gft_keep.specs.Calls.{OnlyLooks}
use Rattle.gft_keep.specs.State.{IsWhole, KeepState}
use Rattle.gft_keep.specs.Steps.{Empties, Finishes, IsEmpty, Reopens, StaysHeld}
use Rattle.gft_keep.specs.Tearing.{EachSince, NamesSet, TornFrom}
use Rattle.gft_keep.specs.Writing.{AreThere}
use Rattle.gft_keep.proofs.Failing.{exact_holds, torn_is_keep, torn_keep}
use Rattle.gft_keep.proofs.Images.{iff_then}
use Rattle.gft_keep.proofs.Running.{ready_exact, since_leaves, since_now, since_says}

module _ (keep : KeepState) (is : IsUnbroken keep) where
  pub stands_whole : StandsWhole keep
  stands_whole = subst (λ (s : Standing). StandsAs s keep) is.whole is.facts.stands

  pub exact_read : (read : Image) → keep.drive.contents ≡ Some read → IsExact keep read
  exact_read read told = stands_whole.each (tells_some keep.drive read told) read (is.facts.lawful.read read told)

  synced_bytes : IsSynced Bytes keep.drive
  synced_bytes read image told left =
      let exact = stands_whole.each (tells_some keep.drive read told) image left in
      let same : image ≡ read = cc (exact.read, told) in
      ap (λ (i : Image). i.bytes) same

  pub unbroken_ready : IsReady keep.journal keep.drive
  unbroken_ready = record { stands = stands_whole.journal; synced = synced_bytes; sound = λ read told. (exact_read read told).sound }

  pub names_set : NamesSet keep.ranges keep.drive
  names_set = record { few = is.facts.few; in_limit = is.facts.in_limit; ranges = λ read told x. (exact_read read told).ranges x }

  pub may_finish : (len : ℕ) → ((x : ℕ) → HasOffset keep.ranges x ↔ (x < len)) → IfSome keep.complete (λ n. n ≤ len) → MayFinish len keep.drive
  may_finish len exact mark = record {
    exact = λ read told x. iff_then ((exact_read read told).ranges x) (exact x);
    mark = λ read told n now. subst (λ (o : Option ℕ). IfSome o (λ m. m ≤ len)) (((exact_read read told).complete n).0 now) mark;
  }

  pub len_in_limit : (len : ℕ) → ((x : ℕ) → HasOffset keep.ranges x ↔ (x < len)) → len ≤ LIMIT
  len_in_limit len exact = ⊎_elim (λ some. let last = is.facts.in_limit (len - 1) ((exact (len - 1)).1 (omega (arith, some))) in omega (arith, last, some)) (λ none. omega (arith, none)) (cases_lt 0 len)

  pub unmarked_read : is_some keep.complete ≡ false → (read : Image) → keep.drive.contents ≡ Some read → (len : ℕ) → IsComplete read.ranges len → ⊥
  unmarked_read none read told len now =
      let some : keep.complete ≡ Some len = ((exact_read read told).complete len).0 now in
      let is : true ≡ false = subst (λ (o : Option ℕ). is_some o ≡ false) some none in
      absurd (cc)

-- a ready drive whose read stands for exactly what is kept
pub ready_stands : (keep : KeepState) → IsReady keep.journal keep.drive → ((read : Image) → keep.drive.contents ≡ Some read → IsExact keep read) → StandsWhole keep
ready_stands keep ready exact = record {
  journal = ready.stands;
  each = λ some image left.
      let told = told_some keep.drive.contents some in
      let same = ready_exact keep.journal keep.drive ready told.0 image told.1 left in
      subst (λ (i : Image). IsExact keep i) (sym same) (exact told.0 told.1);
}

-- what is told now came by the step
pub read_from : (step : Image → Image → Type 0) (old new : DriveState) → Elapses old new → ReadsBy step old new → (image : Image) → new.contents ≡ Some image → (from : Image) × (old.contents ≡ Some from) × step from image
read_from step old new time reads image told =
    let was = told_before old new image time.goes told in
    let last = reads was.0 was.1 in
    let same : last.0 ≡ image = cc (last.1, told) in
    (was.0, was.1, subst (λ (i : Image). step was.0 i) same last.2)

-- ---- fresh

abbrev pub fresh_keep : DriveState → List Range → Standing → Journal → KeepState
fresh_keep drive ranges standing journal = record { drive = drive; ranges = ranges; complete = None; is_born = true; standing = standing; journal = journal }

empty_keep : (old drive : DriveState) (journal : Journal) → IsLawful drive → Elapses old drive → ReadyBy IsEmpty journal old drive → IsKeep (fresh_keep drive [] Whole journal)
empty_keep old drive journal lawful time by = record {
  lawful = lawful;
  normal = tt;
  few = omega arith;
  in_limit = λ x has. absurd has;
  complete = tt;
  stands = ready_stands (fresh_keep drive [] Whole journal) by.ready (λ read told.
      let from = read_from IsEmpty old drive time by.read read told in
      record {
        read = told;
        ranges = λ x. (λ covered. from.2.none.ranges x covered, λ has. absurd has);
        complete = λ len. (λ now. absurd (from.2.none.complete len now), λ gone. absurd (cc));
        born = (λ born. refl, λ yes. from.2.none.born);
        sound = by.ready.sound read told;
      });
}

pub fresh_is_keep : (old drive : DriveState) (ranges : List Range) (standing : Standing) (journal : Journal) → ranges ≡ [] → standing ≡ Whole → IsLawful drive → Elapses old drive → ReadyBy IsEmpty journal old drive → IsKeep (fresh_keep drive ranges standing journal)
fresh_is_keep old drive ranges standing journal none whole lawful time by =
    subst (λ (rs : List Range). IsKeep (fresh_keep drive rs standing journal)) (sym none) (subst (λ (s : Standing). IsKeep (fresh_keep drive [] s journal)) (sym whole) (empty_keep old drive journal lawful time by))

abbrev pub emptying_keep : KeepState → DriveState → Journal → KeepState
emptying_keep old drive journal = record { drive = drive; ranges = old.ranges; complete = old.complete; is_born = old.is_born; standing = Emptying; journal = journal }

pub emptying_is_keep : (old : KeepState) (drive : DriveState) (journal : Journal) → IsUnbroken old → IsLawful drive → EachSince EmptiesSoundly old.drive drive → IsKeep (emptying_keep old drive journal)
emptying_is_keep old drive journal is lawful since = record {
  lawful = lawful;
  normal = is.facts.normal;
  few = is.facts.few;
  in_limit = is.facts.in_limit;
  complete = is.facts.complete;
  stands = λ some image left.
      let was = told_some old.drive.contents (since.time.goes.tells.0 some) in
      let now = since_now EmptiesSoundly old.drive drive lawful since was.0 image was.1 left in
      record {
        sound = now.sound;
        either = ⊎_elim (λ kept. inr (λ x has. (kept.stays.ranges x).1 (((exact_read old is was.0 was.1).ranges x).1 has))) (λ none. inl none) now.done;
      };
}

-- ---- resume and finish

abbrev pub marked_keep : KeepState → DriveState → Option ℕ → Bool → Journal → KeepState
marked_keep old drive complete is_born journal = record { drive = drive; ranges = old.ranges; complete = complete; is_born = is_born; standing = old.standing; journal = journal }

marked_is_keep : (old : KeepState) (drive : DriveState) (complete : Option ℕ) (is_born : Bool) (journal : Journal) → IsUnbroken old → IsLawful drive → IfSome complete (λ len. len ≤ LIMIT)
    → StandsWhole (marked_keep old drive complete is_born journal) → IsKeep (marked_keep old drive complete is_born journal)
marked_is_keep old drive complete is_born journal is lawful mark stands = record {
  lawful = lawful;
  normal = is.facts.normal;
  few = is.facts.few;
  in_limit = is.facts.in_limit;
  complete = mark;
  stands = subst (λ (s : Standing). StandsAs s (marked_keep old drive complete is_born journal)) (sym is.whole) stands;
}

pub resumed_is_keep : (old : KeepState) (drive : DriveState) (journal : Journal) → IsUnbroken old → IsLawful drive → Elapses old.drive drive → ReadyBy IsReopened journal old.drive drive → IsKeep (marked_keep old drive None true journal)
resumed_is_keep old drive journal is lawful time by = marked_is_keep old drive None true journal is lawful tt (ready_stands (marked_keep old drive None true journal) by.ready (λ read told.
    let from = read_from IsReopened old.drive drive time by.read read told in
    let exact = exact_read old is from.0 from.1 in
    record {
      read = told;
      ranges = λ x. iff_then (from.2.reopens.stays.ranges x) (exact.ranges x);
      complete = λ len. (λ now. absurd (from.2.incomplete len now), λ gone. absurd (cc));
      born = (λ born. refl, λ yes. from.2.born);
      sound = by.ready.sound read told;
    }))

pub finished_is_keep : (old : KeepState) (drive : DriveState) (len : ℕ) (journal : Journal) → IsUnbroken old → IsLawful drive → len ≤ LIMIT → Elapses old.drive drive → ReadyBy (IsFinished len) journal old.drive drive → IsKeep (marked_keep old drive (Some len) old.is_born journal)
finished_is_keep old drive len journal is lawful in_limit time by = marked_is_keep old drive (Some len) old.is_born journal is lawful in_limit (ready_stands (marked_keep old drive (Some len) old.is_born journal) by.ready (λ read told.
    let from = read_from (IsFinished len) old.drive drive time by.read read told in
    let exact = exact_read old is from.0 from.1 in
    record {
      read = told;
      ranges = λ x. iff_then (from.2.finished.finishes.stays.ranges x) (exact.ranges x);
      complete = λ n. (λ now. ap (λ (m : ℕ). Some m) ((from.2.complete n).0 now), λ same. (from.2.complete n).1 (cc same));
      born = iff_then from.2.finished.finishes.born exact.born;
      sound = by.ready.sound read told;
    }))

-- all stays held, and the keep is broken
pub stays_torn : (keep : KeepState) (read image : Image) → IsExact keep read → StaysHeld read image → IsSound image → TornFrom keep.ranges 0 [] read image
stays_torn keep read image exact stays sound = record {
  sound = sound;
  kept = λ x has. stays.held x _ (exact_holds keep read exact x has);
  added = λ x covered. inl ((exact.ranges x).0 ((stays.ranges x).0 covered));
}

pub broken_is_keep : (step : Image → Image → Type 0) (old : KeepState) (drive : DriveState) (journal : Journal) → ((read image : Image) → step read image → StaysHeld read image) → IsUnbroken old → IsLawful drive
    → EachSince (Soundly step) old.drive drive → IsKeep (torn_keep old drive journal)
broken_is_keep step old drive journal stays is lawful since = torn_is_keep old drive journal 0 [] is.facts lawful
    (since_says (Soundly step) (TornFrom old.ranges 0 []) old.drive drive since (λ read image told now. stays_torn old read image (exact_read old is read told) (stays read image now.done) now.sound))

-- the file has what is kept
pub keep_there : (keep : KeepState) → IsUnbroken keep → AreThere keep.ranges keep.drive
keep_there keep is read told x has = let exact = exact_read keep is read told in exact.sound.within x ((exact.ranges x).1 has)

-- a keep that was looked at
abbrev pub looked_keep : KeepState → DriveState → KeepState
looked_keep old drive = record { drive = drive; ranges = old.ranges; complete = old.complete; is_born = old.is_born; standing = old.standing; journal = old.journal }

looked_stands : (old : KeepState) (drive : DriveState) → IsLawful drive → Unchanged old.drive drive → StandsWhole old → StandsWhole (looked_keep old drive)
looked_stands old drive lawful looks stands = record {
  journal = record {
    matches = λ read told. stands.journal.matches read (sym looks.read ∙ told);
    synced = synced_looked Ranges old.drive drive lawful looks stands.journal.synced;
  };
  each = λ some image left.
      let was = looks.no_more image (lawful.since old.drive.moment drive.moment image looks.time.later (omega arith) left) in
      let exact = stands.each (looks.time.goes.tells.0 some) image was in
      record { read = looks.read ∙ exact.read; ranges = exact.ranges; complete = exact.complete; born = exact.born; sound = exact.sound };
}

pub only_looks : (old : KeepState) (drive : DriveState) → IsWhole old → IsLawful drive → Unchanged old.drive drive → OnlyLooks old (looked_keep old drive)
only_looks old drive whole lawful looks = record {
  keep = λ keep. record {
    lawful = lawful;
    normal = keep.normal;
    few = keep.few;
    in_limit = keep.in_limit;
    complete = keep.complete;
    stands = subst (λ (s : Standing). StandsAs s (looked_keep old drive)) (sym whole) (looked_stands old drive lawful looks (subst (λ (s : Standing). StandsAs s old) whole keep.stands));
  };
  whole = whole;
  same = record { ranges = refl; complete = refl; is_born = refl };
  drive = looks;
}
