-- Calls on a drive whose journal stands, one after another.
use Rattle.std.proofs.Common.{◌≡◌, ◌⊎◌, ⊎_elim, ℕ, ◌≤◌, List, Some, IsSome, refl, sym, ap, ◌∙◌, subst, arith}
use Rattle.gft_drive.specs.declared.Part.TheVariants.{Bytes, Ranges}
use Rattle.gft_drive.specs.Words.{DriveState, Elapses, Image, IsLawful, IsSynced, Leaves, LeavesBy, MayLeave, OnPart, Reads, ReadsBy, Same}
use Rattle.gft_drive.proofs.Lemmas.{bytes_still_synced, still_synced, tells_some, told_some}
use Rattle.gft_journal.specs.Words.{IsJournalOf, Matches}
use Rattle.gft_journal.specs.declared.Journal.{Journal}
use Rattle.gft_keep.specs.Changing.{IsReady}
use Rattle.gft_keep.specs.Image.{IsSound}
use Rattle.gft_keep.specs.Tearing.{EachSince}
use Rattle.gft_keep.proofs.Running.{ready_exact, since_more, since_none}

-- each image since is so, the journal stands, and what a read gives is so
pub record Stage (P R : Image → Image → Type 0) (journal : Journal) (old now : DriveState) : Type 0 where
  pub since : EachSince P old now
  pub ready : IsReady journal now
  pub reads : ReadsBy R old now

-- what a read gives before the first call, with what is known of it
pub record IsStart (F : Image → Type 0) (read image : Image) : Type 0 where
  pub same : image ≡ read
  pub sound : IsSound read
  pub facts : F read

-- before the first call
pub stage_none : (P : Image → Image → Type 0) (F : Image → Type 0) (journal : Journal) (old : DriveState) → IsReady journal old → ((read : Image) → old.contents ≡ Some read → F read)
    → ((read : Image) → IsSound read → F read → P read read) → Stage P (IsStart F) journal old old
stage_none P F journal old ready facts here = record {
  since = since_none P old (λ read image told left. subst (λ (i : Image). P read i) (sym (ready_exact journal old ready read image told left)) (here read (ready.sound read told) (facts read told)));
  ready = ready;
  reads = λ read told. (read, told, record { same = refl; sound = ready.sound read told; facts = facts read told });
}

-- one call more, done or not
pub stage_since : (P R step : Image → Image → Type 0) (journal : Journal) (old now new : DriveState) → IsLawful now → IsLawful new → Stage P R journal old now → LeavesBy step now new → Elapses now new
    → ((read staged image : Image) → R read staged → step staged image → P read image) → EachSince P old new
stage_since P R step journal old now new lawful_now lawful_new stage leaves time kept =
    since_more P step old now new lawful_now lawful_new stage.since leaves time (λ read from image told may was torn.
    let staged = stage.reads read told in
    kept read staged.0 image staged.2 (subst (λ (i : Image). step i image) (ready_exact journal now stage.ready staged.0 from staged.1 may) torn))

-- what a read gives after one step more
reads_more : (R step S : Image → Image → Type 0) (old now new : DriveState) → ReadsBy R old now → ReadsBy step now new → ((read staged image : Image) → R read staged → step staged image → S read image) → ReadsBy S old new
reads_more R step S old now new first second says read told =
    let staged = first read told in
    let last = second staged.0 staged.1 in
    (last.0, last.1, says read staged.0 last.0 staged.2 last.2)

-- what is told now came from what was told
sound_more : (S : Image → Image → Type 0) (old new : DriveState) → Elapses old new → ReadsBy S old new → ((read image : Image) → S read image → IsSound image) → (image : Image) → new.contents ≡ Some image → IsSound image
sound_more S old new time reads sound image told =
    let was = told_some old.contents (time.goes.tells.0 (tells_some new image told)) in
    let last = reads was.0 was.1 in
    let same : last.0 ≡ image = cc (last.1, told) in
    subst IsSound same (sound was.0 last.0 last.2)

-- a call on the ranges that is done
pub stage_ranges : (P R S : Image → Image → Type 0) (step other : List ℕ → List ℕ → Type 0) (journal next : Journal) (old now new : DriveState) → IsLawful new → Stage P R journal old now → EachSince P old new
    → IsJournalOf next new → Leaves Ranges step now new → Reads Ranges other now new → Elapses now new
    → ((read staged image : Image) → R read staged → OnPart Ranges other staged image → S read image) → ((read image : Image) → S read image → IsSound image) → Stage P S next old new
stage_ranges P R S step other journal next old now new lawful stage since stands leaves reads time says sound =
    let both = reads_more R (OnPart Ranges other) S old now new stage.reads reads says in
    record {
      since = since;
      ready = record {
        stands = stands;
        synced = bytes_still_synced now new step other lawful stage.ready.synced leaves reads time;
        sound = sound_more S old new since.time both sound;
      };
      reads = both;
    }

-- calls on the bytes leave the journal standing
pub still_stands : (journal : Journal) (old now : DriveState) (step other : List ℕ → List ℕ → Type 0) → IsLawful now → IsJournalOf journal old → Leaves Bytes step old now → Reads Bytes other old now → Elapses old now → IsJournalOf journal now
still_stands journal old now step other lawful stands leaves reads time = record {
  matches = λ read told.
      let was = told_some old.contents (time.goes.tells.0 (tells_some now read told)) in
      let to = reads was.0 was.1 in
      let same : to.0 ≡ read = cc (to.1, told) in
      subst (Matches journal) (sym to.2.kept ∙ ap (λ (i : Image). i.ranges) same) (stands.matches was.0 was.1);
  synced = still_synced old now step other lawful stands.synced leaves reads time;
}

-- calls on the bytes that are done and synced
pub stage_bytes : (P R S : Image → Image → Type 0) (step other : List ℕ → List ℕ → Type 0) (journal : Journal) (old now new : DriveState) → IsLawful new → Stage P R journal old now → EachSince P old new
    → IsSynced Bytes new → Leaves Bytes step now new → Reads Bytes other now new → Elapses now new
    → ((read staged image : Image) → R read staged → OnPart Bytes other staged image → S read image) → ((read image : Image) → S read image → IsSound image) → Stage P S journal old new
stage_bytes P R S step other journal old now new lawful stage since synced leaves reads time says sound =
    let both = reads_more R (OnPart Bytes other) S old now new stage.reads reads says in
    record {
      since = since;
      ready = record {
        stands = still_stands journal now new step other lawful stage.ready.stands leaves reads time;
        synced = synced;
        sound = sound_more S old new since.time both sound;
      };
      reads = both;
    }

-- a sync after a call on the bytes
pub leaves_sync : (step : List ℕ → List ℕ → Type 0) (old mid new : DriveState) → IsLawful mid → Leaves Bytes step old mid → Leaves Bytes Same mid new → Elapses old mid → Elapses mid new → Leaves Bytes step old new
leaves_sync step old mid new lawful first second before after some image left = ⊎_elim
    (λ was. first some image was)
    (λ during.
    let d = second (before.goes.tells.1 some) image during in
    let from = first some d.0 (lawful.since old.moment mid.moment d.0 before.later (omega arith) d.1) in (
      from.0,
      from.1,
      record {
        changed = subst (λ (l : List ℕ). step from.0.bytes l) (sym d.2.changed) from.2.changed;
        kept = d.2.kept ∙ from.2.kept;
      },
    ))
    (after.nothing_else old.moment image before.later left)

-- what a read gives after a sync
pub reads_sync : (step : List ℕ → List ℕ → Type 0) (old mid new : DriveState) → Reads Bytes step old mid → new.contents ≡ mid.contents → Reads Bytes step old new
reads_sync step old mid new reads same read told = let there = reads read told in (there.0, same ∙ there.1, there.2)
