-- A bank is written piece by piece, while the other one is selected.
use Rattle.std.proofs.Common.{◌≡◌, ℕ, ◌+◌, ◌*◌, ◌<◌, ◌≤◌, List, length, Some, refl, sym, ◌∙◌, subst, arith}
use Rattle.gft_drive.specs.Words.{Image, DriveState, IsLawful, Elapses, Leaves, Reads, IsSynced}
use Rattle.gft_drive.specs.Words.{Written, Torn, DiffersIn}
use Rattle.gft_drive.specs.Words.{Slot, bank_size}
use Rattle.gft_drive.specs.declared.Part.TheVariants.{Ranges}
use Rattle.gft_drive.proofs.Lemmas.{Since, Phase, started, goes_on, holds_on, leaves_by, elapses_refl, elapses_trans}
use Rattle.gft_drive.proofs.Lemmas.{torn_differs, written_differs}
use Rattle.gft_journal.specs.Bank.{HasUnits, WritesBank, HasBank}
use Rattle.gft_journal.proofs.OpenSlots.{differs_more, differs_trans}
use Rattle.gft_journal.proofs.Units.{pieces_more}

-- n pieces of the bank stand in what a read gives, and no image differs elsewhere
pub record Staged (start now : DriveState) (at : ℕ) (slots : List Slot) (n : ℕ) (read : Image) : Type 0 where
  pub staged : Image
  pub phase : Phase start now (DiffersIn at bank_size read.ranges) (DiffersIn at bank_size read.ranges) staged
  pub differs : DiffersIn at bank_size read.ranges staged.ranges
  pub units : HasUnits slots 0 (256 * n) staged.ranges at
  pub bytes : staged.bytes ≡ read.bytes

pub record WritingBank (start now : DriveState) (at : ℕ) (slots : List Slot) (n : ℕ) : Type 0 where
  pub time : Elapses start now
  pub faults : now.faults ≡ start.faults
  pub run : (read : Image) → start.contents ≡ Some read → Staged start now at slots n read

differs_refl : (at n : ℕ) (xs : List ℕ) → DiffersIn at n xs xs
differs_refl at n xs = record { before = λ k lt. refl; after = λ k le. refl; size = refl }

pub none_written : (start : DriveState) (at : ℕ) (slots : List Slot) → IsSynced Ranges start → WritingBank start start at slots 0
none_written start at slots synced = record {
  time = elapses_refl start;
  faults = refl;
  run = λ read told.
      let P = DiffersIn at bank_size read.ranges in
      record {
        staged = read;
        phase = started start P P read told (λ c left. let here = subst P (sym (synced read c told left)) (differs_refl at bank_size read.ranges) in (here, here));
        differs = differs_refl at bank_size read.ranges;
        units = λ i lt. absurd (omega (arith, lt));
        bytes = refl;
      };
}

module _ (start now new : DriveState) (at : ℕ) (slots : List Slot) (n : ℕ) (piece : List ℕ) (so_far : WritingBank start now at slots n) (lawful_now : IsLawful now) (lawful_new : IsLawful new)
    (within : HasBank at start) (below : n < 256) (size : length piece ≡ 4096) (place : ℕ) (is_place : place ≡ at + 16 * (256 * n))
    (leaves : Leaves Ranges (Torn place (length piece)) now new) (time : Elapses now new) where
  torn_inside : (xs ys zs : List ℕ) → at + bank_size ≤ length xs → DiffersIn at bank_size xs ys → Torn place (length piece) ys zs → DiffersIn at bank_size xs zs
  torn_inside xs ys zs fits differs torn =
      let inside = torn_differs place (length piece) ys zs (omega (arith, fits, differs.size, size, is_place, below)) torn in
      differs_trans at bank_size xs ys zs differs (differs_more place (length piece) at bank_size ys zs (omega (arith, is_place)) (omega (arith, is_place, size, below)) inside)

  pub piece_since : (read : Image) → start.contents ≡ Some read → Since start new (DiffersIn at bank_size read.ranges)
  piece_since read told =
      let stage = so_far.run read told in
      let P = DiffersIn at bank_size read.ranges in
      goes_on start now new P P stage.staged (Torn place (length piece)) lawful_now lawful_new stage.phase leaves time (λ ys zs p q torn. torn_inside read.ranges ys zs (within.within read told) q torn)

  pub piece_leaves : IsSynced Ranges start → Leaves Ranges (DiffersIn at bank_size) start new
  piece_leaves synced = leaves_by start new (DiffersIn at bank_size) synced piece_since

  pub piece_time : Elapses start new
  piece_time = elapses_trans start now new lawful_new so_far.time time

  pub piece_written : new.faults ≡ now.faults → HasUnits slots (256 * n) 256 piece 0 → Reads Ranges (Written place piece) now new → WritingBank start new at slots (n + 1)
  piece_written faults units reads = record {
    time = piece_time;
    faults = faults ∙ so_far.faults;
    run = λ read told.
        let stage = so_far.run read told in
        let P = DiffersIn at bank_size read.ranges in
        let to = reads stage.staged stage.phase.told in
        let written = subst (λ (p : ℕ). Written p piece stage.staged.ranges to.0.ranges) is_place to.2.changed in
        let more = pieces_more slots (256 * n) at piece stage.staged.ranges to.0.ranges size units written stage.units in
        let count : 256 * n + 256 ≡ 256 * (n + 1) = omega arith in
        let moved = written_differs place piece stage.staged.ranges to.0.ranges (omega (arith, within.within read told, stage.differs.size, size, is_place, below)) to.2.changed in
        record {
          staged = to.0;
          phase = record {
            since = piece_since read told;
            held = holds_on start now new P P stage.staged (Torn place (length piece)) lawful_now lawful_new stage.phase leaves time P (λ ys zs q torn. torn_inside read.ranges ys zs (within.within read told) q torn);
            told = to.1;
          };
          differs = differs_trans at bank_size read.ranges stage.staged.ranges to.0.ranges stage.differs (differs_more place (length piece) at bank_size stage.staged.ranges to.0.ranges (omega (arith, is_place)) (omega (arith, is_place, size, below)) moved);
          units = subst (λ (m : ℕ). HasUnits slots 0 m to.0.ranges at) count more;
          bytes = to.2.kept ∙ stage.bytes;
        };
  }

-- the whole bank is written
pub bank_written : (start now : DriveState) (at : ℕ) (slots : List Slot) → WritingBank start now at slots 256 → Reads Ranges (WritesBank at slots) start now
bank_written start now at slots whole read told =
    let stage = whole.run read told in
    (stage.staged, stage.phase.told, record { changed = record { differs = stage.differs; units = stage.units }; kept = stage.bytes })

pub bank_leaves : (start now : DriveState) (at n : ℕ) (slots : List Slot) → IsSynced Ranges start → WritingBank start now at slots n → Leaves Ranges (DiffersIn at bank_size) start now
bank_leaves start now at n slots synced so_far = leaves_by start now (DiffersIn at bank_size) synced (λ read told. (so_far.run read told).phase.since)
