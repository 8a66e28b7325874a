-- A piece of a file: it is read, and put.
use Rattle.std.proofs.Common.{◌≡◌, ℕ, ◌+◌, ◌-◌, ◌<◌, ◌≤◌, List, ◌++◌, length, take, drop, min, true, refl, sym, ap, ◌∙◌, subst, arith, inl, inr, ⊎_elim, append_assoc}
use Rattle.std.specs.Prelude.{Option, None, Some, Ok, Err, slice_index, slice_range}
use Rattle.std.specs.Io.KnownBytes.{Appends}
use Rattle.std.proofs.KnownBytes.{Appends-nil}
use Rattle.std.proofs.lemmas.Bool.{cases_lt}
use Rattle.std.proofs.Math.Seq.{take-append-add}
use Rattle.std.proofs.lemmas.List.{drop-append-le, length-drop, length-take-le, take-append-le}
use borrow.Rule.Slice.PartMut.{post_of, put_mid}
use Rattle.gft_base.specs.Words.{Rose}
use Rattle.gft_range.specs.declared.Range.{Range}
use Rattle.gft_range.specs.Words.{InRange}
use Rattle.gft_drive.specs.Words.{DriveState, HasRead, Image, Unchanged}
use Rattle.gft_drive.specs.declared.Part.TheVariants.{Bytes}
use Rattle.gft_outside.specs.Words.{OutLaneState}
use Rattle.gft_pass.specs.declared.Cause.{Cause}
use Rattle.gft_pass.specs.declared.Cause.TheVariants.{DriveFailed, Hole, LinkFailed}
use Rattle.gft_send.specs.Sending.{Carries, GoesOut, HasPlaces, IsRestOf, MayHave, MustHave, Sends}
use Rattle.gft_send.proofs.FileLemmas.{over, over_high, over_long, over_low, over_part, part_split}
use Rattle.gft_send.proofs.SendLemmas.{goes_stop}

-- the got that was read, of a drive that tells its bytes, are these
abbrev pub IsReadAt : Option Image → ℕ → List ℕ → Type 0
IsReadAt contents at got = (image : Image) → contents ≡ Some image → got ≡ take (length got) (drop at image.bytes)

-- a file that the drive may have, with the got at the front of the range
record HasPiece (contents : Option Image) (left : Range) (got before : List ℕ) : Type 0 where
  file : List ℕ
  may : MayHave contents file
  long : length file ≡ length before
  same : (x : ℕ) → ¬ InRange left x → slice_index file x ≡ slice_index before x
  part : slice_range file left.start (left.start + length got) ≡ got

reaches : (left : Range) (file : List ℕ) → left.start < left.end → HasPlaces (InRange left) file → left.end ≤ length file
reaches left file some has = let last = has (left.end - 1) (omega arith, omega arith) in omega arith

has_piece : (contents : Option Image) (left : Range) (got before : List ℕ) → left.start < left.end → length got ≤ left.end - left.start → IsReadAt contents left.start got
    → MayHave contents before → HasPlaces (InRange left) before → HasPiece contents left got before
has_piece None left got before some short read may has =
    let end = reaches left before some has in
    let fits : left.start + length got ≤ length before = omega arith in
    record {
      file = over before left.start got;
      may = λ image told. cc;
      long = over_long before left.start got fits;
      same = λ x not_in. ⊎_elim
          (λ (low : x < left.start). over_low before left.start got x fits low)
          (λ (from : left.start ≤ x). ⊎_elim
          (λ (lt : x < left.end). absurd (not_in (from, lt)))
          (λ (high : left.end ≤ x). over_high before left.start got x fits (omega arith))
          (cases_lt x left.end))
          (cases_lt x left.start);
      part = over_part before left.start got fits;
    }
has_piece (Some image) left got before some short read may has =
    let size : (left.start + length got) - left.start ≡ length got = omega arith in
    record {
      file = before;
      may = may;
      long = refl;
      same = λ x not_in. refl;
      part = ap (λ (n : ℕ). take n (drop left.start before)) size ∙ ap (λ (f : List ℕ). take (length got) (drop left.start f)) (may image refl) ∙ sym (read image refl);
    }

-- ---- the count of the drive, and of the out lane

module _ (left : Range) (head got : List ℕ) (drive looked : DriveState) (old new : OutLaneState) where
  pub piece_put : left.start < left.end → length got ≤ left.end - left.start → IsReadAt drive.contents left.start got
      → Unchanged drive looked → looked.faults ≡ drive.faults
      → Appends old.written new.written (head ++ got) → new.is_open ≡ true → new.faults ≡ old.faults
      → Sends {T = ℕ} (InRange left) (IsRestOf left) (λ file. head ++ slice_range file left.start (left.start + length got)) (Ok (length got)) drive looked old new
  piece_put some short read unchanged calm put opened kept = record {
    carries = λ file may has.
        let p = has_piece drive.contents left got file some short read may has in
        record {
          file = p.file;
          may = p.may;
          long = p.long;
          same = p.same;
          goes = subst (λ (l : List ℕ). Appends old.written new.written (head ++ l)) (sym p.part) put;
        };
    is_open = opened;
    unchanged = unchanged;
    drive_faults = calm;
    out_faults = kept;
    cause = tt;
  }

  pub piece_stuck : left.start < left.end → length got ≤ left.end - left.start → IsReadAt drive.contents left.start got
      → Unchanged drive looked → looked.faults ≡ drive.faults
      → (count : ℕ) → Appends old.written new.written (take count (head ++ got)) → old.faults ≤ new.faults → Rose old.faults new.faults
      → Sends {T = ℕ} (InRange left) (IsRestOf left) (λ file. head ++ slice_range file left.start left.end) (Err LinkFailed) drive looked old new
  piece_stuck some short read unchanged calm count put later rose = record {
    carries = λ file may has.
        let p = has_piece drive.contents left got file some short read may has in
        let mid = left.start + length got in
        let whole : head ++ slice_range p.file left.start left.end ≡ (head ++ got) ++ slice_range p.file mid left.end =
        ap (λ (l : List ℕ). head ++ l) (part_split p.file left.start mid left.end (omega arith) (omega arith) ∙ ap (λ (l : List ℕ). l ++ slice_range p.file mid left.end) p.part)
        ∙ sym (append_assoc head got (slice_range p.file mid left.end)) in
        record {
          file = p.file;
          may = p.may;
          long = p.long;
          same = p.same;
          goes = subst (λ (l : List ℕ). GoesOut {T = ℕ} {E = Cause} (Err LinkFailed) l old new) (sym whole)
              (goes_stop (head ++ got) (slice_range p.file mid left.end) old new (count, put));
        };
    is_open = tt;
    unchanged = unchanged;
    drive_faults = inr (λ e. cc, calm);
    out_faults = inl (refl, later, rose);
    cause = tt;
  }

module _ (left : Range) (b : List ℕ → List ℕ) (drive looked : DriveState) (out : OutLaneState) where
  nothing_out : (cause : Cause) (file : List ℕ) → MayHave drive.contents file → Carries {T = ℕ} {E = Cause} drive.contents (InRange left) b (Err cause) out out file
  nothing_out cause file may = record { file = file; may = may; long = refl; same = λ x not_in. refl; goes = (0, Appends-nil out.written) }

  pub piece_unread : Unchanged drive looked → drive.faults ≤ looked.faults → Rose drive.faults looked.faults
      → Sends {T = ℕ} (InRange left) (IsRestOf left) b (Err DriveFailed) drive looked out out
  piece_unread unchanged later rose = record {
    carries = λ file may has. nothing_out DriveFailed file may;
    is_open = tt;
    unchanged = unchanged;
    drive_faults = inl (refl, later, rose);
    out_faults = inr (λ e. cc, refl);
    cause = tt;
  }

  told_none : (contents : Option Image) (room : ℕ) → 0 < room → left.start < left.end → MustHave contents (InRange left) → ((image : Image) → contents ≡ Some image → 0 ≡ min room (length image.bytes - left.start)) → contents ≡ None
  told_none None room wide some there empty = refl
  told_none (Some image) room wide some there empty = let at = there image refl left.start (omega arith, some) in let none = empty image refl in absurd (omega arith)

  pub piece_hole : (buf : List ℕ) → 0 < length buf → left.start < left.end → MustHave drive.contents (InRange left) → HasRead Bytes left.start buf drive 0 → Unchanged drive looked → looked.faults ≡ drive.faults
      → Sends {T = ℕ} (InRange left) (IsRestOf left) b (Err (Hole None 0 (Some left))) drive looked out out
  piece_hole buf wide some there empty unchanged calm = record {
    carries = λ file may has. nothing_out (Hole None 0 (Some left)) file may;
    is_open = tt;
    unchanged = unchanged;
    drive_faults = inr (λ e. cc, calm);
    out_faults = inr (λ e. cc, refl);
    cause = (told_none drive.contents (length buf) wide some there (λ image told. (empty image told).0), refl, refl, (left, refl, record { from = omega arith; some = some; to = refl }));
  }

-- ---- the answers of the calls

read_at : (drive : DriveState) (at n : ℕ) (buf : List ℕ) → n ≤ length buf → HasRead Bytes at buf drive n → IsReadAt drive.contents at (take n buf)
read_at drive at n buf bound read image told = (read image told).1 ∙ ap (λ (k : ℕ). take k (drop at image.bytes)) (sym (length-take-le n buf bound))

-- what is put: the header from its place on, and then the bytes that were read
pub piece_bytes : (h k from n : ℕ) (buf part : List ℕ) → from ≤ h → h ≤ length buf → n ≤ length part → slice_range (put_mid h k buf part) from (h + n) ≡ drop from (take h buf) ++ take n part
piece_bytes h k from n buf part low fits bound =
    let header = take h buf in
    let more = part ++ post_of h k buf in
    let size : length header ≡ h = length-take-le h buf fits in
    let left : length (drop from header) ≡ h - from = length-drop from header ∙ ap (λ (m : ℕ). m - from) size in
    let count : (h + n) - from ≡ length (drop from header) + n = omega arith in
    let split : drop from (header ++ more) ≡ drop from header ++ more = drop-append-le from header more (omega arith) in
    ap (λ (m : ℕ). take m (drop from (header ++ more))) count
    ∙ ap (λ (l : List ℕ). take (length (drop from header) + n) l) split
    ∙ take-append-add (drop from header) more n
    ∙ ap (λ (l : List ℕ). drop from header ++ l) (take-append-le n part (post_of h k buf) bound)

module _ (left : Range) (head part : List ℕ) (n : ℕ) (drive looked : DriveState) (old new : OutLaneState) where
  pub piece_done : left.start < left.end → n ≤ left.end - left.start → n ≤ length part → HasRead Bytes left.start part drive n
      → Unchanged drive looked → looked.faults ≡ drive.faults
      → Appends old.written new.written (head ++ take n part) → new.is_open ≡ true → new.faults ≡ old.faults
      → Sends {T = ℕ} (InRange left) (IsRestOf left) (λ file. head ++ slice_range file left.start (left.start + n)) (Ok n) drive looked old new
  piece_done some short bound read unchanged calm put open_after kept =
      let size : length (take n part) ≡ n = length-take-le n part bound in
      subst (λ (m : ℕ). Sends {T = ℕ} (InRange left) (IsRestOf left) (λ file. head ++ slice_range file left.start (left.start + m)) (Ok m) drive looked old new) size
      (piece_put left head (take n part) drive looked old new some (omega arith) (read_at drive left.start n part bound read) unchanged calm put open_after kept)

  pub piece_failed : left.start < left.end → n ≤ left.end - left.start → n ≤ length part → HasRead Bytes left.start part drive n
      → Unchanged drive looked → looked.faults ≡ drive.faults
      → (count : ℕ) → Appends old.written new.written (take count (head ++ take n part)) → old.faults ≤ new.faults → Rose old.faults new.faults
      → Sends {T = ℕ} (InRange left) (IsRestOf left) (λ file. head ++ slice_range file left.start left.end) (Err LinkFailed) drive looked old new
  piece_failed some short bound read unchanged calm count put later rose =
      let size : length (take n part) ≡ n = length-take-le n part bound in
      piece_stuck left head (take n part) drive looked old new some (omega arith) (read_at drive left.start n part bound read) unchanged calm count put later rose
