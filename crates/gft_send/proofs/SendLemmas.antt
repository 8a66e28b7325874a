-- One step of sending after another.
use Rattle.std.proofs.Common.{◌≡◌, ℕ, ◌+◌, ◌*◌, ◌≤◌, min, List, [], ◌++◌, length, take, true, refl, sym, ap, ◌∙◌, subst, arith, inl, inr}
use Rattle.std.specs.Prelude.{IfErr, Option, Result, Ok, Err, slice_index}
use Rattle.std.specs.Io.KnownBytes.{Appends}
use Rattle.std.proofs.KnownBytes.{Appends-nil, Appends-trans}
use Rattle.std.proofs.Math.Seq.{take-append-add}
use Rattle.std.proofs.lemmas.List.{append-nil, ext_get_or, take-append-le, take_min}
use Rattle.gft_base.specs.Words.{Rose}
use Rattle.gft_range.specs.declared.Range.{Range}
use Rattle.gft_drive.specs.Words.{DriveState, Image, IsLawful, Unchanged}
use Rattle.gft_drive.proofs.Lemmas.{Unchanged-then, elapses_refl}
use Rattle.gft_outside.specs.Words.{OutLaneState}
use Rattle.gft_pass.specs.declared.Cause.{Cause}
use Rattle.gft_pass.specs.declared.Cause.TheVariants.{DriveFailed, Hole, LinkFailed}
use Rattle.gft_eblock.specs.Words.{spelling}
use Rattle.gft_layout.specs.declared.Shape.{Shape}
use Rattle.gft_send.specs.Streams.{ending_of, eod_header, eof_header}
use Rattle.gft_send.specs.Sending.{Carries, CountsFaults, GoesOut, IsSendCause, MayHave, Sends}

-- ---- what goes out

pub goes_then : {T U E : Type 0} (v : T) (result : Result U E) (a b : List ℕ) (old mid new : OutLaneState) → GoesOut {T = T} {E = E} (Ok v) a old mid → GoesOut result b mid new → GoesOut result (a ++ b) old new
goes_then v (Ok w) a b old mid new first second = Appends-trans old.written mid.written new.written a b first second
goes_then v (Err e) a b old mid new first second =
    (length a + second.0, subst (Appends old.written new.written) (sym (take-append-add a b second.0)) (Appends-trans old.written mid.written new.written a (take second.0 b) first second.1))

-- what went out before the end is the front of more
pub goes_stop : (a b : List ℕ) (old new : OutLaneState) → ((count : ℕ) × Appends old.written new.written (take count a)) → (count : ℕ) × Appends old.written new.written (take count (a ++ b))
goes_stop a b old new first =
    let n : ℕ = min first.0 (length a) in
    (n, subst (Appends old.written new.written) (sym (take_min first.0 a) ∙ sym (take-append-le n a b (omega arith))) first.1)

-- ---- the file

module _ {T U E : Type 0} (contents : Option Image) (P1 P2 P : ℕ → Type 0) (b1 b2 b : List ℕ → List ℕ) (old mid new : OutLaneState) (before : List ℕ) where
  pub carries_then : (v : T) (result : Result U E) → Carries {T = T} {E = E} contents P1 b1 (Ok v) old mid before
      → ((f : List ℕ) → MayHave contents f → length f ≡ length before → Carries contents P2 b2 result mid new f)
      → ((x : ℕ) → P1 x → P x) → ((x : ℕ) → P2 x → P x)
      → ((f g : List ℕ) → length g ≡ length f → ((x : ℕ) → ¬ P2 x → slice_index g x ≡ slice_index f x) → b1 g ≡ b1 f)
      → ((f : List ℕ) → b f ≡ b1 f ++ b2 f)
      → Carries contents P b result old new before
  carries_then v result first next in1 in2 stays is =
      let second = next first.file first.may first.long in
      let one : b1 second.file ≡ b1 first.file = stays first.file second.file second.long second.same in
      let out : b second.file ≡ b1 first.file ++ b2 second.file = is second.file ∙ ap (λ (l : List ℕ). l ++ b2 second.file) one in
      record {
        file = second.file;
        may = second.may;
        long = second.long ∙ first.long;
        same = λ x not_in. second.same x (λ h. not_in (in2 x h)) ∙ first.same x (λ h. not_in (in1 x h));
        goes = subst (λ (l : List ℕ). GoesOut result l old new) (sym out) (goes_then v result (b1 first.file) (b2 second.file) old mid new first.goes second.goes);
      }

pub carries_stop : {T U E F : Type 0} (contents : Option Image) (P1 P : ℕ → Type 0) (b1 b2 b : List ℕ → List ℕ) (old new : OutLaneState) (before : List ℕ) (e : E) (f : F)
    → Carries {T = T} {E = E} contents P1 b1 (Err e) old new before → ((x : ℕ) → P1 x → P x) → ((f : List ℕ) → b f ≡ b1 f ++ b2 f)
    → Carries {T = U} {E = F} contents P b (Err f) old new before
carries_stop {T = T} {U = U} {E = E} {F = F} contents P1 P b1 b2 b old new before e f first in1 is = record {
  file = first.file;
  may = first.may;
  long = first.long;
  same = λ x not_in. first.same x (λ h. not_in (in1 x h));
  goes = subst (λ (l : List ℕ). GoesOut {T = U} {E = F} (Err f) l old new) (sym (is first.file)) (goes_stop (b1 first.file) (b2 first.file) old new first.goes);
}

-- ---- counts and causes

pub counts_then : {U : Type 0} (cause : Cause) (result : Result U Cause) (before mid now : ℕ) → mid ≡ before → CountsFaults cause result mid now → CountsFaults cause result before now
counts_then cause result before mid now same counts = subst (λ (n : ℕ). CountsFaults cause result n now) same counts

pub cause_in : (contents : Option Image) (L1 L : Range → Type 0) (cause : Cause) → ((r : Range) → L1 r → L r) → IsSendCause contents L1 cause → IsSendCause contents L cause
cause_in contents L1 L (Hole total eods missing) more is = (is.0, is.1, is.2, (is.3.0, is.3.1, more is.3.0 is.3.2))
cause_in contents L1 L _ more is = is

pub causes_in : {U : Type 0} (contents : Option Image) (L1 L : Range → Type 0) (result : Result U Cause) → ((r : Range) → L1 r → L r) → IfErr result (IsSendCause contents L1) → IfErr result (IsSendCause contents L)
causes_in contents L1 L (Ok value) more is = is
causes_in contents L1 L (Err cause) more is = cause_in contents L1 L cause more is

-- ---- steps

module _ {T U : Type 0} (P1 P2 P : ℕ → Type 0) (L1 L2 L : Range → Type 0) (b1 b2 b : List ℕ → List ℕ) (drive seen looked : DriveState) (old mid new : OutLaneState) where
  pub sends_then : (v : T) (result : Result U Cause) → IsLawful seen → IsLawful looked
      → Sends {T = T} P1 L1 b1 (Ok v) drive seen old mid → Sends P2 L2 b2 result seen looked mid new
      → ((x : ℕ) → P1 x → P x) → ((x : ℕ) → P2 x → P x) → ((r : Range) → L2 r → L r)
      → ((f g : List ℕ) → length g ≡ length f → ((x : ℕ) → ¬ P2 x → slice_index g x ≡ slice_index f x) → b1 g ≡ b1 f)
      → ((f : List ℕ) → b f ≡ b1 f ++ b2 f)
      → Sends P L b result drive looked old new
  sends_then v result lawful_seen lawful_looked first second in1 in2 left2 stays is =
      let told = first.unchanged.read in
      record {
        carries = λ file may has. carries_then {T = T} {U = U} {E = Cause} drive.contents P1 P2 P b1 b2 b old mid new file v result
            (first.carries file may (λ x p. has x (in1 x p)))
            (λ f may_f long. subst (λ (c : Option Image). Carries c P2 b2 result mid new f) told
            (second.carries f (subst (λ (c : Option Image). MayHave c f) (sym told) may_f) (λ x p. let lt = has x (in2 x p) in omega arith)))
            in1 in2 stays is;
        is_open = second.is_open;
        unchanged = Unchanged-then drive seen looked lawful_seen lawful_looked first.unchanged second.unchanged;
        drive_faults = counts_then DriveFailed result drive.faults seen.faults looked.faults first.drive_faults second.drive_faults;
        out_faults = counts_then LinkFailed result old.faults mid.faults new.faults first.out_faults second.out_faults;
        cause = causes_in drive.contents L2 L result left2 (subst (λ (c : Option Image). IfErr result (IsSendCause c L2)) told second.cause);
      }

module _ {T U : Type 0} (P1 P : ℕ → Type 0) (L1 L : Range → Type 0) (b1 b2 b : List ℕ → List ℕ) (drive looked : DriveState) (old new : OutLaneState) where
  -- a step that ends with a cause ends what it is a part of
  pub sends_stop : (cause : Cause) → Sends {T = T} P1 L1 b1 (Err cause) drive looked old new
      → ((x : ℕ) → P1 x → P x) → ((r : Range) → L1 r → L r) → ((f : List ℕ) → b f ≡ b1 f ++ b2 f)
      → Sends {T = U} P L b (Err cause) drive looked old new
  sends_stop cause first in1 left1 is = record {
    carries = λ file may has. carries_stop {T = T} {U = U} {E = Cause} {F = Cause} drive.contents P1 P b1 b2 b old new file cause cause (first.carries file may (λ x p. has x (in1 x p))) in1 is;
    is_open = tt;
    unchanged = first.unchanged;
    drive_faults = first.drive_faults;
    out_faults = first.out_faults;
    cause = cause_in drive.contents L1 L cause left1 first.cause;
  }

  -- what a step answers where it is whole doesn't matter
  pub sends_as : (v : T) (w : U) → Sends {T = T} P1 L1 b1 (Ok v) drive looked old new
      → ((x : ℕ) → P1 x → P x) → ((f : List ℕ) → b f ≡ b1 f)
      → Sends {T = U} P L b (Ok w) drive looked old new
  sends_as v w first in1 is = record {
    carries = λ file may has.
        let one = first.carries file may (λ x p. has x (in1 x p)) in
        record {
          file = one.file;
          may = one.may;
          long = one.long;
          same = λ x not_in. one.same x (λ h. not_in (in1 x h));
          goes = subst (λ (l : List ℕ). GoesOut {T = U} {E = Cause} (Ok w) l old new) (sym (is one.file)) one.goes;
        };
    is_open = first.is_open;
    unchanged = first.unchanged;
    drive_faults = first.drive_faults;
    out_faults = first.out_faults;
    cause = first.cause;
  }

-- nothing was done
pub Unchanged-refl : (drive : DriveState) → Unchanged drive drive
Unchanged-refl drive = record { time = elapses_refl drive; read = refl; no_more = λ image left. left; no_fewer = λ image left. left }

pub sends_none : {T : Type 0} (v : T) (P : ℕ → Type 0) (L : Range → Type 0) (b : List ℕ → List ℕ) (drive : DriveState) (out : OutLaneState) → out.is_open ≡ true → ((f : List ℕ) → b f ≡ []) → Sends {T = T} P L b (Ok v) drive drive out out
sends_none v P L b drive out opened is = record {
  carries = λ file may has. record {
    file = file;
    may = may;
    long = refl;
    same = λ x not_in. refl;
    goes = subst (λ (l : List ℕ). Appends out.written out.written l) (sym (is file)) (Appends-nil out.written);
  };
  is_open = opened;
  unchanged = Unchanged-refl drive;
  drive_faults = refl;
  out_faults = refl;
  cause = tt;
}

-- the type of an answer that doesn't come doesn't matter
pub sends_err : {T U : Type 0} (P : ℕ → Type 0) (L : Range → Type 0) (b : List ℕ → List ℕ) (drive looked : DriveState) (old new : OutLaneState) (cause : Cause) → Sends {T = T} P L b (Err cause) drive looked old new → Sends {T = U} P L b (Err cause) drive looked old new
sends_err {T = T} {U = U} P L b drive looked old new cause first =
    sends_stop {T = T} {U = U} P P L L b (λ file. []) b drive looked old new cause first (λ x h. h) (λ r h. h) (λ f. sym (append-nil (b f)))

-- a put without a drive
module _ {T U : Type 0} (P : ℕ → Type 0) (L : Range → Type 0) (b1 b : List ℕ → List ℕ) (bytes : List ℕ) (drive looked : DriveState) (old mid new : OutLaneState) where
  pub sends_more : (v : T) (w : U) → IsLawful looked → Sends {T = T} P L b1 (Ok v) drive looked old mid
      → GoesOut {T = U} {E = Cause} (Ok w) bytes mid new → new.is_open ≡ true → new.faults ≡ mid.faults
      → ((f : List ℕ) → b f ≡ b1 f ++ bytes)
      → Sends {T = U} P L b (Ok w) drive looked old new
  sends_more v w lawful first goes opened calm is =
      sends_then {T = T} {U = U} P (λ x. ⊥) P L (λ r. ⊥) L b1 (λ file. bytes) b drive looked looked old mid new v (Ok w) lawful lawful first
      (record {
        carries = λ file may has. record { file = file; may = may; long = refl; same = λ x not_in. refl; goes = goes };
        is_open = opened;
        unchanged = Unchanged-refl looked;
        drive_faults = refl;
        out_faults = calm;
        cause = tt;
      })
      (λ x h. h) (λ x h. absurd h) (λ r h. absurd h) (λ f g long same. ap b1 (ext_get_or 0 g f long (λ i lt. same i (λ h. h)))) is

  pub sends_cut : (v : T) → IsLawful looked → Sends {T = T} P L b1 (Ok v) drive looked old mid
      → GoesOut {T = U} {E = Cause} (Err LinkFailed) bytes mid new → mid.faults ≤ new.faults → Rose mid.faults new.faults
      → ((f : List ℕ) → b f ≡ b1 f ++ bytes)
      → Sends {T = U} P L b (Err LinkFailed) drive looked old new
  sends_cut v lawful first goes later rose is =
      sends_then {T = T} {U = U} P (λ x. ⊥) P L (λ r. ⊥) L b1 (λ file. bytes) b drive looked looked old mid new v (Err LinkFailed) lawful lawful first
      (record {
        carries = λ file may has. record { file = file; may = may; long = refl; same = λ x not_in. refl; goes = goes };
        is_open = tt;
        unchanged = Unchanged-refl looked;
        drive_faults = inr (λ e. cc, refl);
        out_faults = inl (refl, later, rose);
        cause = tt;
      })
      (λ x h. h) (λ x h. absurd h) (λ r h. absurd h) (λ f g long same. ap b1 (ext_get_or 0 g f long (λ i lt. same i (λ h. h)))) is

-- ---- the ending

pub ending_first : (shape : Shape) (stripe channel total : ℕ) → total ≡ shape.stripes * shape.parallel → stripe ≤ 0 → channel ≤ 0 → ending_of shape stripe channel ≡ spelling (eof_header total) ++ spelling eod_header
ending_first shape stripe channel total is s k =
    let first : stripe ≡ 0 = omega arith in
    let one : channel ≡ 0 = omega arith in
    let wanted = spelling (eof_header total) ++ spelling eod_header in
    subst (λ (n : ℕ). ending_of shape n channel ≡ wanted) (sym first) (subst (λ (n : ℕ). ending_of shape 0 n ≡ wanted) (sym one) (ap (λ (n : ℕ). spelling (eof_header n) ++ spelling eod_header) (sym is)))

-- what a whole step answers doesn't matter
pub sends_with : {T U : Type 0} (P : ℕ → Type 0) (L : Range → Type 0) (b : List ℕ → List ℕ) (drive looked : DriveState) (old new : OutLaneState) (v : T) (w : U) → Sends {T = T} P L b (Ok v) drive looked old new → Sends {T = U} P L b (Ok w) drive looked old new
sends_with {T = T} {U = U} P L b drive looked old new v w first = sends_as {T = T} {U = U} P P L L b b b drive looked old new v w first (λ x h. h) (λ f. refl)
