-- What was booked stays over crashes, and so does what a mark names.
use Rattle.std.proofs.Common.{◌≡◌, ℕ, List, [], ◌∷◌, ◌++◌, Some, None, Bool, true, false, refl, sym, ap, ◌∙◌, subst, ⊎_elim, inl, inr}
use Rattle.std.specs.Prelude.{Option, slice_get, if◌then◌else◌, take, drop}
use Rattle.std.proofs.lemmas.Bool.{both_ways, false_from_ne_true}
use Rattle.std.proofs.lemmas.List.{take-append-drop}
use Rattle.std.proofs.lemmas.Option.{none-some}
use Rattle.gft_range.specs.declared.Range.{Range}
use Rattle.gft_range.specs.declared.TheConstants.{MAX_ITEMS}
use Rattle.gft_range.specs.Words.{HasOffset}
use Rattle.gft_drive.specs.Words.{Image}
use Rattle.gft_core.specs.declared.event.CoreEvent.{CoreEvent}
use Rattle.gft_core.specs.declared.event.CoreEvent.TheVariants.{Block, Crash, Fresh, Mark}
use Rattle.gft_core.specs.Held.{covers, held}
use Rattle.gft_core.specs.Kept.{first_some, byte_at, answered, earliest, kept, pending, Booked}
use Rattle.gft_core.specs.Legal.{is_open, Legal}
use Rattle.gft_core.specs.Laws.{HasNoFresh, ImageLaw, IsMarkOf, KeepsLaw, MarksLaw, RestartsLaw}
use Rattle.gft_core.proofs.HeldLemmas.{covers-is}
use Rattle.gft_core.proofs.OptionLemmas.{first_some_front, first_some_either, if_true, if_value, some_or_none}

-- an image with which the events go on holds what was booked
pub image_holds : (image : Image) (events : List CoreEvent) → Legal (Crash image ∷ events) → (x v : ℕ) → kept events x ≡ Some v → held image x ≡ Some v
image_holds image [] legal x v k = absurd (none-some v k)
image_holds image (e ∷ older) legal x v k = legal.2.booked x v k

-- an event that may not wait comes only where no block is open
pub shut : (open_now wait : Bool) → (open_now ≡ true → wait ≡ true) → wait ≡ false → open_now ≡ false
shut open_now wait may not = false_from_ne_true open_now (λ is. both_ways wait not (may is))

-- where no block is open, the earliest blocks are the answered ones
pub closed : (events : List CoreEvent) → is_open events ≡ false → (x : ℕ) → earliest events x ≡ kept events x
closed [] none x = refl
closed (Fresh ∷ older) none x = refl
closed (Crash image ∷ older) none x = refl
closed (Block lane channel offset bytes true ∷ older) none x = absurd (both_ways true none refl)
closed (Block lane channel offset bytes false ∷ older) none x = ap (λ o. first_some o (byte_at offset bytes x)) (closed older none x)
closed (e ∷ older) none x = ap (λ o. first_some o None) (closed older none x)

-- in a legal list the kept byte is that of the earliest block
pub foremost : (events : List CoreEvent) → Legal events → (x v : ℕ) → kept events x ≡ Some v → earliest events x ≡ Some v
foremost [] legal x v k = k
foremost (Fresh ∷ older) legal x v k = k
foremost (Crash image ∷ older) legal x v k = k
foremost (Block lane channel offset bytes true ∷ older) legal x v k =
    ⊎_elim
    (λ p. first_some_front (earliest older x) (byte_at offset bytes x) v (foremost older legal.0 x v p))
    (λ p. absurd (none-some v p))
    (first_some_either (kept older x) None v k)
foremost (Block lane channel offset bytes false ∷ older) legal x v k =
    ap (λ o. first_some o (byte_at offset bytes x)) (closed older (shut (is_open older) false legal.1 refl) x) ∙ k
foremost (e ∷ older) legal x v k =
    ⊎_elim
    (λ p. first_some_front (earliest older x) None v (foremost older legal.0 x v p))
    (λ p. absurd (none-some v p))
    (first_some_either (kept older x) None v k)

survives : (image : Image) (events : List CoreEvent) → Legal (Crash image ∷ events) → (x v : ℕ) → kept events x ≡ Some v → kept (Crash image ∷ events) x ≡ Some v
survives image [] legal x v k = absurd (none-some v k)
survives image (e ∷ older) legal x v k =
    let there = if_true (covers image.ranges x) (slice_get image.bytes x) v (image_holds image (e ∷ older) legal x v k) in
    subst (λ (b : Bool). (if b then earliest (e ∷ older) x else None) ≡ Some v) (sym there) (foremost (e ∷ older) legal.0 x v k)

kept_on : (newer older : List CoreEvent) → HasNoFresh newer → Legal (newer ++ older) → (x v : ℕ) → kept older x ≡ Some v → kept (newer ++ older) x ≡ Some v
kept_on [] older same legal x v k = k
kept_on (Fresh ∷ newer) older same legal x v k = absurd same
kept_on (Crash image ∷ newer) older same legal x v k = survives image (newer ++ older) legal x v (kept_on newer older same legal.0 x v k)
kept_on (e ∷ newer) older same legal x v k = first_some_front (kept (newer ++ older) x) (answered e x) v (kept_on newer older same legal.0 x v k)

pub keeps : KeepsLaw
keeps newer older same legal x booked =
    let is = kept_on newer older same legal x booked.0 booked.1 in
    record { byte = booked.0; was = booked.1; is = is; images = λ image later. image_holds image (newer ++ older) later x booked.0 is }

-- ---- marks

has_front : (rs qs : List Range) (x : ℕ) → HasOffset rs x → HasOffset (rs ++ qs) x
has_front [] qs x h = absurd h
has_front (r ∷ rs) qs x h = ⊎_elim (λ here. inl here) (λ later. inr (has_front rs qs x later)) h

pub mark_booked : (events : List CoreEvent) (ranges : List Range) → IsMarkOf events ranges → (x : ℕ) → HasOffset ranges x → Booked events x
mark_booked events ranges mark x h =
    let within = has_front (take MAX_ITEMS mark.booked) (drop MAX_ITEMS mark.booked) x (subst (λ (rs : List Range). HasOffset rs x) mark.front h) in
    (mark.same x).0 (subst (λ (rs : List Range). HasOffset rs x) (take-append-drop MAX_ITEMS mark.booked) within)

pub marks : MarksLaw
marks newer older ranges mark same legal x h =
    let byte = mark_booked older ranges mark x h in
    let first = first_some_front (kept older x) None byte.0 byte.1 in
    let stays = keeps newer (Mark ∷ older) same legal x (byte.0, first) in
    record {
      byte = byte.0;
      was = byte.1;
      is = kept_on newer (Mark ∷ older) same legal x byte.0 first;
      images = λ image later. image_holds image (newer ++ Mark ∷ older) later x byte.0 (kept_on newer (Mark ∷ older) same legal x byte.0 first);
    }

leaves_nothing : (events : List CoreEvent) (list : _) → Rattle.gft_core.specs.Legal.LeavesImage events (Rattle.gft_core.specs.declared.event.CoreEvent.TheVariants.Resume list)
leaves_nothing [] list = tt
leaves_nothing (e ∷ older) list = tt

pub restarts : RestartsLaw
restarts newer older ranges list mark same legal no_open inside = (
  legal,
  λ is. absurd (both_ways (is_open (newer ++ Mark ∷ older)) no_open is),
  leaves_nothing (newer ++ Mark ∷ older) list,
  λ x h. let stays = marks newer older ranges mark same legal x (inside x h) in (stays.byte, stays.is),
)

-- ---- what a crash leaves

both_none : (a b : Option ℕ) → first_some a b ≡ None → (a ≡ None) × (b ≡ None)
both_none (Some v) b e = absurd (none-some v (sym e))
both_none None b e = (refl, e)

-- where nothing is kept, the earliest block is an open one
pub pending_first : (events : List CoreEvent) (x : ℕ) → kept events x ≡ None → earliest events x ≡ pending events x
pending_first [] x k = refl
pending_first (Fresh ∷ older) x k = refl
pending_first (Crash image ∷ older) x k = k
pending_first (Block lane channel offset bytes true ∷ older) x k =
    ap (λ o. first_some o (byte_at offset bytes x)) (pending_first older x (both_none (kept older x) None k).0)
pending_first (Block lane channel offset bytes false ∷ older) x k =
    let none = both_none (kept older x) (byte_at offset bytes x) k in
    ap (λ o. first_some o (byte_at offset bytes x)) (pending_first older x none.0) ∙ ap (first_some (pending older x)) none.1
pending_first (e ∷ older) x k = ap (λ o. first_some o None) (pending_first older x (both_none (kept older x) None k).0)

same_if : (b : Bool) (o p : Option ℕ) → (b ≡ true → o ≡ p) → (if b then o else None) ≡ (if b then p else None)
same_if true o p same = same refl
same_if false o p same = refl

pub crash_kept : ImageLaw
crash_kept image [] legal x = refl
crash_kept image (e ∷ older) legal x =
    let events : List CoreEvent = e ∷ older in
    let there = legal.2 in
    same_if (covers image.ranges x) (earliest events x) (slice_get image.bytes x) (λ is. ⊎_elim
    (λ (k : (v : ℕ) × (kept events x ≡ Some v)).
    foremost events legal.0 x k.0 k.1 ∙ sym (if_value (covers image.ranges x) (slice_get image.bytes x) k.0 (there.booked x k.0 k.1)))
    (λ (none : kept events x ≡ None).
    let p = there.further x ((covers-is image.ranges x).0 is) none in
    pending_first events x none ∙ p.1 ∙ sym (if_value (covers image.ranges x) (slice_get image.bytes x) p.0 p.2))
    (some_or_none (kept events x)))
