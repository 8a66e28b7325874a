-- What honest senders sent, when a block is stored.
use Rattle.std.proofs.Common.{◌≡◌, ◌≢◌, ◌⊎◌, ℕ, ◌+◌, ◌-◌, ◌<◌, ◌≤◌, List, length, set, Some, refl, sym, ap, ◌∙◌, subst, ⊎_elim, arith}
use Rattle.std.specs.Prelude.{slice_get}
use Rattle.std.proofs.lemmas.Option.{same_Some, slice_get_within}
use Rattle.std.proofs.lemmas.Bool.{cases_lt}
use Rattle.gft_range.specs.declared.Range.{Range}
use Rattle.gft_range.specs.Words.{HasOffset}
use Rattle.gft_drive.specs.Words.{Image, IsBorn, IsComplete, Orders, total_of}
use Rattle.gft_keep.specs.Words.{CompletesNothing, KeepState, NamesNone, Reopens, Empties, StoresSome}
use Rattle.gft_core.specs.Words.{CarriesSource, byte_at, held}
use Rattle.gft_core.proofs.Lemmas.{first_some_either}
use Rattle.gft_pass.specs.declared.Numbers.{Numbers}
use Rattle.gft_pass.specs.Words.{IsAt, Lane}
use Rattle.gft_pass.proofs.Lemmas.{IsAt-set_or}
use Rattle.gft_book.specs.declared.transfer.Transfer.{Transfer}
use Rattle.gft_book.specs.Facts.{HasSent, IsFrom, IsSentBy}
use Rattle.gft_book.specs.Calls.{IsNext, IsOfSource, more_bytes}
use Rattle.gft_book.proofs.KeepLemmas.{IsReadImage, held_covers, stays_same, stores_held}

-- ---- images

abbrev CarriesFile : List ℕ → Image → Type 0
CarriesFile source image = CarriesSource source (slice_get image.bytes)

-- a file that is complete, or not begun here, only where it was
still_complete : (source : List ℕ) (from image : Image) → CompletesNothing from image → IsFrom source from → (len : ℕ) → IsComplete image.ranges len → CarriesFile source image
still_complete source from image c f len done =
    let was = c.complete len done in
    subst (λ (b : List ℕ). CarriesSource source (slice_get b)) (sym was.1) (f.complete len was.0)

still_unborn : (source : List ℕ) (from image : Image) → CompletesNothing from image → IsFrom source from → ¬ IsBorn image.ranges → CarriesFile source image
still_unborn source from image c f unborn =
    let was = c.unborn unborn in
    subst (λ (b : List ℕ). CarriesSource source (slice_get b)) (sym was.1) (f.unborn was.0)

-- an image that a block may leave has the source's bytes where those before and the block have
pub IsFrom-store : (keep : KeepState) (source : List ℕ) (offset : ℕ) (bytes : List ℕ) (from image : Image) → IsReadImage keep from → IsOfSource source offset bytes → StoresSome offset bytes from image → IsFrom source from → IsFrom source image
IsFrom-store keep source offset bytes from image read sent some f =
    let s = stores_held keep offset bytes from image read some in
    record {
      named = λ x v here.
          let w = s.within x (held_covers image x v here) in
          let same : v ≡ w.0 = same_Some v w.0 (sym here ∙ w.1) in
          subst (λ (u : ℕ). slice_get source x ≡ Some u) (sym same)
          (⊎_elim (λ was. f.named x w.0 was) (λ new. sent x w.0 new) (first_some_either (held from x) (byte_at offset bytes x) w.0 w.2));
      complete = still_complete source from image some.completes f;
      unborn = still_unborn source from image some.completes f;
    }

IsFrom-reopens : (keep : KeepState) (source : List ℕ) (from image : Image) → IsReadImage keep from → Reopens from image → IsFrom source from → IsFrom source image
IsFrom-reopens keep source from image read r f =
    record {
      named = λ x v h. f.named x v (sym (stays_same keep from image read r.stays x) ∙ h);
      complete = still_complete source from image r.completes f;
      unborn = still_unborn source from image r.completes f;
    }

pub IsFrom-empties : (keep : KeepState) (source : List ℕ) (from image : Image) → IsReadImage keep from → Empties from image → IsFrom source from → IsFrom source image
IsFrom-empties keep source from image read e f =
    ⊎_elim
    (λ (r : Reopens from image). IsFrom-reopens keep source from image read r f)
    (λ (none : NamesNone image). record {
      named = λ x v h. absurd (none.ranges x (held_covers image x v h));
      complete = λ len done. absurd (none.complete len done);
      unborn = λ unborn. absurd (unborn none.born);
    })
    e

-- ---- lanes

-- numbers with the same bytes and EODs, and more that is kept
pub HasSent-same : (order : List ℕ) (number : ℕ) (old new : KeepState) (n m : Numbers) → m.bytes ≡ n.bytes → m.eods ≡ n.eods
    → ((x : ℕ) → HasOffset old.ranges x → HasOffset new.ranges x) → HasSent order number old n → HasSent order number new m
HasSent-same order number old new n m bytes eods more h =
    record {
      kept = λ i x lt at. more x (h.kept i x (omega (arith, lt, bytes)) at);
      most = omega (arith, bytes, h.most);
      eods = omega (arith, eods, h.eods);
      whole = λ all. bytes ∙ h.whole (sym eods ∙ all);
    }

-- the block's offsets are the next ones of the order
pub HasSent-next : (orders : Orders) (pass : Lane) (offset : ℕ) (bytes : List ℕ) (old new : KeepState) → 0 < length bytes
    → IsNext orders pass offset bytes
    → ((x : ℕ) → HasOffset old.ranges x → HasOffset new.ranges x) → ((x v : ℕ) → byte_at offset bytes x ≡ Some v → HasOffset new.ranges x)
    → ((k : ℕ) → k < length bytes → (v : ℕ) × (byte_at offset bytes (offset + k) ≡ Some v))
    → HasSent (orders.order pass.lane) (orders.number pass.lane) old pass.count → HasSent (orders.order pass.lane) (orders.number pass.lane) new (more_bytes (length bytes) pass.count)
HasSent-next orders pass offset bytes old new has_bytes next more block inside h =
    record {
      kept = λ i x lt at.
          ⊎_elim
          (λ (before : i < pass.count.bytes). more x (h.kept i x before at))
          (λ (after : pass.count.bytes ≤ i).
          let k : ℕ = i - pass.count.bytes in
          let below : k < length bytes = omega (arith, lt, after) in
          let is_i : pass.count.bytes + k ≡ i = omega (arith, after) in
          let is_x : offset + k ≡ x = same_Some (offset + k) x (sym (next k below) ∙ ap (λ (j : ℕ). slice_get (orders.order pass.lane) j) is_i ∙ at) in
          let there = inside k below in
          subst (λ (y : ℕ). HasOffset new.ranges y) is_x (block (offset + k) there.0 there.1))
          (cases_lt i pass.count.bytes);
      most = omega (arith, last_in);
      eods = h.eods;
      whole = λ all. absurd (omega (arith, h.whole all, last_in, has_bytes));
    }
  where
    last_in : pass.count.bytes + length bytes ≤ length (orders.order pass.lane)
    last_in =
        let k : ℕ = length bytes - 1 in
        let lt : k < length bytes = omega (arith, has_bytes) in
        let within = slice_get_within (orders.order pass.lane) (pass.count.bytes + k) (offset + k) (next k lt) in
        omega (arith, within, has_bytes)

-- the numbers of one pass change as they may
pub IsSentBy-set : (orders : Orders) (rest : List Range) (old new : KeepState) (t u : Transfer) (pass : Lane) (m : Numbers)
    → u.roster.counts ≡ set t.roster.counts pass.lane m
    → ((x : ℕ) → HasOffset old.ranges x → HasOffset new.ranges x)
    → HasSent (orders.order pass.lane) (orders.number pass.lane) new m
    → ((total : ℕ) → u.count.total ≡ Some total → (t.count.total ≡ Some total) ⊎ (total ≡ total_of orders))
    → IsSentBy orders rest old t → IsSentBy orders rest new u
IsSentBy-set orders rest old new t u pass m counts more mine total f =
    record {
      resumed = λ x c. more x (f.resumed x c);
      lanes = λ k n at. ⊎_elim
          (λ (e : (k ≡ pass.lane) × (m ≡ n)).
          subst (λ (j : ℕ). HasSent (orders.order j) (orders.number j) new n) (sym e.0) (subst (HasSent (orders.order pass.lane) (orders.number pass.lane) new) e.1 mine))
          (λ (e : (k ≢ pass.lane) × (IsAt t.roster.counts k n)). HasSent-same (orders.order k) (orders.number k) old new n n refl refl more (f.lanes k n e.1))
          (IsAt-set_or t.roster.counts pass.lane k m n (subst (λ (l : List Numbers). IsAt l k n) counts at));
      total = λ n is. ⊎_elim (λ was. f.total n was) (λ plans. plans) (total n is);
    }
