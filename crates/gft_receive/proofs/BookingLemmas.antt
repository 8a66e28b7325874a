-- Arrivals that are booked one after another.
use Rattle.std.proofs.Common.{◌≡◌, ℕ, suc, ◌+◌, List, [], ◌∷◌, ◌++◌, ◌<◌, length, Some, Bor, subst, refl, sym, ap, ◌∙◌, ⊎_elim, inl, inr, arith}
use Rattle.gft_eblock.specs.declared.Event.{Event}
use Rattle.gft_eblock.specs.declared.Event.TheVariants.{Piece}
use Rattle.gft_eblock.specs.Words.{Arrival, At, Bad, Eod, Eof, data_at, event_arrivals}
use Rattle.gft_keep.specs.declared.KeepError.{KeepError}
use Rattle.gft_pass.specs.declared.Cause.{Cause}
use Rattle.gft_pass.specs.declared.Numbers.{Numbers}
use Rattle.gft_book.specs.Words.{Learns, as_stopped, cause_of_keep, more_bytes, one_eod, up_to_last, with_cause, with_total}
use Rattle.gft_receive.specs.Booking.{IsBooksCause, numbers_after}
use Rattle.gft_receive.specs.Turns.{IsSized}

pub numbers_after-append : (a b : List Arrival) (n : Numbers) → numbers_after (a ++ b) n ≡ numbers_after b (numbers_after a n)
numbers_after-append [] b n = refl
numbers_after-append (At offset value ∷ a) b n = numbers_after-append a b (more_bytes 1 n)
numbers_after-append (Eof total ∷ a) b n = numbers_after-append a b (with_total total n)
numbers_after-append (Eod ∷ a) b n = numbers_after-append a b (one_eod n)
numbers_after-append (Bad refusal ∷ a) b n = numbers_after-append a b n

-- a byte and then others are one piece
more_bytes-more : (k : ℕ) (n : Numbers) → more_bytes k (more_bytes 1 n) ≡ more_bytes (suc k) n
more_bytes-more k n =
    let same : up_to_last (up_to_last (n.bytes + 1) + k) ≡ up_to_last (n.bytes + suc k) = omega arith in
    ap (λ (b : ℕ). record n { bytes = b }) same

-- the bytes of a piece are booked at once
pub numbers_after-data : (offset value : ℕ) (bytes : List ℕ) (n : Numbers) → numbers_after (data_at offset (value ∷ bytes)) n ≡ more_bytes (length (value ∷ bytes)) n
numbers_after-data offset value [] n = refl
numbers_after-data offset value (b ∷ bytes) n =
    numbers_after-data (offset + 1) b bytes (more_bytes 1 n) ∙ more_bytes-more (length (b ∷ bytes)) n

pub IsBooksCause-more : (a b : List Arrival) (cause : Cause) → IsBooksCause a cause → IsBooksCause (a ++ b) cause
IsBooksCause-more [] b cause is = absurd is
IsBooksCause-more (At offset value ∷ a) b cause is = is
IsBooksCause-more (Eof total ∷ a) b cause is = is
IsBooksCause-more (Eod ∷ a) b cause is = is
IsBooksCause-more (Bad refusal ∷ a) b cause is = absurd is

pub Learns-map : (P Q : Cause → Type 0) (before after : Numbers) → ((cause : Cause) → P cause → Q cause) → Learns P before after → Learns Q before after
Learns-map P Q before after f learned = ⊎_elim
    (λ (stopped : after ≡ as_stopped before). inl stopped)
    (λ (kept : (cause : Cause) × P cause × (after ≡ with_cause cause before)). inr (kept.0, f kept.0 kept.1, kept.2))
    learned

-- ---- an event

pub booked_piece : (event : Event) (offset : ℕ) (bytes : Bor (List ℕ)) (n after : Numbers) → event ≡ Piece offset bytes → IsSized event → after ≡ more_bytes (length bytes.now) n → after ≡ numbers_after (event_arrivals (Some event)) n
booked_piece event offset bytes n after is sized more = subst (λ (e : Event). IsSized e → after ≡ numbers_after (event_arrivals (Some e)) n) (sym is) (λ s. more ∙ sym (some_bytes bytes.now s.0)) sized
  where
    some_bytes : (l : List ℕ) → 0 < length l → numbers_after (data_at offset l) n ≡ more_bytes (length l) n
    some_bytes [] some = absurd (omega (arith, some))
    some_bytes (b ∷ bs) some = numbers_after-data offset b bs n

pub refused_piece : (event : Event) (offset : ℕ) (bytes : Bor (List ℕ)) (n after : Numbers) → event ≡ Piece offset bytes → IsSized event → Learns (λ cause. (error : KeepError) × (cause ≡ cause_of_keep error)) n after → Learns (IsBooksCause (event_arrivals (Some event))) n after
refused_piece event offset bytes n after is sized learned =
    subst (λ (e : Event). IsSized e → Learns (IsBooksCause (event_arrivals (Some e))) n after) (sym is)
    (λ s. Learns-map (λ cause. (error : KeepError) × (cause ≡ cause_of_keep error)) (IsBooksCause (data_at offset bytes.now)) n after (some_bytes bytes.now s.0) learned) sized
  where
    some_bytes : (l : List ℕ) → 0 < length l → (cause : Cause) → (error : KeepError) × (cause ≡ cause_of_keep error) → IsBooksCause (data_at offset l) cause
    some_bytes [] some cause h = absurd (omega (arith, some))
    some_bytes (b ∷ bs) some cause h = h
