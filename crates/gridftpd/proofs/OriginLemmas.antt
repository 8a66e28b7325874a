-- From an honest sender the kept bytes are the source.
use Rattle.std.proofs.Common.{◌≡◌, ◌≢◌, ℕ, zero, suc, ◌<◌, List, [], ◌∷◌, Option, Some, None, refl, sym, ap, ◌∙◌, subst, arith, inl, inr, slice_get}
use Rattle.std.specs.Io.KnownBytes.{Consumes}
use Rattle.std.proofs.lemmas.Bool.{cases_order}
use Rattle.std.proofs.lemmas.Option.{none-some}
use Rattle.gft_eblock.specs.Words.{Arrival, At, Eof, Eod, Bad, eods, arrivals, HasEnded}
use Rattle.gft_core.specs.declared.CoreEvent.{CoreEvent}
use Rattle.gft_core.specs.declared.CoreEvent.TheVariants as event
use Rattle.gft_core.specs.Words.{byte_at, generation, Done, AllCarry, CarriesSource, HasNoCrash}
use Rattle.gft_core.proofs.Lemmas.{honest, sent_where_booked, byte_at-here, byte_at-later}
use Rattle.gft_drive.specs.Words.{DriveState}
use Rattle.gft_eblock.proofs.Lemmas.{arrivals-ended}
use Rattle.gridftpd.specs.Cause.{told_by}
use Rattle.gridftpd.specs.Events.{events_of, IsKept}
use Rattle.gft_outside.specs.Words.{IsTruthful, arrival_event, arrival_events}
use Rattle.gridftpd.specs.Drain.{IsTaken, IsHonest, IsFile}
use Rattle.gridftpd.specs.Images.{IsStored, OfEach}
use Rattle.gridftpd.proofs.DoneLemmas.{says_done}
use Rattle.gridftpd.proofs.EventLemmas.{arrives_kept}

pub HasEnded-eods : (list : List Arrival) → 0 < eods list → HasEnded list
HasEnded-eods [] some = absurd (omega arith)
HasEnded-eods (At offset value ∷ list) some = HasEnded-eods list some
HasEnded-eods (Eof total ∷ list) some = HasEnded-eods list some
HasEnded-eods (Eod ∷ list) some = tt
HasEnded-eods (Bad refused ∷ list) some = tt

-- what follows the EOD tells nothing
pub told_of_all : (bytes stream : List ℕ) (after : Option (List ℕ)) → Consumes (Some bytes) after stream → 0 < eods (told_by stream) → told_by bytes ≡ told_by stream
told_of_all bytes stream None consumed some = absurd consumed
told_of_all bytes stream (Some rest) consumed some = ap (arrivals 0) consumed ∙ arrivals-ended 0 stream rest (HasEnded-eods (told_by stream) some)

-- a byte that arrives and is the source's, as a block
block_carries : (source : List ℕ) (offset value : ℕ) → slice_get source offset ≡ Some value → CarriesSource source (byte_at offset (value ∷ []))
block_carries source offset value is x v has =
    elim (cases_order x offset) [
      | inl same ↦ ap (slice_get source) same ∙ is ∙ sym (byte_at-here offset value [] x same) ∙ has
      | inr apart ↦
          let other : x ≢ offset = elim apart [ inl less ↦ omega arith | inr more ↦ omega arith ] in
          absurd (none-some v (sym (byte_at-later offset value [] x other) ∙ has))
    ]

nothing_carried : (source : List ℕ) → CarriesSource source (λ x. None)
nothing_carried source x v has = absurd (none-some v has)

-- truthful arrivals carry the source's bytes
carry-after : (source : List ℕ) (before : List CoreEvent) (list : List Arrival) → AllCarry source (generation before) → IsTruthful source list → AllCarry source (generation (arrival_events 0 before list))
carry-after source before [] all truthful = all
carry-after source before (At offset value ∷ list) all truthful =
    carry-after source (arrival_event 0 (At offset value) ∷ before) list (all, block_carries source offset value truthful.0) truthful.1
carry-after source before (Eof total ∷ list) all truthful = carry-after source (arrival_event 0 (Eof total) ∷ before) list (all, nothing_carried source) truthful
carry-after source before (Eod ∷ list) all truthful = carry-after source (arrival_event 0 Eod ∷ before) list (all, nothing_carried source) truthful
carry-after source before (Bad refusal ∷ list) all truthful = carry-after source (arrival_event 0 (Bad refusal) ∷ before) list (all, nothing_carried source) truthful

-- arrivals are no crashes
no_crash-after : (before : List CoreEvent) (list : List Arrival) → HasNoCrash (generation before) → HasNoCrash (generation (arrival_events 0 before list))
no_crash-after before [] none = none
no_crash-after before (At offset value ∷ list) none = no_crash-after (arrival_event 0 (At offset value) ∷ before) list none
no_crash-after before (Eof total ∷ list) none = no_crash-after (arrival_event 0 (Eof total) ∷ before) list none
no_crash-after before (Eod ∷ list) none = no_crash-after (arrival_event 0 Eod ∷ before) list none
no_crash-after before (Bad refusal ∷ list) none = no_crash-after (arrival_event 0 (Bad refusal) ∷ before) list none

-- lists with the same element at each place
same_gets : (a b : List ℕ) → ((x : ℕ) → slice_get a x ≡ slice_get b x) → a ≡ b
same_gets [] [] same = refl
same_gets [] (y ∷ ys) same = absurd (none-some y (same zero))
same_gets (x ∷ xs) [] same = absurd (none-some x (sym (same zero)))
same_gets (x ∷ xs) (y ∷ ys) same =
    let heads : Some x ≡ Some y = same zero in
    let tails = same_gets xs ys (λ k. same (suc k)) in
    cc

-- by the law of an honest sender the kept bytes are the source, and so is the file
file_is_source : (source file : List ℕ) (list : List Arrival) → IsHonest source list → Done (events_of list) → IsKept (events_of list) file → file ≡ source
file_is_source source file list sender done is_kept =
    let says = says_done list done in
    let bounds = says.in_bounds in
    let some : 0 < eods list = omega (arith, says.met, bounds.0) in
    let fresh : List CoreEvent = event.Fresh ∷ [] in
    let no_crash = no_crash-after fresh list tt in
    let law = honest source (events_of list) no_crash
    (record {
      carry = carry-after source fresh list (tt, nothing_carried source) sender.truthful;
      cover = λ x lt. let byte = arrives_kept list x (sender.whole some x lt) in sent_where_booked (events_of list) no_crash x byte.0 byte.1;
    })
    done in
    same_gets file source (λ x. sym (is_kept x) ∙ law x)

pub stored_is_source : (source bytes stream : List ℕ) (before after : Option (List ℕ)) (drive : DriveState) → before ≡ Some bytes → IsHonest source (told_by bytes) → IsTaken before after stream → IsStored stream drive → OfEach drive (IsFile source)
stored_is_source source bytes stream before after drive is sender taken stored image of_drive =
    let says = says_done (told_by stream) stored.done in
    let bounds = says.in_bounds in
    let some : 0 < eods (told_by stream) = omega (arith, says.met, bounds.0) in
    let all : told_by bytes ≡ told_by stream = told_of_all bytes stream after (subst (λ (b : Option (List ℕ)). Consumes b after stream) is taken.consumed) some in
    let truthful = subst (λ (list : List Arrival). IsHonest source list) all sender in
    file_is_source source image.bytes (told_by stream) truthful stored.done (stored.file image of_drive).bytes
