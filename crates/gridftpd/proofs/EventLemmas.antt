-- Arrivals as events: their kept bytes.
use Rattle.std.proofs.Common.{◌≡◌, ◌≢◌, ℕ, zero, suc, ◌+◌, ◌<◌, List, [], ◌∷◌, ◌++◌, length, Some, None, refl, sym, ap, ◌∙◌, arith, inl, inr}
use Rattle.std.specs.Prelude.{Option, slice_index}
use Rattle.std.proofs.lemmas.Option.{none-some}
use Rattle.std.proofs.lemmas.Bool.{cases_order}
use Rattle.gft_eblock.specs.Words.{Arrival, At, Eof, Eod, Bad, Arrives, data_at}
use Rattle.gft_core.specs.declared.CoreEvent.{CoreEvent}
use Rattle.gft_core.specs.declared.CoreEvent.TheVariants as event
use Rattle.gft_core.specs.Words.{first_some, byte_at, answered, kept}
use Rattle.gft_core.proofs.Lemmas.{first_some-none, first_some-assoc, first_some_front, first_some_back, byte_at-here, byte_at-later}
use Rattle.gridftpd.specs.Events.{events_of}
use Rattle.gft_outside.specs.Words.{arrival_event, arrival_events}
use Rattle.gft_outside.proofs.Lemmas.{arrival_events-append}

kept-event : (before : List CoreEvent) (arrival : Arrival) (x : ℕ) → kept (arrival_event 0 arrival ∷ before) x ≡ first_some (kept before x) (answered (arrival_event 0 arrival) x)
kept-event before (At offset value) x = refl
kept-event before (Eof total) x = refl
kept-event before Eod x = refl
kept-event before (Bad refusal) x = refl

pub kept-after : (before : List CoreEvent) (list : List Arrival) (x : ℕ) → kept (arrival_events 0 before list) x ≡ first_some (kept before x) (kept (events_of list) x)
kept-after before [] x = sym (first_some-none (kept before x))
kept-after before (arrival ∷ later) x =
    let fresh : List CoreEvent = event.Fresh ∷ [] in
    let rest = kept (events_of later) x in
    let alone : kept (arrival_events 0 (arrival_event 0 arrival ∷ fresh) later) x ≡ first_some (answered (arrival_event 0 arrival) x) rest
    = kept-after (arrival_event 0 arrival ∷ fresh) later x ∙ ap (λ o. first_some o rest) (kept-event fresh arrival x) in
    kept-after (arrival_event 0 arrival ∷ before) later x
    ∙ ap (λ o. first_some o rest) (kept-event before arrival x)
    ∙ first_some-assoc (kept before x) (answered (arrival_event 0 arrival) x) rest
    ∙ ap (first_some (kept before x)) (sym alone)

kept-cons : (arrival : Arrival) (later : List Arrival) (x : ℕ) → kept (events_of (arrival ∷ later)) x ≡ first_some (answered (arrival_event 0 arrival) x) (kept (events_of later) x)
kept-cons arrival later x =
    let fresh : List CoreEvent = event.Fresh ∷ [] in
    kept-after (arrival_event 0 arrival ∷ fresh) later x ∙ ap (λ o. first_some o (kept (events_of later) x)) (kept-event fresh arrival x)

kept-append : (a b : List Arrival) (x : ℕ) → kept (events_of (a ++ b)) x ≡ first_some (kept (events_of a) x) (kept (events_of b) x)
kept-append a b x = ap (λ (events : List CoreEvent). kept events x) (arrival_events-append 0 (event.Fresh ∷ []) a b) ∙ kept-after (events_of a) b x

-- ---- where a byte arrives, one is kept

pub arrives_kept : (list : List Arrival) (x : ℕ) → Arrives list x → (v : ℕ) × (kept (events_of list) x ≡ Some v)
arrives_kept [] x came = absurd came
arrives_kept (At offset value ∷ list) x came =
    let cons = kept-cons (At offset value) list x in
    elim came [
      | inl here ↦ (value, cons ∙ first_some_front (byte_at offset (value ∷ []) x) (kept (events_of list) x) value (byte_at-here offset value [] x (sym here)))
      | inr later ↦
          let rest = arrives_kept list x later in
          let found = first_some_back (byte_at offset (value ∷ []) x) (kept (events_of list) x) rest.0 rest.1 in
          (found.0, cons ∙ found.1)
    ]
arrives_kept (Eof total ∷ list) x came = let rest = arrives_kept list x came in (rest.0, kept-cons (Eof total) list x ∙ rest.1)
arrives_kept (Eod ∷ list) x came = let rest = arrives_kept list x came in (rest.0, kept-cons Eod list x ∙ rest.1)
arrives_kept (Bad refusal ∷ list) x came = let rest = arrives_kept list x came in (rest.0, kept-cons (Bad refusal) list x ∙ rest.1)

pub kept_arrives : (list : List Arrival) (x v : ℕ) → kept (events_of list) x ≡ Some v → Arrives list x
kept_arrives [] x v has = absurd (none-some v has)
kept_arrives (At offset value ∷ list) x v has =
    elim (cases_order x offset) [
      | inl same ↦ inl (sym same)
      | inr apart ↦
          let other : x ≢ offset = elim apart [ inl less ↦ omega arith | inr more ↦ omega arith ] in
          let rest = kept-cons (At offset value) list x ∙ ap (λ o. first_some o (kept (events_of list) x)) (byte_at-later offset value [] x other) in
          inr (kept_arrives list x v (sym rest ∙ has))
    ]
kept_arrives (Eof total ∷ list) x v has = kept_arrives list x v (sym (kept-cons (Eof total) list x) ∙ has)
kept_arrives (Eod ∷ list) x v has = kept_arrives list x v (sym (kept-cons Eod list x) ∙ has)
kept_arrives (Bad refusal ∷ list) x v has = kept_arrives list x v (sym (kept-cons (Bad refusal) list x) ∙ has)

pub none_kept : (list : List Arrival) (x : ℕ) → ¬ Arrives list x → kept (events_of list) x ≡ None
none_kept list x out = absent (kept (events_of list) x) (λ v has. out (kept_arrives list x v has)) where
  absent : (o : Option ℕ) → ((v : ℕ) → o ≡ Some v → ⊥) → o ≡ None
  absent (Some v) never = absurd (never v refl)
  absent None never = refl

-- ---- the byte that arrived first stays the kept one

pub kept-first : (a b : List Arrival) (x : ℕ) → Arrives a x → kept (events_of (a ++ b)) x ≡ kept (events_of a) x
kept-first a b x came =
    let byte = arrives_kept a x came in
    kept-append a b x ∙ first_some_front (kept (events_of a) x) (kept (events_of b) x) byte.0 byte.1 ∙ sym byte.1

pub kept-later : (a b : List Arrival) (x : ℕ) → ¬ Arrives a x → kept (events_of (a ++ b)) x ≡ kept (events_of b) x
kept-later a b x out = kept-append a b x ∙ ap (λ o. first_some o (kept (events_of b) x)) (none_kept a x out)

pub kept-data_at : (offset : ℕ) (bytes : List ℕ) (x k : ℕ) → x ≡ offset + k → k < length bytes → kept (events_of (data_at offset bytes)) x ≡ Some (slice_index bytes k)
kept-data_at offset [] x k is lt = absurd (omega arith)
kept-data_at offset (v ∷ bytes) x zero is lt =
    let later = data_at (offset + 1) bytes in
    kept-cons (At offset v) later x ∙ first_some_front (byte_at offset (v ∷ []) x) (kept (events_of later) x) v (byte_at-here offset v [] x (omega arith))
kept-data_at offset (v ∷ bytes) x (suc k) is lt =
    let later = data_at (offset + 1) bytes in
    let other : x ≢ offset = omega arith in
    kept-cons (At offset v) later x
    ∙ ap (λ o. first_some o (kept (events_of later) x)) (byte_at-later offset v [] x other)
    ∙ kept-data_at (offset + 1) bytes x k (omega arith) (omega arith)
