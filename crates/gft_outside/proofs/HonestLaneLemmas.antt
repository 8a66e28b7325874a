-- Truthful and honest lanes.
use Rattle.std.proofs.Common.{◌≡◌, ℕ, ◌+◌, ◌<◌, ◌==◌, Bool, true, false, List, [], ◌∷◌, ◌++◌, Some, None, refl, sym, ap, ◌∙◌, subst}
use Rattle.std.specs.Prelude.{if◌then◌else◌, slice_get}
use Rattle.std.proofs.lemmas.Bool.{eqb-true}
use Rattle.std.proofs.lemmas.Option.{none-some}
use Rattle.gft_eblock.specs.Words.{Arrival, At, Bad, Eod, Eof}
use Rattle.gft_drive.specs.Words.{Orders}
use Rattle.gft_core.specs.declared.event.CoreEvent.{CoreEvent}
use Rattle.gft_core.specs.Words.{CarriesSource, IsInOrder, byte_at}
use Rattle.gft_outside.specs.Honest.{HasNoBad, IsTruthful, arrival_event, arrival_events}
use Rattle.gft_outside.specs.Laws.{HonestFrontLaw, LanesLaw, TruthfulLaw}

-- ---- an honest lane, at every moment

true_front : (source : List ℕ) (front later : List Arrival) → IsTruthful source (front ++ later) → IsTruthful source front
true_front source [] later all = tt
true_front source (At offset value ∷ front) later all = (all.0, true_front source front later all.1)
true_front source (Eof total ∷ front) later all = true_front source front later all
true_front source (Eod ∷ front) later all = true_front source front later all
true_front source (Bad refusal ∷ front) later all = true_front source front later all

no_refusal_front : (front later : List Arrival) → HasNoBad (front ++ later) → HasNoBad front
no_refusal_front [] later all = tt
no_refusal_front (At offset value ∷ front) later all = no_refusal_front front later all
no_refusal_front (Eof total ∷ front) later all = no_refusal_front front later all
no_refusal_front (Eod ∷ front) later all = no_refusal_front front later all
no_refusal_front (Bad refusal ∷ front) later all = absurd all

-- the events behind those of before begin with these
order_front : (orders : Orders) (lane : ℕ) (before : List CoreEvent) (later : List Arrival) → IsInOrder orders (arrival_events lane before later) → IsInOrder orders before
order_front orders lane before [] order = order
order_front orders lane before (arrival ∷ later) order = (order_front orders lane (arrival_event lane arrival ∷ before) later order).0

pub arrival_events-append : (lane : ℕ) (before : List CoreEvent) (front later : List Arrival) → arrival_events lane before (front ++ later) ≡ arrival_events lane (arrival_events lane before front) later
arrival_events-append lane before [] later = refl
arrival_events-append lane before (arrival ∷ front) later = arrival_events-append lane (arrival_event lane arrival ∷ before) front later

pub honest_front : HonestFrontLaw
honest_front source orders lane front later honest = record {
  truthful = true_front source front later honest.truthful;
  no_refusal = no_refusal_front front later honest.no_refusal;
  in_order = order_front orders lane (arrival_events lane [] front) later (subst (IsInOrder orders) (arrival_events-append lane [] front later) honest.in_order);
}

-- ---- a truthful lane brings the source's bytes

one_byte : (source : List ℕ) (offset value : ℕ) → slice_get source offset ≡ Some value → CarriesSource source (byte_at offset (value ∷ []))
one_byte source offset value is x v = at (x == offset) refl where
  at : (b : Bool) → (x == offset) ≡ b → (if b then Some value else None) ≡ Some v → slice_get source x ≡ Some v
  at true same got = ap (slice_get source) (eqb-true x offset same) ∙ is ∙ got
  at false same got = absurd (none-some v got)

pub truthful_brings : TruthfulLaw
truthful_brings source lane [] before truthful bring = bring
truthful_brings source lane (At offset value ∷ list) before truthful bring =
    truthful_brings source lane list (arrival_event lane (At offset value) ∷ before) truthful.1 (bring, one_byte source offset value truthful.0)
truthful_brings source lane (Eof total ∷ list) before truthful bring = truthful_brings source lane list (arrival_event lane (Eof total) ∷ before) truthful (bring, tt)
truthful_brings source lane (Eod ∷ list) before truthful bring = truthful_brings source lane list (arrival_event lane Eod ∷ before) truthful (bring, tt)
truthful_brings source lane (Bad refusal ∷ list) before truthful bring = truthful_brings source lane list (arrival_event lane (Bad refusal) ∷ before) truthful (bring, tt)

-- ---- among other lanes

pub lanes_follow : LanesLaw
lanes_follow orders lane (At offset value) own all offsets eods follows =
    (follows.0, subst (λ l. (l ++ offset ∷ []) ++ follows.0 ≡ orders.order lane) offsets follows.1)
lanes_follow orders lane (Eof total) own all offsets eods follows = follows
lanes_follow orders lane Eod own all offsets eods follows = (
  subst (λ n. n < orders.number lane) eods follows.0,
  λ last. sym offsets ∙ follows.1 (ap (λ n. n + 1) eods ∙ last),
)
lanes_follow orders lane (Bad refusal) own all offsets eods follows = tt
