-- Arrivals that go by the plan that they make themselves.
use Rattle.std.proofs.Common.{◌≡◌, ℕ, ◌+◌, Bool, List, [], ◌∷◌, ◌++◌, refl, ap, ◌∙◌, sym, arith}
use Rattle.std.specs.Prelude.{if◌then◌else◌, false}
use Rattle.std.specs.List.{AllByRecursion}
use Rattle.std.proofs.lemmas.Bool.{eq-eqb}
use Rattle.std.proofs.lemmas.List.{append_assoc, append-nil}
use Rattle.gft_eblock.specs.Words.{Arrival, At, Bad, Eod, Eof, eods}
use Rattle.gft_drive.specs.Words.{Orders, total_of}
use Rattle.gft_core.specs.declared.event.CoreEvent.{CoreEvent}
use Rattle.gft_core.specs.declared.event.CoreEvent.TheVariants as event
use Rattle.gft_core.specs.Words.{IsInOrder, lane_eods, lane_offsets}
use Rattle.gft_outside.specs.Words.{arrival_events}
use Rattle.gft_delivery.proofs.ListLemmas.{IsClosed, IsSound, closed-none, closed-rest, offsets}

-- ---- the events of a lane's arrivals have their offsets and EODs

own_offset : (lane offset value : ℕ) (before : List CoreEvent) → lane_offsets lane (event.Block lane 0 offset (value ∷ []) false ∷ before) ≡ lane_offsets lane before ++ offset ∷ []
own_offset lane offset value before = ap (λ (b : Bool). lane_offsets lane before ++ (if b then offset ∷ [] else [])) (eq-eqb lane lane refl)

own_eod : (lane : ℕ) (before : List CoreEvent) → lane_eods lane (event.Eod lane ∷ before) ≡ lane_eods lane before + 1
own_eod lane before = ap (λ (b : Bool). lane_eods lane before + (if b then 1 else 0)) (eq-eqb lane lane refl)

offsets_after : (lane : ℕ) (before : List CoreEvent) (list : List Arrival) → lane_offsets lane (arrival_events lane before list) ≡ lane_offsets lane before ++ offsets list
offsets_after lane before [] = sym (append-nil (lane_offsets lane before))
offsets_after lane before (At offset value ∷ list) =
    offsets_after lane (event.Block lane 0 offset (value ∷ []) false ∷ before) list
    ∙ ap (λ (l : List ℕ). l ++ offsets list) (own_offset lane offset value before)
    ∙ append_assoc (lane_offsets lane before) (offset ∷ []) (offsets list)
offsets_after lane before (Eof total ∷ list) =
    offsets_after lane (event.Eof total ∷ before) list ∙ ap (λ (l : List ℕ). l ++ offsets list) (append-nil (lane_offsets lane before))
offsets_after lane before (Eod ∷ list) =
    offsets_after lane (event.Eod lane ∷ before) list ∙ ap (λ (l : List ℕ). l ++ offsets list) (append-nil (lane_offsets lane before))
offsets_after lane before (Bad refusal ∷ list) =
    offsets_after lane (event.Lost ∷ before) list ∙ ap (λ (l : List ℕ). l ++ offsets list) (append-nil (lane_offsets lane before))

pub lane_offsets-arrivals : (lane : ℕ) (list : List Arrival) → lane_offsets lane (arrival_events lane [] list) ≡ offsets list
lane_offsets-arrivals lane list = offsets_after lane [] list

-- ---- in order

-- what is to come is sound, ends with an EOD, and brings the rest of the order and of the EODs
goes_by : (file : List ℕ) (orders : Orders) (lane : ℕ) (before : List CoreEvent) (list : List Arrival) → IsInOrder orders before → AllByRecursion (IsSound file (total_of orders)) list → IsClosed list
    → lane_offsets lane before ++ offsets list ≡ orders.order lane → lane_eods lane before + eods list ≡ orders.number lane → IsInOrder orders (arrival_events lane before list)
goes_by file orders lane before [] order sound closed all met = order
goes_by file orders lane before (At offset value ∷ list) order sound closed all met =
    let next = event.Block lane 0 offset (value ∷ []) false in
    let had = lane_offsets lane before in
    let whole : (had ++ offset ∷ []) ++ offsets list ≡ orders.order lane = append_assoc had (offset ∷ []) (offsets list) ∙ all in
    goes_by file orders lane (next ∷ before) list (order, (offsets list, whole)) sound.1 (closed-rest (At offset value ∷ []) list closed)
    (ap (λ (l : List ℕ). l ++ offsets list) (own_offset lane offset value before) ∙ whole)
    (omega (arith, met))
goes_by file orders lane before (Eof total ∷ list) order sound closed all met =
    goes_by file orders lane (event.Eof total ∷ before) list (order, sound.0) sound.1 (closed-rest (Eof total ∷ []) list closed)
    (ap (λ (l : List ℕ). l ++ offsets list) (append-nil (lane_offsets lane before)) ∙ all)
    (omega (arith, met))
goes_by file orders lane before (Eod ∷ list) order sound closed all met =
    let had = lane_offsets lane before in
    let later = closed-rest (Eod ∷ []) list closed in
    let more = own_eod lane before in
    goes_by file orders lane (event.Eod lane ∷ before) list
    (order, (omega (arith, met), λ last. last_one had later all (omega (arith, last, met))))
    sound.1 later
    (ap (λ (l : List ℕ). l ++ offsets list) (append-nil had) ∙ all)
    (omega (arith, met, more))
  where
    last_one : (had : List ℕ) → IsClosed list → had ++ offsets list ≡ orders.order lane → eods list ≡ 0 → had ≡ orders.order lane
    last_one had closed all none = sym (append-nil had) ∙ ap (λ (l : List Arrival). had ++ offsets l) (sym (closed-none list closed none)) ∙ all
goes_by file orders lane before (Bad refusal ∷ list) order sound closed all met = absurd sound.0

pub in_order : (file : List ℕ) (orders : Orders) (lane : ℕ) (list : List Arrival) → AllByRecursion (IsSound file (total_of orders)) list → IsClosed list
    → offsets list ≡ orders.order lane → eods list ≡ orders.number lane → IsInOrder orders (arrival_events lane [] list)
in_order file orders lane list sound closed all met = goes_by file orders lane [] list tt sound closed all (omega (arith, met))
