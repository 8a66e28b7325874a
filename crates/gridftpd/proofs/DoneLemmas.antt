-- When the events of arrivals are done.
use Rattle.std.proofs.Common.{◌≡◌, ℕ, ◌+◌, ◌<◌, ◌≤◌, ◌↔◌, List, [], ◌∷◌, Some, None, refl, sym, ap, ◌∙◌, arith}
use Rattle.std.specs.Prelude.{Option}
use Rattle.gft_eod.specs.declared.TheConstants.{MAX_EODS}
use Rattle.gft_eblock.specs.Words.{Arrival, At, Eof, Eod, Bad, Arrives, totals, eods}
use Rattle.gft_core.specs.declared.CoreEvent.{CoreEvent}
use Rattle.gft_core.specs.declared.CoreEvent.TheVariants as event
use Rattle.gft_core.specs.Words.{first_some, since, begun, total, AllPermit, Done}
use Rattle.gft_core.specs.Words as core
use Rattle.gft_core.proofs.Lemmas.{first_some-none, first_some-assoc}
use Rattle.gridftpd.specs.Events.{events_of}
use Rattle.gft_outside.specs.Words.{arrival_event, arrival_events}
use Rattle.gft_outside.specs.Words.{HasNoBad}
use Rattle.gft_outside.specs.Words.{first_of, AllAre}
use Rattle.gridftpd.proofs.EventLemmas.{arrives_kept, kept_arrives}

-- what a transfer that is done says of its arrivals
pub record SaysDone (list : List Arrival) (end : ℕ) : Type 0 where
  pub total : ℕ
  pub announced : first_of (totals list) ≡ Some total
  pub in_bounds : (1 ≤ total) × (total ≤ MAX_EODS)
  pub no_other : AllAre total (totals list)
  pub met : eods list ≡ total
  pub whole : (x : ℕ) → Arrives list x ↔ (x < end)

begun-after : (before : List CoreEvent) (list : List Arrival) → begun (arrival_events 0 before list) ≡ begun before
begun-after before [] = refl
begun-after before (At offset value ∷ list) = begun-after (arrival_event 0 (At offset value) ∷ before) list
begun-after before (Eof n ∷ list) = begun-after (arrival_event 0 (Eof n) ∷ before) list
begun-after before (Eod ∷ list) = begun-after (arrival_event 0 Eod ∷ before) list
begun-after before (Bad refusal ∷ list) = begun-after (arrival_event 0 (Bad refusal) ∷ before) list

-- what announces no total
still_total : (before : List CoreEvent) (rest : Option ℕ) → first_some (first_some (total (since before)) None) rest ≡ first_some (total (since before)) rest
still_total before rest = ap (λ o. first_some o rest) (first_some-none (total (since before)))

total-after : (before : List CoreEvent) (list : List Arrival) → total (since (arrival_events 0 before list)) ≡ first_some (total (since before)) (first_of (totals list))
total-after before [] = sym (first_some-none (total (since before)))
total-after before (At offset value ∷ list) = total-after (arrival_event 0 (At offset value) ∷ before) list ∙ still_total before (first_of (totals list))
total-after before (Eof n ∷ list) = total-after (arrival_event 0 (Eof n) ∷ before) list ∙ first_some-assoc (total (since before)) (Some n) (first_of (totals list))
total-after before (Eod ∷ list) = total-after (arrival_event 0 Eod ∷ before) list ∙ still_total before (first_of (totals list))
total-after before (Bad refusal ∷ list) = total-after (arrival_event 0 (Bad refusal) ∷ before) list ∙ still_total before (first_of (totals list))

eods-after : (before : List CoreEvent) (list : List Arrival) → core.eod_count (since (arrival_events 0 before list)) ≡ core.eod_count (since before) + eods list
eods-after before [] = omega arith
eods-after before (At offset value ∷ list) = omega (arith, eods-after (arrival_event 0 (At offset value) ∷ before) list)
eods-after before (Eof n ∷ list) = omega (arith, eods-after (arrival_event 0 (Eof n) ∷ before) list)
eods-after before (Eod ∷ list) = omega (arith, eods-after (arrival_event 0 Eod ∷ before) list)
eods-after before (Bad refusal ∷ list) = omega (arith, eods-after (arrival_event 0 (Bad refusal) ∷ before) list)

pass-after : (n : ℕ) (before : List CoreEvent) (list : List Arrival) → AllPermit n (since before) → AllAre n (totals list) → HasNoBad list → AllPermit n (since (arrival_events 0 before list))
pass-after n before [] pass all sound = pass
pass-after n before (At offset value ∷ list) pass all sound = pass-after n (arrival_event 0 (At offset value) ∷ before) list (pass, tt) all sound
pass-after n before (Eof m ∷ list) pass all sound = pass-after n (arrival_event 0 (Eof m) ∷ before) list (pass, all.0) all.1 sound
pass-after n before (Eod ∷ list) pass all sound = pass-after n (arrival_event 0 Eod ∷ before) list (pass, tt) all sound
pass-after n before (Bad refusal ∷ list) pass all sound = absurd sound

after-pass : (n : ℕ) (before : List CoreEvent) (list : List Arrival) → AllPermit n (since (arrival_events 0 before list)) → AllPermit n (since before) × AllAre n (totals list)
after-pass n before [] pass = (pass, tt)
after-pass n before (At offset value ∷ list) pass = let rest = after-pass n (arrival_event 0 (At offset value) ∷ before) list pass in (rest.0.0, rest.1)
after-pass n before (Eof m ∷ list) pass = let rest = after-pass n (arrival_event 0 (Eof m) ∷ before) list pass in (rest.0.0, (rest.0.1, rest.1))
after-pass n before (Eod ∷ list) pass = let rest = after-pass n (arrival_event 0 Eod ∷ before) list pass in (rest.0.0, rest.1)
after-pass n before (Bad refusal ∷ list) pass = let rest = after-pass n (arrival_event 0 (Bad refusal) ∷ before) list pass in absurd rest.0.1

pub done_of : (list : List Arrival) (end : ℕ) → HasNoBad list → SaysDone list end → Done (events_of list)
done_of list end sound says =
    let fresh : List CoreEvent = event.Fresh ∷ [] in
    record {
      begun = begun-after fresh list;
      number = says.total;
      total = total-after fresh list ∙ says.announced;
      in_bounds = says.in_bounds;
      met = omega (arith, eods-after fresh list, says.met);
      passes = pass-after says.total fresh list tt says.no_other sound;
      whole = (end, λ x. (λ booked. (says.whole x).0 (kept_arrives list x booked.0 booked.1), λ lt. arrives_kept list x ((says.whole x).1 lt)));
    }

pub says_done : (list : List Arrival) → (done : Done (events_of list)) → SaysDone list done.whole.0
says_done list done =
    let fresh : List CoreEvent = event.Fresh ∷ [] in
    let whole = done.whole.1 in
    record {
      total = done.number;
      announced = sym (total-after fresh list) ∙ done.total;
      in_bounds = done.in_bounds;
      no_other = (after-pass done.number fresh list done.passes).1;
      met = omega (arith, eods-after fresh list, done.met);
      whole = λ x. (λ came. (whole x).0 (arrives_kept list x came), λ lt. let booked = (whole x).1 lt in kept_arrives list x booked.0 booked.1);
    }
