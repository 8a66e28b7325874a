-- A piece of a channel's bytes, event by event.
use Rattle.std.proofs.Common.{◌≡◌, ◌⊎◌, ◌↔◌, ℕ, zero, suc, ◌+◌, ◌-◌, ◌<◌, ◌≤◌, List, [], ◌∷◌, ◌++◌, length, take, drop, Some, None, refl, sym, ap, ◌∙◌, subst, ⊎_elim, inl, inr, arith}
use Rattle.std.specs.Prelude.{Option}
use Rattle.std.proofs.lemmas.Bool.{cases_lt}
use Rattle.std.proofs.lemmas.List.{append_assoc, append-nil, take-append-drop}
use Rattle.gft_drive.specs.Words.{Sent}
use Rattle.gft_eblock.specs.declared.BadBlock.{BadBlock}
use Rattle.gft_eblock.specs.declared.Event.{Event}
use Rattle.gft_eblock.specs.declared.Event.TheVariants as event
use Rattle.gft_eblock.specs.declared.event.Step.{Step}
use Rattle.gft_eblock.specs.declared.channel.State.{State}
use Rattle.gft_eblock.specs.declared.channel.State.TheVariants.{Header, Data, EodWaits, Done, Failed}
use Rattle.gft_eblock.specs.Words.{Advances, Arrival, At, Bad, Eod, Eof, Fails, IsDone, IsDoneState, IsEventOf, Reader, TakesMore, data_at, eods, event_arrivals, refusal_of, to_come, wanted}
use Rattle.gft_eblock.proofs.Lemmas.{eods-append, eods-data_at, to_come-done, to_come-nothing}
use Rattle.gft_outside.specs.Words.{HasNoBad}
use Rattle.gft_pass.specs.declared.Numbers.{Numbers}
use Rattle.gft_pass.specs.Words.{Lane}
use Rattle.gft_book.specs.Words.{Learns, SamePass, Start}
use Rattle.gft_receive.specs.declared.halt.Unfed.TheVariants.{Stop, Refused}
use Rattle.gft_receive.specs.Booking.{IsBooksCause, numbers_after}
use Rattle.gft_receive.specs.Honest.{MayBring}
use Rattle.gft_receive.specs.Turns.{IsFedWhole, IsFeeding, IsSized, IsUnfed, undone}
use Rattle.gft_receive.proofs.BookingLemmas.{IsBooksCause-more, Learns-map, numbers_after-append}
use Rattle.gft_receive.proofs.HonestLemmas.{MayBring-front, MayBring-rest}

-- ---- arrivals of an event

pub HasNoBad-append : (a b : List Arrival) → HasNoBad a → HasNoBad b → HasNoBad (a ++ b)
HasNoBad-append [] b x y = y
HasNoBad-append (At offset value ∷ a) b x y = HasNoBad-append a b x y
HasNoBad-append (Eof total ∷ a) b x y = HasNoBad-append a b x y
HasNoBad-append (Eod ∷ a) b x y = HasNoBad-append a b x y
HasNoBad-append (Bad r ∷ a) b x y = absurd x

HasNoBad-data : (offset : ℕ) (bytes : List ℕ) → HasNoBad (data_at offset bytes)
HasNoBad-data offset [] = tt
HasNoBad-data offset (b ∷ bs) = HasNoBad-data (offset + 1) bs

HasNoBad-event : (e : Event) → HasNoBad (event_arrivals (Some e))
HasNoBad-event (event.Piece offset bytes) = HasNoBad-data offset bytes.now
HasNoBad-event (event.Eof total) = tt
HasNoBad-event event.Eod = tt

takes_undone : (s : State) → TakesMore s → IsDoneState s → ⊥
takes_undone Header more done = done
takes_undone (Data offset left eod) more done = done
takes_undone EodWaits more done = done
takes_undone Done more done = more
takes_undone (Failed bad) more done = done

awaits_undone : (s : State) (header : List ℕ) → IsEventOf None s header → IsDoneState s → ⊥
awaits_undone Header header more done = done
awaits_undone (Data offset left eod) header more done = done
awaits_undone EodWaits header more done = done
awaits_undone Done header more done = omega (arith, more)
awaits_undone (Failed bad) header more done = done

-- behind an event the channel is done exactly if it was an EOD
event_ends : (e : Event) (s : State) (header : List ℕ) → IsEventOf (Some e) s header → IsDoneState s ↔ (0 < eods (event_arrivals (Some e)))
event_ends (event.Piece offset bytes) s header shape = (λ done. absurd (takes_undone s shape.2 done), λ some. let none = eods-data_at offset bytes.now in absurd (omega (arith, some, none)))
event_ends (event.Eof total) s header shape = (λ done. absurd (takes_undone s shape done), λ some. absurd (omega (arith, some)))
event_ends event.Eod s header shape = (λ done. omega arith, λ some. shape)

pub event_sized : (e : Event) (s : State) (header : List ℕ) → IsEventOf (Some e) s header → IsSized e
event_sized (event.Piece offset bytes) s header shape = (shape.0, shape.1)
event_sized (event.Eof total) s header shape = tt
event_sized event.Eod s header shape = tt

-- ---- a feed

module _ (sent : List ℕ → Option Sent) (start : Start) (first : Reader) (bytes : List ℕ) (before : Lane) where
  pub feeds_first : MayBring sent start before.lane before.count (to_come first bytes) → IsFeeding sent start first bytes before first bytes before
  feeds_first honest = record {
    booked = [];
    carried = λ later. refl;
    sound = tt;
    taken = λ _. refl;
    most = omega arith;
    ended = (λ done. inl done, λ either. ⊎_elim (λ (done : IsDone first). done) (λ (some : 0 < 0). absurd (omega (arith, some))) either);
    same = record { table = refl; lane = refl };
    numbers = refl;
    honest = honest;
  }

  -- what came is booked, and what is left brings the rest
  brought : (reader : Reader) (left : List ℕ) (pass : Lane) → (f : IsFeeding sent start first bytes before reader left pass) → to_come first bytes ≡ f.booked ++ to_come reader left
  brought reader left pass f =
      ap (to_come first) (sym (append-nil bytes)) ∙ f.carried [] ∙ ap (λ (l : List ℕ). f.booked ++ to_come reader l) (append-nil left)

  -- the channel is done
  pub feeds_done : (reader : Reader) (left : List ℕ) (pass : Lane) → IsFeeding sent start first bytes before reader left pass → IsDone reader → IsFedWhole first reader bytes before pass
  feeds_done reader left pass f done =
      let all : to_come first bytes ≡ f.booked = brought reader left pass f ∙ ap (λ (l : List Arrival). f.booked ++ l) (to_come-done reader done left) ∙ append-nil f.booked in
      let most = f.most in
      record {
        carried = λ later. f.carried later ∙ ap (λ (l : List Arrival). f.booked ++ l) (to_come-done reader done (left ++ later) ∙ sym (to_come-done reader done later)) ∙ ap (λ (l : List Arrival). l ++ to_come reader later) (sym all);
        taken = λ not_done. absurd (not_done done);
        most = omega (arith, most);
        ended = subst (λ (l : List Arrival). IsDone reader ↔ (IsDone first ⊎ (0 < eods l))) (sym all) f.ended;
        sound = subst HasNoBad (sym all) f.sound;
        same = f.same;
        numbers = subst (λ (l : List Arrival). pass.count ≡ numbers_after l before.count) (sym all) f.numbers;
      }

  -- no event came
  pub feeds_none : (reader now : Reader) (left : List ℕ) (pass : Lane) (step : Step) → IsFeeding sent start first bytes before reader left pass → ¬ IsDone reader → Advances reader left step now → step.event ≡ None → step.used ≡ length left
      → IsFedWhole first now bytes before pass
  feeds_none reader now left pass step f not_done a none used =
      let whole : take step.used left ≡ left = ap (λ (n : ℕ). take n left) used ∙ take_whole left in
      let goes : (later : List ℕ) → to_come reader (left ++ later) ≡ to_come now later = λ later.
      ap (λ (l : List ℕ). to_come reader (l ++ later)) (sym whole) ∙ a.carried later ∙ ap (λ (e : Option Event). event_arrivals e ++ to_come now later) none in
      let all : to_come first bytes ≡ f.booked =
      ap (to_come first) (sym (append-nil bytes)) ∙ f.carried [] ∙ ap (λ (l : List Arrival). f.booked ++ l) (goes [] ∙ a.quiet none) ∙ append-nil f.booked in
      let taken = f.taken not_done in
      let more = a.taken in
      let now_undone : IsDone now → ⊥ = λ done. awaits_undone now.state now.header (subst (λ (e : Option Event). IsEventOf e now.state now.header) none a.event) done in
      record {
        carried = λ later. f.carried later ∙ ap (λ (l : List Arrival). f.booked ++ l) (goes later) ∙ ap (λ (l : List Arrival). l ++ to_come now later) (sym all);
        taken = λ _. omega (arith, taken, more, used);
        most = omega (arith, taken, more, used);
        ended = (λ done. absurd (now_undone done), λ either. absurd (not_done (f.ended.1 (subst (λ (l : List Arrival). IsDone first ⊎ (0 < eods l)) all either))));
        sound = subst HasNoBad (sym all) f.sound;
        same = f.same;
        numbers = subst (λ (l : List Arrival). pass.count ≡ numbers_after l before.count) (sym all) f.numbers;
      }
    where
      take_whole : (l : List ℕ) → take (length l) l ≡ l
      take_whole [] = refl
      take_whole (x ∷ xs) = ap (λ (l : List ℕ). x ∷ l) (take_whole xs)

  -- a header is refused
  pub feeds_bad : (reader now : Reader) (left : List ℕ) (pass : Lane) (bad : BadBlock) → IsFeeding sent start first bytes before reader left pass → Fails reader left bad now → IsUnfed first bytes before pass (Refused bad)
  feeds_bad reader now left pass bad f fails =
      let comes : to_come reader left ≡ Bad (refusal_of bad) ∷ [] = ap (to_come reader) (sym (take-append-drop fails.used left)) ∙ fails.comes (drop fails.used left) in
      record {
        booked = f.booked;
        rest = Bad (refusal_of bad) ∷ [];
        front = brought reader left pass f ∙ ap (λ (l : List Arrival). f.booked ++ l) comes;
        sound = f.sound;
        same = f.same;
        so = (refl, f.numbers);
      }

  -- what an event brings, and what is left behind it
  pub event_brings : (reader now : Reader) (left : List ℕ) (step : Step) (e : Event) → Advances reader left step now → step.event ≡ Some e → (later : List ℕ) → to_come reader (left ++ later) ≡ event_arrivals (Some e) ++ to_come now (drop step.used left ++ later)
  event_brings reader now left step e a is later =
      ap (λ (l : List ℕ). to_come reader (l ++ later)) (sym (take-append-drop step.used left))
      ∙ ap (to_come reader) (append_assoc (take step.used left) (drop step.used left) later)
      ∙ a.carried (drop step.used left ++ later)
      ∙ ap (λ (o : Option Event). event_arrivals o ++ to_come now (drop step.used left ++ later)) is

  at_once : (reader now : Reader) (left : List ℕ) (step : Step) (e : Event) → Advances reader left step now → step.event ≡ Some e → to_come reader left ≡ event_arrivals (Some e) ++ to_come now (drop step.used left)
  at_once reader now left step e a is =
      ap (to_come reader) (sym (append-nil left)) ∙ event_brings reader now left step e a is [] ∙ ap (λ (l : List ℕ). event_arrivals (Some e) ++ to_come now l) (append-nil (drop step.used left))

  pub event_honest : (reader now : Reader) (left : List ℕ) (pass : Lane) (step : Step) (e : Event) → IsFeeding sent start first bytes before reader left pass → Advances reader left step now → step.event ≡ Some e
      → MayBring sent start pass.lane pass.count (event_arrivals (Some e))
  event_honest reader now left pass step e f a is =
      MayBring-front sent start pass.lane pass.count (event_arrivals (Some e)) (to_come now (drop step.used left)) (subst (MayBring sent start pass.lane pass.count) (at_once reader now left step e a is) f.honest)

  -- the Book stops at an event
  pub feeds_stopped : (reader now : Reader) (left : List ℕ) (pass after : Lane) (step : Step) (e : Event) → IsFeeding sent start first bytes before reader left pass → Advances reader left step now → step.event ≡ Some e
      → SamePass pass after → Learns (IsBooksCause (event_arrivals (Some e))) pass.count after.count → IsUnfed first bytes before after Stop
  feeds_stopped reader now left pass after step e f a is same learned =
      let rest = event_arrivals (Some e) ++ to_come now (drop step.used left) in
      record {
        booked = f.booked;
        rest = rest;
        front = brought reader left pass f ∙ ap (λ (l : List Arrival). f.booked ++ l) (at_once reader now left step e a is);
        sound = f.sound;
        same = record { table = same.table ∙ f.same.table; lane = same.lane ∙ f.same.lane };
        so = subst (λ (n : Numbers). Learns (IsBooksCause rest) n after.count) f.numbers
            (Learns-map (IsBooksCause (event_arrivals (Some e))) (IsBooksCause rest) pass.count after.count (λ cause shown. IsBooksCause-more (event_arrivals (Some e)) (to_come now (drop step.used left)) cause shown) learned);
      }

  -- an event is booked
  pub feeds_on : (reader now : Reader) (left : List ℕ) (pass after : Lane) (step : Step) (e : Event) → IsFeeding sent start first bytes before reader left pass → ¬ IsDone reader → Advances reader left step now → step.event ≡ Some e
      → SamePass pass after → after.count ≡ numbers_after (event_arrivals (Some e)) pass.count → (rest : List ℕ) → rest ≡ drop step.used left → IsFeeding sent start first bytes before now rest after
  feeds_on reader now left pass after step e f not_done a is same booked rest is_rest =
      let here = event_arrivals (Some e) in
      let taken = f.taken not_done in
      let more = a.taken in
      let used = a.used in
      let short : length (drop step.used left) ≡ length left - step.used = length_drop step.used left in
      let shape = subst (λ (o : Option Event). IsEventOf o now.state now.header) is a.event in
      let ends = event_ends e now.state now.header shape in
      let sum = eods-append f.booked here in
      subst (λ (l : List ℕ). IsFeeding sent start first bytes before now l after) (sym is_rest)
      record {
        booked = f.booked ++ here;
        carried = λ later. f.carried later ∙ ap (λ (l : List Arrival). f.booked ++ l) (event_brings reader now left step e a is later) ∙ sym (append_assoc f.booked here (to_come now (drop step.used left ++ later)));
        sound = HasNoBad-append f.booked here f.sound (HasNoBad-event e);
        taken = λ _. omega (arith, taken, more, used, short);
        most = omega (arith, taken, more, used, short);
        ended = (
          λ done. inr (let some = ends.0 done in omega (arith, some, sum)),
          λ either. ends.1 (⊎_elim
              (λ (was : IsDone first). absurd (not_done (f.ended.1 (inl was))))
              (λ (some : 0 < eods (f.booked ++ here)). elim (cases_lt 0 (eods f.booked)) [
                | inl before_it ↦ absurd (not_done (f.ended.1 (inr before_it)))
                | inr none ↦ omega (arith, some, sum, none)
              ])
              either),
        );
        same = record { table = same.table ∙ f.same.table; lane = same.lane ∙ f.same.lane };
        numbers = booked ∙ ap (numbers_after here) f.numbers ∙ sym (numbers_after-append f.booked here before.count);
        honest = subst (λ (k : ℕ). MayBring sent start k after.count (to_come now (drop step.used left))) (sym same.lane)
            (subst (λ (n : Numbers). MayBring sent start pass.lane n (to_come now (drop step.used left))) (sym booked)
            (MayBring-rest sent start pass.lane pass.count here (to_come now (drop step.used left)) (subst (MayBring sent start pass.lane pass.count) (at_once reader now left step e a is) f.honest)));
      }
    where
      length_drop : (n : ℕ) (l : List ℕ) → length (drop n l) ≡ length l - n
      length_drop zero l = omega arith
      length_drop (suc n) [] = omega arith
      length_drop (suc n) (x ∷ xs) = let h = length_drop n xs in omega (arith, h)

-- a slice from a place on
pub slice_rest : (l : List ℕ) (used : ℕ) → take (length l - used) (drop used l) ≡ drop used l
slice_rest l used = subst (λ (n : ℕ). take n (drop used l) ≡ drop used l) (sym (short used l)) (take_whole (drop used l))
  where
    short : (n : ℕ) (l : List ℕ) → length l - n ≡ length (drop n l)
    short zero l = omega arith
    short (suc n) [] = omega arith
    short (suc n) (x ∷ xs) = let h = short n xs in omega (arith, h)

    take_whole : (l : List ℕ) → take (length l) l ≡ l
    take_whole [] = refl
    take_whole (x ∷ xs) = ap (λ (l : List ℕ). x ∷ l) (take_whole xs)

-- ---- the end of a feed

undone_most : (s : State) → undone s ≤ 1
undone_most Header = omega arith
undone_most (Data offset left eod) = omega arith
undone_most EodWaits = omega arith
undone_most Done = omega arith
undone_most (Failed bad) = omega arith

undone_done : (s : State) → IsDoneState s → undone s ≡ 0
undone_done Header done = absurd done
undone_done (Data offset left eod) done = absurd done
undone_done EodWaits done = absurd done
undone_done Done done = refl
undone_done (Failed bad) done = absurd done

undone_not : (s : State) → (IsDoneState s → ⊥) → undone s ≡ 1
undone_not Header not_done = refl
undone_not (Data offset left eod) not_done = refl
undone_not EodWaits not_done = refl
undone_not Done not_done = absurd (not_done tt)
undone_not (Failed bad) not_done = refl

-- each event takes a byte, or is the EOD
pub feeds_fewer : (reader now : Reader) (left rest : List ℕ) (step : Step) (e : Event) → ¬ IsDone reader → Advances reader left step now → step.event ≡ Some e → (wanted reader ≡ 0 → (step.used ≡ 0) × (step.event ≡ Some event.Eod))
    → rest ≡ drop step.used left → length rest + undone now.state < length left + undone reader.state
feeds_fewer reader now left rest step e not_done a is waiting is_rest =
    let was = undone_not reader.state not_done in
    let most = undone_most now.state in
    let short : length (drop step.used left) ≡ length left - step.used = length_drop step.used left in
    let same = ap (λ (l : List ℕ). length l) is_rest in
    let used = a.used in
    elim (cases_lt 0 (wanted reader)) [
      | inl some ↦ elim (cases_lt 0 step.used) [
        | inl took ↦ omega (arith, was, most, short, same, used, took)
        | inr none ↦ absurd (nothing_told (omega (arith, none)) some)
      ]
      | inr none ↦
          let eod = waiting (omega (arith, none)) in
          let done : IsDoneState now.state = subst (λ (o : Option Event). IsEventOf o now.state now.header) eod.1 a.event in
          let last = undone_done now.state done in
          omega (arith, was, last, short, same, used)
    ]
  where
    length_drop : (n : ℕ) (l : List ℕ) → length (drop n l) ≡ length l - n
    length_drop zero l = omega arith
    length_drop (suc n) [] = omega arith
    length_drop (suc n) (x ∷ xs) = let h = length_drop n xs in omega (arith, h)

    -- no event comes without a byte where one is wanted
    brings_some : (e : Event) (s : State) (header : List ℕ) → IsEventOf (Some e) s header → event_arrivals (Some e) ≡ [] → ⊥
    brings_some (event.Piece offset bytes) s header shape none = bytes_some bytes.now shape.0 none
      where
        bytes_some : (l : List ℕ) → 0 < length l → data_at offset l ≡ [] → ⊥
        bytes_some [] some none = omega (arith, some)
        bytes_some (b ∷ bs) some none = cc
    brings_some (event.Eof total) s header shape none = cc
    brings_some event.Eod s header shape none = cc

    nothing_told : step.used ≡ 0 → 0 < wanted reader → ⊥
    nothing_told unused some =
        let shape = subst (λ (o : Option Event). IsEventOf o now.state now.header) is a.event in
        let told : to_come reader [] ≡ event_arrivals (Some e) ++ to_come now [] = ap (λ (n : ℕ). to_come reader (take n left ++ [])) (sym unused) ∙ a.carried [] ∙ ap (λ (o : Option Event). event_arrivals o ++ to_come now []) is in
        brings_some e now.state now.header shape (front_none (event_arrivals (Some e)) (to_come now []) (sym told ∙ to_come-nothing reader some))
      where
        front_none : (a b : List Arrival) → a ++ b ≡ [] → a ≡ []
        front_none [] b none = refl
        front_none (x ∷ a) b none = cc
