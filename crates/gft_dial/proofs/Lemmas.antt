-- What opening and giving back do to a link, joined; and its count of faults.
use Rattle.std.proofs.Common.{◌≡◌, ◌≤◌, ◌<◌, ℕ, zero, suc, List, [], ◌∷◌, ◌++◌, length, reverse, Some, None, Option, refl, sym, ap, ◌∙◌, subst, arith, length-append, append_assoc}
use Rattle.std.specs.Prelude.{slice_index_or}
use Rattle.std.proofs.lemmas.List.{reverse-append}
use Rattle.std.proofs.lemmas.List.Sums.{fold-append}
use Rattle.gft_base.specs.Words.{Rose}
use Rattle.gft_text.specs.declared.host_port.HostPort.{HostPort}
use Rattle.gft_outside.specs.Words.{Deals, Dialled, Gains, LinkState, OutLaneState, TakesBackOut, more_faults}
use Rattle.gft_outside.specs.declared.link.Dial.{Dial}
use Rattle.gft_send.specs.declared.transfer.Stripe.{Stripe}
use Rattle.gft_dial.specs.Dials.{DialsTo, ReturnsOut, in_pairs, outs_of, with_faults}

-- ---- given back

gains_none : {A : Type 0} (told : Option (List A)) → Gains told told []
gains_none None = tt
gains_none (Some list) = refl

gains_more : {A : Type 0} (a b c : Option (List A)) (xs ys zs : List A) → zs ≡ ys ++ xs → Gains a b xs → Gains b c ys → Gains a c zs
gains_more None b c xs ys zs is first next = tt
gains_more (Some a) None c xs ys zs is first next = absurd first
gains_more (Some a) (Some b) None xs ys zs is first next = absurd next
gains_more (Some a) (Some b) (Some c) xs ys zs is first next = next ∙ ap (λ l. ys ++ l) first ∙ sym (append_assoc ys xs a) ∙ ap (λ l. l ++ a) (sym is)

-- nothing is given back
pub returns_none : {L X : Type 0} (state : X → OutLaneState) (a : LinkState L X) → ReturnsOut state a a []
returns_none state a = record {
  back_out = gains_none a.back_out;
  lanes = refl;
  dials = refl;
  back = refl;
  handed_out = omega arith;
  faults = refl;
}

-- those that are given back later come behind
pub returns_join : {L X : Type 0} (state : X → OutLaneState) (a b c : LinkState L X) (xs ys : List X) → ReturnsOut state a b xs → ReturnsOut state b c ys → ReturnsOut state a c (xs ++ ys)
returns_join state a b c xs ys first next = record {
  back_out = gains_more a.back_out b.back_out c.back_out (reverse xs) (reverse ys) (reverse (xs ++ ys)) (reverse-append xs ys) first.back_out next.back_out;
  lanes = next.lanes ∙ first.lanes;
  dials = next.dials ∙ first.dials;
  back = next.back ∙ first.back;
  handed_out = omega (arith, length-append xs ys, first.handed_out, next.handed_out);
  faults = next.faults ∙ ap (λ n. with_faults state n ys) first.faults ∙ sym (fold-append (λ n out. more_faults n (state out).faults) a.faults xs ys);
}

pub returns_one : {L X : Type 0} (state : X → OutLaneState) (a b : LinkState L X) (out : X) → TakesBackOut a b out (state out).faults → ReturnsOut state a b (out ∷ [])
returns_one state a b out takes = record {
  back_out = takes.back_out;
  lanes = takes.lanes;
  dials = takes.dials;
  back = takes.back;
  handed_out = takes.handed_out;
  faults = takes.faults;
}

-- ---- faults

pub faults_later : {X : Type 0} (state : X → OutLaneState) (count : ℕ) (outs : List X) → more_faults count 0 ≤ with_faults state count outs
faults_later state count [] = omega arith
faults_later state count (out ∷ outs) = omega (arith, faults_later state (more_faults count (state out).faults) outs)

faults_rise : {X : Type 0} (state : X → OutLaneState) (count : ℕ) (outs : List X) (k : ℕ) (d : X) → k < length outs → 1 ≤ (state (slice_index_or outs k d)).faults → Rose count (with_faults state count outs)
faults_rise state count [] k d lt has = absurd (omega arith)
faults_rise state count (out ∷ outs) zero d lt has = omega (arith, faults_later state (more_faults count (state out).faults) outs)
faults_rise state count (out ∷ outs) (suc k) d lt has = omega (arith, faults_rise state (more_faults count (state out).faults) outs k d (omega arith) has)

-- giving back never lets the count of faults fall, as far as it can be counted
pub returned_later : {L X : Type 0} (state : X → OutLaneState) (old new : LinkState L X) (outs : List X) → ReturnsOut state old new outs → more_faults old.faults 0 ≤ new.faults
returned_later state old new outs returned = omega (arith, returned.faults, faults_later state old.faults outs)

-- it lets it rise where an out lane has a fault
pub returned_rose : {L X : Type 0} (state : X → OutLaneState) (old new : LinkState L X) (outs : List X) (k : ℕ) (d : X) → ReturnsOut state old new outs → k < length outs → 1 ≤ (state (slice_index_or outs k d)).faults → Rose old.faults new.faults
returned_rose state old new outs k d returned lt has = omega (arith, returned.faults, faults_rise state old.faults outs k d lt has)

-- ---- opened

deals_none : {A : Type 0} (told : Option (List A)) → Deals told told []
deals_none None = tt
deals_none (Some list) = refl

deals_more : {A : Type 0} (a b c : Option (List A)) (xs ys : List A) → Deals a b xs → Deals b c ys → Deals a c (xs ++ ys)
deals_more None b c xs ys first next = tt
deals_more (Some a) None c xs ys first next = absurd first
deals_more (Some a) (Some b) None xs ys first next = absurd next
deals_more (Some a) (Some b) (Some c) xs ys first next = first ∙ ap (λ l. xs ++ l) next ∙ sym (append_assoc xs ys c)

pairs_join : {X : Type 0} (ps qs : List HostPort) (xs ys : List X) → length xs ≡ length ps → in_pairs (ps ++ qs) (xs ++ ys) ≡ in_pairs ps xs ++ in_pairs qs ys
pairs_join [] qs [] ys same = refl
pairs_join [] qs (x ∷ xs) ys same = absurd (omega arith)
pairs_join (at ∷ ps) qs [] ys same = absurd (omega arith)
pairs_join {X} (at ∷ ps) qs (x ∷ xs) ys same = let one : Dial X = record { at = at; out = x } in ap (λ l. one ∷ l) (pairs_join ps qs xs ys (omega arith))

-- no dial is made
pub dials_none : {L X : Type 0} (a : LinkState L X) → DialsTo a a [] []
dials_none a = record {
  count = refl;
  dealt = deals_none a.dials;
  lanes = refl;
  back = refl;
  back_out = refl;
  handed_out = omega arith;
  faults = refl;
}

pub dials_one : {L X : Type 0} (a b : LinkState L X) (at : HostPort) (out : X) → Dialled a b (record { at = at; out = out }) → DialsTo a b (at ∷ []) (out ∷ [])
dials_one a b at out dialled = record {
  count = refl;
  dealt = dialled.dealt;
  lanes = dialled.lanes;
  back = dialled.back;
  back_out = dialled.back_out;
  handed_out = dialled.handed_out;
  faults = dialled.faults;
}

-- the dials that are made later come behind
pub dials_join : {L X : Type 0} (a b c : LinkState L X) (ps qs : List HostPort) (xs ys : List X) → DialsTo a b ps xs → DialsTo b c qs ys → DialsTo a c (ps ++ qs) (xs ++ ys)
dials_join a b c ps qs xs ys first next = record {
  count = omega (arith, length-append xs ys, length-append ps qs, first.count, next.count);
  dealt = subst (λ l. Deals a.dials c.dials l) (sym (pairs_join ps qs xs ys first.count)) (deals_more a.dials b.dials c.dials (in_pairs ps xs) (in_pairs qs ys) first.dealt next.dealt);
  lanes = next.lanes ∙ first.lanes;
  back = next.back ∙ first.back;
  back_out = next.back_out ∙ first.back_out;
  handed_out = omega (arith, length-append xs ys, first.handed_out, next.handed_out);
  faults = next.faults ∙ first.faults;
}

-- ---- stripes that were sent

-- where each stripe keeps as many data connections, so do all together: what `send` leaves may be hung up
pub outs_kept : {D X : Type 0} (old new : List (Stripe D X)) → length new ≡ length old → ((i : ℕ) (d : Stripe D X) → i < length old → length (slice_index_or new i d).channels.items ≡ length (slice_index_or old i d).channels.items)
    → length (outs_of new) ≡ length (outs_of old)
outs_kept [] [] many each = refl
outs_kept [] (s ∷ ss) many each = absurd (omega arith)
outs_kept (s ∷ ss) [] many each = absurd (omega arith)
outs_kept (a ∷ old) (b ∷ new) many each =
    omega (arith, each 0 a (omega arith), length-append a.channels.items (outs_of old), length-append b.channels.items (outs_of new), outs_kept old new (omega arith) (λ i d lt. each (suc i) d (omega arith)))
