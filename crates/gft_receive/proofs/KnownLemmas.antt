-- The total that lanes announce by what they have left, if all of them tell that.
use Rattle.std.proofs.Common.{◌≡◌, ◌&&◌, ℕ, zero, suc, List, [], ◌∷◌, ◌++◌, length, map, reverse, Some, None, Bool, true, false, refl, sym, ap, ◌∙◌, subst, arith, eq-eqb}
use Rattle.std.specs.Prelude.{IfSome, Option, nat_eq, slice_get, if◌then◌else◌}
use Rattle.std.proofs.lemmas.Bool.{eqb-true}
use Rattle.std.proofs.lemmas.List.{reverse-reverse}
use Rattle.std.proofs.lemmas.Option.{none-some, same_Some}
use Rattle.gft_eblock.specs.Words.{totals}
use Rattle.gft_outside.specs.Words.{AllAre, AreAgreed, LaneInput, LaneState, all_totals, first_of, lane_arrivals}
use Rattle.gft_book.specs.declared.transfer.Stage.{Stage}
use Rattle.gft_book.specs.declared.transfer.Stage.TheVariants.{Reading, Rest, Storing}
use Rattle.gft_book.specs.Words.{HasOneTotal, IsRunning, KeepsTotal, Start}
use Rattle.gft_book.proofs.Lemmas.{KeepsTotal-untold}
use Rattle.gft_receive.specs.declared.transfer.LaneWork.{LaneWork}
use Rattle.gft_receive.specs.Complete.{IsUntold}
use Rattle.gft_receive.specs.Honest.{TellsTotal}
use Rattle.gft_receive.specs.Known.{and_those, are_all, if_untold, left_of, only_total, total_known, totals_left, works_total}
use Rattle.gft_receive.proofs.ListLemmas.{at_map}
use Rattle.gft_receive.proofs.TableLemmas.{no_both}

-- ---- all are the same

same_list : {A : Type 0} (a b : List A) → Some a ≡ Some b → a ≡ b
same_list a b e = cc

both_true : (a b : Bool) → (a && b) ≡ true → (a ≡ true) × (b ≡ true)
both_true true b e = (refl, e)
both_true false b e = absurd (no_both false e refl)

all_are : (n : ℕ) (ns : List ℕ) → are_all n ns ≡ true → AllAre n ns
all_are n [] e = tt
all_are n (m ∷ ms) e = let b = both_true (nat_eq m n) (are_all n ms) e in (eqb-true m n b.0, all_are n ms b.1)

are_all-true : (n : ℕ) (ns : List ℕ) → AllAre n ns → are_all n ns ≡ true
are_all-true n [] h = refl
are_all-true n (m ∷ ms) h = ap (λ (b : Bool). b && are_all n ms) (eq-eqb m n h.0) ∙ are_all-true n ms h.1

pub AllAre-front : (n : ℕ) (a b : List ℕ) → AllAre n (a ++ b) → AllAre n a
AllAre-front n [] b h = tt
AllAre-front n (m ∷ a) b h = (h.0, AllAre-front n a b h.1)

pub AllAre-rest : (n : ℕ) (a b : List ℕ) → AllAre n (a ++ b) → AllAre n b
AllAre-rest n [] b h = h
AllAre-rest n (m ∷ a) b h = AllAre-rest n a b h.1

-- ---- the known total is each lane's

record Only (o : Option (List ℕ)) (total : ℕ) : Type 0 where
  all : List ℕ
  is : o ≡ Some all
  same : AllAre total all

only_of : (o : Option (List ℕ)) (total : ℕ) → only_total o ≡ Some total → Only o total
only_of None total e = absurd (none-some total e)
only_of (Some []) total e = absurd (none-some total e)
only_of (Some (n ∷ ns)) total e = cases (are_all n ns) refl e
  where
    cases : (b : Bool) → are_all n ns ≡ b → (if b then Some n else None) ≡ Some total → Only (Some (n ∷ ns)) total
    cases false test h = absurd (none-some total h)
    cases true test h =
        let is = same_Some n total h in
        record { all = n ∷ ns; is = refl; same = (is, subst (λ (k : ℕ). AllAre k ns) is (all_are n ns test)) }

-- a lane tells what it has left, and that has no other total
abbrev Tells : ℕ → ℕ → Option (List LaneInput) → Type 0
Tells shift total left = (inputs : List LaneInput) × (left ≡ Some inputs) × AllAre total (totals (lane_arrivals shift (reverse inputs)))

each_tells : (shift total : ℕ) (lefts : List (Option (List LaneInput))) (all : List ℕ) → totals_left shift lefts ≡ Some all → AllAre total all → (k : ℕ) (left : Option (List LaneInput)) → slice_get lefts k ≡ Some left → Tells shift total left
each_tells shift total [] all is same k left at = absurd (none-some left at)
each_tells shift total (None ∷ lefts) all is same k left at = absurd (none-some all is)
each_tells shift total (Some inputs ∷ lefts) all is same k left at =
    cases (totals (lane_arrivals shift (reverse inputs))) refl (totals_left shift lefts) refl (λ others some all_same j there. each_tells shift total lefts others some all_same j left there) is
  where
    place : (its others : List ℕ) → its ≡ totals (lane_arrivals shift (reverse inputs)) → (k : ℕ) → slice_get (Some inputs ∷ lefts) k ≡ Some left → AllAre total its → ((j : ℕ) → slice_get lefts j ≡ Some left → Tells shift total left) → Tells shift total left
    place its others are zero here mine later = (inputs, sym (same_Some (Some inputs) left here), subst (AllAre total) are mine)
    place its others are (suc j) there mine later = later j there

    cases : (its : List ℕ) → its ≡ totals (lane_arrivals shift (reverse inputs)) → (o : Option (List ℕ)) → totals_left shift lefts ≡ o
        → ((others : List ℕ) → totals_left shift lefts ≡ Some others → AllAre total others → (j : ℕ) → slice_get lefts j ≡ Some left → Tells shift total left) → and_those its o ≡ Some all → Tells shift total left
    cases its are None none later h = absurd (none-some all h)
    cases its are (Some others) some later h =
        let whole : AllAre total (its ++ others) = subst (AllAre total) (sym (same_list (its ++ others) all h)) same in
        place its others are k at (AllAre-front total its others whole) (later others some (AllAre-rest total its others whole))

untold_of : (taken only : Option ℕ) (total : ℕ) → if_untold taken only ≡ Some total → only ≡ Some total
untold_of None only total is = is
untold_of (Some n) only total is = absurd (none-some total is)

known_of : (stage : Stage) (only : Option ℕ) (total : ℕ) → total_known stage only ≡ Some total → only ≡ Some total
known_of (Storing t) only total is = untold_of t.count.total only total is
known_of Rest only total is = absurd (none-some total is)
known_of (Reading n) only total is = absurd (none-some total is)

some_make : {A : Type 0} (o : Option A) (P : A → Type 0) → ((x : A) → o ≡ Some x → P x) → IfSome o P
some_make None P f = tt
some_make (Some x) P f = f x refl

pub works_tell : {L : Type 0} (state : L → LaneState) (start : Start) (shift : ℕ) (stage : Stage) (works : List (LaneWork L)) → start.total ≡ works_total state shift stage works
    → (k : ℕ) (work : LaneWork L) → slice_get works k ≡ Some work → TellsTotal start shift (state work.lane).left
works_tell state start shift stage works is k work at = some_make start.total _ (λ total known.
    let only = only_of (totals_left shift (map (left_of state) works)) total (known_of stage (only_total (totals_left shift (map (left_of state) works))) total (sym is ∙ known)) in
    each_tells shift total (map (left_of state) works) only.all only.is only.same k (state work.lane).left (at_map (left_of state) works k work at))

-- ---- it may be known

pub known_kept : (start : Start) (stage : Stage) (only : Option ℕ) → IsRunning stage → start.total ≡ total_known stage only → KeepsTotal start stage
known_kept start (Storing t) only running is =
    subst (λ (o : Option ℕ). IfSome o (λ total. HasOneTotal total t)) (sym is) (cases t.count.total refl)
  where
    cases : (o : Option ℕ) → t.count.total ≡ o → IfSome (if_untold o only) (λ total. HasOneTotal total t)
    cases None untold = KeepsTotal-untold (record start { total = only }) (Storing t) (running, untold)
    cases (Some n) told = tt
known_kept start Rest only running is = absurd running
known_kept start (Reading n) only running is = absurd running

-- ---- of whole parts it is known

pub known_untold : (stage : Stage) (only : Option ℕ) → IsUntold stage → total_known stage only ≡ only
known_untold (Storing t) only none = ap (λ (o : Option ℕ). if_untold o only) none
known_untold Rest only none = absurd none
known_untold (Reading n) only none = absurd none

pub lefts_told : {L : Type 0} (state : L → LaneState) (shift : ℕ) (lanes : List L) (lists : List (List LaneInput)) → length lists ≡ length lanes
    → ((k : ℕ) (lane : L) (list : List LaneInput) → slice_get lanes k ≡ Some lane → slice_get lists k ≡ Some list → (state lane).left ≡ Some (reverse list)) → totals_left shift (map (λ lane. (state lane).left) lanes) ≡ Some (all_totals shift lists)
lefts_told state shift [] [] many left = refl
lefts_told state shift [] (list ∷ lists) many left = absurd (omega (arith, many))
lefts_told state shift (lane ∷ lanes) [] many left = absurd (omega (arith, many))
lefts_told state shift (lane ∷ lanes) (list ∷ lists) many left =
    let lefts = map (λ lane. (state lane).left) lanes in
    let rest = totals_left shift lefts in
    ap (λ (o : Option (List LaneInput)). totals_left shift (o ∷ lefts)) (left 0 lane list refl refl)
    ∙ ap (λ (l : List LaneInput). and_those (totals (lane_arrivals shift l)) rest) (reverse-reverse list)
    ∙ ap (and_those (totals (lane_arrivals shift list))) (lefts_told state shift lanes lists (omega (arith, many)) (λ k a b at_a at_b. left (suc k) a b at_a at_b))

pub only_agreed : (ns : List ℕ) (total : ℕ) → first_of ns ≡ Some total → AreAgreed ns → only_total (Some ns) ≡ Some total
only_agreed [] total first agreed = absurd (none-some total first)
only_agreed (n ∷ ns) total first agreed = ap (λ (b : Bool). if b then Some n else None) (are_all-true n ns agreed.2) ∙ first

-- it is that of the lanes by themselves
lefts_of : {L : Type 0} (state : L → LaneState) (works : List (LaneWork L)) → map (left_of state) works ≡ map (λ lane. (state lane).left) (map (λ (work : LaneWork L). work.lane) works)
lefts_of state [] = refl
lefts_of state (work ∷ works) = ap (λ (l : List (Option (List LaneInput))). (state work.lane).left ∷ l) (lefts_of state works)

pub lanes_total : {L : Type 0} (state : L → LaneState) (shift : ℕ) (stage : Stage) (works : List (LaneWork L)) (lanes : List L) → lanes ≡ map (λ (work : LaneWork L). work.lane) works → works_total state shift stage works ≡ total_known stage (only_total (totals_left shift (map (λ lane. (state lane).left) lanes)))
lanes_total {L = L} state shift stage works lanes are =
    ap (λ (l : List (Option (List LaneInput))). total_known stage (only_total (totals_left shift l))) (lefts_of state works ∙ ap (λ (l : List L). map (λ lane. (state lane).left) l) (sym are))
