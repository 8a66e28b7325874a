-- Lists of names: what stands under a name when an entry changes, comes or goes.
use Rattle.std.proofs.Common.{◌≡◌, ◌≢◌, ℕ, zero, suc, ◌+◌, ◌<◌, ◌≤◌, Bool, true, false, cond, not, List, [], ◌∷◌, ◌++◌, length, Some, None, refl, sym, ap, ◌∙◌, subst, arith, set, get_or, ltb, inl, inr}
use Rattle.std.specs.Prelude.{MatchOption, Result, Ok, Err, if◌then◌else◌, slice_get, nat_eq, Option, ◌&&◌}
use Rattle.std.specs.Result.{is_ok}
use Rattle.std.specs.List.{position, position_or_len, remove}
use Rattle.std.specs.Cmp.Lexicographic.{pointwise}
use Rattle.std.proofs.lemmas.Bool.{cases_lt, eqb-true, eq-eqb, lt-ltb}
use Rattle.std.proofs.lemmas.Option.{same_Some}
use Rattle.std.proofs.lemmas.List.Quantifiers.{position-Some}
use Rattle.gft_library.specs.declared.list.KeptName.{KeptName}
use Rattle.gft_library.specs.Kept.{Adds, AreApart, LetsGo, Puts, StandsAt, count_of, in_place, is_under, kept_under}

-- ---- names

true_false : {A : Type 0} → true ≡ false → A
true_false e = absurd (no e)
  where
    no : true ≡ false → ⊥
    no e = cc

pub none_some : {A : Type 0} {B : Type 0} {x : B} → None ≡ Some x → A
none_some {x = x} e = absurd (no e)
  where
    no : None ≡ Some x → ⊥
    no e = cc

pub same_names : (a b : List ℕ) → pointwise nat_eq a b ≡ true → a ≡ b
same_names [] [] same = refl
same_names [] (y ∷ b) same = true_false (sym same)
same_names (x ∷ a) [] same = true_false (sym same)
same_names (x ∷ a) (y ∷ b) same = cases (nat_eq x y) refl (same_names a b) same
  where
    cases : (c : Bool) → nat_eq x y ≡ c → (pointwise nat_eq a b ≡ true → a ≡ b) → (c && pointwise nat_eq a b) ≡ true → x ∷ a ≡ y ∷ b
    cases true here tail rest = let head = eqb-true x y here in let later = tail rest in cc
    cases false here tail rest = true_false (sym rest)

pub name_itself : (a : List ℕ) → pointwise nat_eq a a ≡ true
name_itself [] = refl
name_itself (x ∷ a) = ap (λ (b : Bool). b && pointwise nat_eq a a) (eq-eqb x x refl) ∙ name_itself a

pub names_apart : (a b : List ℕ) → a ≢ b → pointwise nat_eq a b ≡ false
names_apart a b apart = cases (pointwise nat_eq a b) refl
  where
    cases : (c : Bool) → pointwise nat_eq a b ≡ c → c ≡ false
    cases true is = absurd (apart (same_names a b is))
    cases false is = refl

-- ---- one entry

module _ {T : Type 0} (first : KeptName T) (rest : List (KeptName T)) (name : List ℕ) where
  -- the first entry has the name
  under_first : first.name ≡ name → kept_under (first ∷ rest) name ≡ Some first.holding
  under_first is = ap (λ (b : Bool). if b then Some first.holding else kept_under rest name) (subst (λ n. pointwise nat_eq first.name n ≡ true) is (name_itself first.name))

  -- it has another
  under_rest : first.name ≢ name → kept_under (first ∷ rest) name ≡ kept_under rest name
  under_rest apart = ap (λ (b : Bool). if b then Some first.holding else kept_under rest name) (names_apart first.name name apart)

  -- nothing is kept under a name that the first entry hasn't
  first_apart : kept_under (first ∷ rest) name ≡ None → first.name ≢ name
  first_apart none is = none_some (sym none ∙ under_first is)

-- what stands at a place is what is kept under its name
pub under_is : {T : Type 0} (kept : List (KeptName T)) (place : ℕ) (e : KeptName T) → AreApart kept → slice_get kept place ≡ Some e → kept_under kept e.name ≡ Some e.holding
under_is [] place e apart at = none_some at
under_is {T = T} (first ∷ rest) zero e apart at =
    let is : first ≡ e = same_Some first e at in
    subst (λ (k : KeptName T). kept_under (first ∷ rest) k.name ≡ Some k.holding) is (under_first first rest first.name refl)
under_is (first ∷ rest) (suc place) e apart at =
    let later : kept_under rest e.name ≡ Some e.holding = under_is rest place e apart.1 at in
    let other : first.name ≢ e.name = λ is. none_some (sym apart.0 ∙ ap (kept_under rest) is ∙ later) in
    under_rest first rest e.name other ∙ later

-- ---- places

some_none : (n m : ℕ) → cond (ltb n m) (Some n) None ≡ None → m ≤ n
some_none n m e = elim (cases_lt n m) [
  | inl lt ↦ absurd (let is = ap (λ (c : Bool). cond c (Some n) None) (lt-ltb n m lt) in cc)
  | inr le ↦ le
]

module _ {T : Type 0} (name : List ℕ) where
  nowhere : (kept : List (KeptName T)) → length kept ≤ position_or_len (is_under name) kept → kept_under kept name ≡ None
  nowhere [] le = refl
  nowhere (first ∷ rest) le = step (is_under name first) refl (λ less. nowhere rest less)
    where
      step : (b : Bool) → is_under name first ≡ b → (length rest ≤ position_or_len (is_under name) rest → kept_under rest name ≡ None)
          → (if is_under name first then Some first.holding else kept_under rest name) ≡ None
      step true e later =
          let here : position_or_len (is_under name) (first ∷ rest) ≡ 0 = ap (λ (c : Bool). cond (not c) (1 + position_or_len (is_under name) rest) 0) e in
          absurd (omega (arith, le, here))
      step false e later =
          let here : position_or_len (is_under name) (first ∷ rest) ≡ 1 + position_or_len (is_under name) rest = ap (λ (c : Bool). cond (not c) (1 + position_or_len (is_under name) rest) 0) e in
          ap (λ (c : Bool). if c then Some first.holding else kept_under rest name) e ∙ later (omega (arith, le, here))

  -- the name is at no place
  pub not_placed : (kept : List (KeptName T)) → position (is_under name) kept ≡ None → kept_under kept name ≡ None
  not_placed kept e = nowhere kept (some_none (position_or_len (is_under name) kept) (length kept) e)

  at_place : (kept : List (KeptName T)) (place : ℕ) (d : KeptName T) → place < length kept → slice_get kept place ≡ Some (get_or kept place d)
  at_place [] place d lt = absurd (omega arith)
  at_place (first ∷ rest) zero d lt = refl
  at_place (first ∷ rest) (suc place) d lt = at_place rest place d (omega arith)

  -- it is at this one
  pub placed : (kept : List (KeptName T)) (place : ℕ) → position (is_under name) kept ≡ Some place → StandsAt kept name place
  placed [] place e = none_some e
  placed (first ∷ rest) place e =
      let there = position-Some (is_under name) (first ∷ rest) place first e in
      record {
        below = there.0;
        entry = get_or (first ∷ rest) place first;
        there = at_place (first ∷ rest) place first there.0;
        named = same_names _ _ there.1;
      }

  -- a search says where it is
  pub found : (kept : List (KeptName T)) (place : Option ℕ) → place ≡ position (is_under name) kept → MatchOption place (kept_under kept name ≡ None) (StandsAt kept name)
  found kept None e = not_placed kept (sym e)
  found kept (Some place) e = placed kept place (sym e)

-- ---- an entry changes

-- `last` is the entry with another holding
module _ {T : Type 0} (e last : KeptName T) (same : last.name ≡ e.name) where
  set_other : (kept : List (KeptName T)) (place : ℕ) (other : List ℕ) → slice_get kept place ≡ Some e → other ≢ e.name → kept_under (set kept place last) other ≡ kept_under kept other
  set_other [] place other at apart = refl
  set_other (first ∷ rest) zero other at apart =
      let is : first ≡ e = same_Some first e at in
      under_rest last rest other (λ h. apart (sym h ∙ same)) ∙ sym (under_rest first rest other (λ h. apart (sym h ∙ ap (λ (k : KeptName T). k.name) is)))
  set_other (first ∷ rest) (suc place) other at apart =
      ap (λ (found : Option T). if is_under other first then Some first.holding else found) (set_other rest place other at apart)

  pub set_apart : (kept : List (KeptName T)) (place : ℕ) → slice_get kept place ≡ Some e → AreApart kept → AreApart (set kept place last)
  set_apart [] place at apart = tt
  set_apart (first ∷ rest) zero at apart =
      let is : first ≡ e = same_Some first e at in
      (ap (kept_under rest) (same ∙ sym (ap (λ (k : KeptName T). k.name) is)) ∙ apart.0, apart.1)
  set_apart (first ∷ rest) (suc place) at apart =
      let later : kept_under rest e.name ≡ Some e.holding = under_is rest place e apart.1 at in
      let other : first.name ≢ e.name = λ is. none_some (sym apart.0 ∙ ap (kept_under rest) is ∙ later) in
      (set_other rest place first.name at other ∙ apart.0, set_apart rest place at apart.1)

  set_at_place : (kept : List (KeptName T)) (place : ℕ) → slice_get kept place ≡ Some e → slice_get (set kept place last) place ≡ Some last
  set_at_place [] place at = none_some at
  set_at_place (first ∷ rest) zero at = refl
  set_at_place (first ∷ rest) (suc place) at = set_at_place rest place at

  set_here : (kept : List (KeptName T)) (place : ℕ) → slice_get kept place ≡ Some e → AreApart kept → kept_under (set kept place last) e.name ≡ Some last.holding
  set_here kept place at apart = ap (kept_under (set kept place last)) (sym same) ∙ under_is (set kept place last) place last (set_apart kept place at apart) (set_at_place kept place at)

  set_length : (kept : List (KeptName T)) (place : ℕ) → length (set kept place last) ≡ length kept
  set_length [] place = refl
  set_length (first ∷ rest) zero = refl
  set_length (first ∷ rest) (suc place) = ap suc (set_length rest place)

  pub puts : (kept : List (KeptName T)) (place : ℕ) → slice_get kept place ≡ Some e → AreApart kept → Puts kept (set kept place last) e.name last.holding
  puts kept place at apart =
      let was : kept_under kept e.name ≡ Some e.holding = under_is kept place e apart at in
      let is : kept_under (set kept place last) e.name ≡ Some last.holding = set_here kept place at apart in
      record {
        under = is ∙ sym (ap (λ (o : Option T). in_place o last.holding) was);
        only = record {
          others = λ other apart_name. set_other kept place other at apart_name;
          many = omega (arith, set_length kept place, ap count_of was, ap count_of is);
        };
      }

-- ---- an entry comes

module _ {T : Type 0} (e : KeptName T) where
  push_other : (kept : List (KeptName T)) (other : List ℕ) → other ≢ e.name → kept_under (kept ++ e ∷ []) other ≡ kept_under kept other
  push_other [] other apart = under_rest e [] other (λ is. apart (sym is))
  push_other (first ∷ rest) other apart = ap (λ (found : Option T). if is_under other first then Some first.holding else found) (push_other rest other apart)

  push_here : (kept : List (KeptName T)) → kept_under kept e.name ≡ None → kept_under (kept ++ e ∷ []) e.name ≡ Some e.holding
  push_here [] none = under_first e [] e.name refl
  push_here (first ∷ rest) none =
      let other = first_apart first rest e.name none in
      under_rest first (rest ++ e ∷ []) e.name other ∙ push_here rest (sym (under_rest first rest e.name other) ∙ none)

  pub push_apart : (kept : List (KeptName T)) → kept_under kept e.name ≡ None → AreApart kept → AreApart (kept ++ e ∷ [])
  push_apart [] none apart = (refl, tt)
  push_apart (first ∷ rest) none apart =
      let other = first_apart first rest e.name none in
      (push_other rest first.name other ∙ apart.0, push_apart rest (sym (under_rest first rest e.name other) ∙ none) apart.1)

  push_length : (kept : List (KeptName T)) → length (kept ++ e ∷ []) ≡ length kept + 1
  push_length [] = refl
  push_length (first ∷ rest) = omega (arith, push_length rest)

  pub adds : (kept : List (KeptName T)) → kept_under kept e.name ≡ None → Adds kept (kept ++ e ∷ []) e.name e.holding
  adds kept none =
      let is : kept_under (kept ++ e ∷ []) e.name ≡ Some e.holding = push_here kept none in
      record {
        under = is;
        only = record {
          others = push_other kept;
          many = omega (arith, push_length kept, ap count_of none, ap count_of is);
        };
      }

-- ---- an entry goes

module _ {T : Type 0} (e : KeptName T) where
  remove_other : (kept : List (KeptName T)) (place : ℕ) (other : List ℕ) → slice_get kept place ≡ Some e → other ≢ e.name → kept_under (remove kept place) other ≡ kept_under kept other
  remove_other [] place other at apart = none_some at
  remove_other (first ∷ rest) zero other at apart =
      let is : first ≡ e = same_Some first e at in
      sym (under_rest first rest other (λ h. apart (sym h ∙ ap (λ (k : KeptName T). k.name) is)))
  remove_other (first ∷ rest) (suc place) other at apart = ap (λ (found : Option T). if is_under other first then Some first.holding else found) (remove_other rest place other at apart)

  remove_here : (kept : List (KeptName T)) (place : ℕ) → slice_get kept place ≡ Some e → AreApart kept → kept_under (remove kept place) e.name ≡ None
  remove_here [] place at apart = none_some at
  remove_here (first ∷ rest) zero at apart = ap (kept_under rest) (sym (ap (λ (k : KeptName T). k.name) (same_Some first e at))) ∙ apart.0
  remove_here (first ∷ rest) (suc place) at apart =
      let later : kept_under rest e.name ≡ Some e.holding = under_is rest place e apart.1 at in
      let other : first.name ≢ e.name = λ is. none_some (sym apart.0 ∙ ap (kept_under rest) is ∙ later) in
      under_rest first (remove rest place) e.name other ∙ remove_here rest place at apart.1

  pub remove_apart : (kept : List (KeptName T)) (place : ℕ) → slice_get kept place ≡ Some e → AreApart kept → AreApart (remove kept place)
  remove_apart [] place at apart = none_some at
  remove_apart (first ∷ rest) zero at apart = apart.1
  remove_apart (first ∷ rest) (suc place) at apart =
      let later : kept_under rest e.name ≡ Some e.holding = under_is rest place e apart.1 at in
      let other : first.name ≢ e.name = λ is. none_some (sym apart.0 ∙ ap (kept_under rest) is ∙ later) in
      (remove_other rest place first.name at other ∙ apart.0, remove_apart rest place at apart.1)

  remove_length : (kept : List (KeptName T)) (place : ℕ) → slice_get kept place ≡ Some e → length (remove kept place) + 1 ≡ length kept
  remove_length [] place at = none_some at
  remove_length (first ∷ rest) zero at = omega arith
  remove_length (first ∷ rest) (suc place) at = omega (arith, remove_length rest place at)

  pub lets_go : (kept : List (KeptName T)) (place : ℕ) → slice_get kept place ≡ Some e → AreApart kept → LetsGo kept (remove kept place) e.name
  lets_go kept place at apart =
      let was : kept_under kept e.name ≡ Some e.holding = under_is kept place e apart at in
      let is : kept_under (remove kept place) e.name ≡ None = remove_here kept place at apart in
      record {
        under = is;
        only = record {
          others = λ other apart_name. remove_other kept place other at apart_name;
          many = omega (arith, remove_length kept place at, ap count_of was, ap count_of is);
        };
      }

-- ---- the calls: `e` is what they find at a place of the list

-- a list that was pushed to, or not, by what a call answered
pub pushed_apart : {T A B : Type 0} (e : KeptName T) (kept new : List (KeptName T)) (answer : Result A B) → kept_under kept e.name ≡ None → AreApart kept
    → new ≡ (if is_ok answer then kept ++ e ∷ [] else kept) → AreApart new
pushed_apart e kept new (Ok done) none apart is = subst AreApart (sym is) (push_apart e kept none apart)
pushed_apart e kept new (Err why) none apart is = subst AreApart (sym is) apart

pub pushed : {T : Type 0} (e : KeptName T) (kept now new : List (KeptName T)) → kept ≡ now → kept_under now e.name ≡ None → new ≡ kept ++ e ∷ [] → Adds now new e.name e.holding
pushed {T = T} e kept now new same none is =
    let here = subst (λ (k : List (KeptName T)). Adds now (k ++ e ∷ []) e.name e.holding) (sym same) (adds e now none) in
    subst (λ (k : List (KeptName T)). Adds now k e.name e.holding) (sym is) here

module _ {T : Type 0} (kept now : List (KeptName T)) (same : kept ≡ now) (name : List ℕ) (place : ℕ) (at : StandsAt now name place) (e : KeptName T) (is : e ≡ get_or kept place e)
    (apart : AreApart kept) where
  there : slice_get kept place ≡ Some e
  there =
      let below : place < length kept = subst (λ (k : List (KeptName T)). place < length k) (sym same) at.below in
      at_place name kept place e below ∙ ap Some (sym is)

  named : e.name ≡ name
  named =
      let was : slice_get kept place ≡ Some at.entry = subst (λ (k : List (KeptName T)). slice_get k place ≡ Some at.entry) (sym same) at.there in
      ap (λ (k : KeptName T). k.name) (same_Some e at.entry (sym there ∙ was)) ∙ at.named

  pub looked_up : Some e.holding ≡ kept_under now name
  looked_up = sym (under_is kept place e apart there) ∙ ap (kept_under kept) named ∙ ap (λ (k : List (KeptName T)). kept_under k name) same

  pub replaced_apart : (last : KeptName T) → last.name ≡ e.name → AreApart (set kept place last)
  replaced_apart last alike = set_apart e last alike kept place there apart

  pub replaced : (last : KeptName T) (holding : T) → last.name ≡ e.name → last.holding ≡ holding → Puts now (set kept place last) name holding
  replaced last holding alike holds =
      let done = puts e last alike kept place there apart in
      let renamed = subst (λ (n : List ℕ). Puts kept (set kept place last) n last.holding) named done in
      let held = subst (λ (h : T). Puts kept (set kept place last) name h) holds renamed in
      subst (λ (k : List (KeptName T)). Puts k (set kept place last) name holding) same held

  pub removed_apart : AreApart (remove kept place)
  removed_apart = remove_apart e kept place there apart

  pub removed : LetsGo now (remove kept place) name
  removed =
      let done = lets_go e kept place there apart in
      let renamed = subst (λ (n : List ℕ). LetsGo kept (remove kept place) n) named done in
      subst (λ (k : List (KeptName T)). LetsGo k (remove kept place) name) same renamed
