-- A name has no fault, and what has no fault is a name.
use Rattle.std.proofs.Common.{◌≡◌, ℕ, ◌<◌, Bool, true, false, not, cond, eqb, ltb, List, length, get_or, Option, Some, None, [], ◌∷◌, refl, sym, ap, ◌∙◌, subst, arith, Ok, Err}
use Rattle.std.specs.Prelude.{Result, IsErrAnd, IfErr, IsTrue, ◌↔◌}
use Rattle.std.specs.Option.{is_some, option_or}
use Rattle.std.proofs.lemmas.Bool.{ltb-false, le-ltb, ne_eqb, eqb-false, not-false}
use Rattle.gft_base.proofs.Lemmas.{position-None, position-none_from}
use Rattle.gft_base.specs.Words.{dot, slash}
use Rattle.gft_text.specs.declared.TheConstants.{MAX_NAME_LEN}
use Rattle.gft_text.specs.declared.name.NameError.{NameError}
use Rattle.gft_text.specs.declared.name.NameError.TheVariants.{OutOfMemory}
use Rattle.gft_text.specs.Name.{IsName, RefusesName, WritesName, fault_of, bad_byte, is_name_byte}

first_none : {A : Type 0} (o p : Option A) → option_or o p ≡ None → (o ≡ None) × (p ≡ None)
first_none None p e = (refl, e)
first_none (Some x) p e = cc

test_none : {A : Type 0} (b : Bool) (x : A) (p : Option A) → cond b (Some x) p ≡ None → (b ≡ false) × (p ≡ None)
test_none true x p e = cc
test_none false x p e = (refl, e)

some_since : {n : ℕ} → (n ≡ 0 → ⊥) → 0 < n
some_since {n} ne = omega arith

pub names : (name : List ℕ) → IsName name → fault_of name ≡ None
names name is =
    let no_bad = position-none_from (λ b. not (is_name_byte b)) name (λ k d lt. ap not (is.bytes k d lt)) in
    let some : eqb (length name) 0 ≡ false = ne_eqb _ _ (omega arith) in
    let visible : eqb (get_or name 0 0) dot ≡ false = ne_eqb _ _ is.visible in
    let short : ltb MAX_NAME_LEN (length name) ≡ false = le-ltb _ _ is.short in
    rw (no_bad, some, visible, short, is.foreign) refl

pub faults : (name : List ℕ) → fault_of name ≡ None → IsName name
faults name none =
    let bytes = first_none (bad_byte name) _ none in
    let some = test_none _ 0 _ bytes.1 in
    let visible = test_none _ 0 _ some.1 in
    let short = test_none _ MAX_NAME_LEN _ visible.1 in
    let foreign = test_none _ _ None short.1 in
    record {
      bytes = λ k d lt. not-false _ (position-None (λ b. not (is_name_byte b)) name bytes.0 k d lt);
      some = some_since (eqb-false _ _ some.0);
      visible = eqb-false _ _ visible.0;
      short = ltb-false _ _ short.0;
      foreign = foreign.0;
    }

-- the test of a name: it has no fault
pub no_fault : (name : List ℕ) (fault : Option ℕ) (none : Bool) → fault ≡ fault_of name → is_some fault ≡ not none → IsTrue none ↔ IsName name
no_fault name None true is test = (λ h. faults name (sym is), λ legal. refl)
no_fault name None false is test = absurd (cc test)
no_fault name (Some at) true is test = absurd (cc test)
no_fault name (Some at) false is test = (λ h. absurd (cc h), λ legal. absurd (cc (is, names name legal)))

-- a name begins with no slash
pub written : (name : List ℕ) → IsName name → WritesName name name
written [] is = absurd (omega (arith, is.some))
written (b ∷ bs) is =
    let first : is_name_byte b ≡ true = is.bytes 0 b (omega arith) in
    let plain : eqb b slash ≡ false = no_slash b first in
    record { written = rw plain refl; legal = is } where
      no_slash : (x : ℕ) → is_name_byte x ≡ true → eqb x slash ≡ false
      no_slash x first = ne_eqb x slash (λ slash. let same = rw slash at first in cc)

-- a text is one name at most
pub one : (text a b : List ℕ) → WritesName text a → WritesName text b → a ≡ b
one text a b of_a of_b = of_a.written ∙ sym of_b.written

-- where memory is refused, it was asked for a name
pub refuses_memory : {A : Type 0} (name : List ℕ) (r : Result A NameError) → IsName name → IsErrAnd r (λ e. e ≡ OutOfMemory) → IfErr r (RefusesName name)
refuses_memory name (Ok value) legal is = tt
refuses_memory name (Err error) legal is = subst (RefusesName name) (sym is) legal
