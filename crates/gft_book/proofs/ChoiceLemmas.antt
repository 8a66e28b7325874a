-- Options and tests.
use Rattle.std.proofs.Common.{◌≡◌, ◌⊎◌, ℕ, Some, None, Ok, Err, true, false, true≢false, refl, sym, subst, inl, inr}
use Rattle.std.specs.Prelude.{Option, Result, IsSome, IfSome, OnOk, OnErr}
use Rattle.std.proofs.lemmas.Option.{none-some}

pub off : false ≡ true → ⊥
off e = true≢false (sym e)

pub if_map : {A : Type 0} → (o : Option A) (P Q : A → Type 0) → ((a : A) → o ≡ Some a → P a → Q a) → IfSome o P → IfSome o Q
if_map None P Q f h = tt
if_map (Some a) P Q f h = f a refl h

pub if_make : {A : Type 0} → (o : Option A) (P : A → Type 0) → ((a : A) → o ≡ Some a → P a) → IfSome o P
if_make None P f = tt
if_make (Some a) P f = f a refl

pub if_some : {A : Type 0} → (o : Option A) (P : A → Type 0) (a : A) → o ≡ Some a → IfSome o P → P a
if_some {A = A} o P a is h = let h' = subst (λ (p : Option A). IfSome p P) is h in h'

pub some_there : {A : Type 0} → (o : Option A) (a : A) → o ≡ Some a → IsSome o
some_there {A = A} o a is = subst (λ (p : Option A). IsSome p) (sym is) refl

pub not_there : {A : Type 0} → (o : Option A) → o ≡ None → IsSome o → ⊥
not_there None none there = off there
not_there (Some a) none there = none-some a (sym none)

pub is_there : {A : Type 0} → (o : Option A) → IsSome o → (a : A) × (o ≡ Some a)
is_there None there = absurd (off there)
is_there (Some a) there = (a, refl)

pub none_or : {A : Type 0} → (o : Option A) → ((a : A) × (o ≡ Some a)) ⊎ (o ≡ None)
none_or (Some a) = inl (a, refl)
none_or None = inr refl

-- two options that are there together, with one value
pub same_options : (a b : Option ℕ) → ((v : ℕ) → a ≡ Some v → b ≡ Some v) → ((v : ℕ) → b ≡ Some v → (w : ℕ) × (a ≡ Some w)) → a ≡ b
same_options (Some v) b f g = sym (f v refl)
same_options None None f g = refl
same_options None (Some v) f g = let w = g v refl in absurd (none-some w.0 w.1)

pub on_err : {A E : Type 0} → (r : Result A E) (P Q : Type 0) → (P → Q) → OnErr r P → OnErr r Q
on_err (Ok v) P Q f h = h
on_err (Err e) P Q f h = f h

pub by_result : {A E : Type 0} → (r : Result A E) (P Q R : Type 0) → OnOk r P → OnErr r Q → (P → R) → (Q → R) → R
by_result (Ok v) P Q R p q f g = f p
by_result (Err e) P Q R p q f g = g q

pub on_ok : {A E : Type 0} → (r : Result A E) (P Q : Type 0) → (P → Q) → OnOk r P → OnOk r Q
on_ok (Ok v) P Q f h = f h
on_ok (Err e) P Q f h = h
