-- The first of two options.
use Rattle.std.proofs.Common.{◌≡◌, ◌⊎◌, ℕ, ◌↔◌, Some, None, Bool, true, false, true≢false, refl, sym, ap, inl, inr}
use Rattle.std.specs.Prelude.{Option, if◌then◌else◌}
use Rattle.std.proofs.lemmas.Option.{none-some}
use Rattle.gft_core.specs.Kept.{first_some}

pub first_some-none : (a : Option ℕ) → first_some a None ≡ a
first_some-none (Some v) = refl
first_some-none None = refl

pub first_some-assoc : (a b c : Option ℕ) → first_some (first_some a b) c ≡ first_some a (first_some b c)
first_some-assoc (Some v) b c = refl
first_some-assoc None b c = refl

pub first_some_front : (a b : Option ℕ) (v : ℕ) → a ≡ Some v → first_some a b ≡ Some v
first_some_front a b v e = ap (λ o. first_some o b) e

pub first_some_back : (a b : Option ℕ) (v : ℕ) → b ≡ Some v → (w : ℕ) × (first_some a b ≡ Some w)
first_some_back (Some w) b v e = (w, refl)
first_some_back None b v e = (v, e)

pub first_some_either : (a b : Option ℕ) (v : ℕ) → first_some a b ≡ Some v → (a ≡ Some v) ⊎ (b ≡ Some v)
first_some_either (Some w) b v e = inl e
first_some_either None b v e = inr e

pub has-first_some_none : (a : Option ℕ) → ((v : ℕ) × (a ≡ Some v)) ↔ ((v : ℕ) × (first_some a None ≡ Some v))
has-first_some_none (Some w) = (λ h. h, λ h. h)
has-first_some_none None = (λ h. h, λ h. h)

-- two options that are there together, with one value
pub same_options : (a b : Option ℕ) → ((v : ℕ) → a ≡ Some v → b ≡ Some v) → ((v : ℕ) → b ≡ Some v → (w : ℕ) × (a ≡ Some w)) → a ≡ b
same_options (Some v) b f g = sym (f v refl)
same_options None None f g = refl
same_options None (Some v) f g = let w = g v refl in absurd (none-some w.0 w.1)

pub if_true : (b : Bool) (o : Option ℕ) (v : ℕ) → (if b then o else None) ≡ Some v → b ≡ true
if_true true o v e = refl
if_true false o v e = absurd (none-some v e)

pub if_value : (b : Bool) (o : Option ℕ) (v : ℕ) → (if b then o else None) ≡ Some v → o ≡ Some v
if_value true o v e = e
if_value false o v e = absurd (none-some v e)

pub if_holds : (b : Bool) (o : Option ℕ) (v : ℕ) → b ≡ true → o ≡ Some v → (if b then o else None) ≡ Some v
if_holds true o v is e = e
if_holds false o v is e = absurd (true≢false (sym is))

-- a number is there, or none is
pub some_or_none : (o : Option ℕ) → ((v : ℕ) × (o ≡ Some v)) ⊎ (o ≡ None)
some_or_none (Some v) = inl (v, refl)
some_or_none None = inr refl
