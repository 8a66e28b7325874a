-- The sums of the stripes, where more is added or a seat is joined in.
use Rattle.std.proofs.Common.{◌≡◌, ◌≢◌, ℕ, ◌+◌, List, ◌∷◌, ◌++◌, Bool, refl, sym, ap, eq-eqb, ne_eqb, arith}
use Rattle.std.specs.Prelude.{if◌then◌else◌}
use Rattle.std.proofs.lemmas.List.Sums.{sum_by-append, sum_by-cons}
use Rattle.gft_meter.specs.declared.view.Add.{Add}
use Rattle.gft_meter.specs.Adds.{added_on, bytes_on}

pub added_on-cons : (stripe bytes : ℕ) (adds : List Add) → added_on stripe (record { stripe = stripe; bytes = bytes } ∷ adds) ≡ added_on stripe adds + bytes
added_on-cons stripe bytes adds =
    let add : Add = record { stripe = stripe; bytes = bytes } in
    let mine : bytes_on stripe add ≡ bytes = ap (λ (b : Bool). if b then bytes else 0) (eq-eqb stripe stripe refl) in
    omega (arith, mine, sum_by-cons (bytes_on stripe) add adds)

-- another stripe's sum stays
pub added_on-cons_other : (other stripe bytes : ℕ) (adds : List Add) → other ≢ stripe → added_on other (record { stripe = stripe; bytes = bytes } ∷ adds) ≡ added_on other adds
added_on-cons_other other stripe bytes adds apart =
    let add : Add = record { stripe = stripe; bytes = bytes } in
    let none : bytes_on other add ≡ 0 = ap (λ (b : Bool). if b then bytes else 0) (ne_eqb stripe other (λ e. apart (sym e))) in
    omega (arith, none, sum_by-cons (bytes_on other) add adds)

pub added_on-append : (stripe : ℕ) (adds more : List Add) → added_on stripe (adds ++ more) ≡ added_on stripe adds + added_on stripe more
added_on-append stripe adds more = sum_by-append (bytes_on stripe) adds more
