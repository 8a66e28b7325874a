-- The next dial of a link in memory.
use Rattle.std.proofs.Common.{◌≡◌, ℕ, Bool, true, false, ◌&&◌, IsTrue, List, [], ◌∷◌, Some, None, refl, sym, ap, ◌∙◌, subst}
use Rattle.std.specs.Prelude.{nat_eq, slice_get}
use Rattle.std.specs.Cmp.Lexicographic.{pointwise}
use Rattle.std.proofs.lemmas.Bool.{eqb-true, eq-eqb}
use Rattle.std.proofs.lemmas.Bool.Decides.{Decides-eqb}
use Rattle.std.proofs.lemmas.Option.{same_Some}
use Rattle.std.proofs.lemmas.Slice.Eq.{slice_eq-Decides}
use Rattle.gft_text.specs.declared.host_port.HostPort.{HostPort}
use Rattle.gft_outside.specs.declared.link.Dial.{Dial}
use Rattle.gft_outside.specs.Links.{IsDialTo}

both : (p q : Bool) → (p && q) ≡ true → (p ≡ true) × (q ≡ true)
both true q e = (refl, e)
both false q e = absurd (no e)
  where
    no : false ≡ true → ⊥
    no e = cc

both_true : (p q : Bool) → p ≡ true → q ≡ true → (p && q) ≡ true
both_true p q hp hq = ap (λ (b : Bool). b && q) hp ∙ hq

same_address : (a b : HostPort) → a.host ≡ b.host → a.port ≡ b.port → a ≡ b
same_address a b host port = ap (λ (h : _). record { host = h; port = a.port }) host ∙ ap (λ (p : ℕ). record { host = b.host; port = p }) port

hosts : (xs ys : List ℕ) → (pointwise nat_eq xs ys ≡ true → xs ≡ ys) × (xs ≡ ys → pointwise nat_eq xs ys ≡ true)
hosts xs ys = slice_eq-Decides Decides-eqb xs ys (pointwise nat_eq xs ys) refl

pub dial_to : {X : Type 0} (at : HostPort) (dials : List (Dial X)) (dial : Dial X) (r : Bool) → Some dial ≡ slice_get dials 0
    → r ≡ (pointwise nat_eq dial.at.host at.host && nat_eq dial.at.port at.port) → (IsTrue r → IsDialTo at dials) × (IsDialTo at dials → IsTrue r)
dial_to {X} at [] dial r is e = absurd (no is)
  where
    no : Some dial ≡ None → ⊥
    no e = cc
dial_to {X} at (first ∷ rest) dial r is e =
    let same : dial ≡ first = same_Some dial first is in (
      λ t.
          let pq = both (pointwise nat_eq dial.at.host at.host) (nat_eq dial.at.port at.port) (sym e ∙ t) in
          subst (λ (d : Dial X). d.at ≡ at) same (same_address dial.at at ((hosts dial.at.host at.host).0 pq.0) (eqb-true dial.at.port at.port pq.1)),
      λ to.
          let here : dial.at ≡ at = ap (λ (d : Dial X). d.at) same ∙ to in
          e ∙ both_true (pointwise nat_eq dial.at.host at.host) (nat_eq dial.at.port at.port)
          ((hosts dial.at.host at.host).1 (ap (λ (a : HostPort). a.host) here)) (eq-eqb dial.at.port at.port (ap (λ (a : HostPort). a.port) here)),
    )
