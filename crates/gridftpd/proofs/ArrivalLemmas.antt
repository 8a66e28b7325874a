-- Lists of arrivals, one behind another.
use Rattle.std.proofs.Common.{◌≡◌, ℕ, ◌+◌, ◌<◌, ◌≤◌, ◌⊎◌, ◌↔◌, List, [], ◌∷◌, ◌++◌, length, refl, ap, arith, inl, inr}
use Rattle.std.proofs.lemmas.Bool.{cases_lt}
use Rattle.gft_eblock.specs.Words.{Arrival, At, Eof, Eod, Bad, Arrives, totals, data_at}

pub Arrives-append : (a b : List Arrival) (x : ℕ) → Arrives (a ++ b) x ↔ (Arrives a x ⊎ Arrives b x)
Arrives-append [] b x = (λ h. inr h, λ h. elim h [ inl none ↦ absurd none | inr in_b ↦ in_b ])
Arrives-append (At y v ∷ a) b x =
    let rest = Arrives-append a b x in (
      λ h. elim h [
        | inl here ↦ inl (inl here)
        | inr later ↦ elim (rest.0 later) [ inl in_a ↦ inl (inr in_a) | inr in_b ↦ inr in_b ]
      ],
      λ h. elim h [
        | inl front ↦ elim front [ inl here ↦ inl here | inr in_a ↦ inr (rest.1 (inl in_a)) ]
        | inr in_b ↦ inr (rest.1 (inr in_b))
      ],
    )
Arrives-append (Eof t ∷ a) b x = Arrives-append a b x
Arrives-append (Eod ∷ a) b x = Arrives-append a b x
Arrives-append (Bad refused ∷ a) b x = Arrives-append a b x

pub totals-append : (a b : List Arrival) → totals (a ++ b) ≡ totals a ++ totals b
totals-append [] b = refl
totals-append (At y v ∷ a) b = totals-append a b
totals-append (Eof t ∷ a) b = ap (λ ts. t ∷ ts) (totals-append a b)
totals-append (Eod ∷ a) b = totals-append a b
totals-append (Bad refused ∷ a) b = totals-append a b

pub Arrives-data_at : (offset : ℕ) (bytes : List ℕ) (x : ℕ) → Arrives (data_at offset bytes) x ↔ ((offset ≤ x) × (x < offset + length bytes))
Arrives-data_at offset [] x = (λ none. absurd none, λ h. absurd (omega arith))
Arrives-data_at offset (v ∷ bytes) x =
    let rest = Arrives-data_at (offset + 1) bytes x in (
      λ h. elim h [ inl here ↦ (omega arith, omega arith) | inr later ↦ let both = rest.0 later in (omega arith, omega arith) ],
      λ h. let both = h in elim (cases_lt offset x) [ inl above ↦ inr (rest.1 (omega arith, omega arith)) | inr le ↦ inl (omega arith) ],
    )

pub totals-data_at : (offset : ℕ) (bytes : List ℕ) → totals (data_at offset bytes) ≡ []
totals-data_at offset [] = refl
totals-data_at offset (v ∷ bytes) = totals-data_at (offset + 1) bytes
