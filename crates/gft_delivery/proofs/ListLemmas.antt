-- Lists of arrivals: what holds of each, how many there are, and which is the last.
use Rattle.std.proofs.Common.{◌≡◌, ◌⊎◌, ℕ, ◌+◌, ◌<◌, ◌≤◌, List, [], ◌∷◌, ◌++◌, length, Some, refl, ap, sym, inl, inr, arith}
use Rattle.std.specs.Prelude.{slice_get}
use Rattle.std.specs.List.{AllByRecursion}
use Rattle.std.proofs.lemmas.Bool.{cases_eq}
use Rattle.std.proofs.lemmas.Option.{slice_get_within}
use Rattle.gft_eblock.specs.Words.{Arrival, Arrives, At, Bad, Eod, Eof, data_at, eods, totals}
use Rattle.gft_drive.specs.Words.{IsAmong}
use Rattle.gft_outside.specs.Words.{HasNoBad, IsTruthful}

-- ---- each of them

module _ {A : Type 0} (P : A → Type 0) where
  pub all-append : (a b : List A) → AllByRecursion P a → AllByRecursion P b → AllByRecursion P (a ++ b)
  all-append [] b first next = next
  all-append (x ∷ a) b first next = (first.0, all-append a b first.1 next)

  pub all-front : (a b : List A) → AllByRecursion P (a ++ b) → AllByRecursion P a
  all-front [] b all = tt
  all-front (x ∷ a) b all = (all.0, all-front a b all.1)

  pub all-rest : (a b : List A) → AllByRecursion P (a ++ b) → AllByRecursion P b
  all-rest [] b all = all
  all-rest (x ∷ a) b all = all-rest a b all.1

-- the arrival is one of a sender of this file who announces this total
abbrev pub IsSound : List ℕ → ℕ → Arrival → Type 0
IsSound file total (At offset value) = slice_get file offset ≡ Some value
IsSound file total (Eof announced) = announced ≡ total
IsSound file total Eod = Unit {0}
IsSound file total (Bad refusal) = ⊥

pub sound_truthful : (file : List ℕ) (total : ℕ) (list : List Arrival) → AllByRecursion (IsSound file total) list → IsTruthful file list
sound_truthful file total [] all = tt
sound_truthful file total (At offset value ∷ list) all = (all.0, sound_truthful file total list all.1)
sound_truthful file total (Eof announced ∷ list) all = sound_truthful file total list all.1
sound_truthful file total (Eod ∷ list) all = sound_truthful file total list all.1
sound_truthful file total (Bad refusal ∷ list) all = absurd all.0

pub sound_no_bad : (file : List ℕ) (total : ℕ) (list : List Arrival) → AllByRecursion (IsSound file total) list → HasNoBad list
sound_no_bad file total [] all = tt
sound_no_bad file total (At offset value ∷ list) all = sound_no_bad file total list all.1
sound_no_bad file total (Eof announced ∷ list) all = sound_no_bad file total list all.1
sound_no_bad file total (Eod ∷ list) all = sound_no_bad file total list all.1
sound_no_bad file total (Bad refusal ∷ list) all = absurd all.0

-- ---- how many

abbrev pub total_count : List Arrival → ℕ
total_count list = length (totals list)

pub total_count-append : (a b : List Arrival) → total_count (a ++ b) ≡ total_count a + total_count b
total_count-append [] b = omega arith
total_count-append (At offset value ∷ a) b = total_count-append a b
total_count-append (Eof total ∷ a) b = let h = total_count-append a b in omega (arith, h)
total_count-append (Eod ∷ a) b = total_count-append a b
total_count-append (Bad refusal ∷ a) b = total_count-append a b

-- the offsets of the bytes, in order
abbrev pub offsets : List Arrival → List ℕ
offsets [] = []
offsets (At offset value ∷ list) = offset ∷ offsets list
offsets (Eof total ∷ list) = offsets list
offsets (Eod ∷ list) = offsets list
offsets (Bad refusal ∷ list) = offsets list

abbrev pub byte_many : List Arrival → ℕ
byte_many list = length (offsets list)

pub byte_many-append : (a b : List Arrival) → byte_many (a ++ b) ≡ byte_many a + byte_many b
byte_many-append [] b = omega arith
byte_many-append (At offset value ∷ a) b = let h = byte_many-append a b in omega (arith, h)
byte_many-append (Eof total ∷ a) b = byte_many-append a b
byte_many-append (Eod ∷ a) b = byte_many-append a b
byte_many-append (Bad refusal ∷ a) b = byte_many-append a b

pub byte_many-data : (offset : ℕ) (bytes : List ℕ) → byte_many (data_at offset bytes) ≡ length bytes
byte_many-data offset [] = refl
byte_many-data offset (b ∷ bytes) = let h = byte_many-data (offset + 1) bytes in omega (arith, h)

-- ---- which offsets

pub arrives-front : (a b : List Arrival) (x : ℕ) → Arrives a x → Arrives (a ++ b) x
arrives-front [] b x h = absurd h
arrives-front (At offset value ∷ a) b x h = elim h [ inl here ↦ inl here | inr later ↦ inr (arrives-front a b x later) ]
arrives-front (Eof total ∷ a) b x h = arrives-front a b x h
arrives-front (Eod ∷ a) b x h = arrives-front a b x h
arrives-front (Bad refusal ∷ a) b x h = arrives-front a b x h

pub arrives-rest : (a b : List Arrival) (x : ℕ) → Arrives b x → Arrives (a ++ b) x
arrives-rest [] b x h = h
arrives-rest (At offset value ∷ a) b x h = inr (arrives-rest a b x h)
arrives-rest (Eof total ∷ a) b x h = arrives-rest a b x h
arrives-rest (Eod ∷ a) b x h = arrives-rest a b x h
arrives-rest (Bad refusal ∷ a) b x h = arrives-rest a b x h

pub arrives-cases : (a b : List Arrival) (x : ℕ) → Arrives (a ++ b) x → Arrives a x ⊎ Arrives b x
arrives-cases [] b x h = inr h
arrives-cases (At offset value ∷ a) b x h = elim h [
  | inl here ↦ inl (inl here)
  | inr later ↦ elim (arrives-cases a b x later) [ inl first ↦ inl (inr first) | inr next ↦ inr next ]
]
arrives-cases (Eof total ∷ a) b x h = arrives-cases a b x h
arrives-cases (Eod ∷ a) b x h = arrives-cases a b x h
arrives-cases (Bad refusal ∷ a) b x h = arrives-cases a b x h

pub arrives-data : (offset : ℕ) (bytes : List ℕ) (x : ℕ) → offset ≤ x → x < offset + length bytes → Arrives (data_at offset bytes) x
arrives-data offset [] x low high = absurd (omega (arith, low, high))
arrives-data offset (b ∷ bytes) x low high = elim (cases_eq offset x) [
  | inl here ↦ inl here
  | inr apart ↦ inr (arrives-data (offset + 1) bytes x (omega (arith, low, apart)) (omega (arith, high)))
]

pub among_offsets : (list : List Arrival) (x : ℕ) → Arrives list x → IsAmong x (offsets list)
among_offsets [] x h = absurd h
among_offsets (At offset value ∷ list) x h = elim h [ inl here ↦ inl (sym here) | inr later ↦ inr (among_offsets list x later) ]
among_offsets (Eof total ∷ list) x h = among_offsets list x h
among_offsets (Eod ∷ list) x h = among_offsets list x h
among_offsets (Bad refusal ∷ list) x h = among_offsets list x h

-- an offset of a sound list lies in the file
pub sound_below : (file : List ℕ) (total : ℕ) (list : List Arrival) → AllByRecursion (IsSound file total) list → (x : ℕ) → IsAmong x (offsets list) → x < length file
sound_below file total [] all x h = absurd h
sound_below file total (At offset value ∷ list) all x h = elim h [
  | inl here ↦ let lt = slice_get_within file offset value all.0 in omega (arith, here, lt)
  | inr later ↦ sound_below file total list all.1 x later
]
sound_below file total (Eof announced ∷ list) all x h = sound_below file total list all.1 x h
sound_below file total (Eod ∷ list) all x h = sound_below file total list all.1 x h
sound_below file total (Bad refusal ∷ list) all x h = absurd all.0

-- ---- which is the last

abbrev IsEnd : Arrival → Type 0
IsEnd (At offset value) = ⊥
IsEnd (Eof total) = ⊥
IsEnd Eod = Unit {0}
IsEnd (Bad refusal) = ⊥

-- the last of them, if there is one, is an EOD
abbrev pub IsClosed : List Arrival → Type 0
IsClosed [] = Unit {0}
IsClosed (a ∷ []) = IsEnd a
IsClosed (a ∷ b ∷ list) = IsClosed (b ∷ list)

pub closed-rest : (a b : List Arrival) → IsClosed (a ++ b) → IsClosed b
closed-rest [] b h = h
closed-rest (x ∷ []) [] h = tt
closed-rest (x ∷ []) (y ∷ b) h = h
closed-rest (x ∷ z ∷ a) b h = closed-rest (z ∷ a) b h

pub closed-append : (a : List Arrival) (y : Arrival) (b : List Arrival) → IsClosed (y ∷ b) → IsClosed (a ++ y ∷ b)
closed-append [] y b h = h
closed-append (x ∷ []) y b h = h
closed-append (x ∷ z ∷ a) y b h = closed-append (z ∷ a) y b h

some_more : (b : Arrival) (list : List Arrival) (P : Type 0) → b ∷ list ≡ [] → P
some_more b list P is = absurd (let e = ap (λ (l : List Arrival). length l) is in omega (arith, e))

-- where no EOD is among them there is nothing
pub closed-none : (list : List Arrival) → IsClosed list → eods list ≡ 0 → list ≡ []
closed-none [] h none = refl
closed-none (At offset value ∷ []) h none = absurd h
closed-none (Eof total ∷ []) h none = absurd h
closed-none (Eod ∷ []) h none = absurd (omega (arith, none))
closed-none (Bad refusal ∷ []) h none = absurd h
closed-none (At offset value ∷ b ∷ list) h none = some_more b list _ (closed-none (b ∷ list) h none)
closed-none (Eof total ∷ b ∷ list) h none = some_more b list _ (closed-none (b ∷ list) h none)
closed-none (Eod ∷ b ∷ list) h none = absurd (omega (arith, none))
closed-none (Bad refusal ∷ b ∷ list) h none = some_more b list _ (closed-none (b ∷ list) h none)
