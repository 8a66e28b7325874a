-- How a line is heard, byte by byte.
use Rattle.std.proofs.Common.{◌≡◌, ℕ, ◌≤◌, Bool, true, false, MatchBool, List, [], ◌∷◌, ◌++◌, length, take, get_or, refl, subst, sym, ap, ◌∙◌, arith, append_assoc, append-nil, length-append, length-take}
use Rattle.std.proofs.lemmas.List.{take_all}
use Rattle.std.specs.Prelude.{map, reverse}
use Rattle.gft_base.specs.Words.{line_feed}
use Rattle.gft_text.specs.Words.{CarriesLine, Held, Overlong, Overruns, TakesAll, TakesLine, lines_told}
use Rattle.gft_text.specs.Words.{lines_to_come}
use Rattle.gft_text.specs.declared.lines.Fed.{Fed}
use Rattle.gft_outside.specs.Words.{ControlInput, ControlState, Hears, Pause, Said, said}
use Rattle.gft_session.specs.Hearing.{Brings}

pub said-append : (newer older : List ControlInput) → said (newer ++ older) ≡ said older ++ said newer
said-append [] older = sym (append-nil (said older))
said-append (Said value ∷ newer) older = ap (λ xs. xs ++ value ∷ []) (said-append newer older) ∙ append_assoc (said older) (said newer) (value ∷ [])
said-append (Pause ∷ newer) older = said-append newer older

-- the byte of a buffer of one
abbrev pub byte_of : List ℕ → ℕ
byte_of buf = get_or buf 0 0

pub one_taken : (buf : List ℕ) (n : ℕ) → length buf ≡ 1 → 1 ≤ n → take n buf ≡ buf
one_taken buf n one some = take_all n buf (omega (arith, one, some))

-- a feed of one byte takes it
pub one_fed : (whole : Bool) (old new : Held) (buf : List ℕ) (used : ℕ) → length buf ≡ 1 → MatchBool whole (TakesLine old buf used new) (TakesAll old buf used new) → take used buf ≡ buf
one_fed true old new buf used one takes = one_taken buf used one (omega (arith, ap length takes.taken, length-append takes.front (line_feed ∷ []), length-take used buf))
one_fed false old new buf used one takes = one_taken buf used one (omega (arith, takes.taken, one))

pub brings_nothing : (reader : Held) → Brings reader [] [] reader
brings_nothing reader later = refl

-- a byte was heard
pub one_heard : (buf : List ℕ) (count : ℕ) (a b : ControlState) → length buf ≡ 1 → 1 ≤ count → Hears (reverse (map (λ value. Said value) (take count buf))) a b → Hears (Said (byte_of buf) ∷ []) a b
one_heard [] count a b one some heard = absurd (omega (arith, one))
one_heard (value ∷ []) count a b one some heard =
    subst (λ given. Hears given a b) (ap (λ (xs : List ℕ). reverse (map (λ v. Said v) xs)) (one_taken (value ∷ []) count one some)) heard
one_heard (value ∷ other ∷ buf) count a b one some heard = absurd (omega (arith, one))

-- a byte more
pub brings_more : (start old new : Held) (inputs : List ControlInput) (buf : List ℕ) (fed : Fed) →
    length buf ≡ 1 → take fed.used buf ≡ buf → Brings start inputs [] old → CarriesLine old buf fed new → Brings start (Said (byte_of buf) ∷ inputs) (lines_told fed new) new
brings_more start old new inputs [] fed one all brings carries later = absurd (omega (arith, one))
brings_more start old new inputs (value ∷ []) fed one all brings carries later =
    ap (λ xs. lines_to_come start xs) (append_assoc (said inputs) (value ∷ []) later)
    ∙ brings (value ∷ later)
    ∙ ap (λ (xs : List ℕ). lines_to_come old (xs ++ later)) (sym all)
    ∙ carries.all later
brings_more start old new inputs (value ∷ other ∷ buf) fed one all brings carries later = absurd (omega (arith, one))

-- nothing more
pub told_nothing : (start now : Held) (inputs : List ControlInput) → Brings start inputs [] now → lines_to_come now [] ≡ [] → lines_to_come start (said inputs) ≡ []
told_nothing start now inputs brings settled = ap (λ xs. lines_to_come start xs) (sym (append-nil (said inputs))) ∙ brings [] ∙ settled

-- a line too long
pub told_overlong : (start old new : Held) (inputs : List ControlInput) (buf : List ℕ) → length buf ≡ 1 → Brings start inputs [] old → Overruns old buf new → lines_to_come start (said (Said (byte_of buf) ∷ inputs)) ≡ Overlong ∷ []
told_overlong start old new inputs [] one brings overruns = absurd (omega (arith, one))
told_overlong start old new inputs (value ∷ []) one brings overruns = brings (value ∷ []) ∙ overruns.comes []
told_overlong start old new inputs (value ∷ other ∷ buf) one brings overruns = absurd (omega (arith, one))
