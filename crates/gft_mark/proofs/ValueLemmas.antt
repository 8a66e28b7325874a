-- Timestamps and numbers of 16 bits.
use Rattle.std.proofs.Common.{◌≡◌, ℕ, ◌+◌, ◌*◌, ◌/◌, ◌%◌, ◌<◌, ◌^◌, List, [], ◌∷◌, ◌++◌, length, eqb, Option, Some, None, refl, sym, ◌∙◌, lit<, arith}
use Rattle.std.specs.Fmt.{decimal}
use Rattle.std.specs.Option.{MatchOption}
use Rattle.std.proofs.lemmas.List.Splits.{slice_split_none}
use Rattle.std.proofs.lemmas.Fmt.{decimal_digit}
use Rattle.gft_base.specs.Words.{AreDigits, IsNumber, dot, parts_at}
use Rattle.gft_base.proofs.Lemmas.{IsNumber-decimal, IsNumber-one, digits_apart, number_part, part_alone, parts_join, parts_some}
use Rattle.gft_mark.specs.Fields.{AreSeconds, AreTenths, BeginsApart, IsFraction, IsShortNumber, IsTimestamp}
use Rattle.gft_mark.specs.Markers.{timestamp_text}

IsFraction-one : (text : List ℕ) (a b : ℕ) → IsFraction text a → IsFraction text b → a ≡ b
IsFraction-one [] a b is_a is_b = absurd is_a
IsFraction-one (digit ∷ digits) a b is_a is_b = is_a.1 ∙ sym is_b.1

AreTenths-one : (parts : List (List ℕ)) (a b : ℕ) → AreTenths parts a → AreTenths parts b → a ≡ b
AreTenths-one [] a b is_a is_b = is_a ∙ sym is_b
AreTenths-one (fraction ∷ []) a b is_a is_b = IsFraction-one fraction a b is_a is_b
AreTenths-one (fraction ∷ part ∷ parts) a b is_a is_b = absurd is_a

AreSeconds-one : (parts : List (List ℕ)) (m n a b : ℕ) → AreSeconds parts m a → AreSeconds parts n b → (m ≡ n) × (a ≡ b)
AreSeconds-one [] m n a b is_a is_b = absurd is_a
AreSeconds-one (whole ∷ parts) m n a b is_a is_b =
    (IsNumber-one whole m n is_a.0 is_b.0, AreTenths-one parts a b is_a.1 is_b.1)

pub IsTimestamp-one : (text : List ℕ) (m n : ℕ) → IsTimestamp text m → IsTimestamp text n → m ≡ n
IsTimestamp-one text m n is_m is_n =
    let same = AreSeconds-one (parts_at dot text) is_m.seconds is_n.seconds is_m.tenth is_n.tenth is_m.parts is_n.parts in
    omega (arith, is_m.value, is_n.value, same.0, same.1)

pub IsShortNumber-one : (text : List ℕ) (m n : ℕ) → IsShortNumber text m → IsShortNumber text n → m ≡ n
IsShortNumber-one text m n is_m is_n = IsNumber-one text m n is_m.number is_n.number

-- a text that begins with a digit doesn't begin with a space
digits-apart : (front rest : List ℕ) → 0 < length front → AreDigits front → BeginsApart (front ++ rest)
digits-apart [] rest some digits = absurd (omega (arith, some))
digits-apart (b ∷ front) rest some digits = λ space. omega (arith, digits.0, space)

pub decimal-apart : (n : ℕ) (rest : List ℕ) → n < 2 ^ 64 → BeginsApart (decimal n ++ rest)
decimal-apart n rest fits =
    let number = IsNumber-decimal n fits in
    digits-apart (decimal n) rest number.some number.digits

-- the written timestamp is read again
pub IsTimestamp-text : (tenths : ℕ) → tenths < 2 ^ 64 → IsTimestamp (timestamp_text tenths) tenths
IsTimestamp-text tenths fits =
    let seconds : ℕ = tenths / 10 in
    let tenth : ℕ = tenths % 10 in
    let whole = IsNumber-decimal seconds (omega arith) in
    let last = IsNumber-decimal tenth (omega arith) in
    let digit = decimal_digit tenth (omega arith) in
    let fraction : IsFraction (decimal tenth) tenth = rw digit ((omega arith, omega arith, tt), omega arith) in
    record {
      seconds = seconds;
      tenth = tenth;
      parts = rw (parts_join dot (decimal seconds) (decimal tenth) (digits_apart dot (decimal seconds) (lit< tt) whole.digits), number_part dot (decimal tenth) tenth (lit< tt) last) (whole, fraction);
      value = omega arith;
      fits = fits;
    }

-- ---- what is read

-- digits alone are one part
fraction_alone : (text : List ℕ) (tenth : ℕ) → IsFraction text tenth → parts_at dot text ≡ text ∷ []
fraction_alone [] tenth fraction = absurd fraction
fraction_alone (digit ∷ digits) tenth fraction =
    slice_split_none (λ b. eqb b dot) (digit ∷ digits) (digits_apart dot (digit ∷ digits) (lit< tt) fraction.0)

tenths-fraction : (text : List ℕ) (tenth : ℕ) → IsFraction text tenth → AreTenths (parts_at dot text) tenth
tenths-fraction text tenth fraction = rw (fraction_alone text tenth fraction) fraction

one_fraction : (text : List ℕ) (parts : List (List ℕ)) (tenth : ℕ) → parts_at dot text ≡ parts → 0 < length parts → AreTenths parts tenth → IsFraction text tenth
one_fraction text [] tenth same some tenths = absurd (omega (arith, some))
one_fraction text (fraction ∷ []) tenth same some tenths = rw (part_alone dot text fraction same) tenths
one_fraction text (fraction ∷ part ∷ parts) tenth same some tenths = absurd tenths

fraction-tenths : (text : List ℕ) (tenth : ℕ) → AreTenths (parts_at dot text) tenth → IsFraction text tenth
fraction-tenths text tenth tenths = one_fraction text (parts_at dot text) tenth refl (parts_some dot text) tenths

-- what is read of a fraction
pub fraction-read : (text : List ℕ) (answer : Option ℕ) → MatchOption answer ((n : ℕ) → ¬ IsFraction text n) (λ n. IsFraction text n × (n < 10)) → MatchOption answer ((n : ℕ) → ¬ AreTenths (parts_at dot text) n) (λ n. AreTenths (parts_at dot text) n × (n < 10))
fraction-read text None none = λ n tenths. none n (fraction-tenths text n tenths)
fraction-read text (Some n) read = (tenths-fraction text n read.0, read.1)

-- the parts of a text that is a timestamp
pub timestamp-parts : (text whole : List ℕ) (parts : List (List ℕ)) (tenths : ℕ) → parts_at dot text ≡ whole ∷ parts → IsTimestamp text tenths → (seconds : ℕ) × (tenth : ℕ) × IsNumber whole seconds × AreTenths parts tenth × (tenths ≡ 10 * seconds + tenth) × (tenths < 2 ^ 64)
timestamp-parts text whole parts tenths same is =
    let all : AreSeconds (whole ∷ parts) is.seconds is.tenth = rw same at is.parts in
    (is.seconds, is.tenth, all.0, all.1, is.value, is.fits)

pub parts-timestamp : (text whole : List ℕ) (parts : List (List ℕ)) (seconds tenth tenths : ℕ) → parts_at dot text ≡ whole ∷ parts → IsNumber whole seconds → AreTenths parts tenth → tenths ≡ 10 * seconds + tenth → tenths < 2 ^ 64 → IsTimestamp text tenths
parts-timestamp text whole parts seconds tenth tenths same number fraction value fits =
    record { seconds = seconds; tenth = tenth; parts = rw same (number, fraction); value = value; fits = fits }

-- a text whose number and tenth are known is no other timestamp
pub timestamp-is : (text whole : List ℕ) (parts : List (List ℕ)) (seconds tenth tenths : ℕ) → parts_at dot text ≡ whole ∷ parts → IsNumber whole seconds → AreTenths parts tenth → IsTimestamp text tenths → (tenths ≡ 10 * seconds + tenth) × (tenths < 2 ^ 64)
timestamp-is text whole parts seconds tenth tenths same number fraction is =
    let all = timestamp-parts text whole parts tenths same is in
    let s = IsNumber-one whole all.0 seconds all.2 number in
    let t = AreTenths-one parts all.1 tenth all.3 fraction in
    (omega (arith, all.4, s, t), all.5)
