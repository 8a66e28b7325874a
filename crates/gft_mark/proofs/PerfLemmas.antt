-- Performance markers.
use Rattle.std.proofs.Common.{◌≡◌, ℕ, ◌/◌, ◌%◌, ◌<◌, ◌≤◌, ◌^◌, true, false, not, eqb, List, [], ◌∷◌, ◌++◌, get_or, length, length-append, append-nil, refl, sym, ap, ◌∙◌, lit<, subst, arith}
use Rattle.std.specs.Prelude.{codes, decimal}
use Rattle.std.specs.List.{list_all}
use Rattle.std.proofs.lemmas.Fmt.{length-decimal-le}
use Rattle.std.proofs.lemmas.List.Elements.{All-append, All-cons}
use Rattle.gft_base.specs.Words.{IsNumber, Lacks, dot, line_feed}
use Rattle.gft_base.proofs.Lemmas.{IsNumber-decimal, IsNumber-one}
use Rattle.gft_text.proofs.Lemmas.{literal_lacks, decimal_lacks}
use Rattle.gft_reply.specs.declared.Reply.{Reply}
use Rattle.gft_reply.specs.Words.{FitsReply}
use Rattle.gft_reply.proofs.Lemmas.{FitsReply-short, IsLineText}
use Rattle.gft_mark.specs.declared.TheConstants.{PERF_CODE}
use Rattle.gft_mark.specs.declared.perf.Perf.{Perf}
use Rattle.gft_mark.specs.Fields.{BeginsApart, IsShortNumber, IsTimestamp, States}
use Rattle.gft_mark.specs.Markers.{FitsPerf, IsPerfMarker, perf_lines, timestamp_text}
use Rattle.gft_mark.proofs.FieldLemmas.{States-one, States-written}
use Rattle.gft_mark.proofs.ValueLemmas.{IsShortNumber-one, IsTimestamp-one, IsTimestamp-text, decimal-apart}

-- the reply of these lines
abbrev pub perf_reply : Perf → Reply
perf_reply perf = record { code = PERF_CODE; lines = perf_lines perf }

IsShortNumber-decimal : (n : ℕ) → n < 2 ^ 16 → IsShortNumber (decimal n) n
IsShortNumber-decimal n fits = record { number = IsNumber-decimal n (omega arith); fits = fits }

apart-decimal : (n : ℕ) → n < 2 ^ 64 → BeginsApart (decimal n)
apart-decimal n fits = rw append-nil at (decimal-apart n [] fits)

-- the written marker states its values
pub IsPerfMarker-written : (perf : Perf) → FitsPerf perf → IsPerfMarker (perf_reply perf) perf
IsPerfMarker-written perf fits = record {
  timestamp = codes "Timestamp: " ++ timestamp_text perf.tenths;
  index = codes "Stripe Index: " ++ decimal perf.stripe;
  transferred = codes "Stripe Bytes Transferred: " ++ decimal perf.bytes;
  count = codes "Total Stripe Count: " ++ decimal perf.stripes;
  ending = [];
  code = refl;
  lines = refl;
  tenths = States-written (codes "Timestamp:") (timestamp_text perf.tenths) IsTimestamp perf.tenths (λ e. omega (arith, e)) (decimal-apart (perf.tenths / 10) (dot ∷ decimal (perf.tenths % 10)) (omega (arith, fits.tenths))) (IsTimestamp-text perf.tenths fits.tenths);
  stripe = States-written (codes "Stripe Index:") (decimal perf.stripe) IsShortNumber perf.stripe (λ e. omega (arith, e)) (apart-decimal perf.stripe (omega (arith, fits.stripe))) (IsShortNumber-decimal perf.stripe fits.stripe);
  bytes = States-written (codes "Stripe Bytes Transferred:") (decimal perf.bytes) IsNumber perf.bytes (λ e. omega (arith, e)) (apart-decimal perf.bytes fits.bytes) (IsNumber-decimal perf.bytes fits.bytes);
  stripes = States-written (codes "Total Stripe Count:") (decimal perf.stripes) IsShortNumber perf.stripes (λ e. omega (arith, e)) (apart-decimal perf.stripes (omega (arith, fits.stripes))) (IsShortNumber-decimal perf.stripes fits.stripes);
}

-- ---- what is written has a text

pub decimal-short : (n : ℕ) → n < 2 ^ 64 → length (decimal n) ≤ 20
decimal-short n fits = length-decimal-le 20 n (omega arith) (omega arith) fits

-- a name and a value without an LF
named-lacks : (name value : List ℕ) → list_all (λ b. not (eqb b line_feed)) name ≡ true → Lacks line_feed value → Lacks line_feed (name ++ value)
named-lacks name value test lacks = All-append (λ b. eqb b line_feed ≡ false) name value (literal_lacks line_feed name test) lacks

timestamp-lacks : (tenths : ℕ) → tenths < 2 ^ 64 → Lacks line_feed (timestamp_text tenths)
timestamp-lacks tenths fits =
    let P : ℕ → Type 0 = λ b. eqb b line_feed ≡ false in
    All-append P (decimal (tenths / 10)) (dot ∷ decimal (tenths % 10)) (decimal_lacks line_feed (tenths / 10) (lit< tt) (omega arith)) (All-cons P dot (decimal (tenths % 10)) refl (decimal_lacks line_feed (tenths % 10) (lit< tt) (omega arith)))

timestamp-short : (tenths : ℕ) → tenths < 2 ^ 64 → length (timestamp_text tenths) ≤ 41
timestamp-short tenths fits =
    omega (arith, length-append (decimal (tenths / 10)) (dot ∷ decimal (tenths % 10)), decimal-short (tenths / 10) (omega arith), decimal-short (tenths % 10) (omega arith))

line-short : (name value : List ℕ) → list_all (λ b. not (eqb b line_feed)) name ≡ true → length name ≤ 100 → Lacks line_feed value → length value ≤ 100 → IsLineText (name ++ value)
line-short name value test name_short lacks value_short = (named-lacks name value test lacks, omega (arith, length-append name value))

number-line : (name : List ℕ) (n : ℕ) → list_all (λ b. not (eqb b line_feed)) name ≡ true → length name ≤ 100 → n < 2 ^ 64 → IsLineText (name ++ decimal n)
number-line name n test name_short fits =
    line-short name (decimal n) test name_short (decimal_lacks line_feed n (lit< tt) fits) (omega (arith, decimal-short n fits))

-- the written marker has a text
pub FitsReply-perf : (perf : Perf) → FitsPerf perf → FitsReply (perf_reply perf)
FitsReply-perf perf fits = FitsReply-short (perf_reply perf) (omega arith) (omega arith) (omega arith) (omega arith) (
  (literal_lacks line_feed (codes "Perf Marker") refl, omega arith),
  (
    line-short (codes "Timestamp: ") (timestamp_text perf.tenths) refl (omega arith) (timestamp-lacks perf.tenths fits.tenths) (omega (arith, timestamp-short perf.tenths fits.tenths)),
    (
      number-line (codes "Stripe Index: ") perf.stripe refl (omega arith) (omega (arith, fits.stripe)),
      (
        number-line (codes "Stripe Bytes Transferred: ") perf.bytes refl (omega arith) fits.bytes,
        (
          number-line (codes "Total Stripe Count: ") perf.stripes refl (omega arith) (omega (arith, fits.stripes)),
          ((literal_lacks line_feed (codes "End") refl, omega arith), tt),
        ),
      ),
    ),
  ),
)

-- ---- one value

same_perf : (a b : Perf) → a.tenths ≡ b.tenths → a.stripe ≡ b.stripe → a.bytes ≡ b.bytes → a.stripes ≡ b.stripes → a ≡ b
same_perf a b tenths stripe bytes stripes =
    let with_tenths : ℕ → Perf = λ n. record { tenths = n; stripe = a.stripe; bytes = a.bytes; stripes = a.stripes } in
    let with_stripe : ℕ → Perf = λ n. record { tenths = b.tenths; stripe = n; bytes = a.bytes; stripes = a.stripes } in
    let with_bytes : ℕ → Perf = λ n. record { tenths = b.tenths; stripe = b.stripe; bytes = n; stripes = a.stripes } in
    let with_stripes : ℕ → Perf = λ n. record { tenths = b.tenths; stripe = b.stripe; bytes = b.bytes; stripes = n } in
    ap with_tenths tenths ∙ ap with_stripe stripe ∙ ap with_bytes bytes ∙ ap with_stripes stripes

stated-one : (name s t : List ℕ) (IsValue : List ℕ → ℕ → Type 0) (m n : ℕ) → ((text : List ℕ) (m n : ℕ) → IsValue text m → IsValue text n → m ≡ n) → s ≡ t → States name IsValue s m → States name IsValue t n → m ≡ n
stated-one name s t IsValue m n one same is_m is_n =
    let P : List ℕ → Type 0 = λ line. States name IsValue line m in
    States-one name t IsValue m n one (subst P same is_m) is_n

-- no reply is two performance markers
pub IsPerfMarker-one : (reply : Reply) (a b : Perf) → IsPerfMarker reply a → IsPerfMarker reply b → a ≡ b
IsPerfMarker-one reply a b is_a is_b =
    let same = sym is_a.lines ∙ is_b.lines in
    let timestamp : is_a.timestamp ≡ is_b.timestamp = cc in
    let index : is_a.index ≡ is_b.index = cc in
    let transferred : is_a.transferred ≡ is_b.transferred = cc in
    let count : is_a.count ≡ is_b.count = cc in
    same_perf a b
    (stated-one (codes "Timestamp:") _ _ IsTimestamp a.tenths b.tenths IsTimestamp-one timestamp is_a.tenths is_b.tenths)
    (stated-one (codes "Stripe Index:") _ _ IsShortNumber a.stripe b.stripe IsShortNumber-one index is_a.stripe is_b.stripe)
    (stated-one (codes "Stripe Bytes Transferred:") _ _ IsNumber a.bytes b.bytes IsNumber-one transferred is_a.bytes is_b.bytes)
    (stated-one (codes "Total Stripe Count:") _ _ IsShortNumber a.stripes b.stripes IsShortNumber-one count is_a.stripes is_b.stripes)

-- ---- what is read

-- what the lines of a marker state
pub perf-tenths : (reply : Reply) (perf : Perf) → IsPerfMarker reply perf → States (codes "Timestamp:") IsTimestamp (get_or reply.lines 1 []) perf.tenths
perf-tenths reply perf is = rw is.lines is.tenths

pub perf-stripe : (reply : Reply) (perf : Perf) → IsPerfMarker reply perf → States (codes "Stripe Index:") IsShortNumber (get_or reply.lines 2 []) perf.stripe
perf-stripe reply perf is = rw is.lines is.stripe

pub perf-bytes : (reply : Reply) (perf : Perf) → IsPerfMarker reply perf → States (codes "Stripe Bytes Transferred:") IsNumber (get_or reply.lines 3 []) perf.bytes
perf-bytes reply perf is = rw is.lines is.bytes

pub perf-stripes : (reply : Reply) (perf : Perf) → IsPerfMarker reply perf → States (codes "Total Stripe Count:") IsShortNumber (get_or reply.lines 4 []) perf.stripes
perf-stripes reply perf is = rw is.lines is.stripes

six_lines : (lines : List (List ℕ)) → length lines ≡ 6 → lines ≡ get_or lines 0 [] ∷ get_or lines 1 [] ∷ get_or lines 2 [] ∷ get_or lines 3 [] ∷ get_or lines 4 [] ∷ get_or lines 5 [] ∷ []
six_lines [] six = absurd (omega (arith, six))
six_lines (a ∷ []) six = absurd (omega (arith, six))
six_lines (a ∷ b ∷ []) six = absurd (omega (arith, six))
six_lines (a ∷ b ∷ c ∷ []) six = absurd (omega (arith, six))
six_lines (a ∷ b ∷ c ∷ d ∷ []) six = absurd (omega (arith, six))
six_lines (a ∷ b ∷ c ∷ d ∷ e ∷ []) six = absurd (omega (arith, six))
six_lines (a ∷ b ∷ c ∷ d ∷ e ∷ f ∷ []) six = refl
six_lines (a ∷ b ∷ c ∷ d ∷ e ∷ f ∷ g ∷ lines) six = absurd (omega (arith, six))

-- six lines that state a marker's values are one
pub perf-read : (reply : Reply) (perf : Perf) (ending : List ℕ) → reply.code ≡ PERF_CODE → length reply.lines ≡ 6 → get_or reply.lines 0 [] ≡ codes "Perf Marker" → get_or reply.lines 5 [] ≡ codes "End" ++ ending → States (codes "Timestamp:") IsTimestamp (get_or reply.lines 1 []) perf.tenths → States (codes "Stripe Index:") IsShortNumber (get_or reply.lines 2 []) perf.stripe → States (codes "Stripe Bytes Transferred:") IsNumber (get_or reply.lines 3 []) perf.bytes → States (codes "Total Stripe Count:") IsShortNumber (get_or reply.lines 4 []) perf.stripes → IsPerfMarker reply perf
perf-read reply perf ending code six name end tenths stripe bytes stripes = record {
  timestamp = get_or reply.lines 1 [];
  index = get_or reply.lines 2 [];
  transferred = get_or reply.lines 3 [];
  count = get_or reply.lines 4 [];
  ending = ending;
  code = code;
  lines =
      let with_ends : List ℕ → List ℕ → List (List ℕ) = λ first last. first ∷ get_or reply.lines 1 [] ∷ get_or reply.lines 2 [] ∷ get_or reply.lines 3 [] ∷ get_or reply.lines 4 [] ∷ last ∷ [] in
      six_lines reply.lines six ∙ ap (λ (first : List ℕ). with_ends first (get_or reply.lines 5 [])) name ∙ ap (with_ends (codes "Perf Marker")) end;
  tenths = tenths;
  stripe = stripe;
  bytes = bytes;
  stripes = stripes;
}
