-- One option of RETR.
use Rattle.std.proofs.Common.{◌≡◌, ℕ, ◌<◌, ◌≤◌, ◌^◌, false, eqb, List, [], ◌∷◌, ◌++◌, codes, refl, sym, ap, ◌∙◌, arith, lit<}
use Rattle.std.specs.Fmt.{decimal}
use Rattle.std.specs.List.{AllZip}
use Rattle.std.proofs.lemmas.Bool.{ne_eqb}
use Rattle.std.proofs.lemmas.List.Elements.{All-cons}
use Rattle.gft_base.specs.Words.{parts_at, Lacks, IsNumber, AreDigits}
use Rattle.gft_base.specs.declared.TheConstants.{LIMIT}
use Rattle.gft_base.proofs.Lemmas.{part_alone, IsNumber-one, IsNumber-decimal, number_part, parts-decimals, AllZip-one}
use Rattle.gft_text.specs.Words.{folded, same_bytes, IsAbsent}
use Rattle.gft_text.specs.declared.Entry.{Entry}
use Rattle.gft_text.proofs.Lemmas.{texts_apart, literal_lacks, lacks_joined}
use Rattle.gft_opts.specs.Word.{IsWord}
use Rattle.gft_opts.specs.Setting.{IsKey, IsLayoutName, IsParallelism, IsSetting, key_in, value_in, key_of, key_text, name_text, setting_text, value_text}
use Rattle.gft_opts.specs.declared.TheConstants.{MAX_PARALLEL}
use Rattle.gft_opts.specs.declared.setting.Key.{Key}
use Rattle.gft_opts.specs.declared.setting.Key.TheVariants as keys
use Rattle.gft_opts.specs.declared.setting.LayoutName.{LayoutName}
use Rattle.gft_opts.specs.declared.setting.LayoutName.TheVariants.{Partitioned, Blocked}
use Rattle.gft_opts.specs.declared.setting.Setting.{Setting}
use Rattle.gft_opts.specs.declared.setting.Setting.TheVariants.{StripeLayout, BlockSize, Parallelism}

-- ---- what is no entry of a table

pub no_key : (text : List ℕ) (a b c : Entry) → IsAbsent (a ∷ b ∷ c ∷ []) text → a.text.now ≡ codes "StripeLayout" → b.text.now ≡ codes "BlockSize" → c.text.now ≡ codes "Parallelism" → (key : Key) → IsKey text key → ⊥
no_key text a b c none is_a is_b is_c keys.StripeLayout is = none.differ 0 a (omega arith) (ap folded is_a ∙ is)
no_key text a b c none is_a is_b is_c keys.BlockSize is = none.differ 1 a (omega arith) (ap folded is_b ∙ is)
no_key text a b c none is_a is_b is_c keys.Parallelism is = none.differ 2 a (omega arith) (ap folded is_c ∙ is)

pub no_layout_name : (text : List ℕ) (a b : Entry) → IsAbsent (a ∷ b ∷ []) text → a.text.now ≡ codes "Partitioned" → b.text.now ≡ codes "Blocked" → (name : LayoutName) → IsLayoutName text name → ⊥
no_layout_name text a b none is_a is_b Partitioned is = none.differ 0 a (omega arith) (ap folded is_a ∙ is)
no_layout_name text a b none is_a is_b Blocked is = none.differ 1 a (omega arith) (ap folded is_b ∙ is)

-- ---- start, min and max

-- the text behind the second comma is one number
last_number : (rest : List ℕ) (n : ℕ) → (parts : List (List ℕ)) → parts_at 44 rest ≡ parts → AllZip IsNumber parts (n ∷ []) → IsNumber rest n
last_number rest n [] same all = absurd all
last_number rest n (part ∷ []) same all = rw (part_alone 44 rest part same) all.0
last_number rest n (part ∷ more ∷ parts) same all = absurd all.1

pub record Three (start least most : List ℕ) (n : ℕ) : Type 0 where
  pub low : ℕ
  pub high : ℕ
  pub start_is : IsNumber start n
  pub least_is : IsNumber least low
  pub most_is : IsNumber most high
  pub some : 1 ≤ low
  pub above : low ≤ n
  pub below : n ≤ high
  pub limited : high ≤ MAX_PARALLEL

pub three_numbers : (text start a least most : List ℕ) (n : ℕ) → parts_at 44 text ≡ start ∷ parts_at 44 a → parts_at 44 a ≡ least ∷ parts_at 44 most → IsParallelism text n → Three start least most n
three_numbers text start a least most n one two is =
    let all = rw (one, two) at is.numbers in
    record {
      low = is.least;
      high = is.most;
      start_is = all.0;
      least_is = all.1.0;
      most_is = last_number most is.most (parts_at 44 most) refl all.1.1;
      some = is.some;
      above = is.above;
      below = is.below;
      limited = is.limited;
    }

pub three_read : (text start a least most : List ℕ) (n : ℕ) → parts_at 44 text ≡ start ∷ parts_at 44 a → parts_at 44 a ≡ least ∷ parts_at 44 most → Three start least most n → IsParallelism text n
three_read text start a least most n one two is = record {
  least = is.low;
  most = is.high;
  numbers = rw (one, two, number_part 44 most is.high (lit< tt) is.most_is) (is.start_is, (is.least_is, (is.most_is, tt)));
  some = is.some;
  above = is.above;
  below = is.below;
  limited = is.limited;
}

-- the numbers that were read are in order
pub three_ordered : (start least most : List ℕ) (n s l m : ℕ) → Three start least most n → IsNumber start s → IsNumber least l → IsNumber most m → (1 ≤ l) × (l ≤ s) × (s ≤ m) × (m ≤ MAX_PARALLEL)
three_ordered start least most n s l m three is_s is_l is_m =
    let start_is = IsNumber-one start n s three.start_is is_s in
    let least_is = IsNumber-one least three.low l three.least_is is_l in
    let most_is = IsNumber-one most three.high m three.most_is is_m in
    (omega (arith, three.some), omega (arith, three.above), omega (arith, three.below), omega (arith, three.limited))

-- ---- no item has two values

IsParallelism-one : (text : List ℕ) (m n : ℕ) → IsParallelism text m → IsParallelism text n → m ≡ n
IsParallelism-one text m n a b =
    let same = AllZip-one IsNumber IsNumber-one (parts_at 44 text) _ _ a.numbers b.numbers in
    cc

other_word : (v w text : List ℕ) → IsWord v text → IsWord w text → same_bytes (folded v) (folded w) ≡ false → ⊥
other_word v w text is_v is_w differ = texts_apart (folded v) (folded w) differ (is_v ∙ sym is_w)

IsLayoutName-one : (text : List ℕ) (m n : LayoutName) → IsLayoutName text m → IsLayoutName text n → m ≡ n
IsLayoutName-one text Partitioned Partitioned a b = refl
IsLayoutName-one text Partitioned Blocked a b = absurd (other_word (name_text Partitioned) (name_text Blocked) text a b refl)
IsLayoutName-one text Blocked Partitioned a b = absurd (other_word (name_text Blocked) (name_text Partitioned) text a b refl)
IsLayoutName-one text Blocked Blocked a b = refl

other_key : (item : List ℕ) (j k : Key) → IsKey (key_in item) j → IsKey (key_in item) k → same_bytes (folded (key_text j)) (folded (key_text k)) ≡ false → ⊥
other_key item j k a b differ = other_word (key_text j) (key_text k) (key_in item) a b differ

pub IsSetting-one : (item : List ℕ) (a b : Setting) → IsSetting item a → IsSetting item b → a ≡ b
IsSetting-one item (StripeLayout m) (StripeLayout n) a b = ap (λ (x : LayoutName). StripeLayout x) (IsLayoutName-one (value_in item) m n a.value b.value)
IsSetting-one item (StripeLayout m) (BlockSize n) a b = absurd (other_key item keys.StripeLayout keys.BlockSize a.key b.key refl)
IsSetting-one item (StripeLayout m) (Parallelism n) a b = absurd (other_key item keys.StripeLayout keys.Parallelism a.key b.key refl)
IsSetting-one item (BlockSize m) (StripeLayout n) a b = absurd (other_key item keys.BlockSize keys.StripeLayout a.key b.key refl)
IsSetting-one item (BlockSize m) (BlockSize n) a b = ap (λ (x : ℕ). BlockSize x) (IsNumber-one (value_in item) m n a.value.number b.value.number)
IsSetting-one item (BlockSize m) (Parallelism n) a b = absurd (other_key item keys.BlockSize keys.Parallelism a.key b.key refl)
IsSetting-one item (Parallelism m) (StripeLayout n) a b = absurd (other_key item keys.Parallelism keys.StripeLayout a.key b.key refl)
IsSetting-one item (Parallelism m) (BlockSize n) a b = absurd (other_key item keys.Parallelism keys.BlockSize a.key b.key refl)
IsSetting-one item (Parallelism m) (Parallelism n) a b = ap (λ (x : ℕ). Parallelism x) (IsParallelism-one (value_in item) m n a.value b.value)

-- ---- what is written is read again

-- the values that can be written
abbrev pub FitsSetting : Setting → Type 0
FitsSetting (StripeLayout name) = Unit {0}
FitsSetting (BlockSize block) = (1 ≤ block) × (block ≤ LIMIT)
FitsSetting (Parallelism start) = (1 ≤ start) × (start ≤ MAX_PARALLEL)

pub setting_fits : (item : List ℕ) (setting : Setting) → IsSetting item setting → FitsSetting setting
setting_fits item (StripeLayout name) is = tt
setting_fits item (BlockSize block) is = (is.value.some, is.value.limited)
setting_fits item (Parallelism start) is = (omega (arith, is.value.some, is.value.above), omega (arith, is.value.below, is.value.limited))

pub setting_written : (setting : Setting) → FitsSetting setting → IsSetting (setting_text setting) setting
setting_written (StripeLayout Partitioned) fits = record { key = refl; value = refl }
setting_written (StripeLayout Blocked) fits = record { key = refl; value = refl }
setting_written (BlockSize block) fits = record {
  key = refl;
  value = record { number = IsNumber-decimal block (omega (arith, fits.1)); some = fits.0; limited = fits.1 };
}
setting_written (Parallelism start) fits =
    let small : start < 2 ^ 64 = omega (arith, fits.1) in
    let number = IsNumber-decimal start small in
    record {
      key = refl;
      value = record {
        least = start;
        most = start;
        numbers = parts-decimals IsNumber 44 (lit< tt) start (start ∷ start ∷ []) ((small, number), ((small, number), ((small, number), tt)));
        some = fits.0;
        above = omega arith;
        below = omega arith;
        limited = fits.1;
      };
    }

-- no digit is a semicolon, which is above them
digits_below : (bs : List ℕ) → AreDigits bs → Lacks 59 bs
digits_below [] digits = λ k d lt. absurd (omega (arith, lt))
digits_below (b ∷ bs) digits = All-cons (λ x. eqb x 59 ≡ false) b bs (ne_eqb b 59 (omega (arith, digits.1))) (digits_below bs digits.2)

value_lacks : (setting : Setting) → FitsSetting setting → Lacks 59 (value_text setting)
value_lacks (StripeLayout Partitioned) fits = literal_lacks 59 (codes "Partitioned") refl
value_lacks (StripeLayout Blocked) fits = literal_lacks 59 (codes "Blocked") refl
value_lacks (BlockSize block) fits = digits_below (decimal block) (IsNumber-decimal block (omega (arith, fits.1))).digits
value_lacks (Parallelism start) fits =
    let digits = digits_below (decimal start) (IsNumber-decimal start (omega (arith, fits.1))).digits in
    lacks_joined 59 44 (decimal start) (decimal start ++ 44 ∷ decimal start) refl digits (lacks_joined 59 44 (decimal start) (decimal start) refl digits digits)

key_lacks : (key : Key) → Lacks 59 (key_text key)
key_lacks keys.StripeLayout = literal_lacks 59 (codes "StripeLayout") refl
key_lacks keys.BlockSize = literal_lacks 59 (codes "BlockSize") refl
key_lacks keys.Parallelism = literal_lacks 59 (codes "Parallelism") refl

pub setting_lacks : (setting : Setting) → FitsSetting setting → Lacks 59 (setting_text setting)
setting_lacks setting fits = lacks_joined 59 61 (key_text (key_of setting)) (value_text setting) refl (key_lacks (key_of setting)) (value_lacks setting fits)
