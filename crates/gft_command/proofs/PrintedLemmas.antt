-- What a grammar takes without bytes of its own is short, and printable.
use Rattle.std.proofs.Common.{◌≡◌, ℕ, ◌+◌, ◌*◌, ◌/◌, ◌%◌, ◌<◌, ◌≤◌, ◌^◌, Bool, true, false, eqb, ltb, ◌&&◌, Option, Some, None, List, [], ◌∷◌, ◌++◌, length, length-append, append_assoc, append-nil, refl, ap, subst, arith, lit<, lit≤, codes, inl, inr}
use Rattle.std.specs.List.{All, AllPass, AllZip, list_all, join_with_byte, before_first}
use Rattle.std.proofs.lemmas.Bool.{and_from, lt-ltb, ne_eqb}
use Rattle.std.proofs.lemmas.List.Elements.{All-append, All-cons, All-nil}
use Rattle.std.proofs.lemmas.List.Splits.{join_with_byte-slice_split}
use Rattle.gft_base.specs.Words.{AreDigits, IsNumber, parts_at}
use Rattle.std.proofs.lemmas.List.{take_all}
use Rattle.gft_base.proofs.Lemmas.{IsNumber-decimal, digits_apart, place_none, position-none_from, AllZip-length}
use Rattle.gft_range.specs.declared.Range.{Range}
use Rattle.gft_range.specs.Words.{AreDashed, IsItem, IsList, items_of}
use Rattle.gft_text.specs.Words.{IsByte, IsHostPort}
use Rattle.gft_text.specs.declared.HostPort.{HostPort}
use Rattle.std.specs.Fmt.{decimal}
use Rattle.std.proofs.lemmas.List.Sums.{AllPass-from_list_all}
use Rattle.gft_base.specs.declared.TheConstants.{LIMIT}
use Rattle.gft_layout.specs.declared.Layout.{Layout}
use Rattle.gft_layout.specs.declared.Layout.TheVariants as layouts
use Rattle.gft_opts.specs.Words.{FitsLayout, FitsParallel, FitsRetr, layout_settings, parallel_settings, retr_text, settings_text, IsTargets}
use Rattle.gft_opts.specs.declared.RetrOptions.{RetrOptions}
use Rattle.gft_opts.specs.declared.TheConstants.{MAX_PARALLEL}
use Rattle.gft_command.specs.Parameters.{FitsALine, options_text}
use Rattle.gft_command.proofs.TelnetLemmas.{doubled-plain}

-- a space, or a byte of ASCII that is seen
abbrev pub is_print : ℕ → Bool
is_print b = ltb 31 b && ltb b 127

abbrev pub IsPrinted : List ℕ → Type 0
IsPrinted text = AllPass is_print text

-- no such byte is one that isn't
pub printed_apart : (c : ℕ) (text : List ℕ) → is_print c ≡ false → IsPrinted text → All (λ b. eqb b c ≡ false) text
printed_apart c text apart printed = λ k d lt. ne_eqb _ c (other _ (printed k d lt)) where
  other : (x : ℕ) → is_print x ≡ true → x ≡ c → ⊥
  other x seen same = cc (ap is_print same, seen, apart)

-- printed, and of at most so many bytes
pub record IsBrief (text : List ℕ) (most : ℕ) : Type 0 where
  pub printed : IsPrinted text
  pub len : length text ≤ most

pub brief_short : (text : List ℕ) (most : ℕ) → IsBrief text most → most ≤ 30000 → FitsALine text
brief_short text most brief few =
    let same = doubled-plain text (printed_apart 255 text refl brief.printed) in
    (printed_apart 10 text refl brief.printed, omega (arith, ap length same, brief.len))

digits_printed : (text : List ℕ) → AreDigits text → IsPrinted text
digits_printed [] digits = All-nil (λ b. is_print b ≡ true)
digits_printed (b ∷ bs) digits =
    All-cons (λ x. is_print x ≡ true) b bs (and_from _ _ (lt-ltb 31 b (omega (arith, digits.0))) (lt-ltb b 127 (omega (arith, digits.1)))) (digits_printed bs digits.2)

pub number_brief : (text : List ℕ) (n : ℕ) → IsNumber text n → IsBrief text 20
number_brief text n number = record { printed = digits_printed text number.digits; len = number.short }

-- parts with a separator between them
parts_brief : {V : Type 0} (R : List ℕ → V → Type 0) (m c : ℕ) → is_print c ≡ true → ((t : List ℕ) (v : V) → R t v → IsBrief t m) → (parts : List (List ℕ)) (vs : List V) → AllZip R parts vs → IsBrief (join_with_byte c parts) ((m + 1) * length vs)
parts_brief R m c seen each [] [] all = record { printed = All-nil (λ b. is_print b ≡ true); len = omega arith }
parts_brief R m c seen each [] (v ∷ vs) all = absurd all
parts_brief R m c seen each (p ∷ parts) [] all = absurd all
parts_brief R m c seen each (p ∷ []) (v ∷ []) all =
    let brief = each p v all.0 in
    record { printed = brief.printed; len = omega (arith, brief.len) }
parts_brief R m c seen each (p ∷ []) (v ∷ w ∷ vs) all = absurd all.1
parts_brief R m c seen each (p ∷ q ∷ parts) (v ∷ []) all = absurd all.1
parts_brief R m c seen each (p ∷ q ∷ parts) (v ∷ w ∷ vs) all =
    let brief = each p v all.0 in
    let rest = parts_brief R m c seen each (q ∷ parts) (w ∷ vs) all.1 in
    let joined : List ℕ = join_with_byte c (q ∷ parts) in
    record {
      printed = All-append (λ b. is_print b ≡ true) p (c ∷ joined) brief.printed (All-cons (λ b. is_print b ≡ true) c joined seen rest.printed);
      len = omega (arith, brief.len, rest.len, length-append p (c ∷ joined));
    }

pub text_brief : {V : Type 0} (R : List ℕ → V → Type 0) (m c : ℕ) → is_print c ≡ true → ((t : List ℕ) (v : V) → R t v → IsBrief t m) → (text : List ℕ) (vs : List V) → AllZip R (parts_at c text) vs → IsBrief text ((m + 1) * length vs)
text_brief R m c seen each text vs all =
    let brief = parts_brief R m c seen each (parts_at c text) vs all in
    let P : List ℕ → Type 0 = λ t. IsBrief t ((m + 1) * length vs) in
    subst P (join_with_byte-slice_split c text) brief

pub host_port_brief : (text : List ℕ) (at : HostPort) → IsHostPort text at → IsBrief text 126
host_port_brief text at is =
    let brief = text_brief IsByte 20 44 refl (λ t v byte. number_brief t v byte.number) text _ is.numbers in
    record { printed = brief.printed; len = omega (arith, brief.len, is.host, length-append at.host (at.port / 256 ∷ at.port % 256 ∷ [])) }

-- a number stands before the first space, all of it
pub leads : (text : List ℕ) (n : ℕ) → IsNumber text n → IsNumber (before_first (λ b. eqb b 32) text) n
leads text n number =
    let apart = digits_apart 32 text (lit< tt) number.digits in
    let place = place_none (λ b. eqb b 32) text (position-none_from (λ b. eqb b 32) text apart) in
    rw (place, take_all (length text) text (omega arith)) number

dashed_brief : (text : List ℕ) (ns : List ℕ) → AreDashed text ns → IsBrief text (21 * length ns)
dashed_brief text ns dashed = text_brief IsNumber 20 45 refl number_brief text ns dashed

item_brief : (text : List ℕ) (r : Range) → IsItem text r → IsBrief text 42
item_brief text r is = elim is [
  | inl two ↦ dashed_brief text (r.start ∷ r.end ∷ []) two.0
  | inr one ↦ let brief = dashed_brief text (r.end ∷ []) one.0 in record { printed = brief.printed; len = omega (arith, brief.len) }
]

pub list_brief : (text : List ℕ) (set : List Range) → IsList text set → IsBrief text 22016
list_brief text set is =
    let brief = text_brief IsItem 42 44 refl item_brief text is.items is.read in
    record { printed = brief.printed; len = omega (arith, brief.len, is.few, AllZip-length IsItem (items_of text) is.items is.read) }

-- ---- what is written of options

brief_append : (a b : List ℕ) (m n : ℕ) → IsBrief a m → IsBrief b n → IsBrief (a ++ b) (m + n)
brief_append a b m n of_a of_b = record {
  printed = All-append (λ x. is_print x ≡ true) a b of_a.printed of_b.printed;
  len = omega (arith, of_a.len, of_b.len, length-append a b);
}

-- a text that is known
known_brief : (text : List ℕ) (m : ℕ) → list_all is_print text ≡ true → length text ≤ m → IsBrief text m
known_brief text m seen few = record { printed = AllPass-from_list_all is_print text seen; len = few }

decimal_brief : (n : ℕ) → n < 2 ^ 64 → IsBrief (decimal n) 20
decimal_brief n fits = number_brief (decimal n) n (IsNumber-decimal n fits)

start_brief : (start : ℕ) → start ≤ MAX_PARALLEL → IsBrief (codes "Parallelism=" ++ (decimal start ++ 44 ∷ (decimal start ++ 44 ∷ (decimal start ++ 59 ∷ [])))) 90
start_brief start most =
    let number = decimal_brief start (omega (arith, most)) in
    let comma = known_brief (44 ∷ []) 1 refl (lit≤ tt) in
    let one = brief_append (decimal start) (59 ∷ []) 20 1 number (known_brief _ 1 refl (lit≤ tt)) in
    let two = brief_append (decimal start) (44 ∷ (decimal start ++ 59 ∷ [])) 20 22 number (brief_append (44 ∷ []) _ 1 21 comma one) in
    let three = brief_append (decimal start) (44 ∷ (decimal start ++ 44 ∷ (decimal start ++ 59 ∷ []))) 20 43 number (brief_append (44 ∷ []) _ 1 42 comma two) in
    brief_append (codes "Parallelism=") _ 27 63 (known_brief _ 27 refl (lit≤ tt)) three

block_brief : (block : ℕ) → block ≤ LIMIT → IsBrief (codes "StripeLayout=Blocked;BlockSize=" ++ (decimal block ++ 59 ∷ [])) 70
block_brief block most =
    brief_append (codes "StripeLayout=Blocked;BlockSize=") (decimal block ++ 59 ∷ []) 40 30 (known_brief _ 40 refl (lit≤ tt)) (brief_append (decimal block) (59 ∷ []) 20 10 (decimal_brief block (omega (arith, most))) (known_brief _ 10 refl (lit≤ tt)))

layout_brief : (layout : Option Layout) → FitsLayout layout → IsBrief (settings_text (layout_settings layout)) 70
layout_brief None fits = known_brief [] 70 refl (lit≤ tt)
layout_brief (Some layouts.Partitioned) fits = known_brief _ 70 refl (lit≤ tt)
layout_brief (Some (layouts.Blocked block)) fits = simp (append_assoc, append-nil) (block_brief block fits.1)

parallel_brief : (parallel : Option ℕ) → FitsParallel parallel → IsBrief (settings_text (parallel_settings parallel)) 90
parallel_brief None fits = known_brief [] 90 refl (lit≤ tt)
parallel_brief (Some start) fits = simp (append_assoc, append-nil) (start_brief start fits.1)

pub options_brief : (options : RetrOptions) → FitsRetr options → IsBrief (options_text options) 200
options_brief options fits =
    brief_append (codes "RETR ") (retr_text options) 40 160 (known_brief _ 40 refl (lit≤ tt)) (brief_append _ _ 70 90 (layout_brief options.layout fits.layout) (parallel_brief options.parallel fits.parallel))

pub targets_brief : (text : List ℕ) (targets : List HostPort) → IsTargets text targets → IsBrief text 2032
targets_brief text targets is =
    let brief = text_brief IsHostPort 126 32 refl host_port_brief text targets is.read in
    record { printed = brief.printed; len = omega (arith, brief.len, is.few) }
