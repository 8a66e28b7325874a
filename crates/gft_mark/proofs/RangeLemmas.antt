-- Restart markers.
use Rattle.std.proofs.Common.{◌≡◌, ℕ, ◌+◌, ◌*◌, ◌<◌, ◌≤◌, eqb, false, List, [], ◌∷◌, ◌++◌, length, length-append, get_or, refl, sym, ap, subst, inl, inr, ◌∙◌, lit<, arith}
use Rattle.std.specs.Prelude.{codes}
use Rattle.std.proofs.lemmas.List.{append_cancel_left}
use Rattle.gft_range.specs.declared.Range.{Range}
use Rattle.std.specs.List.{AllByRecursion, AllZip, join_with_byte}
use Rattle.std.proofs.lemmas.List.Elements.{All-append, All-cons, All-nil}
use Rattle.std.proofs.lemmas.List.Splits.{join_with_byte-slice_split}
use Rattle.gft_base.specs.Words.{IsNumber, Lacks, comma, dash, line_feed, parts_at}
use Rattle.gft_base.proofs.Lemmas.{digits_apart, AllZip-length}
use Rattle.gft_range.specs.Words.{IsItem, IsList, items_of}
use Rattle.gft_range.proofs.Lemmas.{IsList-one}
use Rattle.gft_reply.specs.declared.Reply.{Reply}
use Rattle.gft_reply.specs.Words.{FitsReply}
use Rattle.gft_reply.proofs.Lemmas.{FitsReply-short}
use Rattle.gft_text.proofs.Lemmas.{literal_lacks}
use Rattle.gft_mark.specs.declared.TheConstants.{RANGE_CODE}
use Rattle.gft_mark.specs.Markers.{IsRangeMarker}

-- no reply is two restart markers
pub IsRangeMarker-one : (reply : Reply) (a b : List Range) → IsRangeMarker reply a → IsRangeMarker reply b → a ≡ b
IsRangeMarker-one reply a b is_a is_b =
    let same = sym is_a.lines ∙ is_b.lines in
    let list : is_a.list ≡ is_b.list = cc in
    let P : List ℕ → Type 0 = λ text. IsList text a in
    IsList-one is_b.list a b (subst P list is_a.read) is_b.read

-- ---- what is read

-- the line of a restart marker
marker_line : (reply : Reply) (ranges : List Range) (is : IsRangeMarker reply ranges) → get_or reply.lines 0 [] ≡ codes "Range Marker " ++ is.list
marker_line reply ranges is = ap (λ (lines : List (List ℕ)). get_or lines 0 []) is.lines

-- a line without the name is no restart marker
pub range-unnamed : (reply : Reply) → ((rest : List ℕ) → ¬ (get_or reply.lines 0 [] ≡ codes "Range Marker " ++ rest)) → (ranges : List Range) → ¬ IsRangeMarker reply ranges
range-unnamed reply none ranges is = none is.list (marker_line reply ranges is)

-- what stands behind the name is the list
pub range-list : (reply : Reply) (text : List ℕ) (ranges : List Range) → get_or reply.lines 0 [] ≡ codes "Range Marker " ++ text → IsRangeMarker reply ranges → IsList text ranges
range-list reply text ranges line is =
    let same = append_cancel_left (codes "Range Marker ") is.list text (sym (marker_line reply ranges is) ∙ line) in
    let P : List ℕ → Type 0 = λ list. IsList list ranges in
    subst P same is.read

-- a list of no offset is no restart marker
pub range-empty : (reply : Reply) (text : List ℕ) (set : List Range) → get_or reply.lines 0 [] ≡ codes "Range Marker " ++ text → IsList text set → length set ≡ 0 → (ranges : List Range) → ¬ IsRangeMarker reply ranges
range-empty reply text set line list none ranges is =
    let same = IsList-one text ranges set (range-list reply text ranges line is) list in
    omega (arith, is.some, ap length same)

one_line : (lines : List (List ℕ)) → length lines ≡ 1 → lines ≡ get_or lines 0 [] ∷ []
one_line [] one = absurd (omega (arith, one))
one_line (line ∷ []) one = refl
one_line (line ∷ next ∷ lines) one = absurd (omega (arith, one))

-- one line with the name and a list is a restart marker
pub range-read : (reply : Reply) (text : List ℕ) (set : List Range) → reply.code ≡ RANGE_CODE → length reply.lines ≡ 1 → get_or reply.lines 0 [] ≡ codes "Range Marker " ++ text → IsList text set → 0 < length set → IsRangeMarker reply set
range-read reply text set code one line list some = record {
  list = text;
  code = code;
  lines = one_line reply.lines one ∙ ap (λ (x : List ℕ). x ∷ []) line;
  read = list;
  some = some;
}

-- ---- a list of ranges has a text

-- a short text without an LF
abbrev pub IsShortLine : ℕ → List ℕ → Type 0
IsShortLine most text = Lacks line_feed text × (length text ≤ most)

-- short texts joined by a separator
joined-short : (separator most : ℕ) (texts : List (List ℕ)) → eqb separator line_feed ≡ false → AllByRecursion (IsShortLine most) texts → IsShortLine (length texts * (most + 1)) (join_with_byte separator texts)
joined-short separator most [] apart short = (All-nil (λ b. eqb b line_feed ≡ false), omega arith)
joined-short separator most (text ∷ []) apart short = (short.0.0, omega (arith, short.0.1))
joined-short separator most (text ∷ next ∷ texts) apart short =
    let P : ℕ → Type 0 = λ b. eqb b line_feed ≡ false in
    let rest : List ℕ = join_with_byte separator (next ∷ texts) in
    let behind = joined-short separator most (next ∷ texts) apart short.1 in
    (All-append P text (separator ∷ rest) short.0.0 (All-cons P separator rest apart behind.0), omega (arith, length-append text (separator ∷ rest), short.0.1, behind.1))

-- where each text with a value is short, so is each of the list
zip-short : {B : Type 0} (R : List ℕ → B → Type 0) (most : ℕ) → ((text : List ℕ) (value : B) → R text value → IsShortLine most text) → (texts : List (List ℕ)) (values : List B) → AllZip R texts values → AllByRecursion (IsShortLine most) texts
zip-short R most short [] [] all = tt
zip-short R most short [] (value ∷ values) all = tt
zip-short R most short (text ∷ texts) [] all = absurd all
zip-short R most short (text ∷ texts) (value ∷ values) all = (short text value all.0, zip-short R most short texts values all.1)

-- a text whose parts have values is short
parts-short : {B : Type 0} (R : List ℕ → B → Type 0) (separator most : ℕ) (text : List ℕ) (values : List B) → eqb separator line_feed ≡ false → ((part : List ℕ) (value : B) → R part value → IsShortLine most part) → AllZip R (parts_at separator text) values → IsShortLine (length values * (most + 1)) text
parts-short R separator most text values apart short all =
    let texts = joined-short separator most (parts_at separator text) apart (zip-short R most short (parts_at separator text) values all) in
    let P : List ℕ → Type 0 = λ joined. IsShortLine (length (parts_at separator text) * (most + 1)) joined in
    let whole = subst P (join_with_byte-slice_split separator text) texts in
    let count : ℕ → Type 0 = λ n. IsShortLine (n * (most + 1)) text in
    subst count (AllZip-length R (parts_at separator text) values all) whole

number-short : (text : List ℕ) (n : ℕ) → IsNumber text n → IsShortLine 20 text
number-short text n number = (digits_apart line_feed text (lit< tt) number.digits, number.short)

item-short : (text : List ℕ) (r : Range) → IsItem text r → IsShortLine 42 text
item-short text r item = elim item [
  | inl two ↦ let all = parts-short IsNumber dash 20 text (r.start ∷ r.end ∷ []) refl number-short two.0 in (all.0, omega (arith, all.1))
  | inr one ↦ let all = parts-short IsNumber dash 20 text (r.end ∷ []) refl number-short one.0 in (all.0, omega (arith, all.1))
]

-- a text of 512 items at most
pub list-short : (text : List ℕ) (set : List Range) → IsList text set → IsShortLine 22016 text
list-short text set list =
    let all = parts-short IsItem comma 42 text list.items refl item-short list.read in
    (all.0, omega (arith, all.1, AllZip-length IsItem (items_of text) list.items list.read, list.few))

-- ---- what is written

-- the reply of this line
abbrev pub range_reply : List ℕ → Reply
range_reply list = record { code = RANGE_CODE; lines = (codes "Range Marker " ++ list) ∷ [] }

pub IsRangeMarker-written : (list : List ℕ) (ranges : List Range) → IsList list ranges → 0 < length ranges → IsRangeMarker (range_reply list) ranges
IsRangeMarker-written list ranges is some = record { list = list; code = refl; lines = refl; read = is; some = some }

-- the written marker has a text
pub FitsReply-range : (list : List ℕ) (ranges : List Range) → IsList list ranges → FitsReply (range_reply list)
FitsReply-range list ranges is =
    let short = list-short list ranges is in
    let name : List ℕ = codes "Range Marker " in
    let lacks = All-append (λ b. eqb b line_feed ≡ false) name list (literal_lacks line_feed name refl) short.0 in
    FitsReply-short (range_reply list) (omega arith) (omega arith) (omega arith) (omega arith) ((lacks, omega (arith, short.1, length-append name list)), tt)
