-- Lists of ranges in text: their items, one value for each, and what is written.
use Rattle.std.proofs.Common.{◌≡◌, ℕ, ◌+◌, ◌-◌, ◌<◌, ◌^◌, eqb, false, ◌≤◌, ◌⊎◌, ◌↔◌, List, [], ◌∷◌, ◌++◌, length, inl, inr, arith, refl, sym, subst, append_assoc, Option, Some, None, IfSome, ◌∙◌, lit<}
use Rattle.std.specs.List.{AllZip, All, AllByRecursion, flat_map, sum_by}
use Rattle.std.specs.Fmt.{decimal}
use Rattle.std.proofs.lemmas.Fmt.{decimal_digit}
use Rattle.std.proofs.lemmas.List.Elements.{All-cons, All-append}
use Rattle.std.proofs.lemmas.List.Splits.{slice_split_none}
use Rattle.std.proofs.lemmas.List.Sums.{sum_by_push}
use Rattle.std.proofs.lemmas.List.{append-nil}
use Rattle.gft_base.specs.Words.{IsNumber, comma, dash, digit_zero, parts_at, parts_left}
use Rattle.gft_base.proofs.Lemmas.{part_alone, parts_some, parts_length, parts_join, number_part, IsNumber-one, IsNumber-decimal, digits_apart, AllZip-push, AllZip-one, AllZip-length, AllZip-middle}
use Rattle.gft_range.specs.declared.TheConstants.{MAX_ITEMS}
use Rattle.gft_range.specs.declared.range.Range.{Range}
use Rattle.gft_range.specs.Range.{InRange, HasOffset}
use Rattle.gft_range.specs.Normal.{IsNormal}
use Rattle.gft_range.specs.ListText.{AreDashed, IsItem, IsList, FirstBadAt, FitRanges, items_of, item_text, list_text}
use Rattle.gft_range.specs.Adding.{AddsItems}
use Rattle.gft_range.proofs.NormalLemmas.{one_list, same_range}
use Rattle.gft_range.proofs.OffsetLemmas.{HasOffset-append}
use Rattle.gft_range.proofs.UnionLemmas.{normal_few}

-- ---- one item

-- the parts of the text behind the dash are one number exactly where the text is it
rest_number : (rest : List ℕ) (parts : List (List ℕ)) (n : ℕ) → parts_at dash rest ≡ parts → AllZip IsNumber parts (n ∷ []) → IsNumber rest n
rest_number rest [] n same all = absurd all
rest_number rest (part ∷ []) n same all = rw (part_alone dash rest part same) all.0
rest_number rest (part ∷ more ∷ parts) n same all = absurd all.1

-- an item with a dash names from the number before it to the one behind it
pub dashed_two : (text first rest : List ℕ) (r : Range) → parts_at dash text ≡ first ∷ parts_at dash rest → IsItem text r → IsNumber first r.start × IsNumber rest r.end × (r.start ≤ r.end)
dashed_two text first rest r same item = elim item [
  | inl two ↦ let all = rw same at two.0 in (all.0, rest_number rest _ r.end refl all.1, two.1)
  | inr one ↦ let all = rw same at one.0 in absurd (none_left (parts_at dash rest) (parts_some 45 rest) all.1)
] where
  none_left : (parts : List (List ℕ)) → 0 < length parts → AllZip IsNumber parts [] → ⊥
  none_left [] some all = omega (arith, some)
  none_left (part ∷ parts) some all = all

pub dashed_item : (text first rest : List ℕ) (r : Range) → parts_at dash text ≡ first ∷ parts_at dash rest → IsNumber first r.start → IsNumber rest r.end → r.start ≤ r.end → IsItem text r
dashed_item text first rest r same start end ordered =
    inl (rw (same, number_part dash rest r.end (lit< tt) end) (start, (end, tt)), ordered)

-- ---- the items of a text, added to a set

-- the text's items so far are done, and the set has their offsets too
pub record Adding (text : List ℕ) (old : List Range) (rest : Option (List ℕ)) (now : List Range) : Type 0 where
  pub done : List (List ℕ)
  pub items : List Range
  pub parts : items_of text ≡ done ++ parts_left comma rest
  pub read : AllZip IsItem done items
  pub normal : IsNormal now
  pub offsets : (x : ℕ) → HasOffset now x ↔ (HasOffset old x ⊎ HasOffset items x)
  pub place : IfSome rest (λ left. length text ≡ sum_by (λ item. length item + 1) done + length left)

pub adding_none : (text : List ℕ) (old : List Range) → IsNormal old → Adding text old (Some text) old
adding_none text old normal = record {
  done = [];
  items = [];
  parts = refl;
  read = tt;
  normal = normal;
  offsets = λ x. (λ h. inl h, λ h. elim h [ inl in_old ↦ in_old | inr none ↦ absurd none ]);
  place = omega arith;
}

place_more : (text left item : List ℕ) (done : List (List ℕ)) → length text ≡ sum_by (λ item. length item + 1) done + length left → (after : Option (List ℕ)) → items_of left ≡ item ∷ parts_left comma after → IfSome after (λ left. length text ≡ sum_by (λ item. length item + 1) (done ++ item ∷ []) + length left)
place_more text left item done place None cut = tt
place_more text left item done place (Some rest) cut =
    omega (arith, parts_length comma left item rest cut, sum_by_push (λ (item : List ℕ). length item + 1) done item)

offsets_more : (old now new items : List Range) (r : Range) → ((x : ℕ) → HasOffset now x ↔ (HasOffset old x ⊎ HasOffset items x)) → ((x : ℕ) → HasOffset new x ↔ (HasOffset now x ⊎ InRange r x)) → (x : ℕ) → HasOffset new x ↔ (HasOffset old x ⊎ HasOffset (items ++ r ∷ []) x)
offsets_more old now new items r kept union x =
    let more = HasOffset-append items (r ∷ []) x in (
      λ h. elim ((union x).0 h) [
        | inl in_now ↦ elim ((kept x).0 in_now) [ inl in_old ↦ inl in_old | inr in_items ↦ inr (more.1 (inl in_items)) ]
        | inr in_r ↦ inr (more.1 (inr (inl in_r)))
      ],
      λ h. elim h [
        | inl in_old ↦ (union x).1 (inl ((kept x).1 (inl in_old)))
        | inr in_more ↦ elim (more.0 in_more) [
          | inl in_items ↦ (union x).1 (inl ((kept x).1 (inr in_items)))
          | inr last ↦ elim last [ inl in_r ↦ (union x).1 (inr in_r) | inr none ↦ absurd none ]
        ]
      ],
    )

pub adding_more : (text : List ℕ) (old now new : List Range) (left item : List ℕ) (after : Option (List ℕ)) (r : Range) → Adding text old (Some left) now → items_of left ≡ item ∷ parts_left comma after → IsItem item r → IsNormal new → ((x : ℕ) → HasOffset new x ↔ (HasOffset now x ⊎ InRange r x)) → Adding text old after new
adding_more text old now new left item after r kept cut is normal union = record {
  done = kept.done ++ item ∷ [];
  items = kept.items ++ r ∷ [];
  parts = simp append_assoc (rw cut at kept.parts);
  read = AllZip-push IsItem kept.done kept.items item r kept.read is;
  normal = normal;
  offsets = offsets_more old now new kept.items r kept.offsets union;
  place = place_more text left item kept.done kept.place after cut;
}

pub adding_bad : (text : List ℕ) (old now : List Range) (left item : List ℕ) (after : Option (List ℕ)) → Adding text old (Some left) now → items_of left ≡ item ∷ parts_left comma after → ((r : Range) → IsItem item r → ⊥) → FirstBadAt text (length text - length left)
adding_bad text old now left item after kept cut ill = record {
  front = kept.done;
  bad = item;
  behind = parts_left comma after;
  parts = rw cut at kept.parts;
  read = (kept.items, kept.read);
  ill = ill;
  place = omega (arith, kept.place);
}

pub adding_all : (text : List ℕ) (old now : List Range) → Adding text old None now → AddsItems old text now
adding_all text old now kept = record {
  items = kept.items;
  read = rw (kept.parts, append-nil) kept.read;
  normal = kept.normal;
  offsets = kept.offsets;
}

-- ---- one value

one_dashed : (text ms ns : List ℕ) → AreDashed text ms → AreDashed text ns → ms ≡ ns
one_dashed text ms ns a b = AllZip-one IsNumber IsNumber-one (parts_at dash text) ms ns a b

IsItem-one : (text : List ℕ) (r s : Range) → IsItem text r → IsItem text s → r ≡ s
IsItem-one text r s a b = elim a [
  | inl a_two ↦ elim b [
    | inl b_two ↦ let same = one_dashed text _ _ a_two.0 b_two.0 in
        let start : r.start ≡ s.start = cc in
        let end : r.end ≡ s.end = cc in
        same_range r s start end
    | inr b_one ↦ let same = one_dashed text _ _ a_two.0 b_one.0 in cc
  ]
  | inr a_one ↦ elim b [
    | inl b_two ↦ let same = one_dashed text _ _ a_one.0 b_two.0 in cc
    | inr b_one ↦ let same = one_dashed text _ _ a_one.0 b_one.0 in
        let start : r.start ≡ s.start = a_one.1 ∙ sym b_one.1 in
        let end : r.end ≡ s.end = cc in
        same_range r s start end
  ]
]

-- no text names two sets
pub IsList-one : (text : List ℕ) (a b : List Range) → IsList text a → IsList text b → a ≡ b
IsList-one text a b is_a is_b =
    let same = AllZip-one IsItem IsItem-one (items_of text) is_a.items is_b.items is_a.read is_b.read in
    let P : List Range → Type 0 = λ items. (x : ℕ) → HasOffset a x ↔ HasOffset items x in
    let both = subst P same is_a.offsets in
    one_list a b is_a.normal is_b.normal (λ x. (λ h. (is_b.offsets x).1 ((both x).0 h), λ h. (both x).1 ((is_b.offsets x).0 h)))

-- the items are few, and so are the ranges of their set
pub IsList-few : (text : List ℕ) (set : List Range) → IsList text set → length set ≤ MAX_ITEMS
IsList-few text set is =
    omega (arith, is.few, AllZip-length IsItem (items_of text) is.items is.read, normal_few set is.items is.normal is.offsets)

-- ---- what is written is read again

range_dashed : (r : Range) → r.start < 2 ^ 64 → r.end < 2 ^ 64 → parts_at dash (item_text r) ≡ decimal r.start ∷ parts_at dash (decimal r.end)
range_dashed r start end = parts_join dash (decimal r.start) (decimal r.end) (digits_apart dash (decimal r.start) (lit< tt) (IsNumber-decimal r.start start).digits)

range_item : (r : Range) → r.start < 2 ^ 64 → r.end < 2 ^ 64 → r.start ≤ r.end → IsItem (item_text r) r
range_item r start end ordered = dashed_item (item_text r) (decimal r.start) (decimal r.end) r (range_dashed r start end) (IsNumber-decimal r.start start) (IsNumber-decimal r.end end) ordered

range_apart : (r : Range) → r.start < 2 ^ 64 → r.end < 2 ^ 64 → All (λ b. eqb b comma ≡ false) (item_text r)
range_apart r start end = All-append (λ b. eqb b comma ≡ false) (decimal r.start) (dash ∷ decimal r.end) (digits_apart comma (decimal r.start) (lit< tt) (IsNumber-decimal r.start start).digits) (All-cons (λ b. eqb b comma ≡ false) dash (decimal r.end) refl (digits_apart comma (decimal r.end) (lit< tt) (IsNumber-decimal r.end end).digits))

-- each range is an item of the text
items-text : (r : Range) (rs : List Range) → AllByRecursion (λ r. r.start ≤ r.end) (r ∷ rs) → FitRanges (r ∷ rs) → AllZip IsItem (items_of (item_text r ++ flat_map (λ q. comma ∷ item_text q) rs)) (r ∷ rs)
items-text r [] ordered fit =
    rw (append-nil, slice_split_none (λ b. eqb b comma) (item_text r) (range_apart r fit.0.0 fit.0.1)) (range_item r fit.0.0 fit.0.1 ordered.0, tt)
items-text r (q ∷ rs) ordered fit =
    rw (parts_join comma (item_text r) (item_text q ++ flat_map (λ q. comma ∷ item_text q) rs) (range_apart r fit.0.0 fit.0.1)) (range_item r fit.0.0 fit.0.1 ordered.0, items-text q rs ordered.1 fit.1)

pub FitRanges-push : (rs : List Range) (r : Range) → FitRanges rs → r.start < 2 ^ 64 → r.end < 2 ^ 64 → FitRanges (rs ++ r ∷ [])
FitRanges-push [] r fit start end = ((start, end), tt)
FitRanges-push (q ∷ rs) r fit start end = (fit.0, FitRanges-push rs r fit.1 start end)

ordered_ranges : (rs : List Range) → IsNormal rs → AllByRecursion (λ r. r.start ≤ r.end) rs
ordered_ranges [] normal = tt
ordered_ranges (r ∷ rs) normal = (omega (arith, normal.0), ordered_ranges rs normal.2)

zero_text : item_text (record { start = 0; end = 0 }) ++ [] ≡ digit_zero ∷ dash ∷ digit_zero ∷ []
zero_text = rw (decimal_digit 0 (lit< tt)) refl

pub IsList-text : (rs : List Range) → IsNormal rs → FitRanges rs → length rs ≤ MAX_ITEMS → IsList (list_text rs) rs
IsList-text [] normal fit few =
    let none : Range = record { start = 0; end = 0 } in
    let read = rw zero_text at (items-text none [] (omega arith, tt) ((omega arith, omega arith), tt)) in
    record {
      items = none ∷ [];
      read = read;
      few = omega (arith, AllZip-length IsItem (items_of (list_text [])) (none ∷ []) read);
      normal = tt;
      offsets = λ x. (λ h. absurd h, λ h. elim h [ inl in_none ↦ absurd (omega arith) | inr none_left ↦ none_left ]);
    }
IsList-text (r ∷ rs) normal fit few =
    let read = items-text r rs (ordered_ranges (r ∷ rs) normal) fit in
    record {
      items = r ∷ rs;
      read = read;
      few = omega (arith, AllZip-length IsItem _ _ read);
      normal = normal;
      offsets = λ x. (λ h. h, λ h. h);
    }

-- ---- what is refused is no list

pub no_list_many : (text : List ℕ) → MAX_ITEMS < length (items_of text) → (set : List Range) → IsList text set → ⊥
no_list_many text many set is = omega (arith, is.few)

pub no_list_bad : (text : List ℕ) (at : ℕ) → FirstBadAt text at → (set : List Range) → IsList text set → ⊥
no_list_bad text at bad set is =
    let found = AllZip-middle IsItem bad.front bad.bad bad.behind is.items (rw bad.parts at is.read) in
    bad.ill found.0 found.1
