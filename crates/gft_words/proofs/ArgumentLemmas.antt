-- What words give: no words give two lists.
use Rattle.std.proofs.Common.{◌≡◌, ℕ, eqb, ◌<◌, List, [], ◌∷◌, ◌++◌, length, inl, inr, refl, sym, ap, ◌∙◌, arith}
use Rattle.std.specs.Prelude.{MatchOption, Option, Some, None, String, string_bytes}
use Rattle.std.specs.declared.alloc.Global.{Global}
use Rattle.std.specs.List.{join_with_byte}
use Rattle.std.proofs.lemmas.List.{append-nil, length-map}
use Rattle.std.proofs.lemmas.List.Splits.{join_with_byte-slice_split}
use Rattle.gft_base.specs.Words.{Lacks, parts_at}
use Rattle.gft_base.proofs.Lemmas.{parts_alone, parts_join, parts_some, position-none_from}
use Rattle.gft_words.specs.Arguments.{Begins, Given, Gives, IsApart, IsJoined, IsKeyed, IsPlain, Keyed, Positional, texts}

-- a part, its separator and the rest make up the text
pub joined : (c : ℕ) (text part rest : List ℕ) → parts_at c text ≡ part ∷ parts_at c rest → text ≡ part ++ c ∷ rest
joined c text part rest same = sym (join_with_byte-slice_split c text) ∙ ap (join_with_byte c) same ∙ whole (parts_at c rest) (parts_some c rest) (join_with_byte-slice_split c rest) where
  whole : (parts : List (List ℕ)) → 0 < length parts → join_with_byte c parts ≡ rest → join_with_byte c (part ∷ parts) ≡ part ++ c ∷ rest
  whole [] some is = absurd (omega (arith, some))
  whole (next ∷ parts) some is = ap (λ (x : List ℕ). part ++ c ∷ x) is

one_part : (text : List ℕ) → Lacks 61 text → parts_at 61 text ≡ text ∷ []
one_part text lacks = parts_alone 61 text (position-none_from (λ b. eqb b 61) text lacks)

joined_parts : (option key value : List ℕ) (behind rest : List (List ℕ)) → Lacks 61 key → IsJoined option key value behind rest → parts_at 61 option ≡ key ∷ parts_at 61 value
joined_parts option key value behind rest lacks form = ap (parts_at 61) form.spelt ∙ parts_join 61 key value lacks

apart_parts : (option key value : List ℕ) (behind rest : List (List ℕ)) → Lacks 61 key → IsApart option key value behind rest → parts_at 61 option ≡ key ∷ []
apart_parts option key value behind rest lacks form = ap (parts_at 61) form.spelt ∙ one_part key lacks

same_whole : (v w : List ℕ) → parts_at 61 v ≡ parts_at 61 w → v ≡ w
same_whole v w same = sym (join_with_byte-slice_split 61 v) ∙ ap (join_with_byte 61) same ∙ join_with_byte-slice_split 61 w

pub heads : {A : Type 0} (x y : A) (xs ys : List A) → x ∷ xs ≡ y ∷ ys → (x ≡ y) × (xs ≡ ys)
heads x y xs ys same = (cc, cc)

-- one word isn't of both forms
one_form : (option k v k' v' : List ℕ) (behind r r' : List (List ℕ)) → Lacks 61 k → Lacks 61 k' → IsJoined option k v behind r → IsApart option k' v' behind r' → ⊥
one_form option k v k' v' behind r r' l l' a b =
    let same = heads _ _ _ _ (sym (joined_parts option k v behind r l a) ∙ apart_parts option k' v' behind r' l' b) in
    omega (arith, parts_some 61 v, ap length same.1)

pub keyed-one : (option : List ℕ) (behind : List (List ℕ)) (k v k' v' : List ℕ) (r r' : List (List ℕ)) → IsKeyed option behind k v r → IsKeyed option behind k' v' r' → (k ≡ k') × (v ≡ v') × (r ≡ r')
keyed-one option behind k v k' v' r r' a b = elim a.form [
  | inl x ↦ elim b.form [
    | inl y ↦ let same = heads _ _ _ _ (sym (joined_parts option k v behind r a.single x) ∙ joined_parts option k' v' behind r' b.single y) in (same.0, same_whole v v' same.1, x.left ∙ sym y.left)
    | inr y ↦ absurd (one_form option k v k' v' behind r r' a.single b.single x y)
  ]
  | inr x ↦ elim b.form [
    | inl y ↦ absurd (one_form option k' v' k v behind r' r b.single a.single y x)
    | inr y ↦ let same = heads _ _ _ _ (sym x.next ∙ y.next) in (sym x.spelt ∙ y.spelt, same.0, same.1)
  ]
]

-- a plain word is no option
plain_option : (word option : List ℕ) → IsPlain word → word ≡ 45 ∷ 45 ∷ option → ⊥
plain_option word option plain same = plain.plain (rw same refl)

keyed-same : (k v k' v' : List ℕ) → k ≡ k' → v ≡ v' → Keyed k v ≡ Keyed k' v'
keyed-same k v k' v' key value = ap (λ (x : List ℕ). Keyed x v) key ∙ ap (λ (x : List ℕ). Keyed k' x) value

pub begins-one : (words : List (List ℕ)) (g h : Given) (r s : List (List ℕ)) → Begins words g r → Begins words h s → (g ≡ h) × (r ≡ s)
begins-one words (Positional w) (Positional x) r s a b =
    let same = heads _ _ _ _ (sym a.0 ∙ b.0) in
    (ap (λ (y : List ℕ). Positional y) same.0, same.1)
begins-one words (Positional w) (Keyed k v) r s a b = absurd (plain_option w b.option a.1 (heads _ _ _ _ (sym a.0 ∙ b.begun)).0)
begins-one words (Keyed k v) (Positional x) r s a b = absurd (plain_option x a.option b.1 (heads _ _ _ _ (sym b.0 ∙ a.begun)).0)
begins-one words (Keyed k v) (Keyed k' v') r s a b =
    let same = heads _ _ _ _ (sym a.begun ∙ b.begun) in
    let option : a.option ≡ b.option = cc in
    let keyed = keyed-one a.option a.behind k v k' v' r s a.keyed (rw (option, same.1) b.keyed) in
    (keyed-same k v k' v' keyed.0 keyed.1, keyed.2)

-- no words give nothing
pub begins_some : (words : List (List ℕ)) (g : Given) (r : List (List ℕ)) → Begins words g r → words ≡ [] → ⊥
begins_some words (Positional w) r a none = cc
begins_some words (Keyed k v) r a none = let begun = a.begun in cc

pub gives-push : (words : List (List ℕ)) (front : List Given) (mid : List (List ℕ)) (g : Given) (rest : List (List ℕ)) → Gives words front mid → Begins mid g rest → Gives words (front ++ g ∷ []) rest
gives-push words [] mid g rest a b = (rest, rw a b, refl)
gives-push words (h ∷ front) mid g rest a b = (a.0, a.1, gives-push a.0 front mid g rest a.2 b)

-- a front of what is given
pub gives-split : (words : List (List ℕ)) (front all : List Given) (mid : List (List ℕ)) → Gives words front mid → Gives words all [] → (back : List Given) × (all ≡ front ++ back) × Gives mid back []
gives-split words [] all mid a b = (all, refl, rw (← a) b)
gives-split words (g ∷ front) [] mid a b = absurd (begins_some words g a.0 a.1 b)
gives-split words (g ∷ front) (h ∷ all) mid a b =
    let same = begins-one words g h a.0 b.0 a.1 b.1 in
    let rest = gives-split a.0 front all mid a.2 (rw same.1 b.2) in
    (rest.0, cc, rest.2)

pub gives-none : (words : List (List ℕ)) (back : List Given) → words ≡ [] → Gives words back [] → back ≡ []
gives-none words [] none b = refl
gives-none words (g ∷ back) none b = absurd (begins_some words g b.0 b.1 none)

pub gives-one : (words : List (List ℕ)) (a b : List Given) → Gives words a [] → Gives words b [] → a ≡ b
gives-one words a b x y =
    let split = gives-split words a b [] x y in
    let back = gives-none [] split.0 refl split.2 in
    sym (split.1 ∙ ap (λ (z : List Given). a ++ z) back ∙ append-nil a)

texts_more : (words : List (String Global)) (word : String Global) (rest : List (String Global)) → words ≡ word ∷ rest → texts words ≡ string_bytes word ∷ texts rest
texts_more words word rest same = ap texts same

-- an option without `=` stands for its key, and its value is the next word
pub key_alone : (option : List ℕ) (behind : List (List ℕ)) (k v : List ℕ) (r : List (List ℕ)) → Lacks 61 option → IsKeyed option behind k v r → (behind ≡ v ∷ r) × IsPlain v
key_alone option behind k v r lacks is = elim is.form [
  | inl x ↦ absurd (let same = heads _ _ _ _ (sym (one_part option lacks) ∙ joined_parts option k v behind r is.single x) in omega (arith, parts_some 61 v, ap length same.1))
  | inr x ↦ (x.next, x.plain)
]

-- an option with `=` has its value there
pub value_joined : (option : List ℕ) (behind : List (List ℕ)) (key value k v : List ℕ) (r : List (List ℕ)) → parts_at 61 option ≡ key ∷ parts_at 61 value → IsKeyed option behind k v r → 0 < length value
value_joined option behind key value k v r parts is = elim is.form [
  | inl x ↦ let same = heads _ _ _ _ (sym parts ∙ joined_parts option k v behind r is.single x) in omega (arith, x.some, ap length (same_whole value v same.1))
  | inr x ↦ absurd (let same = heads _ _ _ _ (sym parts ∙ apart_parts option k v behind r is.single x) in omega (arith, parts_some 61 value, ap length same.1))
]

-- what the first word is, the words are
pub no_argument : (words : List (List ℕ)) (word option : List ℕ) (rest : List (List ℕ)) → words ≡ word ∷ rest → word ≡ 45 ∷ 45 ∷ option → ((k v : List ℕ) (l : List (List ℕ)) → IsKeyed option rest k v l → ⊥) → (g : Given) (r : List (List ℕ)) → Begins words g r → ⊥
no_argument words word option rest whole dashes none (Positional w) r a = plain_option w option a.1 (sym (heads _ _ _ _ (sym whole ∙ a.0)).0 ∙ dashes)
no_argument words word option rest whole dashes none (Keyed k v) r a =
    let same = heads _ _ _ _ (sym whole ∙ a.begun) in
    let option_is : a.option ≡ option = cc in
    none k v r (rw (← option_is, same.1) a.keyed)

pub an_option : (words : List (List ℕ)) (word option : List ℕ) (rest : List (List ℕ)) (g : Given) (k v : List ℕ) (l : List (List ℕ)) → words ≡ word ∷ rest → word ≡ 45 ∷ 45 ∷ option → g ≡ Keyed k v → IsKeyed option rest k v l → Begins words g l
an_option words word option rest g k v l whole dashes is keyed = rw is (record { option = option; behind = rest; begun = rw dashes at whole; keyed = keyed })

-- what answers the words behind the dashes answers the words
pub match_map : {T : Type 0} (o : Option T) (P R : Type 0) (Q S : T → Type 0) → MatchOption o P Q → (P → R) → ((t : T) → Q t → S t) → MatchOption o R S
match_map None P R Q S is none some = none is
match_map (Some t) P R Q S is none some = some t is

-- where words are left, they begin with what is given next
pub gives_more : (words : List (List ℕ)) (front all : List Given) (left : List (String Global)) → Gives words front (texts left) → 0 < length left → Gives words all [] → (g : Given) × (rest : List (List ℕ)) × Begins (texts left) g rest
gives_more words front all left a some b =
    let split = gives-split words front all (texts left) a b in
    next split.0 split.2 where
      next : (back : List Given) → Gives (texts left) back [] → (g : Given) × (rest : List (List ℕ)) × Begins (texts left) g rest
      next [] is = absurd (omega (arith, some, ap length is, length-map left string_bytes))
      next (g ∷ back) is = (g, is.0, is.1)
