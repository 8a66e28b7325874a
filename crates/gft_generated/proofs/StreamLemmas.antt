-- Streams as lists, of which a front is given.
use Rattle.std.proofs.Common.{◌≡◌, ℕ, zero, suc, ◌+◌, ◌-◌, ◌≤◌, List, [], ◌∷◌, ◌++◌, length, refl, sym, ap, ◌∙◌, arith, take, drop, reverse, Option, None, Some, append_assoc, append-nil, length-take, rules}
use Rattle.std.specs.Prelude.{flat_map, option_to_list}
use Rattle.std.proofs.lemmas.List.{reverse-append}
use Rattle.gft_generated.specs.declared.segment.Segment.{Segment}
use Rattle.gft_generated.specs.declared.segment.Segment.TheVariants as segment
use Rattle.gft_generated.specs.Generator.{generated}
use Rattle.gft_generated.specs.Streams.{fewer, front_of, generated_blocks, left_of, segment_bytes}
use Rattle.gft_range.specs.declared.Range.{Range}
use Rattle.gft_eblock.specs.Words.{spelling}
use Rattle.gft_send.specs.Words.{data_header}
use Rattle.std.proofs.lemmas.Grind.{flat_map-append}
use Rattle.std.proofs.Common.{subst}
use Rattle.std.specs.Prelude.{IfSome}

-- ---- lists

pub take_all : (n : ℕ) (xs more : List ℕ) → length xs ≡ n → take n (xs ++ more) ≡ xs
take_all zero [] more long = refl
take_all zero (x ∷ xs) more long = absurd (omega (arith, long))
take_all (suc n) [] more long = absurd (omega (arith, long))
take_all (suc n) (x ∷ xs) more long = ap (λ (l : List ℕ). x ∷ l) (take_all n xs more (omega (arith, long)))

pub take_in : (n : ℕ) (xs more : List ℕ) → n ≤ length xs → take n (xs ++ more) ≡ take n xs
take_in zero xs more le = refl
take_in (suc n) [] more le = absurd (omega (arith, le))
take_in (suc n) (x ∷ xs) more le = ap (λ (l : List ℕ). x ∷ l) (take_in n xs more (omega (arith, le)))

length_front : (n : ℕ) (xs : List ℕ) → n ≤ length xs → length (take n xs) ≡ n
length_front n xs le = let h = length-take n xs in omega (arith, h, le)

pub take-front : (left : ℕ) (g r : List ℕ) → length g ≤ left → take left (g ++ r) ≡ g ++ take (left - length g) r
take-front left [] r le = let none : left ≡ left - 0 = omega arith in ap (λ (k : ℕ). take k r) none
take-front zero (x ∷ g) r le = absurd (omega (arith, le))
take-front (suc left) (x ∷ g) r le =
    let same : left - length g ≡ suc left - suc (length g) = omega arith in
    ap (λ (l : List ℕ). x ∷ l) (take-front left g r (omega (arith, le)) ∙ ap (λ (k : ℕ). g ++ take k r) same)

-- a front and the rest of what stands behind a place
pub cut_behind : (f t : ℕ) (xs : List ℕ) → f ≤ t → drop f xs ≡ take (t - f) (drop f xs) ++ drop t xs
cut_behind f t [] le = nothing f t
  where
    nothing : (f t : ℕ) → drop {A = ℕ} f [] ≡ take (t - f) (drop f []) ++ drop t []
    nothing f t = search rules
cut_behind zero zero (x ∷ xs) le = refl
cut_behind zero (suc t) (x ∷ xs) le =
    let here : suc t ≡ suc t - 0 = omega arith in
    let there : t - 0 ≡ t = omega arith in
    ap (λ (l : List ℕ). x ∷ l) (cut_behind zero t xs (omega arith) ∙ ap (λ (k : ℕ). take k xs ++ drop t xs) there)
    ∙ ap (λ (k : ℕ). take k (x ∷ xs) ++ drop t xs) here
cut_behind (suc f) zero (x ∷ xs) le = absurd (omega (arith, le))
cut_behind (suc f) (suc t) (x ∷ xs) le =
    let same : t - f ≡ suc t - suc f = omega arith in
    cut_behind f t xs (omega (arith, le)) ∙ ap (λ (k : ℕ). take k (drop f xs) ++ drop t xs) same

-- ---- a stream

behind : (seed : ℕ) (xs : List Segment) (rest : Option Segment)
    → left_of seed rest ++ flat_map (segment_bytes seed) (reverse xs) ≡ flat_map (segment_bytes seed) (reverse (xs ++ option_to_list rest))
behind seed xs None = ap (λ (l : List Segment). flat_map (segment_bytes seed) (reverse l)) (sym (append-nil xs))
behind seed xs (Some segment) = ap (flat_map (segment_bytes seed)) (sym (reverse-append xs (segment ∷ [])))

front-append : (left : Option ℕ) (g r : List ℕ) → IfSome left (λ n. length g ≤ n) → front_of left (g ++ r) ≡ g ++ front_of (fewer left (length g)) r
front-append None g r le = refl
front-append (Some left) g r le = take-front left g r le

-- a stretch gives a front of its bytes, and the stream has the rest
pub stream_given : (seed count : ℕ) (left : Option ℕ) (old new xs : List Segment) (segment : Segment) (rest : Option Segment) (sub more : List ℕ)
    → old ≡ xs ++ segment ∷ [] → new ≡ xs ++ option_to_list rest → count ≤ length sub → IfSome left (λ n. count ≤ n)
    → segment_bytes seed segment ≡ take count sub ++ left_of seed rest
    → front_of left (flat_map (segment_bytes seed) (reverse old)) ≡ take count (sub ++ more) ++ front_of (fewer left count) (flat_map (segment_bytes seed) (reverse new))
stream_given seed count left old new xs segment rest sub more was now few within is =
    let f = flat_map (segment_bytes seed) (reverse xs) in
    let r = left_of seed rest in
    let g = take count sub in
    let long : length g ≡ count = length_front count sub few in
    ap (λ (l : List Segment). front_of left (flat_map (segment_bytes seed) (reverse l))) was
    ∙ ap (λ (l : List Segment). front_of left (flat_map (segment_bytes seed) l)) (reverse-append xs (segment ∷ []))
    ∙ ap (λ (l : List ℕ). front_of left (l ++ f)) is
    ∙ ap (front_of left) (append_assoc g r f)
    ∙ front-append left g (r ++ f) (subst (λ (k : ℕ). IfSome left (λ n. k ≤ n)) (sym long) within)
    ∙ ap (λ (k : ℕ). g ++ front_of (fewer left k) (r ++ f)) long
    ∙ ap (λ (l : List ℕ). g ++ front_of (fewer left count) l) (behind seed xs rest)
    ∙ ap (λ (l : List Segment). g ++ front_of (fewer left count) (flat_map (segment_bytes seed) (reverse l))) (sym now)
    ∙ ap (λ (l : List ℕ). l ++ front_of (fewer left count) (flat_map (segment_bytes seed) (reverse new))) (sym (take_in count sub more few))

-- what was given before, and some more
pub stream_more : (g c : ℕ) (xs sub rest first middle last : List ℕ) → g ≤ length xs → c ≤ length sub → first ≡ take g xs ++ middle
    → middle ≡ take c sub ++ last → first ≡ take (g + c) (take g xs ++ (sub ++ rest)) ++ last
stream_more g c xs sub rest first middle last le few before more =
    let front = take g xs in
    let long : length front ≡ g = length_front g xs le in
    let fits : length front ≤ g + c = omega (arith, long) in
    let left : g + c - g ≡ c = omega arith in
    before
    ∙ ap (λ (l : List ℕ). front ++ l) more
    ∙ sym (append_assoc front (take c sub) last)
    ∙ ap (λ (l : List ℕ). l ++ last) (sym (
    take-front (g + c) front (sub ++ rest) fits
    ∙ ap (λ (k : ℕ). front ++ take (g + c - k) (sub ++ rest)) long
    ∙ ap (λ (k : ℕ). front ++ take k (sub ++ rest)) left
    ∙ ap (λ (l : List ℕ). front ++ l) (take_in c sub rest few)))

-- ---- what a data connection carries

-- one more block, and what is left of the plan
pub blocks_more : (seed : ℕ) (all left rest : List Range) (r : Range) (segments : List Segment) (head : Segment)
    → flat_map (segment_bytes seed) segments ++ generated_blocks seed left ≡ generated_blocks seed all → left ≡ r ∷ rest
    → segment_bytes seed head ≡ spelling (data_header r)
    → flat_map (segment_bytes seed) ((segments ++ head ∷ []) ++ segment.Data r ∷ []) ++ generated_blocks seed rest ≡ generated_blocks seed all
blocks_more seed all left rest r segments head before steps spelt =
    let f = flat_map (segment_bytes seed) in
    let bytes = generated seed r.start (r.end - r.start) in
    ap (λ (l : List ℕ). l ++ generated_blocks seed rest) (
    flat_map-append (segment_bytes seed) (segments ++ head ∷ []) (segment.Data r ∷ [])
    ∙ ap (λ (l : List ℕ). l ++ f (segment.Data r ∷ [])) (flat_map-append (segment_bytes seed) segments (head ∷ []))
    ∙ ap (λ (l : List ℕ). (f segments ++ l) ++ f (segment.Data r ∷ [])) (append-nil (segment_bytes seed head) ∙ spelt)
    ∙ ap (λ (l : List ℕ). (f segments ++ spelling (data_header r)) ++ l) (append-nil bytes))
    ∙ append_assoc (f segments ++ spelling (data_header r)) bytes (generated_blocks seed rest)
    ∙ append_assoc (f segments) (spelling (data_header r)) (bytes ++ generated_blocks seed rest)
    ∙ ap (λ (l : List Range). f segments ++ generated_blocks seed l) (sym steps)
    ∙ before

pub push_bytes : (seed : ℕ) (segments : List Segment) (one : Segment) (bytes : List ℕ) → segment_bytes seed one ≡ bytes
    → flat_map (segment_bytes seed) (segments ++ one ∷ []) ≡ flat_map (segment_bytes seed) segments ++ bytes
push_bytes seed segments one bytes is =
    flat_map-append (segment_bytes seed) segments (one ∷ [])
    ∙ ap (λ (l : List ℕ). flat_map (segment_bytes seed) segments ++ l) (append-nil (segment_bytes seed one) ∙ is)

pub fewer_left : (left : Option ℕ) (count most : ℕ) → count ≤ most → IfSome left (λ n. most ≤ n) → IfSome left (λ n. count ≤ n)
fewer_left None count most le few = tt
fewer_left (Some left) count most le few = omega (arith, le, few)
