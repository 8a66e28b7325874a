-- Files as lists of bytes: parts of them, files that are the same in some places, and a part written over.
use Rattle.std.proofs.Common.{◌≡◌, ℕ, ◌+◌, ◌-◌, ◌<◌, ◌≤◌, List, [], ◌++◌, length, get_or, take, drop, min, sym, ap, ◌∙◌, arith}
use Rattle.std.specs.Prelude.{slice_index, slice_range}
use Rattle.std.proofs.Math.ListN.{get_or-append}
use Rattle.std.proofs.Math.Seq.{take-add, take-append_seam, drop-append_seam}
use Rattle.std.proofs.lemmas.List.{drop-drop, ext_get_or, get_or-append-add, get_or-drop, get_or-take, length-append, length-drop, length-take, length-take-le}

-- ---- parts

length-part : (f : List ℕ) (a b : ℕ) → b ≤ length f → length (slice_range f a b) ≡ b - a
length-part f a b fits = length-take-le (b - a) (drop a f) (omega (arith, length-drop a f))

at-part : (f : List ℕ) (a b i : ℕ) → i < b - a → slice_index (slice_range f a b) i ≡ slice_index f (a + i)
at-part f a b i lt = get_or-take (b - a) (drop a f) i 0 lt ∙ get_or-drop a f i 0

-- a part in two
pub part_split : (f : List ℕ) (a m b : ℕ) → a ≤ m → m ≤ b → slice_range f a b ≡ slice_range f a m ++ slice_range f m b
part_split f a m b low high =
    let n : b - a ≡ (m - a) + (b - m) = omega arith in
    let at : a + (m - a) ≡ m = omega arith in
    let over : drop (m - a) (drop a f) ≡ drop m f = drop-drop (m - a) a f ∙ ap (λ (k : ℕ). drop k f) at in
    ap (λ (k : ℕ). take k (drop a f)) n ∙ take-add (m - a) (b - m) (drop a f) ∙ ap (λ (l : List ℕ). take (m - a) (drop a f) ++ take (b - m) l) over

-- no bytes
pub part_none : (f : List ℕ) (a b : ℕ) → b ≤ a → slice_range f a b ≡ []
part_none f a b le = let n : b - a ≡ 0 = omega arith in ap (λ (k : ℕ). take k (drop a f)) n

-- files that are equally long and the same between two places
pub part_same : (f g : List ℕ) (a b : ℕ) → length g ≡ length f → ((x : ℕ) → a ≤ x → x < b → slice_index g x ≡ slice_index f x) → slice_range g a b ≡ slice_range f a b
part_same f g a b long same =
    let size : length (slice_range g a b) ≡ length (slice_range f a b) = length-take (b - a) (drop a g) ∙ ap (λ (k : ℕ). min (b - a) k) (length-drop a g ∙ ap (λ (k : ℕ). k - a) long ∙ sym (length-drop a f)) ∙ sym (length-take (b - a) (drop a f)) in
    ext_get_or 0 (slice_range g a b) (slice_range f a b) size
    (λ i lt.
    let in_part : i < b - a = let s = length-take (b - a) (drop a g) in omega arith in
    at-part g a b i in_part ∙ same (a + i) (omega arith) (omega arith) ∙ sym (at-part f a b i in_part))

-- ---- a part written over

pub over : List ℕ → ℕ → List ℕ → List ℕ
over f at bytes = take at f ++ (bytes ++ drop (at + length bytes) f)

pub over_long : (f : List ℕ) (at : ℕ) (bytes : List ℕ) → at + length bytes ≤ length f → length (over f at bytes) ≡ length f
unfolding over
over_long f at bytes fits =
    let head = length-take-le at f (omega arith) in
    let tail = length-drop (at + length bytes) f in
    let one = length-append (take at f) (bytes ++ drop (at + length bytes) f) in
    let two = length-append bytes (drop (at + length bytes) f) in
    omega arith

pub over_low : (f : List ℕ) (at : ℕ) (bytes : List ℕ) (x : ℕ) → at + length bytes ≤ length f → x < at → slice_index (over f at bytes) x ≡ slice_index f x
unfolding over
over_low f at bytes x fits low =
    let head = length-take-le at f (omega arith) in
    get_or-append (take at f) (bytes ++ drop (at + length bytes) f) 0 x (omega arith) ∙ get_or-take at f x 0 low

pub over_high : (f : List ℕ) (at : ℕ) (bytes : List ℕ) (x : ℕ) → at + length bytes ≤ length f → at + length bytes ≤ x → slice_index (over f at bytes) x ≡ slice_index f x
unfolding over
over_high f at bytes x fits high =
    let tail = drop (at + length bytes) f in
    let head = length-take-le at f (omega arith) in
    let n = x - (at + length bytes) in
    let to_head : x ≡ length (take at f) + (length bytes + n) = omega arith in
    let to_tail : (at + length bytes) + n ≡ x = omega arith in
    ap (λ (k : ℕ). get_or (take at f ++ (bytes ++ tail)) k 0) to_head
    ∙ get_or-append-add (take at f) (bytes ++ tail) (length bytes + n) 0
    ∙ get_or-append-add bytes tail n 0
    ∙ get_or-drop (at + length bytes) f n 0
    ∙ ap (λ (k : ℕ). get_or f k 0) to_tail

-- the part is these bytes
pub over_part : (f : List ℕ) (at : ℕ) (bytes : List ℕ) → at + length bytes ≤ length f → slice_range (over f at bytes) at (at + length bytes) ≡ bytes
unfolding over
over_part f at bytes fits =
    let tail = drop (at + length bytes) f in
    let head = length-take-le at f (omega arith) in
    let n : (at + length bytes) - at ≡ length bytes = omega arith in
    let behind : drop at (take at f ++ (bytes ++ tail)) ≡ bytes ++ tail = ap (λ (k : ℕ). drop k (take at f ++ (bytes ++ tail))) (sym head) ∙ drop-append_seam (take at f) (bytes ++ tail) in
    ap (λ (k : ℕ). take k (drop at (take at f ++ (bytes ++ tail)))) n ∙ ap (λ (l : List ℕ). take (length bytes) l) behind ∙ take-append_seam bytes tail
