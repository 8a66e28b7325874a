-- What the stream of one data connection tells.
use Rattle.std.proofs.Common.{◌≡◌, ℕ, zero, suc, ◌+◌, ◌-◌, ◌*◌, ◌^◌, ◌<◌, ◌≤◌, Bool, true, false, ◌&&◌, List, [], ◌∷◌, ◌++◌, length, drop, Some, refl, ap, ◌∙◌, sym, inl, inr, arith}
use Rattle.std.specs.Prelude.{if◌then◌else◌, nat_eq, nat_lt, slice_get, slice_range}
use Rattle.std.specs.List.{AllByRecursion}
use Rattle.std.proofs.Math.Bool.{and-false}
use Rattle.std.proofs.lemmas.Bool.{le-ltb}
use Rattle.std.proofs.lemmas.List.{append_assoc, append-nil, length-append, length-drop, length-take-le, take-append-drop}
use Rattle.gft_base.specs.declared.TheConstants.{LIMIT}
use Rattle.gft_range.specs.declared.Range.{Range}
use Rattle.gft_range.specs.Words.{HasOffset}
use Rattle.gft_eblock.specs.declared.Header.{Header}
use Rattle.gft_eblock.specs.declared.TheConstants.{HEADER_LEN}
use Rattle.gft_eblock.specs.Words.{Arrival, Arrives, Eod, Eof, arrivals, blocks_from, data_at, end_or, eods, has_flag, is_bad, is_eod, is_eof, spelling}
use Rattle.gft_eblock.proofs.Lemmas.{eods-append, eods-data_at, length-spelling}
use Rattle.gft_layout.specs.Words.{IsAscending, plan_of}
use Rattle.gft_send.specs.declared.SendPlan.{SendPlan}
use Rattle.gft_send.specs.Words.{data_blocks, data_header, ending_of, eod_header, eof_header, sent_stream}
use Rattle.gft_delivery.proofs.ListLemmas.{IsClosed, IsSound, all-append, arrives-data, arrives-front, arrives-rest, byte_many, byte_many-append, byte_many-data, closed-append, total_count, total_count-append}

-- the law of one block that is spelled out
abbrev pub OneBlock : Type 0
OneBlock = (shift place : ℕ) (h : Header) (bytes rest : List ℕ)
    → h.count < 2 ^ 64 → h.offset < 2 ^ 64 → length bytes ≡ h.count → is_bad shift h ≡ false
    → blocks_from shift place (spelling h ++ (bytes ++ rest))
    ≡ (if is_eof h.flags then Eof h.offset ∷ [] else []) ++ (data_at (shift + h.offset) bytes
    ++ end_or (is_eod h.flags) (blocks_from shift (place + HEADER_LEN + h.count) rest))

-- ---- headers

data_eof : is_eof 0 ≡ false
unfolding has_flag
data_eof = refl

data_eod : is_eod 0 ≡ false
unfolding has_flag
data_eod = refl

end_eof : is_eof 12 ≡ false
unfolding has_flag
end_eof = refl

end_eod : is_eod 12 ≡ true
unfolding has_flag
end_eod = refl

total_eof : is_eof 64 ≡ true
unfolding has_flag
total_eof = refl

total_eod : is_eod 64 ≡ false
unfolding has_flag
total_eod = refl

data_good : (r : Range) → r.start + (r.end - r.start) ≤ LIMIT → is_bad 0 (data_header r) ≡ false
unfolding is_bad has_flag
data_good r within =
    ap (λ (b : Bool). nat_lt 0 (r.end - r.start) && b) (le-ltb LIMIT (0 + r.start + (r.end - r.start)) (omega (arith, within)))
    ∙ and-false (nat_lt 0 (r.end - r.start))

end_good : is_bad 0 eod_header ≡ false
unfolding is_bad has_flag
end_good = refl

total_good : (total : ℕ) → is_bad 0 (eof_header total) ≡ false
unfolding is_bad has_flag
total_good total = refl

-- ---- the blocks of data

-- each range has an offset, and lies in a file of this length
abbrev pub AreWithin : ℕ → List Range → Type 0
AreWithin len [] = Unit {0}
AreWithin len (r ∷ rs) = (r.start < r.end) × (r.end ≤ len) × AreWithin len rs

pub within_all : (len : ℕ) (rs : List Range) → IsAscending rs → ((x : ℕ) → HasOffset rs x → x < len) → AreWithin len rs
within_all len [] ascending below = tt
within_all len (r ∷ rs) ascending below =
    let some : r.start < r.end = ascending.0 in
    let last = below (r.end - 1) (inl (omega (arith, some), omega (arith, some))) in
    (some, omega (arith, some, last), within_all len rs ascending.2 (λ x h. below x (inr h)))

abbrev pub told_ranges : List ℕ → List Range → List Arrival
told_ranges file [] = []
told_ranges file (r ∷ rs) = data_at r.start (slice_range file r.start r.end) ++ told_ranges file rs

pub length-part : (file : List ℕ) (a b : ℕ) → b ≤ length file → length (slice_range file a b) ≡ b - a
length-part file a b within = length-take-le (b - a) (drop a file) (omega (arith, within, length-drop a file))

tells_ranges : OneBlock → (file : List ℕ) → length file ≤ LIMIT → (rs : List Range) (rest : List ℕ) (next : List Arrival) → AreWithin (length file) rs → ((place : ℕ) → blocks_from 0 place rest ≡ next)
    → (place : ℕ) → blocks_from 0 place (data_blocks file rs ++ rest) ≡ told_ranges file rs ++ next
tells_ranges block file short [] rest next within behind place = behind place
tells_ranges block file short (r ∷ rs) rest next within behind place =
    let h = data_header r in
    let bytes = slice_range file r.start r.end in
    let later = data_blocks file rs in
    let some : r.start < r.end = within.0 in
    let below : r.end ≤ length file = within.1 in
    let after = place + HEADER_LEN + h.count in
    let rests = blocks_from 0 after (later ++ rest) in
    ap (blocks_from 0 place) (append_assoc (spelling h) (bytes ++ later) rest ∙ ap (λ (l : List ℕ). spelling h ++ l) (append_assoc bytes later rest))
    ∙ block 0 place h bytes (later ++ rest) (omega (arith, below, short)) (omega (arith, some, below, short)) (length-part file r.start r.end below) (data_good r (omega (arith, some, below, short)))
    ∙ ap (λ (b : Bool). (if b then Eof r.start ∷ [] else []) ++ (data_at (0 + r.start) bytes ++ end_or (is_eod 0) rests)) data_eof
    ∙ ap (λ (b : Bool). data_at (0 + r.start) bytes ++ end_or b rests) data_eod
    ∙ ap (λ (n : ℕ). data_at n bytes ++ rests) (omega arith)
    ∙ ap (λ (l : List Arrival). data_at r.start bytes ++ l) (tells_ranges block file short rs rest next within.2 behind after)
    ∙ sym (append_assoc (data_at r.start bytes) (told_ranges file rs) next)

-- ---- what stands behind them

abbrev pub told_ending : Bool → ℕ → List Arrival
told_ending true total = Eof total ∷ Eod ∷ []
told_ending false total = Eod ∷ []

tells_end : OneBlock → (place : ℕ) → blocks_from 0 place (spelling eod_header) ≡ Eod ∷ []
tells_end block place =
    let after = blocks_from 0 (place + HEADER_LEN + 0) [] in
    ap (blocks_from 0 place) (sym (append-nil (spelling eod_header)))
    ∙ block 0 place eod_header [] [] (omega arith) (omega arith) refl end_good
    ∙ ap (λ (b : Bool). (if b then Eof 0 ∷ [] else []) ++ end_or (is_eod 12) after) end_eof
    ∙ ap (λ (b : Bool). end_or b after) end_eod

tells_total : OneBlock → (total place : ℕ) → total < 2 ^ 64 → blocks_from 0 place (spelling (eof_header total) ++ spelling eod_header) ≡ Eof total ∷ Eod ∷ []
tells_total block total place few =
    let after = blocks_from 0 (place + HEADER_LEN + 0) (spelling eod_header) in
    block 0 place (eof_header total) [] (spelling eod_header) (omega arith) few refl (total_good total)
    ∙ ap (λ (b : Bool). (if b then Eof total ∷ [] else []) ++ end_or (is_eod 64) after) total_eof
    ∙ ap (λ (b : Bool). Eof total ∷ end_or b after) total_eod
    ∙ ap (λ (l : List Arrival). Eof total ∷ l) (tells_end block (place + HEADER_LEN + 0))

tells_ending : OneBlock → (total place : ℕ) → total < 2 ^ 64 → (first : Bool)
    → blocks_from 0 place (if first then spelling (eof_header total) ++ spelling eod_header else spelling eod_header) ≡ told_ending first total
tells_ending block total place few true = tells_total block total place few
tells_ending block total place few false = tells_end block place

-- ---- the whole stream

abbrev pub is_first : ℕ → ℕ → Bool
is_first stripe channel = nat_eq stripe 0 && nat_eq channel 0

abbrev pub told_of : List ℕ → List Range → Bool → ℕ → List Arrival
told_of file rs first total = told_ranges file rs ++ told_ending first total

pub tells : OneBlock → (file : List ℕ) → length file ≤ LIMIT → (plan : SendPlan) (done : List Range) (stripe channel : ℕ)
    → plan.shape.stripes * plan.shape.parallel < 2 ^ 64 → AreWithin (length file) (plan_of plan.region done plan.layout plan.shape stripe channel)
    → arrivals 0 (sent_stream file plan done stripe channel)
    ≡ told_of file (plan_of plan.region done plan.layout plan.shape stripe channel) (is_first stripe channel) (plan.shape.stripes * plan.shape.parallel)
unfolding arrivals
tells block file short plan done stripe channel few within =
    let total = plan.shape.stripes * plan.shape.parallel in
    tells_ranges block file short (plan_of plan.region done plan.layout plan.shape stripe channel) (ending_of plan.shape stripe channel) (told_ending (is_first stripe channel) total) within
    (λ place. tells_ending block total place few (is_first stripe channel)) 0

-- ---- what it is

sound_data : (file : List ℕ) (total offset : ℕ) (bytes later : List ℕ) → drop offset file ≡ bytes ++ later → AllByRecursion (IsSound file total) (data_at offset bytes)
sound_data file total offset [] later is = tt
sound_data file total offset (b ∷ bytes) later is =
    let step = next file offset b (bytes ++ later) is in
    (step.0, sound_data file total (offset + 1) bytes later step.1)
  where
    next : (l : List ℕ) (n v : ℕ) (rest : List ℕ) → drop n l ≡ v ∷ rest → (slice_get l n ≡ Some v) × (drop (n + 1) l ≡ rest)
    next [] n v rest is = absurd (let e = ap (λ (l : List ℕ). length l) is in omega (arith, e, length-drop {A = ℕ} n []))
    next (x ∷ l) zero v rest is = (ap (λ (m : List ℕ). slice_get m 0) is, ap (λ (m : List ℕ). drop 1 m) is)
    next (x ∷ l) (suc n) v rest is =
        let older = next l n v rest is in
        (older.0, ap (λ (k : ℕ). drop k (x ∷ l)) (more n) ∙ older.1)
      where
        more : (k : ℕ) → suc k + 1 ≡ suc (k + 1)
        more k = omega arith

sound_ranges : (file : List ℕ) (total : ℕ) (rs : List Range) → AllByRecursion (IsSound file total) (told_ranges file rs)
sound_ranges file total [] = tt
sound_ranges file total (r ∷ rs) =
    all-append (IsSound file total) (data_at r.start (slice_range file r.start r.end)) (told_ranges file rs)
    (sound_data file total r.start (slice_range file r.start r.end) (drop (r.end - r.start) (drop r.start file)) (sym (take-append-drop (r.end - r.start) (drop r.start file))))
    (sound_ranges file total rs)

sound_ending : (file : List ℕ) (total : ℕ) (first : Bool) → AllByRecursion (IsSound file total) (told_ending first total)
sound_ending file total true = (refl, (tt, tt))
sound_ending file total false = (tt, tt)

pub sound_told : (file : List ℕ) (rs : List Range) (first : Bool) (total : ℕ) → AllByRecursion (IsSound file total) (told_of file rs first total)
sound_told file rs first total = all-append (IsSound file total) (told_ranges file rs) (told_ending first total) (sound_ranges file total rs) (sound_ending file total first)

pub eods_told : (file : List ℕ) (rs : List Range) (first : Bool) (total : ℕ) → eods (told_of file rs first total) ≡ 1
eods_told file rs first total =
    let split = eods-append (told_ranges file rs) (told_ending first total) in
    let none = no_eods rs in
    let one = one_eod first in
    omega (arith, split, none, one)
  where
    no_eods : (l : List Range) → eods (told_ranges file l) ≡ 0
    no_eods [] = refl
    no_eods (r ∷ l) =
        let bytes = slice_range file r.start r.end in
        let split = eods-append (data_at r.start bytes) (told_ranges file l) in
        let here = eods-data_at r.start bytes in
        let later = no_eods l in
        omega (arith, split, here, later)

    one_eod : (b : Bool) → eods (told_ending b total) ≡ 1
    one_eod true = refl
    one_eod false = refl

pub closed_told : (file : List ℕ) (rs : List Range) (first : Bool) (total : ℕ) → IsClosed (told_of file rs first total)
closed_told file rs true total = closed-append (told_ranges file rs) (Eof total) (Eod ∷ []) tt
closed_told file rs false total = closed-append (told_ranges file rs) Eod [] tt

-- the first connection announces the total
pub announced_told : (file : List ℕ) (rs : List Range) (total : ℕ) → 0 < total_count (told_of file rs true total)
announced_told file rs total =
    let split = total_count-append (told_ranges file rs) (told_ending true total) in
    omega (arith, split)

pub arrives_told : (file : List ℕ) (rs : List Range) (first : Bool) (total : ℕ) → AreWithin (length file) rs → (x : ℕ) → HasOffset rs x → Arrives (told_of file rs first total) x
arrives_told file rs first total within x has = arrives-front (told_ranges file rs) (told_ending first total) x (among rs within has)
  where
    among : (l : List Range) → AreWithin (length file) l → HasOffset l x → Arrives (told_ranges file l) x
    among [] w h = absurd h
    among (r ∷ l) w h =
        let bytes = slice_range file r.start r.end in
        let some : r.start < r.end = w.0 in
        elim h [
          | inl here ↦
              let high : x < r.end = here.1 in
              arrives-front (data_at r.start bytes) (told_ranges file l) x
              (arrives-data r.start bytes x here.0 (omega (arith, high, some, length-part file r.start r.end w.1)))
          | inr later ↦ arrives-rest (data_at r.start bytes) (told_ranges file l) x (among l w.2 later)
        ]

-- no more bytes arrive than were sent
pub byte_many_told : (file : List ℕ) (plan : SendPlan) (done : List Range) (stripe channel : ℕ) (first : Bool) (total : ℕ)
    → byte_many (told_of file (plan_of plan.region done plan.layout plan.shape stripe channel) first total) ≤ length (sent_stream file plan done stripe channel)
byte_many_told file plan done stripe channel first total =
    let rs = plan_of plan.region done plan.layout plan.shape stripe channel in
    let split = byte_many-append (told_ranges file rs) (told_ending first total) in
    let none = no_bytes first in
    let few = of_ranges rs in
    let all = length-append (data_blocks file rs) (ending_of plan.shape stripe channel) in
    omega (arith, split, none, few, all)
  where
    no_bytes : (b : Bool) → byte_many (told_ending b total) ≡ 0
    no_bytes true = refl
    no_bytes false = refl

    of_ranges : (l : List Range) → byte_many (told_ranges file l) ≤ length (data_blocks file l)
    of_ranges [] = omega arith
    of_ranges (r ∷ l) =
        let bytes = slice_range file r.start r.end in
        let split = byte_many-append (data_at r.start bytes) (told_ranges file l) in
        let here = byte_many-data r.start bytes in
        let later = of_ranges l in
        let outer = length-append (spelling (data_header r)) (bytes ++ data_blocks file l) in
        let inner = length-append bytes (data_blocks file l) in
        omega (arith, split, here, later, outer, inner)
