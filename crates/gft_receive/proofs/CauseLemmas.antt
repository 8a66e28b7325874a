-- The causes that a lane shows, behind further inputs.
use Rattle.std.proofs.Common.{◌≡◌, ◌⊎◌, ℕ, ◌+◌, ◌<◌, ◌≤◌, List, [], ◌∷◌, ◌++◌, length, map, reverse, Some, None, refl, sym, ap, ◌∙◌, arith}
use Rattle.std.specs.Prelude.{Option, if◌then◌else◌, nat_lt}
use Rattle.std.proofs.lemmas.Bool.Decides.{nat_tests}
use Rattle.std.proofs.lemmas.List.{append_assoc, append-nil}
use Rattle.std.proofs.lemmas.Option.{none-some}
use Rattle.gft_eblock.specs.declared.TheConstants.{MAX_BYTES}
use Rattle.gft_eblock.specs.Words.{Arrival, At, Bad, Eod, Eof, Refusal, arrivals, eods}
use Rattle.gft_eblock.proofs.Lemmas.{arrivals-grow}
use Rattle.gft_outside.specs.declared.TheConstants.{MAX_LIVE, MAX_OPENED}
use Rattle.gft_outside.specs.Words.{Came, Channels, HasNoBad, LaneInput, byte_count, channels_after, no_channels, stream}
use Rattle.gft_outside.proofs.Lemmas.{reverse-push, stream_here}
use Rattle.gft_pass.specs.declared.Cause.{Cause}
use Rattle.gft_pass.specs.declared.Cause.TheVariants.{BadBlock as BadBlockCame, Lost, StreamTooLong, TooManyChannels}
use Rattle.gft_receive.specs.Causes.{bad_block, block_of_refusal, cause_at, first_cause, lost, or_later, refused_in, too_long, too_many}

-- ---- one cause or another

or_later-none : (earlier later : Option Cause) → earlier ≡ None → or_later earlier later ≡ later
or_later-none earlier later none = ap (λ (o : Option Cause). or_later o later) none

or_later-some : (earlier later : Option Cause) (c : Cause) → earlier ≡ Some c → or_later earlier later ≡ Some c
or_later-some earlier later c is = ap (λ (o : Option Cause). or_later o later) is

pub first-stays : (lane shift : ℕ) (newer older : List LaneInput) (c : Cause) → first_cause lane shift older ≡ Some c → first_cause lane shift (newer ++ older) ≡ Some c
first-stays lane shift [] older c is = is
first-stays lane shift (input ∷ newer) older c is =
    or_later-some (first_cause lane shift (newer ++ older)) (cause_at lane shift input (newer ++ older)) c (first-stays lane shift newer older c is)

-- an input that shows nothing, or is the first to show something
pub first-none : (lane shift : ℕ) (input : LaneInput) (older : List LaneInput) → first_cause lane shift older ≡ None → cause_at lane shift input older ≡ None → first_cause lane shift (input ∷ older) ≡ None
first-none lane shift input older none also = or_later-none (first_cause lane shift older) (cause_at lane shift input older) none ∙ also

pub first-some : (lane shift : ℕ) (input : LaneInput) (older : List LaneInput) (c : Cause) → first_cause lane shift older ≡ None → cause_at lane shift input older ≡ Some c → first_cause lane shift (input ∷ older) ≡ Some c
first-some lane shift input older c none is = or_later-none (first_cause lane shift older) (cause_at lane shift input older) none ∙ is

-- ---- the tests of the table

too_long-none : (lane n : ℕ) → n < MAX_BYTES → too_long lane n ≡ None
too_long-none lane n lt = grind (arith, nat_tests)

too_long-some : (lane n : ℕ) → MAX_BYTES ≤ n → too_long lane n ≡ Some (StreamTooLong lane)
too_long-some lane n le = grind (arith, nat_tests)

pub too_many-none : (lane : ℕ) (before : Channels) → length before.live < MAX_LIVE → before.opened < MAX_OPENED → too_many lane before ≡ None
too_many-none lane before few below = grind (arith, nat_tests)

pub too_many-some : (lane : ℕ) (before : Channels) → (MAX_LIVE ≤ length before.live) ⊎ (MAX_OPENED ≤ before.opened) → too_many lane before ≡ Some (TooManyChannels lane before.opened (length before.live))
too_many-some lane before many = grind (arith, nat_tests)

pub lost-none : (lane shift channel : ℕ) (bytes : List ℕ) → (length bytes ≡ 0) ⊎ (0 < eods (arrivals shift bytes)) → lost lane shift channel bytes ≡ None
lost-none lane shift channel [] h = refl
lost-none lane shift channel (b ∷ bs) h = grind (arith, nat_tests)

pub lost-some : (lane shift channel : ℕ) (bytes : List ℕ) → 0 < length bytes → eods (arrivals shift bytes) ≡ 0 → lost lane shift channel bytes ≡ Some (Lost lane channel (length bytes))
lost-some lane shift channel [] some none = absurd (omega (arith, some))
lost-some lane shift channel (b ∷ bs) some none = ap (λ (n : ℕ). if nat_lt 0 n then None else Some (Lost lane channel (length (b ∷ bs)))) none

-- ---- refused headers

pub refused_in-none : (list : List Arrival) → HasNoBad list → refused_in list ≡ None
refused_in-none [] h = refl
refused_in-none (At offset value ∷ list) h = refused_in-none list h
refused_in-none (Eof total ∷ list) h = refused_in-none list h
refused_in-none (Eod ∷ list) h = refused_in-none list h
refused_in-none (Bad r ∷ list) h = absurd h

refused_in-front : (a b : List Arrival) (r : Refusal) → refused_in a ≡ Some r → refused_in (a ++ b) ≡ Some r
refused_in-front [] b r is = absurd (none-some r is)
refused_in-front (At offset value ∷ a) b r is = refused_in-front a b r is
refused_in-front (Eof total ∷ a) b r is = refused_in-front a b r is
refused_in-front (Eod ∷ a) b r is = refused_in-front a b r is
refused_in-front (Bad s ∷ a) b r is = is

pub refused_in-last : (a b : List Arrival) → HasNoBad a → refused_in (a ++ b) ≡ refused_in b
refused_in-last [] b h = refl
refused_in-last (At offset value ∷ a) b h = refused_in-last a b h
refused_in-last (Eof total ∷ a) b h = refused_in-last a b h
refused_in-last (Eod ∷ a) b h = refused_in-last a b h
refused_in-last (Bad s ∷ a) b h = absurd h

-- a stream that has no refused header had none before
refused_before : (shift : ℕ) (a b : List ℕ) → refused_in (arrivals shift (a ++ b)) ≡ None → refused_in (arrivals shift a) ≡ None
refused_before shift a b none = cases (refused_in (arrivals shift a)) refl
  where
    cases : (o : Option Refusal) → refused_in (arrivals shift a) ≡ o → refused_in (arrivals shift a) ≡ None
    cases None is = is
    cases (Some r) is = let grown = arrivals-grow shift a b in absurd (none-some r (sym none ∙ ap refused_in grown.1 ∙ refused_in-front (arrivals shift a) grown.0 r is))

-- and one that it had it keeps
refused_later : (shift : ℕ) (a b : List ℕ) (r : Refusal) → refused_in (arrivals shift a) ≡ Some r → refused_in (arrivals shift (a ++ b)) ≡ Some r
refused_later shift a b r is = let grown = arrivals-grow shift a b in ap refused_in grown.1 ∙ refused_in-front (arrivals shift a) grown.0 r is

-- ---- bytes of one channel

pub count_piece : (channel : ℕ) (bytes : List ℕ) (older : List LaneInput) → byte_count (reverse (map (λ value. Came channel value) bytes) ++ older) ≡ byte_count older + length bytes
count_piece channel [] older = omega arith
count_piece channel (b ∷ bs) older =
    let rest = count_piece channel bs (Came channel b ∷ older) in
    ap byte_count (reverse-push (Came channel b) (map (λ value. Came channel value) bs) older) ∙ omega (arith, rest)

pub channels_piece : (channel : ℕ) (bytes : List ℕ) (older : List LaneInput) → channels_after (reverse (map (λ value. Came channel value) bytes) ++ older) no_channels ≡ channels_after older no_channels
channels_piece channel [] older = refl
channels_piece channel (b ∷ bs) older =
    ap (λ (l : List LaneInput). channels_after l no_channels) (reverse-push (Came channel b) (map (λ value. Came channel value) bs) older)
    ∙ channels_piece channel bs (Came channel b ∷ older)

-- the stream with a byte more, and then others
with_others : (channel b : ℕ) (bs : List ℕ) (older : List LaneInput) → stream channel (Came channel b ∷ older) ++ bs ≡ stream channel older ++ (b ∷ bs)
with_others channel b bs older = ap (λ (s : List ℕ). s ++ bs) (stream_here channel b older) ∙ append_assoc (stream channel older) (b ∷ []) bs

cause_of_byte : (lane shift channel b : ℕ) (older : List LaneInput) → refused_in (arrivals shift (stream channel (Came channel b ∷ older))) ≡ None → cause_at lane shift (Came channel b) older ≡ too_long lane (byte_count older + 1)
cause_of_byte lane shift channel b older none = ap (λ (o : Option Refusal). or_later (bad_block lane channel o) (too_long lane (byte_count older + 1))) none

cause_of_bad : (lane shift channel b : ℕ) (older : List LaneInput) (r : Refusal) → refused_in (arrivals shift (stream channel (Came channel b ∷ older))) ≡ Some r → cause_at lane shift (Came channel b) older ≡ Some (BadBlockCame lane channel (block_of_refusal r))
cause_of_bad lane shift channel b older r is = ap (λ (o : Option Refusal). or_later (bad_block lane channel o) (too_long lane (byte_count older + 1))) is

-- bytes that show nothing
pub piece-none : (lane shift channel : ℕ) (bytes : List ℕ) (older : List LaneInput) → first_cause lane shift older ≡ None → byte_count older + length bytes < MAX_BYTES
    → refused_in (arrivals shift (stream channel older ++ bytes)) ≡ None → first_cause lane shift (reverse (map (λ value. Came channel value) bytes) ++ older) ≡ None
piece-none lane shift channel [] older none short good = none
piece-none lane shift channel (b ∷ bs) older none short good =
    let newer = Came channel b ∷ older in
    let good' : refused_in (arrivals shift (stream channel newer ++ bs)) ≡ None = ap (λ (s : List ℕ). refused_in (arrivals shift s)) (with_others channel b bs older) ∙ good in
    let here = refused_before shift (stream channel newer) bs good' in
    let none' = first-none lane shift (Came channel b) older none (cause_of_byte lane shift channel b older here ∙ too_long-none lane (byte_count older + 1) (omega (arith, short))) in
    ap (first_cause lane shift) (reverse-push (Came channel b) (map (λ value. Came channel value) bs) older)
    ∙ piece-none lane shift channel bs newer none' (omega (arith, short)) good'

-- bytes among which a header is refused
pub piece-bad : (lane shift channel : ℕ) (bytes : List ℕ) (older : List LaneInput) (r : Refusal) → first_cause lane shift older ≡ None → byte_count older + length bytes ≤ MAX_BYTES
    → refused_in (arrivals shift (stream channel older)) ≡ None → refused_in (arrivals shift (stream channel older ++ bytes)) ≡ Some r
    → first_cause lane shift (reverse (map (λ value. Came channel value) bytes) ++ older) ≡ Some (BadBlockCame lane channel (block_of_refusal r))
piece-bad lane shift channel [] older r none short good bad =
    absurd (none-some r (sym good ∙ ap (λ (s : List ℕ). refused_in (arrivals shift s)) (sym (append-nil (stream channel older))) ∙ bad))
piece-bad lane shift channel (b ∷ bs) older r none short good bad =
    let newer = Came channel b ∷ older in
    let bad' : refused_in (arrivals shift (stream channel newer ++ bs)) ≡ Some r = ap (λ (s : List ℕ). refused_in (arrivals shift s)) (with_others channel b bs older) ∙ bad in
    ap (first_cause lane shift) (reverse-push (Came channel b) (map (λ value. Came channel value) bs) older)
    ∙ cases (refused_in (arrivals shift (stream channel newer))) refl bad'
    (λ is some.
    let none' = first-none lane shift (Came channel b) older none (cause_of_byte lane shift channel b older is ∙ too_long-none lane (byte_count older + 1) (omega (arith, short, some))) in
    piece-bad lane shift channel bs newer r none' (omega (arith, short)) is bad')
  where
    same : (x y : Refusal) → Some x ≡ Some y → x ≡ y
    same x y e = cc

    more : (cs : List ℕ) → cs ≡ bs → refused_in (arrivals shift (stream channel (Came channel b ∷ older))) ≡ None → refused_in (arrivals shift (stream channel (Came channel b ∷ older) ++ bs)) ≡ Some r → 0 < length bs
    more [] e is bad' = absurd (none-some r (sym is ∙ ap (λ (s : List ℕ). refused_in (arrivals shift s)) (sym (append-nil (stream channel (Came channel b ∷ older))) ∙ ap (λ (l : List ℕ). stream channel (Came channel b ∷ older) ++ l) e) ∙ bad'))
    more (c ∷ cs) e is bad' = let longer = ap (λ (l : List ℕ). length l) e in omega (arith, longer)

    cases : (o : Option Refusal) → refused_in (arrivals shift (stream channel (Came channel b ∷ older))) ≡ o → refused_in (arrivals shift (stream channel (Came channel b ∷ older) ++ bs)) ≡ Some r
        → (refused_in (arrivals shift (stream channel (Came channel b ∷ older))) ≡ None → 0 < length bs → first_cause lane shift (reverse (map (λ value. Came channel value) bs) ++ Came channel b ∷ older) ≡ Some (BadBlockCame lane channel (block_of_refusal r)))
        → first_cause lane shift (reverse (map (λ value. Came channel value) bs) ++ Came channel b ∷ older) ≡ Some (BadBlockCame lane channel (block_of_refusal r))
    cases (Some q) is bad' later =
        let newer = Came channel b ∷ older in
        let seen = refused_later shift (stream channel newer) bs q is in
        let is_r : q ≡ r = same q r (sym seen ∙ bad') in
        first-stays lane shift (reverse (map (λ value. Came channel value) bs)) newer (BadBlockCame lane channel (block_of_refusal r))
        (first-some lane shift (Came channel b) older (BadBlockCame lane channel (block_of_refusal r)) none
        (cause_of_bad lane shift channel b older q is ∙ ap (λ (x : Refusal). Some (BadBlockCame lane channel (block_of_refusal x))) is_r))
    cases None is bad' later = later is (more bs refl is bad')

-- bytes of which the last is one too many
pub piece-long : (lane shift channel : ℕ) (bytes : List ℕ) (older : List LaneInput) → first_cause lane shift older ≡ None → 0 < length bytes → byte_count older + length bytes ≡ MAX_BYTES
    → refused_in (arrivals shift (stream channel older ++ bytes)) ≡ None → first_cause lane shift (reverse (map (λ value. Came channel value) bytes) ++ older) ≡ Some (StreamTooLong lane)
piece-long lane shift channel [] older none some long good = absurd (omega (arith, some))
piece-long lane shift channel (b ∷ []) older none some long good =
    let here : refused_in (arrivals shift (stream channel (Came channel b ∷ older))) ≡ None = ap (λ (s : List ℕ). refused_in (arrivals shift s)) (stream_here channel b older) ∙ good in
    first-some lane shift (Came channel b) older (StreamTooLong lane) none (cause_of_byte lane shift channel b older here ∙ too_long-some lane (byte_count older + 1) (omega (arith, long)))
piece-long lane shift channel (b ∷ c ∷ cs) older none some long good =
    let newer = Came channel b ∷ older in
    let good' : refused_in (arrivals shift (stream channel newer ++ (c ∷ cs))) ≡ None = ap (λ (s : List ℕ). refused_in (arrivals shift s)) (with_others channel b (c ∷ cs) older) ∙ good in
    let here = refused_before shift (stream channel newer) (c ∷ cs) good' in
    let none' = first-none lane shift (Came channel b) older none (cause_of_byte lane shift channel b older here ∙ too_long-none lane (byte_count older + 1) (omega (arith, long))) in
    ap (first_cause lane shift) (reverse-push (Came channel b) (map (λ value. Came channel value) (c ∷ cs)) older)
    ∙ piece-long lane shift channel (c ∷ cs) newer none' (omega arith) (omega (arith, long)) good'
