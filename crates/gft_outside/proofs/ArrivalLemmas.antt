-- What the bytes of a lane bring, however they were cut.
use Rattle.std.proofs.Common.{◌≡◌, ℕ, ◌==◌, Bool, false, List, [], ◌∷◌, ◌++◌, length, drop, map, reverse, refl, sym, ap, ◌∙◌, subst, arith}
use Rattle.std.specs.Prelude.{if◌then◌else◌}
use Rattle.std.proofs.lemmas.Bool.{eq-eqb}
use Rattle.std.proofs.lemmas.List.{append_assoc, append-nil, drop_all, drop_at, reverse-append}
use Rattle.gft_eblock.specs.Words.{arrivals, blocks_from}
use Rattle.gft_eblock.proofs.Lemmas.{arrivals-grow}
use Rattle.gft_outside.specs.LaneInputs.{Came, Ended, LaneInput, Opened, Silence}
use Rattle.gft_outside.specs.LaneArrivals.{gained, lane_arrivals, stream}
use Rattle.gft_outside.specs.Laws.{CutsLaw, OneChannelLaw}

arrivals-nil : (shift : ℕ) → arrivals shift [] ≡ []
unfolding arrivals blocks_from
arrivals-nil shift = refl

-- what a stream gains stands behind what it told before
pub gained_behind : (shift : ℕ) (before bytes : List ℕ) → arrivals shift (before ++ bytes) ≡ arrivals shift before ++ gained shift before bytes
gained_behind shift before bytes =
    let grows = arrivals-grow shift before bytes in
    let told = arrivals shift before in
    grows.1 ∙ ap (λ l. told ++ l) (sym (ap (drop (length told)) grows.1 ∙ drop_at told grows.0 (length told) refl))

-- no byte brings nothing
pub gained_none : (shift : ℕ) (before : List ℕ) → gained shift before [] ≡ []
gained_none shift before =
    let told = arrivals shift before in
    ap (λ l. drop (length told) (arrivals shift l)) (append-nil before) ∙ drop_all (length told) told (omega arith)

-- bytes bring what the first brings, and then what the others do
pub gained_more : (shift : ℕ) (before first next : List ℕ) → gained shift before (first ++ next) ≡ gained shift before first ++ gained shift (before ++ first) next
gained_more shift before first next =
    let told = arrivals shift before in
    let one = gained shift before first in
    let two = gained shift (before ++ first) next in
    let all : arrivals shift (before ++ (first ++ next)) ≡ told ++ (one ++ two) =
    ap (arrivals shift) (sym (append_assoc before first next)) ∙ gained_behind shift (before ++ first) next
    ∙ ap (λ l. l ++ two) (gained_behind shift before first) ∙ append_assoc told one two in
    ap (drop (length told)) all ∙ drop_at told (one ++ two) (length told) refl

-- ---- bytes that came on one channel

pub reverse-push : {A : Type 0} (x : A) (xs ys : List A) → reverse (x ∷ xs) ++ ys ≡ reverse xs ++ x ∷ ys
reverse-push x xs ys = ap (λ l. l ++ ys) (reverse-append (x ∷ []) xs) ∙ append_assoc (reverse xs) (x ∷ []) ys

pub stream_here : (channel value : ℕ) (older : List LaneInput) → stream channel (Came channel value ∷ older) ≡ stream channel older ++ value ∷ []
stream_here channel value older = ap (λ (b : Bool). if b then stream channel older ++ value ∷ [] else stream channel older) (eq-eqb channel channel refl)

-- they stand behind those of before
pub stream_came : (channel : ℕ) (bytes : List ℕ) (older : List LaneInput) → stream channel (reverse (map (λ value. Came channel value) bytes) ++ older) ≡ stream channel older ++ bytes
stream_came channel [] older = sym (append-nil (stream channel older))
stream_came channel (b ∷ bs) older =
    ap (stream channel) (reverse-push (Came channel b) (map (λ value. Came channel value) bs) older)
    ∙ stream_came channel bs (Came channel b ∷ older)
    ∙ ap (λ l. l ++ bs) (stream_here channel b older)
    ∙ append_assoc (stream channel older) (b ∷ []) bs

-- and other channels have what they had
pub stream_other : (other channel : ℕ) (bytes : List ℕ) (older : List LaneInput) → (channel == other) ≡ false → stream other (reverse (map (λ value. Came channel value) bytes) ++ older) ≡ stream other older
stream_other other channel [] older apart = refl
stream_other other channel (b ∷ bs) older apart =
    ap (stream other) (reverse-push (Came channel b) (map (λ value. Came channel value) bs) older)
    ∙ stream_other other channel bs (Came channel b ∷ older) apart
    ∙ ap (λ (x : Bool). if x then stream other older ++ b ∷ [] else stream other older) apart

pub cuts : CutsLaw
cuts shift channel [] older = sym (ap (λ l. lane_arrivals shift older ++ l) (gained_none shift (stream channel older)) ∙ append-nil (lane_arrivals shift older))
cuts shift channel (b ∷ bs) older =
    let told = lane_arrivals shift older in
    let before = stream channel older in
    ap (lane_arrivals shift) (reverse-push (Came channel b) (map (λ value. Came channel value) bs) older)
    ∙ cuts shift channel bs (Came channel b ∷ older)
    ∙ ap (λ s. (told ++ gained shift before (b ∷ [])) ++ gained shift s bs) (stream_here channel b older)
    ∙ append_assoc told (gained shift before (b ∷ [])) (gained shift (before ++ b ∷ []) bs)
    ∙ ap (λ l. told ++ l) (sym (gained_more shift before (b ∷ []) bs))

-- ---- a lane with one channel

pub one_channel : OneChannelLaw
one_channel shift channel [] only = sym (arrivals-nil shift)
one_channel shift channel (Opened n ∷ older) only = one_channel shift channel older only
one_channel shift channel (Ended n ∷ older) only = one_channel shift channel older only
one_channel shift channel (Silence ∷ older) only = one_channel shift channel older only
one_channel shift channel (Came n value ∷ older) only =
    let before = stream channel older in
    subst (λ m. lane_arrivals shift (Came m value ∷ older) ≡ arrivals shift (stream channel (Came m value ∷ older))) (sym only.0)
    (ap (λ l. l ++ gained shift before (value ∷ [])) (one_channel shift channel older only.1)
    ∙ sym (gained_behind shift before (value ∷ []))
    ∙ ap (arrivals shift) (sym (stream_here channel value older)))
