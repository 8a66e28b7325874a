-- What comes behind an EOF: the EOD of its channel.
use Rattle.std.proofs.Common.{◌≡◌, ◌⊎◌, ◌==◌, ℕ, ◌+◌, ◌<◌, ◌≤◌, Bool, true, false, List, [], ◌∷◌, ◌++◌, length, refl, sym, ap, ◌∙◌, subst, ⊎_elim, inl, inr, arith}
use Rattle.std.specs.Prelude.{if◌then◌else◌}
use Rattle.std.proofs.lemmas.Bool.{eqb-true}
use Rattle.std.proofs.lemmas.List.{append_assoc, length-append}
use Rattle.gft_eblock.specs.Words.{Arrival, At, Bad, Eod, Eof, arrivals, eods}
use Rattle.gft_eblock.proofs.Lemmas.{IsLastEod, eods-append, last_eod}
use Rattle.gft_outside.specs.Words.{Came, Ended, EndsItsChannels, LaneInput, Opened, Silence, gained, lane_arrivals, stream}
use Rattle.gft_outside.proofs.Lemmas.{gained_behind, stream_here}

-- ---- before an EOF there is none

none_before : (a b : List Arrival) (total : ℕ) → IsLastEod (a ++ Eof total ∷ b) → eods a ≡ 0
none_before [] b total last = refl
none_before (At offset value ∷ a) b total last = none_before a b total last
none_before (Eof t ∷ a) b total last = none_before a b total last
none_before (Eod ∷ a) b total last = absurd (let long = ap (λ (l : List Arrival). length l) last in omega (arith, long, length-append a (Eof total ∷ b)))
none_before (Bad refused ∷ a) b total last = none_before a b total last

-- ---- the input that brought an EOF

record Brought (shift : ℕ) (inputs : List LaneInput) (front : List Arrival) (total : ℕ) : Type 0 where
  newer : List LaneInput
  older : List LaneInput
  channel : ℕ
  value : ℕ
  before : List Arrival
  behind : List Arrival
  is : inputs ≡ newer ++ Came channel value ∷ older
  front_is : front ≡ lane_arrivals shift older ++ before
  here : gained shift (stream channel older) (value ∷ []) ≡ before ++ Eof total ∷ behind

-- an item of two lists in a row is in the first or in the second
splits : {A : Type 0} (a g front : List A) (x : A) (behind : List A) → a ++ g ≡ front ++ x ∷ behind → ((more : List A) × (a ≡ front ++ x ∷ more)) ⊎ ((before : List A) × (front ≡ a ++ before) × (g ≡ before ++ x ∷ behind))
splits [] g front x behind e = inr (front, refl, e)
splits {A = A} (y ∷ a) g [] x behind e = inl (a, ap (λ (z : A). z ∷ a) (first (a ++ g) behind y x e))
  where
    first : (l r : List A) (p q : A) → p ∷ l ≡ q ∷ r → p ≡ q
    first l r p q is = cc
splits {A = A} (y ∷ a) g (z ∷ front) x behind e = ⊎_elim
    (λ (inside : (more : List A) × (a ≡ front ++ x ∷ more)). inl (inside.0, same y z a (front ++ x ∷ inside.0) (first (a ++ g) (front ++ x ∷ behind) y z e) inside.1))
    (λ (later : (before : List A) × (front ≡ a ++ before) × (g ≡ before ++ x ∷ behind)). inr (later.0, same z y front (a ++ later.0) (sym (first (a ++ g) (front ++ x ∷ behind) y z e)) later.1, later.2))
    (splits a g front x behind (rest (a ++ g) (front ++ x ∷ behind) y z e))
  where
    first : (l r : List A) (p q : A) → p ∷ l ≡ q ∷ r → p ≡ q
    first l r p q is = cc

    rest : (l r : List A) (p q : A) → p ∷ l ≡ q ∷ r → l ≡ r
    rest l r p q is = cc

    same : (p q : A) (l r : List A) → p ≡ q → l ≡ r → p ∷ l ≡ q ∷ r
    same p q l r head tail = cc

later_by : (input : LaneInput) (shift : ℕ) (inputs : List LaneInput) (front : List Arrival) (total : ℕ) → Brought shift inputs front total → Brought shift (input ∷ inputs) front total
later_by input shift inputs front total b = record {
  newer = input ∷ b.newer;
  older = b.older;
  channel = b.channel;
  value = b.value;
  before = b.before;
  behind = b.behind;
  is = ap (λ (l : List LaneInput). input ∷ l) b.is;
  front_is = b.front_is;
  here = b.here;
}

brought : (shift : ℕ) (inputs : List LaneInput) (front behind : List Arrival) (total : ℕ) → lane_arrivals shift inputs ≡ front ++ Eof total ∷ behind → Brought shift inputs front total
brought shift [] front behind total e = absurd (let long = ap (λ (l : List Arrival). length l) e in omega (arith, long, length-append front (Eof total ∷ behind)))
brought shift (Opened n ∷ older) front behind total e = later_by (Opened n) shift older front total (brought shift older front behind total e)
brought shift (Ended n ∷ older) front behind total e = later_by (Ended n) shift older front total (brought shift older front behind total e)
brought shift (Silence ∷ older) front behind total e = later_by Silence shift older front total (brought shift older front behind total e)
brought shift (Came n v ∷ older) front behind total e =
    let here = gained shift (stream n older) (v ∷ []) in
    ⊎_elim
    (λ (inside : (more : List Arrival) × (lane_arrivals shift older ≡ front ++ Eof total ∷ more)). later_by (Came n v) shift older front total (brought shift older front inside.0 total inside.1))
    (λ (now : (before : List Arrival) × (front ≡ lane_arrivals shift older ++ before) × (here ≡ before ++ Eof total ∷ behind)). record {
      newer = [];
      older = older;
      channel = n;
      value = v;
      before = now.0;
      behind = behind;
      is = refl;
      front_is = now.1;
      here = now.2;
    })
    (splits (lane_arrivals shift older) here front (Eof total) behind e)

-- ---- how many EODs come later

-- a lane brings at least the EODs that one of its channels brings
channel_more : (shift n : ℕ) (newer older : List LaneInput) → eods (lane_arrivals shift older) + eods (arrivals shift (stream n (newer ++ older))) ≤ eods (lane_arrivals shift (newer ++ older)) + eods (arrivals shift (stream n older))
channel_more shift n [] older = omega arith
channel_more shift n (Opened m ∷ newer) older = channel_more shift n newer older
channel_more shift n (Ended m ∷ newer) older = channel_more shift n newer older
channel_more shift n (Silence ∷ newer) older = channel_more shift n newer older
channel_more shift n (Came m v ∷ newer) older =
    cases (m == n) refl (lane_arrivals shift (newer ++ older)) (gained shift (stream m (newer ++ older)) (v ∷ [])) refl (channel_more shift n newer older)
  where
    cases : (b : Bool) → (m == n) ≡ b → (had here : List Arrival) → here ≡ gained shift (stream m (newer ++ older)) (v ∷ []) → eods (lane_arrivals shift older) + eods (arrivals shift (stream n (newer ++ older))) ≤ eods had + eods (arrivals shift (stream n older))
        → eods (lane_arrivals shift older) + eods (arrivals shift (if b then stream n (newer ++ older) ++ v ∷ [] else stream n (newer ++ older))) ≤ eods (had ++ here) + eods (arrivals shift (stream n older))
    cases false apart had here is h = let sum = eods-append had here in omega (arith, h, sum)
    cases true same had here is h =
        let sum = eods-append had here in
        let mine : here ≡ gained shift (stream n (newer ++ older)) (v ∷ []) = is ∙ ap (λ (k : ℕ). gained shift (stream k (newer ++ older)) (v ∷ [])) (eqb-true m n same) in
        let grown : eods (arrivals shift (stream n (newer ++ older) ++ v ∷ [])) ≡ eods (arrivals shift (stream n (newer ++ older))) + eods (gained shift (stream n (newer ++ older)) (v ∷ [])) =
        ap eods (gained_behind shift (stream n (newer ++ older)) (v ∷ [])) ∙ eods-append (arrivals shift (stream n (newer ++ older))) (gained shift (stream n (newer ++ older)) (v ∷ [])) in
        let as_many = ap eods mine in
        omega (arith, h, sum, grown, as_many)

-- a channel that has given a byte has given one
stream_stays : (n : ℕ) (newer older : List LaneInput) → 0 < length (stream n older) → 0 < length (stream n (newer ++ older))
stream_stays n [] older some = some
stream_stays n (Opened m ∷ newer) older some = stream_stays n newer older some
stream_stays n (Ended m ∷ newer) older some = stream_stays n newer older some
stream_stays n (Silence ∷ newer) older some = stream_stays n newer older some
stream_stays n (Came m v ∷ newer) older some = cases (m == n) (stream_stays n newer older some)
  where
    cases : (b : Bool) → 0 < length (stream n (newer ++ older)) → 0 < length (if b then stream n (newer ++ older) ++ v ∷ [] else stream n (newer ++ older))
    cases false before = before
    cases true before = omega (arith, length-append (stream n (newer ++ older)) (v ∷ []))

-- behind an EOF an EOD comes, where each channel that gave a byte gave its EOD
pub eod_behind : (shift : ℕ) (inputs : List LaneInput) (front behind : List Arrival) (total : ℕ) → EndsItsChannels shift inputs → lane_arrivals shift inputs ≡ front ++ Eof total ∷ behind → 1 ≤ eods behind
eod_behind shift inputs front behind total ends is =
    let b = brought shift inputs front behind total is in
    let n = b.channel in
    let told = arrivals shift (stream n b.older) in
    let gain = gained shift (stream n b.older) (b.value ∷ []) in
    let at = Came n b.value ∷ b.older in
    let now : arrivals shift (stream n at) ≡ told ++ gain = ap (arrivals shift) (stream_here n b.value b.older) ∙ gained_behind shift (stream n b.older) (b.value ∷ []) in
    let split : arrivals shift (stream n at) ≡ (told ++ b.before) ++ Eof total ∷ b.behind = now ∙ ap (λ (l : List Arrival). told ++ l) b.here ∙ sym (append_assoc told b.before (Eof total ∷ b.behind)) in
    let none = none_before (told ++ b.before) b.behind total (subst IsLastEod split (last_eod shift (stream n at))) in
    let none_sum = eods-append told b.before in
    let some : 0 < length (stream n at) = (let one = ap (λ (l : List ℕ). length l) (stream_here n b.value b.older) in omega (arith, one, length-append (stream n b.older) (b.value ∷ []))) in
    let whole_some : 0 < length (stream n inputs) = subst (λ (l : List LaneInput). 0 < length (stream n l)) (sym b.is) (stream_stays n b.newer at some) in
    let one : eods (arrivals shift (stream n inputs)) ≡ 1 = ends n whole_some in
    let more : eods (lane_arrivals shift at) + eods (arrivals shift (stream n inputs)) ≤ eods (lane_arrivals shift inputs) + eods (arrivals shift (stream n at)) =
    subst (λ (l : List LaneInput). eods (lane_arrivals shift at) + eods (arrivals shift (stream n l)) ≤ eods (lane_arrivals shift l) + eods (arrivals shift (stream n at))) (sym b.is) (channel_more shift n b.newer at) in
    let lane_now : eods (lane_arrivals shift at) ≡ eods (lane_arrivals shift b.older) + eods gain = eods-append (lane_arrivals shift b.older) gain in
    let stream_now : eods (arrivals shift (stream n at)) ≡ eods told + eods gain = ap eods now ∙ eods-append told gain in
    let all : eods (lane_arrivals shift inputs) ≡ eods front + eods behind = ap eods is ∙ eods-append front (Eof total ∷ behind) in
    let front_sum : eods front ≡ eods (lane_arrivals shift b.older) + eods b.before = ap eods b.front_is ∙ eods-append (lane_arrivals shift b.older) b.before in
    omega (arith, none, none_sum, one, more, lane_now, stream_now, all, front_sum)
