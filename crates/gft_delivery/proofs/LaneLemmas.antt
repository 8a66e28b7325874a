-- What a lane tells, by what its channels' streams tell.
use Rattle.std.proofs.Common.{◌≡◌, ℕ, ◌+◌, ◌<◌, ◌≤◌, ◌==◌, Bool, true, false, List, [], ◌∷◌, ◌++◌, length, refl, ap, ◌∙◌, sym, subst, inl, inr, arith}
use Rattle.std.specs.Prelude.{if◌then◌else◌}
use Rattle.std.specs.List.{AllByRecursion}
use Rattle.std.proofs.lemmas.Bool.{eq-eqb, eqb-true, ne_eqb, or_cases}
use Rattle.std.proofs.lemmas.List.{append-nil, length-append}
use Rattle.gft_drive.specs.Words.{sum_below}
use Rattle.gft_eblock.specs.Words.{Arrival, Arrives, arrivals}
use Rattle.gft_outside.specs.Words.{AreInTurn, Came, Ended, LaneInput, Opened, Silence, byte_count, channels_after, gained, is_live, lane_arrivals, no_channels, stream, without}
use Rattle.gft_outside.proofs.Lemmas.{gained_behind, one_channel, stream_here}
use Rattle.gft_delivery.proofs.ListLemmas.{IsClosed, all-append, all-front, all-rest, arrives-cases, arrives-front, arrives-rest, closed-append, closed-rest}
use Rattle.gft_delivery.proofs.SumLemmas.{sum_more, sum_none}

-- ---- bytes come on channels that were opened

-- each byte came on a channel below this number
abbrev pub CameBelow : ℕ → List LaneInput → Type 0
CameBelow n [] = Unit {0}
CameBelow n (Came channel value ∷ older) = (channel < n) × CameBelow n older
CameBelow n (Opened channel ∷ older) = CameBelow n older
CameBelow n (Ended channel ∷ older) = CameBelow n older
CameBelow n (Silence ∷ older) = CameBelow n older

abbrev AreBelow : ℕ → List ℕ → Type 0
AreBelow n live = AllByRecursion (λ (channel : ℕ). channel < n) live

below-more : (n : ℕ) (live : List ℕ) → AreBelow n live → AreBelow (n + 1) live
below-more n [] below = tt
below-more n (c ∷ live) below = let lt = below.0 in (omega (arith, lt), below-more n live below.1)

below-without : (n channel : ℕ) (live : List ℕ) → AreBelow n live → AreBelow n (without channel live)
below-without n channel [] below = tt
below-without n channel (c ∷ live) below = cases (c == channel) below.0 (below-without n channel live below.1)
  where
    cases : (b : Bool) → c < n → AreBelow n (without channel live) → AreBelow n (if b then without channel live else c ∷ without channel live)
    cases true first later = later
    cases false first later = (first, later)

live_below : (n channel : ℕ) (live : List ℕ) → AreBelow n live → is_live channel live ≡ true → channel < n
live_below n channel [] below live = cc
live_below n channel (c ∷ rest) below live = elim (or_cases (c == channel) (is_live channel rest) live) [
  | inl here ↦ subst (λ (k : ℕ). k < n) (eqb-true c channel here) below.0
  | inr later ↦ live_below n channel rest below.1 later
]

all_below : (inputs : List LaneInput) → AreInTurn inputs no_channels → AreBelow (channels_after inputs no_channels).opened (channels_after inputs no_channels).live
all_below [] turn = tt
all_below (Came channel value ∷ older) turn = all_below older turn.0
all_below (Silence ∷ older) turn = all_below older turn.0
all_below (Ended channel ∷ older) turn =
    let before = channels_after older no_channels in
    below-without before.opened channel before.live (all_below older turn.0)
all_below (Opened channel ∷ older) turn =
    let before = channels_after older no_channels in
    let next : channel ≡ before.opened = turn.1 in
    all-append (λ (k : ℕ). k < before.opened + 1) before.live (channel ∷ []) (below-more before.opened before.live (all_below older turn.0)) (omega (arith, next), tt)

pub came_below : (inputs : List LaneInput) → AreInTurn inputs no_channels → (n : ℕ) → (channels_after inputs no_channels).opened ≤ n → CameBelow n inputs
came_below [] turn n most = tt
came_below (Silence ∷ older) turn n most = came_below older turn.0 n most
came_below (Ended channel ∷ older) turn n most = came_below older turn.0 n most
came_below (Opened channel ∷ older) turn n most =
    let few : (channels_after older no_channels).opened + 1 ≤ n = most in
    came_below older turn.0 n (omega (arith, few))
came_below (Came channel value ∷ older) turn n most =
    let before = channels_after older no_channels in
    let lt = live_below before.opened channel before.live (all_below older turn.0) turn.1 in
    let few : before.opened ≤ n = most in
    (omega (arith, lt, few), came_below older turn.0 n most)

-- a channel that wasn't opened has no byte
pub unopened_stream : (n channel : ℕ) → n ≤ channel → (inputs : List LaneInput) → CameBelow n inputs → stream channel inputs ≡ []
unopened_stream n channel past [] below = refl
unopened_stream n channel past (Opened c ∷ older) below = unopened_stream n channel past older below
unopened_stream n channel past (Ended c ∷ older) below = unopened_stream n channel past older below
unopened_stream n channel past (Silence ∷ older) below = unopened_stream n channel past older below
unopened_stream n channel past (Came c value ∷ older) below =
    let lt : c < n = below.0 in
    ap (λ (b : Bool). if b then stream channel older ++ value ∷ [] else stream channel older) (ne_eqb c channel (λ is. omega (arith, is, lt, past)))
    ∙ unopened_stream n channel past older below.1

pub arrivals_none : arrivals 0 [] ≡ []
arrivals_none = sym (one_channel 0 0 [] tt)

-- ---- one byte more

-- what a channel's stream gains by a byte of this or another channel
abbrev more_on : ℕ → ℕ → List LaneInput → ℕ → List Arrival
more_on c value older channel = if c == channel then gained 0 (stream c older) (value ∷ []) else []

arrivals_more : (c value : ℕ) (older : List LaneInput) (channel : ℕ) → arrivals 0 (stream channel (Came c value ∷ older)) ≡ arrivals 0 (stream channel older) ++ more_on c value older channel
arrivals_more c value older channel = cases (c == channel) refl
  where
    cases : (b : Bool) → (c == channel) ≡ b → arrivals 0 (if b then stream channel older ++ value ∷ [] else stream channel older) ≡ arrivals 0 (stream channel older) ++ (if b then gained 0 (stream c older) (value ∷ []) else [])
    cases false apart = sym (append-nil (arrivals 0 (stream channel older)))
    cases true same =
        gained_behind 0 (stream channel older) (value ∷ [])
        ∙ ap (λ (k : ℕ). arrivals 0 (stream channel older) ++ gained 0 (stream k older) (value ∷ [])) (sym (eqb-true c channel same))

more_here : (c value : ℕ) (older : List LaneInput) → more_on c value older c ≡ gained 0 (stream c older) (value ∷ [])
more_here c value older = ap (λ (b : Bool). if b then gained 0 (stream c older) (value ∷ []) else []) (eq-eqb c c refl)

more_there : (c value : ℕ) (older : List LaneInput) (channel : ℕ) → (channel ≡ c → ⊥) → more_on c value older channel ≡ []
more_there c value older channel apart = ap (λ (b : Bool). if b then gained 0 (stream c older) (value ∷ []) else []) (ne_eqb c channel (λ is. apart (sym is)))

-- ---- what all streams' arrivals are, the lane's are

module _ (P : Arrival → Type 0) where
  pub lane_all : (inputs : List LaneInput) → ((channel : ℕ) → AllByRecursion P (arrivals 0 (stream channel inputs))) → AllByRecursion P (lane_arrivals 0 inputs)
  lane_all [] each = tt
  lane_all (Opened c ∷ older) each = lane_all older each
  lane_all (Ended c ∷ older) each = lane_all older each
  lane_all (Silence ∷ older) each = lane_all older each
  lane_all (Came c value ∷ older) each =
      let both : (channel : ℕ) → AllByRecursion P (arrivals 0 (stream channel older) ++ more_on c value older channel) =
      λ channel. subst (AllByRecursion P) (arrivals_more c value older channel) (each channel) in
      let last = subst (AllByRecursion P) (more_here c value older) (all-rest P (arrivals 0 (stream c older)) (more_on c value older c) (both c)) in
      all-append P (lane_arrivals 0 older) (gained 0 (stream c older) (value ∷ []))
      (lane_all older (λ channel. all-front P (arrivals 0 (stream channel older)) (more_on c value older channel) (both channel))) last

-- an offset that a channel's stream brings
pub lane_arrives : (inputs : List LaneInput) (channel x : ℕ) → Arrives (arrivals 0 (stream channel inputs)) x → Arrives (lane_arrivals 0 inputs) x
lane_arrives [] channel x h = subst (λ (l : List Arrival). Arrives l x) arrivals_none h
lane_arrives (Opened c ∷ older) channel x h = lane_arrives older channel x h
lane_arrives (Ended c ∷ older) channel x h = lane_arrives older channel x h
lane_arrives (Silence ∷ older) channel x h = lane_arrives older channel x h
lane_arrives (Came c value ∷ older) channel x h =
    let more = gained 0 (stream c older) (value ∷ []) in
    elim (arrives-cases (arrivals 0 (stream channel older)) (more_on c value older channel) x (subst (λ (l : List Arrival). Arrives l x) (arrivals_more c value older channel) h)) [
      | inl before ↦ arrives-front (lane_arrivals 0 older) more x (lane_arrives older channel x before)
      | inr now ↦ arrives-rest (lane_arrivals 0 older) more x (cases (c == channel) now)
    ]
  where
    cases : (b : Bool) → Arrives (if b then gained 0 (stream c older) (value ∷ []) else []) x → Arrives (gained 0 (stream c older) (value ∷ [])) x
    cases true now = now
    cases false now = absurd now

-- if each stream ends with an EOD, or has nothing, so does the lane
pub lane_closed : (inputs : List LaneInput) → ((channel : ℕ) → IsClosed (arrivals 0 (stream channel inputs))) → IsClosed (lane_arrivals 0 inputs)
lane_closed [] each = tt
lane_closed (Opened c ∷ older) each = lane_closed older each
lane_closed (Ended c ∷ older) each = lane_closed older each
lane_closed (Silence ∷ older) each = lane_closed older each
lane_closed (Came c value ∷ older) each = cases (λ all. lane_closed older all) (gained 0 (stream c older) (value ∷ [])) refl
  where
    both : (channel : ℕ) → IsClosed (arrivals 0 (stream channel older) ++ more_on c value older channel)
    both channel = subst IsClosed (arrivals_more c value older channel) (each channel)

    no_more : (channel : ℕ) (b : Bool) → gained 0 (stream c older) (value ∷ []) ≡ [] → (if b then gained 0 (stream c older) (value ∷ []) else []) ≡ []
    no_more channel true none = none
    no_more channel false none = refl

    cases : (((channel : ℕ) → IsClosed (arrivals 0 (stream channel older))) → IsClosed (lane_arrivals 0 older)) → (more : List Arrival) → gained 0 (stream c older) (value ∷ []) ≡ more → IsClosed (lane_arrivals 0 older ++ more)
    cases closes [] none = subst IsClosed (sym (append-nil (lane_arrivals 0 older)))
        (closes (λ channel. subst IsClosed (ap (λ (l : List Arrival). arrivals 0 (stream channel older) ++ l) (no_more channel (c == channel) none) ∙ append-nil (arrivals 0 (stream channel older))) (both channel)))
    cases closes (y ∷ ys) is =
        let here : IsClosed (arrivals 0 (stream c older) ++ (y ∷ ys)) = subst (λ (l : List Arrival). IsClosed (arrivals 0 (stream c older) ++ l)) (more_here c value older ∙ is) (both c) in
        closed-append (lane_arrivals 0 older) y ys (closed-rest (arrivals 0 (stream c older)) (y ∷ ys) here)

-- ---- what is counted on all streams is counted on the lane

module _ (many : List Arrival → ℕ) (none : many [] ≡ 0) (both : (a b : List Arrival) → many (a ++ b) ≡ many a + many b) where
  pub lane_many : (n : ℕ) (inputs : List LaneInput) → CameBelow n inputs → many (lane_arrivals 0 inputs) ≡ sum_below (λ channel. many (arrivals 0 (stream channel inputs))) n
  lane_many n [] below = none ∙ sym (sum_none (λ channel. many (arrivals 0 [])) n (λ channel. ap many arrivals_none ∙ none))
  lane_many n (Opened c ∷ older) below = lane_many n older below
  lane_many n (Ended c ∷ older) below = lane_many n older below
  lane_many n (Silence ∷ older) below = lane_many n older below
  lane_many n (Came c value ∷ older) below =
      let more = gained 0 (stream c older) (value ∷ []) in
      both (lane_arrivals 0 older) more
      ∙ ap (λ (k : ℕ). k + many more) (lane_many n older below.1)
      ∙ sym (sum_more (λ channel. many (arrivals 0 (stream channel older))) (λ channel. many (arrivals 0 (stream channel (Came c value ∷ older)))) (many more) c n below.0
      (ap many (arrivals_more c value older c ∙ ap (λ (l : List Arrival). arrivals 0 (stream c older) ++ l) (more_here c value older)) ∙ both (arrivals 0 (stream c older)) more)
      (λ channel apart. ap many (arrivals_more c value older channel ∙ ap (λ (l : List Arrival). arrivals 0 (stream channel older) ++ l) (more_there c value older channel apart) ∙ append-nil (arrivals 0 (stream channel older)))))

pub lane_bytes : (n : ℕ) (inputs : List LaneInput) → CameBelow n inputs → byte_count inputs ≡ sum_below (λ channel. length (stream channel inputs)) n
lane_bytes n [] below = sym (sum_none (λ channel. 0) n (λ channel. refl))
lane_bytes n (Opened c ∷ older) below = lane_bytes n older below
lane_bytes n (Ended c ∷ older) below = lane_bytes n older below
lane_bytes n (Silence ∷ older) below = lane_bytes n older below
lane_bytes n (Came c value ∷ older) below =
    ap (λ (k : ℕ). k + 1) (lane_bytes n older below.1)
    ∙ sym (sum_more (λ channel. length (stream channel older)) (λ channel. length (stream channel (Came c value ∷ older))) 1 c n below.0
    (ap (λ (l : List ℕ). length l) (stream_here c value older) ∙ length-append (stream c older) (value ∷ []))
    (λ channel apart. ap (λ (b : Bool). length (if b then stream channel older ++ value ∷ [] else stream channel older)) (ne_eqb c channel (λ is. apart (sym is)))))
