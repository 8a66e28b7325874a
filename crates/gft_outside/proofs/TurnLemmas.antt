-- Channels of a lane, and which inputs can come.
use Rattle.std.proofs.lemmas.Bool.{eqb-true}
use Rattle.std.proofs.Common.{◌≡◌, ℕ, ◌+◌, ◌<◌, ◌≤◌, ◌==◌, ◌||◌, ◌&&◌, Bool, true, false, not, List, [], ◌∷◌, ◌++◌, length, get_or, take, drop, map, reverse, refl, sym, ap, ◌∙◌, subst, arith}
use Rattle.std.specs.Prelude.{if◌then◌else◌}
use Rattle.std.specs.List.{flat_map}
use Rattle.std.proofs.lemmas.Grind.{flat_map-append}
use Rattle.std.proofs.lemmas.List.{append_assoc, append-nil, reverse-append}
use Rattle.gft_outside.specs.LaneInputs.{AreInTurn, Came, Channels, channels_after, is_live, no_channels, without}
use Rattle.gft_outside.specs.LaneScripts.{can_come, channels_behind, channels_of, front_in_turn, lane_inputs, live_by, opened_by}
use Rattle.gft_outside.specs.declared.lane_item.LaneItem.{LaneItem}
use Rattle.gft_outside.specs.declared.lane_item.LaneItem.TheVariants as item
use Rattle.gft_outside.proofs.Places.{item_here}
use Rattle.gft_outside.proofs.StateLemmas.{channels_after-append, in_turn-append}

-- ---- live channels

swap : (a b c : Bool) → (a || (b || c)) ≡ (b || (a || c))
swap true true c = refl
swap true false c = refl
swap false b c = refl

is_live-push : (channel other : ℕ) (live : List ℕ) → is_live channel (live ++ other ∷ []) ≡ ((other == channel) || is_live channel live)
is_live-push channel other [] = refl
is_live-push channel other (n ∷ ns) = ap (λ b. (n == channel) || b) (is_live-push channel other ns) ∙ swap (n == channel) (other == channel) (is_live channel ns)

is_live_if : (b : Bool) (channel n : ℕ) (ns : List ℕ) → is_live channel (if b then ns else n ∷ ns) ≡ (if b then is_live channel ns else ((n == channel) || is_live channel ns))
is_live_if true channel n ns = refl
is_live_if false channel n ns = refl

-- of a and b that can't hold both unless c does: what the head of a list adds
head : (a b c r : Bool) → (a ≡ true → b ≡ false → c ≡ false) → (a ≡ false → b ≡ true → c ≡ false)
    → (if a then (not b && r) else (c || (not b && r))) ≡ (not b && (c || r))
head true true c r p q = refl
head true false true r p q = let e = p refl refl in cc
head true false false r p q = refl
head false true true r p q = let e = q refl refl in cc
head false true false r p q = refl
head false false c r p q = refl

same_eqb : (n other channel : ℕ) → (n == other) ≡ true → (other == channel) ≡ false → (n == channel) ≡ false
same_eqb n other channel same apart = ap (λ m. m == channel) (eqb-true n other same) ∙ apart

other_eqb : (n other channel : ℕ) → (n == other) ≡ false → (other == channel) ≡ true → (n == channel) ≡ false
other_eqb n other channel apart same = sym (ap (λ m. n == m) (eqb-true other channel same)) ∙ apart

is_live-without : (channel other : ℕ) (live : List ℕ) → is_live channel (without other live) ≡ (not (other == channel) && is_live channel live)
is_live-without channel other [] = elim (other == channel) as (λ b. false ≡ (not b && false)) [ true ↦ refl | false ↦ refl ]
is_live-without channel other (n ∷ ns) =
    is_live_if (n == other) channel n (without other ns)
    ∙ ap (λ x. if n == other then x else ((n == channel) || x)) (is_live-without channel other ns)
    ∙ head (n == other) (other == channel) (n == channel) (is_live channel ns) (same_eqb n other channel) (other_eqb n other channel)

-- ---- what an item does to the channels

-- bytes leave them as they are
pub channels_came : (channel : ℕ) (bytes : List ℕ) (before : Channels) → channels_after (reverse (map (λ value. Came channel value) bytes)) before ≡ before
channels_came channel [] before = refl
channels_came channel (b ∷ bs) before =
    ap (λ l. channels_after l before) (reverse-append (Came channel b ∷ []) (map (λ value. Came channel value) bs))
    ∙ channels_after-append (reverse (map (λ value. Came channel value) bs)) (Came channel b ∷ []) before
    ∙ channels_came channel bs before

-- the channels behind one item more
pub channels_of-push : (items : List LaneItem) (item : LaneItem) → channels_of (items ++ item ∷ []) ≡ channels_behind item (channels_of items)
channels_of-push items item =
    let front = flat_map lane_inputs items in
    ap (λ l. channels_after (reverse l) no_channels) (flat_map-append lane_inputs items (item ∷ []) ∙ ap (λ l. front ++ l) (append-nil (lane_inputs item)))
    ∙ ap (λ l. channels_after l no_channels) (reverse-append front (lane_inputs item))
    ∙ channels_after-append (reverse (lane_inputs item)) (reverse front) no_channels

-- ---- inputs that can come

in_turn_came : (channel : ℕ) (bytes : List ℕ) (before : Channels) → is_live channel before.live ≡ true → AreInTurn (reverse (map (λ value. Came channel value) bytes)) before
in_turn_came channel [] before live = tt
in_turn_came channel (b ∷ bs) before live =
    let rest = map (λ value. Came channel value) bs in
    subst (λ l. AreInTurn l before) (sym (reverse-append (Came channel b ∷ []) rest))
    (in_turn-append (reverse rest) (Came channel b ∷ []) before (tt, live) (in_turn_came channel bs before live))

in_turn_item : (channels : Channels) (item : LaneItem) → can_come channels item ≡ true → AreInTurn (reverse (lane_inputs item)) channels
in_turn_item channels (item.Opened channel) can = (tt, sym (eqb-true channels.opened channel can))
in_turn_item channels (item.Bytes channel bytes) can = in_turn_came channel bytes channels can
in_turn_item channels (item.Ended channel) can = (tt, can)
in_turn_item channels item.Quiet can = (tt, tt)

front_of : (items : List LaneItem) (it : LaneItem) (channels : Channels) (b : Bool) → can_come channels it ≡ b
    → AreInTurn (reverse (flat_map lane_inputs (front_in_turn (channels_behind it channels) items))) (channels_behind it channels)
    → AreInTurn (reverse (flat_map lane_inputs (if b then it ∷ front_in_turn (channels_behind it channels) items else []))) channels
front_of items it channels true can rest =
    let later = flat_map lane_inputs (front_in_turn (channels_behind it channels) items) in
    subst (λ l. AreInTurn l channels) (sym (reverse-append (lane_inputs it) later))
    (in_turn-append (reverse later) (reverse (lane_inputs it)) channels (in_turn_item channels it can) rest)
front_of items it channels false can rest = tt

pub in_turn_front : (items : List LaneItem) (channels : Channels) → AreInTurn (reverse (flat_map lane_inputs (front_in_turn channels items))) channels
in_turn_front [] channels = tt
in_turn_front (it ∷ items) channels = front_of items it channels (can_come channels it) refl (in_turn_front items (channels_behind it channels))

-- ---- what the scans count

pub opened_behind : (items : List LaneItem) (it : LaneItem) → (channels_of (items ++ it ∷ [])).opened ≡ (channels_of items).opened + opened_by it
opened_behind items it = ap (λ (ch : Channels). ch.opened) (channels_of-push items it) ∙ by_item (channels_of items) it where
  by_item : (before : Channels) (it : LaneItem) → (channels_behind it before).opened ≡ before.opened + opened_by it
  by_item before (item.Opened channel) = refl
  by_item before (item.Bytes channel bytes) = ap (λ (ch : Channels). ch.opened) (channels_came channel bytes before) ∙ omega arith
  by_item before (item.Ended channel) = omega arith
  by_item before item.Quiet = omega arith

pub live_behind : (items : List LaneItem) (it : LaneItem) (channel : ℕ) → is_live channel (channels_of (items ++ it ∷ [])).live ≡ live_by channel it (is_live channel (channels_of items).live)
live_behind items it channel = ap (λ (ch : Channels). is_live channel ch.live) (channels_of-push items it) ∙ by_item (channels_of items) it where
  by_item : (before : Channels) (it : LaneItem) → is_live channel (channels_behind it before).live ≡ live_by channel it (is_live channel before.live)
  by_item before (item.Opened number) = is_live-push channel number before.live
  by_item before (item.Bytes number bytes) = ap (λ (ch : Channels). is_live channel ch.live) (channels_came number bytes before)
  by_item before (item.Ended number) = is_live-without channel number before.live
  by_item before item.Quiet = refl

-- an item more can come
pub front_step : (items : List LaneItem) (i : ℕ) (it : LaneItem) → i < length items → it ≡ get_or items i it
    → can_come (channels_of (take i items)) it ≡ true
    → front_in_turn no_channels items ≡ take i items ++ front_in_turn (channels_of (take i items)) (drop i items)
    → front_in_turn no_channels items ≡ take (i + 1) items ++ front_in_turn (channels_of (take (i + 1) items)) (drop (i + 1) items)
front_step items i it lt is can so_far =
    let here = item_here items items it i refl lt is in
    let later = drop (i + 1) items in
    let before = channels_of (take i items) in
    so_far
    ∙ ap (λ l. take i items ++ front_in_turn before l) here.0
    ∙ ap (λ b. take i items ++ (if b then it ∷ front_in_turn (channels_behind it before) later else [])) can
    ∙ ap (λ ch. take i items ++ it ∷ front_in_turn ch later) (sym (channels_of-push (take i items) it) ∙ ap channels_of (sym here.1))
    ∙ sym (append_assoc (take i items) (it ∷ []) (front_in_turn (channels_of (take (i + 1) items)) later))
    ∙ ap (λ l. l ++ front_in_turn (channels_of (take (i + 1) items)) later) (sym here.1)

pub opened_few : (it : LaneItem) → opened_by it ≤ 1
opened_few (item.Opened channel) = omega arith
opened_few (item.Bytes channel bytes) = omega arith
opened_few (item.Ended channel) = omega arith
opened_few item.Quiet = omega arith
