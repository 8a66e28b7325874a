-- The live connections of a lane, when one is opened, gives bytes or ends.
use Rattle.std.proofs.Common.{◌≡◌, ◌==◌, ◌||◌, ℕ, zero, suc, ◌+◌, ◌<◌, List, [], ◌∷◌, ◌++◌, length, Some, Bool, true, false, refl, sym, ap, ◌∙◌, subst, arith, ne_eqb, map, reverse, take, get_or, length-append, length-set}
use Rattle.std.specs.Prelude.{if◌then◌else◌, slice_get, set, Ok}
use Rattle.std.proofs.lemmas.Bool.{eq-eqb}
use Rattle.std.proofs.lemmas.List.{reverse-append}
use Rattle.gft_base.specs.declared.errors.Failed.{Failed}
use Rattle.gft_outside.specs.Words.{AreInTurn, Came, Channels, LaneEnds, LaneInput, LaneState, channels_after, ends_lane, is_live, without}
use Rattle.gft_outside.specs.declared.LaneEvent.{LaneEvent}
use Rattle.gft_outside.specs.declared.LaneEvent.TheVariants as event
use Rattle.gft_outside.proofs.Lemmas.{channels_after-append, in_turn-append}
use Rattle.gft_generated.specs.declared.lane.Connection.{Connection}
use Rattle.gft_generated.specs.Lanes.{Comes, OnLane, live_from}

-- ---- one more

pub live-push : (n m : ℕ) (xs : List Connection) (d : Connection) → d.is_live ≡ true → m ≡ n + length xs → live_from n (xs ++ d ∷ []) ≡ live_from n xs ++ m ∷ []
live-push n m [] d live at = ap (λ (b : Bool). if b then n ∷ [] else []) live ∙ ap (λ (x : ℕ). x ∷ []) (omega (arith, at))
live-push n m (c ∷ xs) d live at = cases c.is_live (live-push (suc n) m xs d live (omega (arith, at)))
  where
    cases : (b : Bool) → live_from (suc n) (xs ++ d ∷ []) ≡ live_from (suc n) xs ++ m ∷ [] → (if b then n ∷ live_from (suc n) (xs ++ d ∷ []) else live_from (suc n) (xs ++ d ∷ [])) ≡ (if b then n ∷ live_from (suc n) xs else live_from (suc n) xs) ++ m ∷ []
    cases true h = ap (λ (l : List ℕ). n ∷ l) h
    cases false h = h

-- ---- one changes

same_at : (a b : Connection) → Some a ≡ Some b → a ≡ b
same_at a b e = cc

pub live-at : (n m k : ℕ) (xs : List Connection) (c : Connection) → slice_get xs k ≡ Some c → c.is_live ≡ true → m ≡ n + k → is_live m (live_from n xs) ≡ true
live-at n m k [] c at live is = cc
live-at n m zero (x ∷ xs) c at live is =
    let here : x.is_live ≡ true = ap (λ (l : Connection). l.is_live) (same_at x c at) ∙ live in
    ap (λ (b : Bool). is_live m (if b then n ∷ live_from (suc n) xs else live_from (suc n) xs)) here
    ∙ ap (λ (b : Bool). b || is_live m (live_from (suc n) xs)) (eq-eqb n m (omega (arith, is)))
live-at n m (suc k) (x ∷ xs) c at live is = cases x.is_live (n == m) (live-at (suc n) m k xs c at live (omega (arith, is)))
  where
    cases : (b e : Bool) → is_live m (live_from (suc n) xs) ≡ true → is_live m (if b then n ∷ live_from (suc n) xs else live_from (suc n) xs) ≡ true
    cases false e h = h
    cases true e h = later (n == m) h
      where
        later : (b : Bool) → is_live m (live_from (suc n) xs) ≡ true → (b || is_live m (live_from (suc n) xs)) ≡ true
        later true h = refl
        later false h = h

pub live-set_same : (n k : ℕ) (xs : List Connection) (c d : Connection) → slice_get xs k ≡ Some c → d.is_live ≡ c.is_live → live_from n (set xs k d) ≡ live_from n xs
live-set_same n k [] c d at same = refl
live-set_same n zero (x ∷ xs) c d at same =
    ap (λ (b : Bool). if b then n ∷ live_from (suc n) xs else live_from (suc n) xs) (same ∙ sym (ap (λ (l : Connection). l.is_live) (same_at x c at)))
live-set_same n (suc k) (x ∷ xs) c d at same =
    ap (λ (l : List ℕ). if x.is_live then n ∷ l else l) (live-set_same (suc n) k xs c d at same)

without-above : (m n : ℕ) (xs : List Connection) → m < n → without m (live_from n xs) ≡ live_from n xs
without-above m n [] lt = refl
without-above m n (x ∷ xs) lt = cases x.is_live (without-above m (suc n) xs (omega (arith, lt)))
  where
    cases : (b : Bool) → without m (live_from (suc n) xs) ≡ live_from (suc n) xs → without m (if b then n ∷ live_from (suc n) xs else live_from (suc n) xs) ≡ (if b then n ∷ live_from (suc n) xs else live_from (suc n) xs)
    cases false h = h
    cases true h =
        ap (λ (b : Bool). if b then without m (live_from (suc n) xs) else n ∷ without m (live_from (suc n) xs)) (ne_eqb n m (λ e. omega (arith, e, lt)))
        ∙ ap (λ (l : List ℕ). n ∷ l) h

pub live-set_ended : (n m k : ℕ) (xs : List Connection) (c d : Connection) → slice_get xs k ≡ Some c → c.is_live ≡ true → d.is_live ≡ false → m ≡ n + k → live_from n (set xs k d) ≡ without m (live_from n xs)
live-set_ended n m k [] c d at live ended is = cc
live-set_ended n m zero (x ∷ xs) c d at live ended is =
    let here : x.is_live ≡ true = ap (λ (l : Connection). l.is_live) (same_at x c at) ∙ live in
    let rest = live_from (suc n) xs in
    ap (λ (b : Bool). if b then n ∷ rest else rest) ended
    ∙ sym (
    ap (λ (b : Bool). without m (if b then n ∷ rest else rest)) here
    ∙ ap (λ (b : Bool). if b then without m rest else n ∷ without m rest) (eq-eqb n m (omega (arith, is)))
    ∙ without-above m (suc n) xs (omega (arith, is)))
live-set_ended n m (suc k) (x ∷ xs) c d at live ended is = cases x.is_live (live-set_ended (suc n) m k xs c d at live ended (omega (arith, is)))
  where
    cases : (b : Bool) → live_from (suc n) (set xs k d) ≡ without m (live_from (suc n) xs) → (if b then n ∷ live_from (suc n) (set xs k d) else live_from (suc n) (set xs k d)) ≡ without m (if b then n ∷ live_from (suc n) xs else live_from (suc n) xs)
    cases false h = h
    cases true h =
        ap (λ (l : List ℕ). n ∷ l) h
        ∙ sym (ap (λ (b : Bool). if b then without m (live_from (suc n) xs) else n ∷ without m (live_from (suc n) xs)) (ne_eqb n m (λ e. omega (arith, e, is))))

-- ---- bytes

pub channels_came : (channel : ℕ) (bytes : List ℕ) (before : Channels) → channels_after (reverse (map (λ value. Came channel value) bytes)) before ≡ before
channels_came channel [] before = refl
channels_came channel (b ∷ bs) before =
    ap (λ (l : List LaneInput). channels_after l before) (reverse-append (Came channel b ∷ []) (map (λ value. Came channel value) bs))
    ∙ channels_after-append (reverse (map (λ value. Came channel value) bs)) (Came channel b ∷ []) before
    ∙ channels_came channel bs before

pub in_turn_came : (channel : ℕ) (bytes : List ℕ) (before : Channels) → is_live channel before.live ≡ true → AreInTurn (reverse (map (λ value. Came channel value) bytes)) before
in_turn_came channel [] before live = tt
in_turn_came channel (b ∷ bs) before live =
    let rest = map (λ value. Came channel value) bs in
    subst (λ (l : List LaneInput). AreInTurn l before) (sym (reverse-append (Came channel b ∷ []) rest))
    (in_turn-append (reverse rest) (Came channel b ∷ []) before (tt, live) (in_turn_came channel bs before live))

-- ---- an event that isn't the end

pub goes_on : (it : LaneEvent) (old new : LaneState) → ends_lane it ≡ false → old.is_done ≡ false → new.is_done ≡ false → LaneEnds {E = Failed} (Ok it) old new
goes_on (event.Opened channel) old new more before now = (before, now)
goes_on (event.Bytes channel count) old new more before now = (before, now)
goes_on (event.Ended channel) old new more before now = (before, now)
goes_on event.Quiet old new more before now = (before, now)
goes_on event.Done old new more before now = cc

-- ---- what a call does to a lane

same_channels : (a b : ℕ) (x y : List ℕ) → a ≡ b → x ≡ y → ◌≡◌ {A = Channels} (record { opened = a; live = x }) (record { opened = b; live = y })
same_channels a b x y ab xy = ap (λ (n : ℕ). record { opened = n; live = x }) ab ∙ ap (λ (l : List ℕ). record { opened = b; live = l }) xy

-- one is opened
pub comes_opened : (old new : OnLane) (d : Connection) (n : ℕ) (buf : List ℕ) → new.opened ≡ old.opened ++ d ∷ [] → d.is_live ≡ true → n ≡ length old.opened
    → new.is_done ≡ old.is_done → Comes (event.Opened n) buf old new
comes_opened old new d n buf now live is same =
    let long : length new.opened ≡ length old.opened + 1 = ap length now ∙ length-append old.opened (d ∷ []) in
    record {
      gives = record {
        taken = tt;
        left = tt;
        channels = same_channels (length new.opened) (length old.opened + 1) (live_from 0 new.opened) (live_from 0 old.opened ++ n ∷ []) long
            (ap (live_from 0) now ∙ live-push 0 n old.opened d live (omega (arith, is)));
        in_turn = (tt, is);
      };
      more = refl;
      same = same;
    }

-- bytes come on one
pub comes_bytes : (old new : OnLane) (c d : Connection) (n count : ℕ) (buf : List ℕ) → slice_get old.opened n ≡ Some c → c.is_live ≡ true
    → new.opened ≡ set old.opened n d → d.is_live ≡ c.is_live → new.is_done ≡ old.is_done → Comes (event.Bytes n count) buf old new
comes_bytes old new c d n count buf at live now kept same =
    let bytes = take count buf in
    let before : Channels = record { opened = length old.opened; live = live_from 0 old.opened } in
    record {
      gives = record {
        taken = tt;
        left = tt;
        channels = same_channels (length new.opened) (length old.opened) (live_from 0 new.opened) (live_from 0 old.opened)
            (ap length now ∙ length-set old.opened n d) (ap (live_from 0) now ∙ live-set_same 0 n old.opened c d at kept)
            ∙ sym (channels_came n bytes before);
        in_turn = in_turn_came n bytes before (live-at 0 n n old.opened c at live (omega arith));
      };
      more = refl;
      same = same;
    }

-- one ends
pub comes_ended : (old new : OnLane) (c d : Connection) (n : ℕ) (buf : List ℕ) → slice_get old.opened n ≡ Some c → c.is_live ≡ true
    → new.opened ≡ set old.opened n d → d.is_live ≡ false → new.is_done ≡ old.is_done → Comes (event.Ended n) buf old new
comes_ended old new c d n buf at live now ended same = record {
  gives = record {
    taken = tt;
    left = tt;
    channels = same_channels (length new.opened) (length old.opened) (live_from 0 new.opened) (without n (live_from 0 old.opened))
        (ap length now ∙ length-set old.opened n d) (ap (live_from 0) now ∙ live-set_ended 0 n n old.opened c d at live ended (omega arith));
    in_turn = (tt, live-at 0 n n old.opened c at live (omega arith));
  };
  more = refl;
  same = same;
}

pub taken_at : (xs : List Connection) (k : ℕ) (c d : Connection) → slice_get xs k ≡ Some c → get_or xs k d ≡ c
taken_at [] k c d at = cc
taken_at (x ∷ xs) zero c d at = same_at x c at
taken_at (x ∷ xs) (suc k) c d at = taken_at xs k c d at
