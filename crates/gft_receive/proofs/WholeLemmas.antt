-- A lane that is whole shows no cause, however much of it was taken.
use Rattle.std.proofs.Common.{◌≡◌, ◌⊎◌, ◌==◌, ◌||◌, ℕ, ◌+◌, ◌<◌, ◌≤◌, List, [], ◌∷◌, ◌++◌, length, reverse, Some, None, Bool, true, false, refl, sym, ap, ◌∙◌, subst, inl, inr, arith, ne_eqb}
use Rattle.std.specs.Prelude.{Option, if◌then◌else◌}
use Rattle.std.proofs.lemmas.Bool.{cases_lt, eqb-true}
use Rattle.std.proofs.lemmas.List.{append_assoc, length-append, reverse-append, reverse-reverse}
use Rattle.std.proofs.lemmas.Option.{none-some, same_Some}
use Rattle.gft_eblock.specs.Words.{Arrival, At, Bad, Eod, Eof, arrivals, eods}
use Rattle.gft_outside.specs.Words.{AreInTurn, Came, Channels, Ended, EndsItsChannels, HasNoBad, IsOver, IsSmooth, LaneInput, Loses, Opened, Silence}
use Rattle.gft_outside.specs.Words.{channels_after, gained, is_live, lane_arrivals, no_channels, stream, without}
use Rattle.gft_outside.proofs.Lemmas.{gained_behind, in_turn-older, one_channel, stream_here}
use Rattle.gft_receive.specs.Causes.{first_cause, refused_in, silences}
use Rattle.gft_receive.proofs.CauseLemmas.{first-none, lost-none, piece-none, refused_in-none, too_many-none}
use Rattle.gft_receive.proofs.FeedLemmas.{HasNoBad-append}
use Rattle.gft_receive.proofs.TableLemmas.{no_both, or_false}

-- ---- what came before

HasNoBad-front : (a b : List Arrival) → HasNoBad (a ++ b) → HasNoBad a
HasNoBad-front [] b h = tt
HasNoBad-front (At offset value ∷ a) b h = HasNoBad-front a b h
HasNoBad-front (Eof total ∷ a) b h = HasNoBad-front a b h
HasNoBad-front (Eod ∷ a) b h = HasNoBad-front a b h
HasNoBad-front (Bad r ∷ a) b h = absurd h

HasNoBad-rest : (a b : List Arrival) → HasNoBad (a ++ b) → HasNoBad b
HasNoBad-rest [] b h = h
HasNoBad-rest (At offset value ∷ a) b h = HasNoBad-rest a b h
HasNoBad-rest (Eof total ∷ a) b h = HasNoBad-rest a b h
HasNoBad-rest (Eod ∷ a) b h = HasNoBad-rest a b h
HasNoBad-rest (Bad r ∷ a) b h = absurd h

no_bad-older : (shift : ℕ) (newer older : List LaneInput) → HasNoBad (lane_arrivals shift (newer ++ older)) → HasNoBad (lane_arrivals shift older)
no_bad-older shift [] older h = h
no_bad-older shift (Opened n ∷ newer) older h = no_bad-older shift newer older h
no_bad-older shift (Ended n ∷ newer) older h = no_bad-older shift newer older h
no_bad-older shift (Silence ∷ newer) older h = no_bad-older shift newer older h
no_bad-older shift (Came n value ∷ newer) older h =
    no_bad-older shift newer older (HasNoBad-front (lane_arrivals shift (newer ++ older)) (gained shift (stream n (newer ++ older)) (value ∷ [])) h)

smooth-older : (newer older : List LaneInput) → IsSmooth (newer ++ older) → IsSmooth older
smooth-older [] older h = h
smooth-older (input ∷ newer) older h = smooth-older newer older h.0

-- no header is refused on any channel
no_bad-stream : (shift channel : ℕ) (inputs : List LaneInput) → HasNoBad (lane_arrivals shift inputs) → HasNoBad (arrivals shift (stream channel inputs))
no_bad-stream shift channel [] h = subst HasNoBad (one_channel shift channel [] tt) tt
no_bad-stream shift channel (Opened n ∷ older) h = no_bad-stream shift channel older h
no_bad-stream shift channel (Ended n ∷ older) h = no_bad-stream shift channel older h
no_bad-stream shift channel (Silence ∷ older) h = no_bad-stream shift channel older h
no_bad-stream shift channel (Came n value ∷ older) h =
    let had = lane_arrivals shift older in
    let more = gained shift (stream n older) (value ∷ []) in
    cases (n == channel) refl (no_bad-stream shift channel older (HasNoBad-front had more h)) (HasNoBad-rest had more h)
  where
    cases : (b : Bool) → (n == channel) ≡ b → HasNoBad (arrivals shift (stream channel older)) → HasNoBad (gained shift (stream n older) (value ∷ []))
        → HasNoBad (arrivals shift (if b then stream channel older ++ value ∷ [] else stream channel older))
    cases false apart before here = before
    cases true same before here =
        let mine : HasNoBad (gained shift (stream channel older) (value ∷ [])) = subst (λ (k : ℕ). HasNoBad (gained shift (stream k older) (value ∷ []))) (eqb-true n channel same) here in
        subst HasNoBad (sym (gained_behind shift (stream channel older) (value ∷ [])))
        (HasNoBad-append (arrivals shift (stream channel older)) (gained shift (stream channel older) (value ∷ [])) before mine)

-- ---- a channel that has ended gives nothing more

both_false : (a b : Bool) → a ≡ false → b ≡ false → (a || b) ≡ false
both_false a b x y = ap (λ (c : Bool). c || b) x ∙ y

not_live-more : (channel n : ℕ) (ns : List ℕ) → is_live channel ns ≡ false → (n == channel) ≡ false → is_live channel (ns ++ n ∷ []) ≡ false
not_live-more channel n [] none other = both_false (n == channel) false other refl
not_live-more channel n (m ∷ ns) none other =
    let tests = or_false (m == channel) (is_live channel ns) none in
    both_false (m == channel) (is_live channel (ns ++ n ∷ [])) tests.0 (not_live-more channel n ns tests.1 other)

not_live-without : (channel n : ℕ) (ns : List ℕ) → is_live channel ns ≡ false → is_live channel (without n ns) ≡ false
not_live-without channel n [] none = refl
not_live-without channel n (m ∷ ns) none =
    let tests = or_false (m == channel) (is_live channel ns) none in cases (m == n) tests.0 (not_live-without channel n ns tests.1)
  where
    cases : (b : Bool) → (m == channel) ≡ false → is_live channel (without n ns) ≡ false → is_live channel (if b then without n ns else m ∷ without n ns) ≡ false
    cases true first later = later
    cases false first later = both_false (m == channel) (is_live channel (without n ns)) first later

not_live-itself : (channel : ℕ) (ns : List ℕ) → is_live channel (without channel ns) ≡ false
not_live-itself channel [] = refl
not_live-itself channel (m ∷ ns) = cases (m == channel) refl (not_live-itself channel ns)
  where
    cases : (b : Bool) → (m == channel) ≡ b → is_live channel (without channel ns) ≡ false → is_live channel (if b then without channel ns else m ∷ without channel ns) ≡ false
    cases true same later = later
    cases false apart later = both_false (m == channel) (is_live channel (without channel ns)) apart later

-- a number that wasn't given yet
not_live-unopened : (channel : ℕ) (inputs : List LaneInput) → AreInTurn inputs no_channels → (channels_after inputs no_channels).opened ≤ channel → is_live channel (channels_after inputs no_channels).live ≡ false
not_live-unopened channel [] turn le = refl
not_live-unopened channel (Came n value ∷ older) turn le = not_live-unopened channel older turn.0 le
not_live-unopened channel (Silence ∷ older) turn le = not_live-unopened channel older turn.0 le
not_live-unopened channel (Ended n ∷ older) turn le =
    not_live-without channel n (channels_after older no_channels).live (not_live-unopened channel older turn.0 le)
not_live-unopened channel (Opened n ∷ older) turn le =
    let before = channels_after older no_channels in
    let next : n ≡ before.opened = turn.1 in
    let above : before.opened + 1 ≤ channel = le in
    not_live-more channel n before.live (not_live-unopened channel older turn.0 (omega (arith, above)))
    (ne_eqb n channel (λ e. omega (arith, e, next, above)))

-- a channel was opened, and isn't live
record IsGone (channel : ℕ) (channels : Channels) : Type 0 where
  not_live : is_live channel channels.live ≡ false
  below : channel < channels.opened

gone_now : (channel : ℕ) (older : List LaneInput) → AreInTurn (Ended channel ∷ older) no_channels → IsGone channel (channels_after (Ended channel ∷ older) no_channels)
gone_now channel older turn =
    let before = channels_after older no_channels in
    record {
      not_live = not_live-itself channel before.live;
      below = elim (cases_lt channel before.opened) [
        | inl lt ↦ lt
        | inr le ↦ absurd (no_both (is_live channel before.live) turn.1 (not_live-unopened channel older turn.0 le))
      ];
    }

-- it stays so, and gives nothing
gone_on : (channel : ℕ) (newer older : List LaneInput) → AreInTurn (newer ++ older) no_channels → IsGone channel (channels_after older no_channels)
    → IsGone channel (channels_after (newer ++ older) no_channels) × (stream channel (newer ++ older) ≡ stream channel older)
gone_on channel [] older turn gone = (gone, refl)
gone_on channel (Silence ∷ newer) older turn gone = gone_on channel newer older turn.0 gone
gone_on channel (Ended n ∷ newer) older turn gone =
    let h = gone_on channel newer older turn.0 gone in
    (record { not_live = not_live-without channel n (channels_after (newer ++ older) no_channels).live h.0.not_live; below = h.0.below }, h.1)
gone_on channel (Opened n ∷ newer) older turn gone =
    let h = gone_on channel newer older turn.0 gone in
    let before = channels_after (newer ++ older) no_channels in
    let next : n ≡ before.opened = turn.1 in
    let lt : channel < before.opened = h.0.below in
    (record { not_live = not_live-more channel n before.live h.0.not_live (ne_eqb n channel (λ e. omega (arith, e, next, lt))); below = omega (arith, lt) }, h.1)
gone_on channel (Came n value ∷ newer) older turn gone =
    let h = gone_on channel newer older turn.0 gone in
    let before = channels_after (newer ++ older) no_channels in
    (h.0, cases (n == channel) refl before.live turn.1 h.0.not_live ∙ h.1)
  where
    cases : (b : Bool) → (n == channel) ≡ b → (ns : List ℕ) → is_live n ns ≡ true → is_live channel ns ≡ false
        → (if b then stream channel (newer ++ older) ++ value ∷ [] else stream channel (newer ++ older)) ≡ stream channel (newer ++ older)
    cases false apart ns live none = refl
    cases true same ns live none = absurd (no_both (is_live channel ns) (subst (λ (k : ℕ). is_live k ns ≡ true) (eqb-true n channel same) live) none)

-- ---- no cause

-- all that a lane gives, and what it brings
module _ (shift : ℕ) (whole : List LaneInput) (smooth : IsSmooth whole) (ends : EndsItsChannels shift whole) (sound : HasNoBad (lane_arrivals shift whole)) (turn : AreInTurn whole no_channels) where
  pub shows_none : (lane : ℕ) (newer older : List LaneInput) → whole ≡ newer ++ older → first_cause lane shift older ≡ None
  shows_none lane newer [] is = refl
  shows_none lane newer (Silence ∷ older) is = absurd (smooth-older newer (Silence ∷ older) (subst IsSmooth is smooth)).1
  shows_none lane newer (Opened n ∷ older) is =
      let before = channels_after older no_channels in
      let rest = shows_none lane (newer ++ Opened n ∷ []) older (is ∙ sym (append_assoc newer (Opened n ∷ []) older)) in
      let s = smooth-older newer (Opened n ∷ older) (subst IsSmooth is smooth) in
      let few = s.2 in
      let below = s.3 in
      first-none lane shift (Opened n) older rest (too_many-none lane before (omega (arith, few, length-append before.live (n ∷ []))) (omega (arith, below)))
  shows_none lane newer (Came n value ∷ older) is =
      let rest = shows_none lane (newer ++ Came n value ∷ []) older (is ∙ sym (append_assoc newer (Came n value ∷ []) older)) in
      let s = smooth-older newer (Came n value ∷ older) (subst IsSmooth is smooth) in
      let short = s.4 in
      let good = no_bad-stream shift n (Came n value ∷ older) (no_bad-older shift newer (Came n value ∷ older) (subst (λ (l : List LaneInput). HasNoBad (lane_arrivals shift l)) is sound)) in
      piece-none lane shift n (value ∷ []) older rest (omega (arith, short))
      (ap (λ (l : List ℕ). refused_in (arrivals shift l)) (sym (stream_here n value older)) ∙ refused_in-none (arrivals shift (stream n (Came n value ∷ older))) good)
  shows_none lane newer (Ended n ∷ older) is =
      let rest = shows_none lane (newer ++ Ended n ∷ []) older (is ∙ sym (append_assoc newer (Ended n ∷ []) older)) in
      let turn' : AreInTurn (newer ++ Ended n ∷ older) no_channels = subst (λ (l : List LaneInput). AreInTurn l no_channels) is turn in
      let same : stream n whole ≡ stream n older = ap (stream n) is ∙ (gone_on n newer (Ended n ∷ older) turn' (gone_now n older (in_turn-older newer (Ended n ∷ older) no_channels turn'))).1 in
      first-none lane shift (Ended n) older rest (lost-none lane shift n (stream n older) (told (stream n older) same))
    where
      told : (l : List ℕ) → stream n whole ≡ l → (length l ≡ 0) ⊎ (0 < eods (arrivals shift l))
      told [] same = inl refl
      told (b ∷ bs) same =
          let one = ends n (subst (λ (l : List ℕ). 0 < length l) (sym same) (omega arith)) in
          let mine : eods (arrivals shift (b ∷ bs)) ≡ 1 = subst (λ (l : List ℕ). eods (arrivals shift l) ≡ 1) same one in
          inr (omega (arith, mine))

  -- and it is never silent
  pub is_heard : (newer older : List LaneInput) → whole ≡ newer ++ older → silences older ≡ 0
  is_heard newer older is = heard older (smooth-older newer older (subst IsSmooth is smooth))
    where
      heard : (l : List LaneInput) → IsSmooth l → silences l ≡ 0
      heard [] s = refl
      heard (Opened n ∷ l) s = refl
      heard (Came n value ∷ l) s = refl
      heard (Ended n ∷ l) s = refl
      heard (Silence ∷ l) s = absurd s.1

-- ---- what a mover took of a lane that tells what it has left

pub record Took (list inputs : List LaneInput) (new : Option (List LaneInput)) : Type 0 where
  pub later : List LaneInput
  pub is : list ≡ later ++ inputs
  pub all : IsOver new → list ≡ inputs

pub took_of : (list inputs : List LaneInput) (old new : Option (List LaneInput)) → old ≡ Some (reverse list) → Loses old new inputs → Took list inputs new
took_of list inputs None new is lost = absurd (none-some (reverse list) is)
took_of list inputs (Some a) None is lost = absurd lost
took_of list inputs (Some a) (Some b) is lost =
    let split : reverse list ≡ reverse inputs ++ b = sym (same_Some a (reverse list) is) ∙ lost in
    let whole : list ≡ reverse b ++ inputs =
    sym (reverse-reverse list) ∙ ap (λ (l : List LaneInput). reverse l) split ∙ reverse-append (reverse inputs) b
    ∙ ap (λ (l : List LaneInput). reverse b ++ l) (reverse-reverse inputs) in
    record {
      later = reverse b;
      is = whole;
      all = λ over. whole ∙ ap (λ (l : List LaneInput). reverse l ++ inputs) over;
    }
