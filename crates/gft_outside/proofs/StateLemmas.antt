-- Lanes and controls over several calls.
use Rattle.std.proofs.Common.{◌≡◌, ℕ, ◌+◌, ◌-◌, Bool, true, false, List, [], ◌∷◌, ◌++◌, length, take, drop, reverse, Option, Some, None, refl, sym, ap, ◌∙◌, subst, arith, length-drop}
use Rattle.std.proofs.Math.Seq.{take-add}
use Rattle.std.proofs.lemmas.List.{append_assoc, drop-drop, reverse-append, reverse-reverse, take-append-drop}
use Rattle.gft_outside.specs.Told.{Gains, Loses}
use Rattle.gft_outside.specs.ControlInputs.{ControlInput, ControlState, Hears}
use Rattle.gft_outside.specs.ControlScripts.{ControlList, control_state}
use Rattle.gft_outside.specs.LaneScripts.{LaneList, lane_state}
use Rattle.gft_outside.specs.LaneInputs.{AreInTurn, Channels, IsInTurn, LaneInput, channels_after, channels_by, no_channels}
use Rattle.gft_outside.specs.LaneStates.{Gives, LaneState}
use Rattle.gft_outside.specs.Links.{IsNewLane}
use Rattle.gft_outside.specs.Lists.{Moves, Script}

-- ---- what is told

pub gains_none : {A : Type 0} (old : Option (List A)) → Gains old old []
gains_none None = tt
gains_none (Some old) = refl

pub gains_more : {A : Type 0} (a b c : Option (List A)) (first next : List A) → Gains a b first → Gains b c next → Gains a c (next ++ first)
gains_more None b c first next p q = tt
gains_more (Some a) None c first next p q = absurd p
gains_more (Some a) (Some b) None first next p q = absurd q
gains_more (Some a) (Some b) (Some c) first next p q = q ∙ ap (λ l. next ++ l) p ∙ sym (append_assoc next first a)

pub loses_none : {A : Type 0} (old : Option (List A)) → Loses old old []
loses_none None = tt
loses_none (Some old) = refl

pub loses_more : {A : Type 0} (a b c : Option (List A)) (first next : List A) → Loses a b first → Loses b c next → Loses a c (next ++ first)
loses_more None b c first next p q = tt
loses_more (Some a) None c first next p q = absurd p
loses_more (Some a) (Some b) None first next p q = absurd q
loses_more (Some a) (Some b) (Some c) first next p q =
    p ∙ ap (λ l. reverse first ++ l) q ∙ sym (append_assoc (reverse first) (reverse next) c) ∙ ap (λ l. l ++ c) (sym (reverse-append next first))

-- ---- channels

pub channels_after-append : (newer older : List LaneInput) (before : Channels) → channels_after (newer ++ older) before ≡ channels_after newer (channels_after older before)
channels_after-append [] older before = refl
channels_after-append (input ∷ newer) older before = ap (channels_by input) (channels_after-append newer older before)

pub in_turn-append : (newer older : List LaneInput) (before : Channels) → AreInTurn older before → AreInTurn newer (channels_after older before) → AreInTurn (newer ++ older) before
in_turn-append [] older before first next = first
in_turn-append (input ∷ newer) older before first next =
    (in_turn-append newer older before first next.0, subst (IsInTurn input) (sym (channels_after-append newer older before)) next.1)

pub in_turn-older : (newer older : List LaneInput) (before : Channels) → AreInTurn (newer ++ older) before → AreInTurn older before
in_turn-older [] older before all = all
in_turn-older (input ∷ newer) older before all = in_turn-older newer older before all.0

pub in_turn-newer : (newer older : List LaneInput) (before : Channels) → AreInTurn (newer ++ older) before → AreInTurn newer (channels_after older before)
in_turn-newer [] older before all = tt
in_turn-newer (input ∷ newer) older before all =
    (in_turn-newer newer older before all.0, subst (IsInTurn input) (channels_after-append newer older before) all.1)

-- ---- several calls

pub gives_none : (old : LaneState) → Gives [] old old
gives_none old = record { taken = gains_none old.taken; left = loses_none old.left; channels = refl; in_turn = tt }

pub gives_more : (a b c : LaneState) (first next : List LaneInput) → Gives first a b → Gives next b c → Gives (next ++ first) a c
gives_more a b c first next p q = record {
  taken = gains_more a.taken b.taken c.taken first next p.taken q.taken;
  left = loses_more a.left b.left c.left first next p.left q.left;
  channels = q.channels ∙ ap (channels_after next) p.channels ∙ sym (channels_after-append next first a.channels);
  in_turn = in_turn-append next first a.channels p.in_turn (subst (AreInTurn next) p.channels q.in_turn);
}

pub hears_none : (old : ControlState) → Hears [] old old
hears_none old = record { taken = gains_none old.taken; left = loses_none old.left }

pub hears_more : (a b c : ControlState) (first next : List ControlInput) → Hears first a b → Hears next b c → Hears (next ++ first) a c
hears_more a b c first next p q = record {
  taken = gains_more a.taken b.taken c.taken first next p.taken q.taken;
  left = loses_more a.left b.left c.left first next p.left q.left;
}

-- ---- a script that moves on

-- what was taken of it, the newest first
pub script_taken : {A : Type 0} (old new : Script A) (given : List A) → Moves old new given → reverse (take new.place new.all) ≡ given ++ reverse (take old.place old.all)
script_taken old new given moves =
    let count = new.place - old.place in
    let piece = take count (drop old.place old.all) in
    let goes : new.place ≡ old.place + count = let later = moves.later in omega arith in
    ap (λ l. reverse (take new.place l)) moves.same
    ∙ ap (λ n. reverse (take n old.all)) goes
    ∙ ap reverse (take-add old.place count old.all)
    ∙ reverse-append (take old.place old.all) piece
    ∙ ap (λ l. l ++ reverse (take old.place old.all)) (sym moves.newest_first)

-- what is left of it
pub script_left : {A : Type 0} (old new : Script A) (given : List A) → Moves old new given → drop old.place old.all ≡ reverse given ++ drop new.place new.all
script_left old new given moves =
    let count = new.place - old.place in
    let rest = drop old.place old.all in
    let goes : old.place + count ≡ new.place = let later = moves.later in omega arith in
    sym (take-append-drop count rest)
    ∙ ap (λ l. take count rest ++ l) (drop-drop count old.place old.all ∙ ap (λ n. drop n old.all) goes ∙ ap (drop new.place) (sym moves.same))
    ∙ ap (λ l. l ++ drop new.place new.all) (sym (ap reverse moves.newest_first ∙ reverse-reverse (take count rest)))

-- what is given is in turn, where all is
pub script_in_turn : (old new : Script LaneInput) (given : List LaneInput) → Moves old new given → AreInTurn (reverse old.all) no_channels → AreInTurn given (channels_after (reverse (take old.place old.all)) no_channels)
script_in_turn old new given moves all =
    let before = reverse (take old.place old.all) in
    let later = reverse (drop new.place new.all) in
    let split : reverse old.all ≡ later ++ (given ++ before) =
    ap reverse (sym (take-append-drop old.place old.all))
    ∙ reverse-append (take old.place old.all) (drop old.place old.all)
    ∙ ap (λ l. l ++ before) (ap reverse (script_left old new given moves) ∙ reverse-append (reverse given) (drop new.place new.all) ∙ ap (λ l. later ++ l) (reverse-reverse given))
    ∙ append_assoc later given before in
    in_turn-newer given before no_channels (in_turn-older later (given ++ before) no_channels (subst (λ l. AreInTurn l no_channels) split all))

-- what comes next shows that the script isn't at its end
pub script_goes_on : {A : Type 0} (old new : Script A) (given : List A) (ended : Bool) → Moves old new given → (ended ≡ true → drop old.place old.all ≡ []) → ended ≡ false
script_goes_on old new given true moves over =
    let later = moves.later in let within = moves.within in
    absurd (omega (arith, ap length (over refl), length-drop old.place old.all))
script_goes_on old new given false moves over = refl

-- ---- the memory forms

pub control_hears : (old new : ControlList) (script : Script ControlInput) (given : List ControlInput) → script ≡ old.script → Moves script new.script given → Hears given (control_state old) (control_state new)
control_hears old new script given same moves =
    let goes = subst (λ (s : Script ControlInput). Moves s new.script given) same moves in
    record { taken = script_taken old.script new.script given goes; left = script_left old.script new.script given goes }

pub lane_gives : (old new : LaneList) (script : Script LaneInput) (given : List LaneInput) → script ≡ old.script → Moves script new.script given → AreInTurn (reverse script.all) no_channels → Gives given (lane_state old) (lane_state new)
lane_gives old new script given same moves all =
    let goes = subst (λ (s : Script LaneInput). Moves s new.script given) same moves in
    let turn = subst (λ (s : Script LaneInput). AreInTurn (reverse s.all) no_channels) same all in
    let taken = script_taken old.script new.script given goes in
    record {
      taken = taken;
      left = script_left old.script new.script given goes;
      channels = ap (λ l. channels_after l no_channels) taken ∙ channels_after-append given (reverse (take old.script.place old.script.all)) no_channels;
      in_turn = script_in_turn old.script new.script given goes turn;
    }

-- ---- nothing was given yet

pub new_lane_state : (lane : LaneList) → (lane.script.place ≡ 0) × (lane.is_done ≡ false) × (lane.faults ≡ 0) → IsNewLane (lane_state lane)
new_lane_state lane new = record {
  taken = ap (λ (n : ℕ). reverse (take n lane.script.all)) new.0;
  channels = ap (λ (n : ℕ). channels_after (reverse (take n lane.script.all)) no_channels) new.0;
  more = new.1;
  faults = new.2;
}
