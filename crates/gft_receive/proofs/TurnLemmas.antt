-- A mover, turn by turn.
use Rattle.std.proofs.Common.{◌≡◌, ◌⊎◌, ℕ, zero, suc, ◌+◌, ◌<◌, ◌≤◌, List, ◌∷◌, length, Some, None, refl, sym, ap, ◌∙◌, subst, ⊎_elim, inl, inr, arith}
use Rattle.std.proofs.lemmas.Bool.{cases_lt}
use Rattle.gft_eblock.specs.Words.{IsDone, Reader, arrivals, eods}
use Rattle.gft_outside.specs.declared.TheConstants.{MAX_LIVE, MAX_OPENED}
use Rattle.gft_outside.specs.Words.{Ended, LaneInput, Opened, Silence, channels_after, no_channels, stream}
use Rattle.gft_pass.specs.declared.Cause.{Cause}
use Rattle.gft_pass.specs.declared.Cause.TheVariants.{Idle, Lost, TooManyChannels}
use Rattle.gft_receive.specs.declared.channels.Channels.{Channels}
use Rattle.gft_receive.specs.declared.mover.Mover.{Mover}
use Rattle.gft_receive.specs.Causes.{first_cause}
use Rattle.gft_receive.specs.Moved.{IsLanesCause}
use Rattle.gft_receive.specs.Table.{TakesOut, HoldsChannels, PutsIn, ReadsStream}
use Rattle.gft_receive.specs.Turns.{StandsBehind, bounds_of}
use Rattle.gft_receive.proofs.CauseLemmas.{first-none, first-some, lost-none, lost-some, too_many-none, too_many-some}
use Rattle.gft_receive.proofs.TableLemmas.{each-at, holds-closed, holds-opened, holds-silent, length-numbers}

-- ---- a channel is opened

live_count : (inputs : List LaneInput) (m : Mover) → StandsBehind inputs m → length (channels_after inputs no_channels).live ≡ length m.channels.table.items
live_count inputs m s = ap (λ (l : List ℕ). length l) (sym s.channels.live) ∙ length-numbers m.channels.table.items

pub opened_shows : (inputs : List LaneInput) (channel opened live : ℕ) (m : Mover) → StandsBehind inputs m → (MAX_LIVE ≤ length m.channels.table.items) ⊎ (MAX_OPENED ≤ m.channels.opened)
    → opened ≡ m.channels.opened → live ≡ length m.channels.table.items → IsLanesCause (bounds_of m) (Opened channel ∷ inputs) ⊥ (TooManyChannels m.lane opened live)
opened_shows inputs channel opened live m s full is_opened is_live =
    let now = channels_after inputs no_channels in
    let count = live_count inputs m s in
    let many : (MAX_LIVE ≤ length now.live) ⊎ (MAX_OPENED ≤ now.opened) = ⊎_elim (λ (a : MAX_LIVE ≤ length m.channels.table.items). inl (omega (arith, a, count))) (λ (a : MAX_OPENED ≤ m.channels.opened). inr (let e = s.channels.opened in omega (arith, a, e))) full in
    let same : TooManyChannels m.lane now.opened (length now.live) ≡ TooManyChannels m.lane opened live =
    ap (λ (n : ℕ). TooManyChannels m.lane n (length now.live)) (sym s.channels.opened ∙ sym is_opened) ∙ ap (λ (n : ℕ). TooManyChannels m.lane opened n) (count ∙ sym is_live) in
    inl (first-some m.lane m.channels.shift (Opened channel) inputs (TooManyChannels m.lane opened live) s.none (too_many-some m.lane now many ∙ ap (λ (c : Cause). Some c) same))

pub opened_goes : (inputs : List LaneInput) (channel : ℕ) (m now : Mover) → StandsBehind inputs m → channel ≡ m.channels.opened → PutsIn channel m.channels now.channels
    → now.lane ≡ m.lane → now.taken ≡ m.taken → now.patience.quiets ≡ 0 → StandsBehind (Opened channel ∷ inputs) now
opened_goes inputs channel m now s next o lane taken quiets =
    let count = live_count inputs m s in
    let few = o.few in
    let below = o.below in
    let e = s.channels.opened in
    record {
      channels = holds-opened inputs channel m.channels now.channels s.channels next o;
      taken = taken ∙ s.taken;
      short = s.short;
      quiet = omega (arith, quiets);
      none = subst (λ (k : ℕ). first_cause k now.channels.shift (Opened channel ∷ inputs) ≡ None) (sym lane)
          (subst (λ (k : ℕ). first_cause m.lane k (Opened channel ∷ inputs) ≡ None) (sym o.shift)
          (first-none m.lane m.channels.shift (Opened channel) inputs s.none (too_many-none m.lane (channels_after inputs no_channels) (omega (arith, few, count)) (omega (arith, below, e)))));
    }

-- ---- a channel ends

-- its reader stands behind its stream
reads_closed : (inputs : List LaneInput) (channel : ℕ) (reader : Reader) (m : Mover) (now : Channels) → StandsBehind inputs m → TakesOut channel reader m.channels now → ReadsStream m.channels.shift (stream channel inputs) reader
reads_closed inputs channel reader m now s c = each-at m.channels.shift inputs m.channels.table.items c.place (record { number = channel; reader = reader }) s.channels.each c.at

pub closed_shows : (inputs : List LaneInput) (channel taken : ℕ) (reader : Reader) (m : Mover) (now : Channels) → StandsBehind inputs m → TakesOut channel reader m.channels now → taken ≡ reader.taken → 0 < taken → ¬ IsDone reader
    → IsLanesCause (bounds_of m) (Ended channel ∷ inputs) ⊥ (Lost m.lane channel taken)
closed_shows inputs channel taken reader m now s c is some undone =
    let r = reads_closed inputs channel reader m now s c in
    let all = r.taken undone in
    let none : eods (arrivals m.channels.shift (stream channel inputs)) ≡ 0 = none_of (eods (arrivals m.channels.shift (stream channel inputs))) (λ more. undone (r.ended.1 more)) in
    let shown = lost-some m.lane m.channels.shift channel (stream channel inputs) (omega (arith, is, some, all)) none in
    inl (first-some m.lane m.channels.shift (Ended channel) inputs (Lost m.lane channel taken) s.none (shown ∙ ap (λ (n : ℕ). Some (Lost m.lane channel n)) (sym all ∙ sym is)))
  where
    none_of : (n : ℕ) → (0 < n → ⊥) → n ≡ 0
    none_of zero no_more = refl
    none_of (suc n) no_more = absurd (no_more (omega arith))

pub closed_goes : (inputs : List LaneInput) (channel : ℕ) (reader : Reader) (m now : Mover) → StandsBehind inputs m → TakesOut channel reader m.channels now.channels → (reader.taken ≡ 0) ⊎ IsDone reader
    → now.lane ≡ m.lane → now.taken ≡ m.taken → now.patience.quiets ≡ 0 → StandsBehind (Ended channel ∷ inputs) now
closed_goes inputs channel reader m now s c ends lane taken quiets =
    let r = reads_closed inputs channel reader m now.channels s c in
    record {
      channels = holds-closed inputs channel reader m.channels now.channels s.channels c;
      taken = taken ∙ s.taken;
      short = s.short;
      quiet = omega (arith, quiets);
      none = subst (λ (k : ℕ). first_cause k now.channels.shift (Ended channel ∷ inputs) ≡ None) (sym lane)
          (subst (λ (k : ℕ). first_cause m.lane k (Ended channel ∷ inputs) ≡ None) (sym c.shift)
          (first-none m.lane m.channels.shift (Ended channel) inputs s.none (lost-none m.lane m.channels.shift channel (stream channel inputs) (kind r ends))));
    }
  where
    kind : ReadsStream m.channels.shift (stream channel inputs) reader → (reader.taken ≡ 0) ⊎ IsDone reader → (length (stream channel inputs) ≡ 0) ⊎ (0 < eods (arrivals m.channels.shift (stream channel inputs)))
    kind r (inr done) = inr (r.ended.0 done)
    kind r (inl none) = elim (cases_lt 0 (eods (arrivals m.channels.shift (stream channel inputs)))) [
      | inl some ↦ inr some
      | inr no_eod ↦ inl (let all = r.taken (λ done. let e = r.ended.0 done in omega (arith, e, no_eod)) in omega (arith, all, none))
    ]

-- ---- bounds

pub same_bounds : (m : Mover) (lane shift idle : ℕ) → lane ≡ m.lane → shift ≡ m.channels.shift → idle ≡ m.patience.idle → record { lane = lane; shift = shift; idle = idle } ≡ bounds_of m
same_bounds m lane shift idle is_lane is_shift is_idle =
    ap (λ (k : ℕ). record { lane = k; shift = shift; idle = idle }) is_lane
    ∙ ap (λ (k : ℕ). record { lane = m.lane; shift = k; idle = idle }) is_shift
    ∙ ap (λ (k : ℕ). record { lane = m.lane; shift = m.channels.shift; idle = k }) is_idle

-- ---- nothing came

pub silent_goes : (inputs : List LaneInput) (m now : Mover) → StandsBehind inputs m → now.channels ≡ m.channels → now.lane ≡ m.lane → now.taken ≡ m.taken → now.patience.quiets ≤ m.patience.quiets + 1 → StandsBehind (Silence ∷ inputs) now
silent_goes inputs m now s channels lane taken quiets =
    let q = s.quiet in
    record {
      channels = subst (HoldsChannels (Silence ∷ inputs)) (sym channels) (holds-silent inputs m.channels s.channels);
      taken = taken ∙ s.taken;
      short = s.short;
      quiet = omega (arith, quiets, q);
      none = subst (λ (k : ℕ). first_cause k now.channels.shift (Silence ∷ inputs) ≡ None) (sym lane)
          (subst (λ (k : Channels). first_cause m.lane k.shift (Silence ∷ inputs) ≡ None) (sym channels)
          (first-none m.lane m.channels.shift Silence inputs s.none refl));
    }

pub silent_shows : (inputs : List LaneInput) (turns quiets idle : ℕ) (m : Mover) → StandsBehind inputs m → idle ≡ m.patience.idle → idle ≤ quiets → quiets ≤ m.patience.quiets + 1 → IsLanesCause (bounds_of m) (Silence ∷ inputs) ⊥ (Idle m.lane turns)
silent_shows inputs turns quiets idle m s is long quiet =
    let q = s.quiet in
    inr (first-none m.lane m.channels.shift Silence inputs s.none refl, inl (turns, refl, omega (arith, is, long, quiet, q)))
