-- How an intake goes on along its stream.
use Rattle.std.proofs.Common.{◌≡◌, ℕ, ◌+◌, ◌-◌, ◌<◌, ◌≤◌, ◌⊎◌, ◌↔◌, List, [], ◌∷◌, ◌++◌, length, length-append, take, Some, None, append_assoc, refl, sym, ap, ◌∙◌, subst, arith, inl, inr, Bor}
use Rattle.std.specs.Prelude.{slice_index, Option}
use Rattle.std.specs.Io.KnownBytes.{Consumes}
use Rattle.std.proofs.lemmas.List.{take_all, length-take-le, take-append-le}
use Rattle.std.proofs.Math.Seq.{take-append-add}
use Rattle.std.proofs.lemmas.Bool.{cases_lt}
use Rattle.gft_eblock.specs.Words.{Arrival, At, Eof, Eod, Bad, Arrives, totals, eods, arrivals, data_at, IsUnfinished, to_come, wanted, Advances, event_arrivals}
use Rattle.gft_core.specs.Words.{kept}
use Rattle.gft_range.specs.declared.Range.{Range}
use Rattle.gft_range.specs.Words.{HasOffset, IsNormal, IsUnion}
use Rattle.gft_range.proofs.Lemmas.{HasOffset-or}
use Rattle.gft_drive.specs.Words.{DriveState, Image}
use Rattle.gft_keep.specs.Words.{IsOpen, MovesBy, Stored, StoresSome, keep_of}
use Rattle.gridftpd.proofs.HeldLemmas.{kept_stored}
use Rattle.gft_eblock.specs.declared.Step.{Step}
use Rattle.gft_eblock.specs.declared.Event.TheVariants as event
use Rattle.gft_eblock.proofs.Lemmas.{IsUnfinished-append, IsUnfinished-data_at, eods-append, eods-data_at, to_come-data}
use Rattle.gft_eod.specs.Words.{eof_refusal}
use Rattle.gridftpd.proofs.CountLemmas.{Counts-same, Counts-eof, Counts-eod}
use Rattle.gridftpd.specs.declared.intake.Intake.{Intake}
use Rattle.gridftpd.specs.Cause.{EndsNothing}
use Rattle.gft_outside.specs.Words.{HasNoBad}
use Rattle.gft_outside.specs.Words.{AreAgreed}
use Rattle.gridftpd.specs.Follows.{Books, Counts, Follows, HasKeptIn}
use Rattle.gridftpd.proofs.RangeLemmas.{HasNoBad-append, HasNoBad-data_at, agreed_same, few_early}
use Rattle.gft_drive.specs.declared.TheConstants.{MAX_RANGES}
use Rattle.gft_eblock.specs.declared.TheConstants.{MAX_BYTES}
use Rattle.gridftpd.proofs.ArrivalLemmas.{Arrives-append, Arrives-data_at, totals-data_at}
use Rattle.gridftpd.proofs.EventLemmas.{kept-first, kept-later, kept-data_at}
use Rattle.gridftpd.proofs.EndLemmas.{Consumes-append}
use Rattle.gridftpd.specs.Drain.{IsTaken}
use Rattle.gridftpd.specs.Events.{events_of}

-- a front of what is wanted ends nothing
goes_on : (told : List Arrival) (set : List Range) (offset : ℕ) (values : List ℕ) (came : List Arrival) → Books told set → IsUnfinished told → AreAgreed (totals told) → came ≡ data_at offset values → EndsNothing (told ++ came)
goes_on told set offset values came books unfinished agreed is =
    subst (λ (brought : List Arrival). EndsNothing (told ++ brought)) (sym is) (record {
      unfinished = IsUnfinished-append told (data_at offset values) unfinished (IsUnfinished-data_at offset values);
      agreed = agreed_same told (data_at offset values) agreed (totals-data_at offset values);
      few = few_early told set offset values books;
    })

-- no shorter front of no more than was wanted ends the intake
pub in_time_more : {D : Type 0} (state : D → DriveState) (stream piece : List ℕ) (intake : Intake D) → Follows state 0 stream intake → length piece ≤ wanted intake.channel
    → (n : ℕ) → n < length (stream ++ piece) → EndsNothing (arrivals 0 (take n (stream ++ piece)))
in_time_more state stream piece intake follows fits n lt =
    elim (cases_lt n (length stream)) [
      | inl before ↦ rw (take-append-le n stream piece (omega arith)) (follows.in_time n before)
      | inr behind ↦
          let k = n - length stream in
          let all = length-append stream piece in
          let cut : take n (stream ++ piece) ≡ stream ++ take k piece = subst (λ (m : ℕ). take m (stream ++ piece) ≡ stream ++ take k piece) (omega arith) (take-append-add stream piece k) in
          let short : length (take k piece) ≡ k = length-take-le k piece (omega arith) in
          let early = to_come-data intake.channel (take k piece) (omega arith) in
          rw (cut, follows.carried (take k piece)) (goes_on follows.told (keep_of state intake.keep).ranges early.0 early.1 _ follows.booked (follows.unfinished refl) follows.counted.agreed early.2)
    ]

-- what a read gave was taken too, where no more was asked for than the channel wants
pub taken_more : {D : Type 0} (state : D → DriveState) (stream : List ℕ) (intake : Intake D) (first before after : Option (List ℕ)) (buf : List ℕ) (n : ℕ) → Follows state 0 stream intake → Consumes first before stream
    → Consumes before after (take n buf) → n ≤ length buf → n ≤ wanted intake.channel → intake.channel.taken + n ≤ MAX_BYTES → IsTaken first after (stream ++ take n buf)
taken_more state stream intake first before after buf n follows earlier now some few room =
    let len : length (take n buf) ≡ n = length-take-le n buf some in
    record {
      consumed = Consumes-append first before after stream (take n buf) earlier now;
      few = omega (arith, length-append stream (take n buf), len, follows.taken, room);
      in_time = in_time_more state stream (take n buf) intake follows (omega arith);
    }

module _ {D : Type 0} (state : D → DriveState) (stream piece : List ℕ) (old new : Intake D) (step : Step) (follows : Follows state 0 stream old) (advances : Advances old.channel piece step new.channel) (all : step.used ≡ length piece) (fits : length piece ≤ wanted old.channel) (room : old.channel.taken + length piece < MAX_BYTES) where
  follows_more : (n : ℕ) → ((x : ℕ) → HasOffset (keep_of state new.keep).ranges x ↔ (HasOffset (keep_of state old.keep).ranges x ⊎ Arrives (event_arrivals step.event) x))
      → ((read : Image) → (keep_of state new.keep).drive.contents ≡ Some read → HasKeptIn (follows.told ++ event_arrivals step.event) (keep_of state new.keep).ranges read.bytes)
      → IsOpen (keep_of state new.keep) → Counts (follows.told ++ event_arrivals step.event) new.count
      → HasNoBad (event_arrivals step.event)
      → eods (event_arrivals step.event) ≡ n → (n ≡ 0 → IsUnfinished (event_arrivals step.event)) → Follows state n (stream ++ piece) new
  follows_more n sets kept is_open counted sound ended unfinished =
      let brought = event_arrivals step.event in
      let all_of_it : take step.used piece ≡ piece = take_all step.used piece (omega arith) in
      record {
        told = follows.told ++ brought;
        carried = λ later. rw (append_assoc stream piece later, append_assoc follows.told brought (to_come new.channel later))
            (follows.carried (piece ++ later) ∙ ap (λ rest. follows.told ++ rest) (rw all_of_it at (advances.carried later)));
        booked = record {
          offsets = λ x.
              let split = Arrives-append follows.told brought x in (
                λ h. elim ((sets x).0 h) [ inl had ↦ split.1 (inl ((follows.booked.offsets x).0 had)) | inr came ↦ split.1 (inr came) ],
                λ h. elim (split.0 h) [ inl had ↦ (sets x).1 (inl ((follows.booked.offsets x).1 had)) | inr came ↦ (sets x).1 (inr came) ],
              );
          normal = is_open.unbroken.facts.normal;
          few = is_open.unbroken.facts.few;
        };
        kept = kept;
        is_open = is_open;
        counted = counted;
        sound = HasNoBad-append follows.told brought follows.sound sound;
        eods = eods-append follows.told brought ∙ omega (arith, follows.eods, ended);
        taken = omega (arith, advances.taken, follows.taken, length-append stream piece);
        short = omega (arith, room, follows.taken, length-append stream piece);
        unfinished = λ none. IsUnfinished-append follows.told brought (follows.unfinished refl) (unfinished none);
        in_time = in_time_more state stream piece old follows fits;
      }

  -- a piece of data was stored
  pub follows_piece : (offset : ℕ) (bytes : Bor (List ℕ)) (answer : ℕ) → step.event ≡ Some (event.Piece offset bytes) → MovesBy (StoresSome offset bytes.now) (keep_of state old.keep) (keep_of state new.keep)
      → Stored (keep_of state old.keep) (keep_of state new.keep) offset bytes.now answer → new.count ≡ old.count → Follows state 0 (stream ++ piece) new
  follows_piece offset bytes answer is moves stored counted =
      follows_more 0
      (rw is (λ x.
      let inside = Arrives-data_at offset bytes.now x in
      let joined = stored.union.offsets x in (
        λ h. elim (joined.0 h) [ inl had ↦ inl had | inr came ↦ inr (inside.1 came) ],
        λ h. elim h [ inl had ↦ joined.1 (inl had) | inr came ↦ joined.1 (inr (inside.0 came)) ],
      )))
      (rw is (kept_stored state 0 stream old follows offset bytes.now answer (keep_of state new.keep) moves stored))
      (record {
        unbroken = record { whole = stored.whole; facts = moves.keep };
        born = stored.is_born ∙ follows.is_open.born;
        incomplete = stored.complete ∙ follows.is_open.incomplete;
      })
      (rw (is, counted) (Counts-same follows.told (data_at offset bytes.now) old.count follows.counted (totals-data_at offset bytes.now) (eods-data_at offset bytes.now)))
      (rw is (HasNoBad-data_at offset bytes.now))
      (rw is (eods-data_at offset bytes.now))
      (λ none. rw is (IsUnfinished-data_at offset bytes.now))

  -- nothing was stored
  nothing_booked : (brought : List Arrival) → new.keep ≡ old.keep → ((x : ℕ) → ¬ Arrives brought x) → (x : ℕ) → HasOffset (keep_of state new.keep).ranges x ↔ (HasOffset (keep_of state old.keep).ranges x ⊎ Arrives brought x)
  nothing_booked brought same none x = rw same (λ h. inl h, λ h. elim h [ inl had ↦ had | inr came ↦ absurd (none x came) ])

  still_kept : (brought : List Arrival) → new.keep ≡ old.keep → (read : Image) → (keep_of state new.keep).drive.contents ≡ Some read → HasKeptIn (follows.told ++ brought) (keep_of state new.keep).ranges read.bytes
  still_kept brought same = rw same (λ read told x had. kept-first follows.told brought x ((follows.booked.offsets x).0 had) ∙ follows.kept read told x had)

  pub follows_none : step.event ≡ None → new.keep ≡ old.keep → new.count ≡ old.count → Follows state 0 (stream ++ piece) new
  follows_none is same counted =
      follows_more 0 (rw is (nothing_booked [] same (λ x none. none))) (rw is (still_kept [] same))
      (rw same follows.is_open) (rw (is, counted) (Counts-same follows.told [] old.count follows.counted refl refl)) (rw is tt) (rw is refl) (λ none. rw is tt)

  pub follows_eof : (total : ℕ) → step.event ≡ Some (event.Eof total) → new.keep ≡ old.keep → eof_refusal old.count total ≡ None → new.count.total ≡ Some total → new.count.eods ≡ old.count.eods → Follows state 0 (stream ++ piece) new
  follows_eof total is same taken announced unchanged =
      follows_more 0 (rw is (nothing_booked (Eof total ∷ []) same (λ x none. none))) (rw is (still_kept (Eof total ∷ []) same))
      (rw same follows.is_open) (rw is (Counts-eof follows.told total old.count new.count follows.counted taken announced unchanged)) (rw is tt) (rw is refl) (λ none. rw is tt)

  pub follows_eod : step.event ≡ Some event.Eod → new.keep ≡ old.keep → new.count.total ≡ old.count.total → new.count.eods ≡ old.count.eods + 1 → Follows state 1 (stream ++ piece) new
  follows_eod is same announced more =
      follows_more 1 (rw is (nothing_booked (Eod ∷ []) same (λ x none. none))) (rw is (still_kept (Eod ∷ []) same))
      (rw same follows.is_open) (rw is (Counts-eod follows.told old.count new.count follows.counted announced more)) (rw is tt) (rw is refl) (λ none. absurd (omega arith))
