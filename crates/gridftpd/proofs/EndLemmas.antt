-- What an intake that ended says of its stream.
use Rattle.std.proofs.Common.{◌≡◌, ◌≢◌, ℕ, ◌+◌, ◌<◌, ◌≤◌, ◌⊎◌, ◌↔◌, false, List, [], ◌∷◌, ◌++◌, length, length-append, take, drop, Option, Some, None, IsSome, append_assoc, append-nil, refl, sym, ap, ◌∙◌, subst, arith, inl, inr, Bor}
use Rattle.std.specs.Prelude.{is_some, IfNone, IfSome}
use Rattle.std.specs.Io.KnownBytes.{Consumes, IsAtEnd}
use Rattle.std.proofs.lemmas.List.{take_all, take-append-drop, length-take-le}
use Rattle.std.proofs.lemmas.Bool.{cases_lt}
use Rattle.gft_eblock.specs.Words.{Arrival, Bad, Eof, Arrives, totals, eods, arrivals, blocks_from, data_at, IsUnfinished, Reader, to_come, wanted, refusal_of, Advances, Fails, event_arrivals}
use Rattle.gft_core.specs.Words.{Done}
use Rattle.gft_range.specs.declared.Range.{Range}
use Rattle.gft_range.specs.Words.{HasOffset, IsFirstGap, HasNoGap}
use Rattle.gft_drive.specs.Words.{DriveState}
use Rattle.gft_keep.specs.Words.{Finished, Finishes, IsFull, KeepState, MovesBy, StoresSome, block_of, keep_of}
use Rattle.gft_eblock.specs.declared.BadBlock.{BadBlock}
use Rattle.gft_eblock.specs.declared.Step.{Step}
use Rattle.gft_eblock.specs.declared.Event.TheVariants as event
use Rattle.gft_eblock.specs.Words as channel
use Rattle.gft_eblock.proofs.Lemmas.{to_come-done, to_come-nothing, to_come-early}
use Rattle.gft_eod.specs.declared.EodError.{EodError}
use Rattle.gft_eod.specs.Words.{IsCount, IsMet, IsWithin, eof_refusal}
use Rattle.gft_drive.specs.declared.TheConstants.{MAX_RANGES}
use Rattle.gft_eblock.specs.declared.TheConstants.{MAX_BYTES}
use Rattle.gridftpd.proofs.CountLemmas.{agreed_all, refused_first}
use Rattle.gridftpd.proofs.ArrivalLemmas.{totals-append}
use Rattle.gridftpd.proofs.RangeLemmas.{HasNoBad-append, HasNoBad-data_at, agreed_same, behind_is, few_kept, few_not_full, few_same, totals-data_behind}
use Rattle.gridftpd.proofs.DoneLemmas.{done_of}
use Rattle.gridftpd.specs.declared.intake.Intake.{Intake}
use Rattle.gridftpd.specs.Cause.{told_by, IsLost, HasHole, HasRangesAtMost, IsFirstMissing, IsMiscounted, IsSoundStream, MeetsNone, NeedsMoreRanges, EndsBad}
use Rattle.gridftpd.specs.declared.outcome.Outcome.{Outcome}
use Rattle.gridftpd.specs.Drain.{DriveIsBlamed, IsTaken}
use Rattle.gridftpd.specs.Images.{HoldsAllButLast, HoldsArrived, IsStored, OfEach}
use Rattle.gridftpd.specs.declared.reading.TheConstants.{READ_LEN}
use Rattle.gridftpd.proofs.HeldLemmas.{but_last, each_holds, each_told, finished_file, finished_holds, some_stored}
use Rattle.gridftpd.specs.Events.{events_of}
use Rattle.gft_outside.specs.Words.{HasNoBad}
use Rattle.gft_outside.specs.Words.{first_of, AreAgreed}
use Rattle.gridftpd.specs.Follows.{Follows}

-- ---- the bytes that were taken

pub Consumes-none : (left : Option (List ℕ)) → Consumes left left []
Consumes-none None = tt
Consumes-none (Some xs) = refl

pub Consumes-append : (a b c : Option (List ℕ)) (s t : List ℕ) → Consumes a b s → Consumes b c t → Consumes a c (s ++ t)
Consumes-append None b c s t first next = tt
Consumes-append (Some xs) None c s t first next = absurd first
Consumes-append (Some xs) (Some ys) None s t first next = absurd next
Consumes-append (Some xs) (Some ys) (Some zs) s t first next = first ∙ ap (λ rest. s ++ rest) next ∙ sym (append_assoc s t zs)

pub is_none : {A : Type 0} (o : Option A) → is_some o ≡ false → o ≡ None
is_none None not = refl
is_none (Some x) not = absurd (cc)

-- nothing was taken yet
pub nothing_taken : (left : Option (List ℕ)) → IsTaken left left []
nothing_taken left = record { consumed = Consumes-none left; few = omega arith; in_time = λ n lt. absurd (omega arith) }

empty_list : (xs : List ℕ) → length xs ≡ 0 → xs ≡ []
empty_list [] none = refl
empty_list (x ∷ xs) none = absurd (omega arith)

-- nothing more was taken
pub Consumes-nothing : (a b c : Option (List ℕ)) (s t : List ℕ) → t ≡ [] → Consumes a b s → Consumes b c t → Consumes a c s
Consumes-nothing a b c s t none first next = subst (Consumes a c) (ap (λ rest. s ++ rest) none ∙ append-nil s) (Consumes-append a b c s t first next)

pub no_arrivals : arrivals 0 [] ≡ []
unfolding arrivals blocks_from
no_arrivals = refl

-- and nothing was met
pub nothing_met : MeetsNone []
nothing_met =
    subst (λ (list : List Arrival). HasNoBad list → AreAgreed (totals list) → HasRangesAtMost MAX_RANGES list → MeetsNone []) no_arrivals (λ no_bad agreed few. met no_bad agreed few) tt tt
    (few_kept [] [] (record { offsets = λ x. (λ none. none, λ none. none); normal = tt; few = omega arith }))
  where
    met : HasNoBad (told_by []) → AreAgreed (totals (told_by [])) → HasRangesAtMost MAX_RANGES (told_by []) → MeetsNone []
    met no_bad agreed few = record { sound = record { short = omega arith; no_bad = no_bad; agreed = agreed }; few = few }

module _ {D : Type 0} (state : D → DriveState) (stream : List ℕ) (intake : Intake D) where
  told_so_far : (follows : Follows state 0 stream intake) → 0 < wanted intake.channel → arrivals 0 stream ≡ follows.told
  told_so_far follows awaits = ap (arrivals 0) (sym (append-nil stream)) ∙ follows.carried [] ∙ ap (λ rest. follows.told ++ rest) (to_come-nothing intake.channel awaits) ∙ append-nil follows.told

  told_all : (follows : Follows state 1 stream intake) → channel.IsDone intake.channel → arrivals 0 stream ≡ follows.told
  told_all follows done = ap (arrivals 0) (sym (append-nil stream)) ∙ follows.carried [] ∙ ap (λ rest. follows.told ++ rest) (to_come-done intake.channel done []) ∙ append-nil follows.told

  -- nothing was met in what the intake was told of
  met_none : (number : ℕ) (follows : Follows state number stream intake) → arrivals 0 stream ≡ follows.told → MeetsNone stream
  met_none number follows told = record {
    sound = record { short = follows.short; no_bad = rw told follows.sound; agreed = rw told follows.counted.agreed };
    few = rw told (few_kept follows.told (keep_of state intake.keep).ranges follows.booked);
  }

  pub met_none_yet : (follows : Follows state 0 stream intake) → 0 < wanted intake.channel → MeetsNone stream × IsUnfinished (told_by stream)
  met_none_yet follows awaits = let told = told_so_far follows awaits in (met_none 0 follows told, rw told (follows.unfinished refl))

  pub met_none_at_end : Follows state 1 stream intake → channel.IsDone intake.channel → MeetsNone stream
  met_none_at_end follows done = met_none 1 follows (told_all follows done)

  -- the input ended before the EOD
  pub lost_from : (left : Option (List ℕ)) (taken : ℕ) → Follows state 0 stream intake → 0 < wanted intake.channel → IsAtEnd left → taken ≡ intake.channel.taken → 0 < taken → IsLost stream left taken
  lost_from left taken follows awaits ended is some = record {
    some = some;
    taken_is = sym follows.taken ∙ sym is;
    unfinished = rw (told_so_far follows awaits) (follows.unfinished refl);
    at_end = ended;
  }

  pub empty_hole : (left : Option (List ℕ)) → Follows state 0 stream intake → IsAtEnd left → intake.channel.taken ≡ 0 → HasHole stream left None 0 None
  empty_hole left follows ended none =
      let empty = empty_list stream (sym follows.taken ∙ none) in
      let nothing : arrivals 0 stream ≡ [] = ap (arrivals 0) empty ∙ no_arrivals in
      record {
        ended = inl (empty, ended);
        announced = rw nothing refl;
        counted = rw nothing refl;
        first_missing = rw nothing (λ x y lt none. absurd none);
        why = inl (λ some. cc);
      }

  -- the EOD came
  missing_from : (list : List Arrival) (missing : Option Range) → ((x : ℕ) → HasOffset (keep_of state intake.keep).ranges x ↔ Arrives list x) → IfSome missing (IsFirstGap (keep_of state intake.keep).ranges) → IfNone missing (HasNoGap (keep_of state intake.keep).ranges) → IsFirstMissing list missing
  missing_from list None offsets some none = λ x y lt came. (offsets x).0 (none x y lt ((offsets y).1 came))
  missing_from list (Some gap) offsets some none = (some.non_empty, λ x lt. (offsets x).0 (some.below x lt), λ x inside came. some.inside x inside ((offsets x).1 came), (offsets gap.end).0 some.behind)

  pub hole_from : (left : Option (List ℕ)) (missing : Option Range) → Follows state 1 stream intake → channel.IsDone intake.channel
      → IfSome missing (IsFirstGap (keep_of state intake.keep).ranges) → IfNone missing (HasNoGap (keep_of state intake.keep).ranges) → (intake.count.total ≢ Some intake.count.eods) ⊎ IsSome missing
      → HasHole stream left intake.count.total intake.count.eods missing
  hole_from left missing follows done some none why =
      let told = told_all follows done in
      record {
        ended = inr (ap eods told ∙ follows.eods);
        announced = follows.counted.total ∙ ap (λ list. first_of (totals list)) (sym told);
        counted = follows.counted.eods ∙ ap eods (sym told);
        first_missing = rw told (missing_from follows.told missing follows.booked.offsets some none);
        why = why;
      }

  pub done_from : (end : ℕ) → Follows state 1 stream intake → channel.IsDone intake.channel → IsMet intake.count → IsCount intake.count → ((x : ℕ) → HasOffset (keep_of state intake.keep).ranges x ↔ (x < end)) → Done (events_of (told_by stream))
  done_from end follows done met sound below =
      let first : first_of (totals follows.told) ≡ Some intake.count.eods = sym follows.counted.total ∙ met in
      let within = subst (λ (total : Option ℕ). IsWithin total intake.count.eods) met sound in
      rw (told_all follows done) (done_of follows.told end follows.sound (record {
        total = intake.count.eods;
        announced = first;
        in_bounds = (within.0, within.1);
        no_other = agreed_all intake.count.eods (totals follows.told) follows.counted.agreed first;
        met = sym follows.counted.eods;
        whole = λ x. (λ came. (below x).0 ((follows.booked.offsets x).1 came), λ lt. (follows.booked.offsets x).0 ((below x).1 lt));
      }))

  pub stored_from : (end : ℕ) (new : KeepState) → Follows state 1 stream intake → channel.IsDone intake.channel → IsMet intake.count → IsCount intake.count → ((x : ℕ) → HasOffset (keep_of state intake.keep).ranges x ↔ (x < end))
      → MovesBy (Finishes end) (keep_of state intake.keep) new → Finished end (keep_of state intake.keep) new → IsStored stream new.drive
  stored_from end new follows done met sound below moves finished = record {
    done = done_from end follows done met sound below;
    file = finished_file state 1 stream intake follows end new moves finished (told_all follows done) below;
  }

  -- ---- what is held

  pub held_yet : (follows : Follows state 0 stream intake) → 0 < wanted intake.channel → OfEach (keep_of state intake.keep).drive (HoldsArrived stream stream)
  held_yet follows awaits = each_told state 0 stream intake follows (told_so_far follows awaits)

  pub held_at_end : (follows : Follows state 1 stream intake) → channel.IsDone intake.channel → OfEach (keep_of state intake.keep).drive (HoldsArrived stream stream)
  held_at_end follows done = each_told state 1 stream intake follows (told_all follows done)

  pub held_finished : (end : ℕ) (new : KeepState) → Follows state 1 stream intake → channel.IsDone intake.channel → MovesBy (Finishes end) (keep_of state intake.keep) new → OfEach new.drive (HoldsArrived stream stream)
  held_finished end new follows done moves = finished_holds state 1 stream intake follows end new moves (told_all follows done)

  -- a finish that failed lost nothing
  pub all_held : (new : DriveState) → OfEach new (HoldsArrived stream stream) → HoldsAllButLast stream new
  all_held new each = record { front = stream; piece = []; split = sym (append-nil stream); one_read = omega arith; each = each }

  -- the last piece was read and not taken
  pub held_but_last : (piece : List ℕ) (follows : Follows state 0 stream intake) → 0 < wanted intake.channel → length piece ≤ READ_LEN → HoldsAllButLast (stream ++ piece) (keep_of state intake.keep).drive
  held_but_last piece follows awaits short = but_last state 0 stream intake follows piece (to_come intake.channel piece) (told_so_far follows awaits) short (follows.carried piece)

  -- ---- one piece more

  module _ (piece : List ℕ) (bad : BadBlock) (after : Reader) (follows : Follows state 0 stream intake) (fails : Fails intake.channel piece bad after) where
    told_bad : arrivals 0 (stream ++ piece) ≡ follows.told ++ Bad (refusal_of bad) ∷ []
    told_bad =
        let comes : to_come intake.channel piece ≡ Bad (refusal_of bad) ∷ [] = rw (take-append-drop fails.used piece) at (fails.comes (drop fails.used piece)) in
        follows.carried piece ∙ ap (λ rest. follows.told ++ rest) comes

    pub bad_from : length piece ≤ wanted intake.channel → intake.channel.taken + length piece < MAX_BYTES → EndsBad (stream ++ piece) (refusal_of bad)
    bad_from fits room =
        let n = fails.used in
        let here : to_come intake.channel (take n piece) ≡ Bad (refusal_of bad) ∷ [] = rw (append-nil (take n piece)) at (fails.comes []) in
        let all : length piece ≤ n = elim (cases_lt n (length piece)) [
          | inl short ↦ absurd (subst IsUnfinished here (to_come-early intake.channel (take n piece) (omega (arith, length-take-le n piece fails.fits))))
          | inr whole ↦ whole
        ] in
        let moved = fails.taken in
        let last = fails.last in
        let within = fails.fits in
        record {
          short = omega (arith, room, length-append stream piece, follows.taken);
          earlier = follows.told;
          unfinished = follows.unfinished refl;
          split = told_bad;
          last = omega (arith, length-append stream piece, follows.taken);
          agreed = rw told_bad (agreed_same follows.told (Bad (refusal_of bad) ∷ []) follows.counted.agreed refl);
          few = rw told_bad (few_same follows.told (keep_of state intake.keep).ranges (Bad (refusal_of bad) ∷ []) follows.booked (λ x came. came));
        }

    pub held_bad : OfEach (keep_of state intake.keep).drive (HoldsArrived (stream ++ piece) (stream ++ piece))
    held_bad = each_holds state 0 stream intake follows (stream ++ piece) (stream ++ piece) (Bad (refusal_of bad) ∷ []) (Bad (refusal_of bad) ∷ []) told_bad (λ x came. came) told_bad

  module _ (piece : List ℕ) (step : Step) (after : Reader) (follows : Follows state 0 stream intake) (advances : Advances intake.channel piece step after) (all : step.used ≡ length piece) (room : intake.channel.taken + length piece < MAX_BYTES) where
    short_more : length (stream ++ piece) < MAX_BYTES
    short_more = omega (arith, room, length-append stream piece, follows.taken)

    came_of : to_come intake.channel piece ≡ event_arrivals step.event ++ to_come after []
    came_of =
        let whole : take step.used piece ++ [] ≡ piece = append-nil (take step.used piece) ∙ take_all step.used piece (omega arith) in
        rw whole at (advances.carried [])

    -- where no data came nothing is lost
    pub held_eof : (total : ℕ) → step.event ≡ Some (event.Eof total) → OfEach (keep_of state intake.keep).drive (HoldsArrived (stream ++ piece) (stream ++ piece))
    held_eof total is =
        let behind = behind_is (to_come after []) advances.behind in
        let came : to_come intake.channel piece ≡ Eof total ∷ to_come after [] = rw is at came_of in
        let split : arrivals 0 (stream ++ piece) ≡ follows.told ++ Eof total ∷ to_come after [] = follows.carried piece ∙ ap (λ rest. follows.told ++ rest) came in
        each_holds state 0 stream intake follows (stream ++ piece) (stream ++ piece) (Eof total ∷ to_come after []) (Eof total ∷ to_come after []) split behind.none split

    pub miscounted_from : (total : ℕ) (error : EodError) → step.event ≡ Some (event.Eof total) → eof_refusal intake.count total ≡ Some error → IsMiscounted (stream ++ piece) error
    miscounted_from total error is refused =
        let behind = behind_is (to_come after []) advances.behind in
        let came : to_come intake.channel piece ≡ Eof total ∷ to_come after [] = rw is at came_of in
        let split : arrivals 0 (stream ++ piece) ≡ follows.told ++ Eof total ∷ to_come after [] = follows.carried piece ∙ ap (λ rest. follows.told ++ rest) came in
        record {
          short = short_more;
          earlier = totals follows.told;
          total = total;
          later = totals (to_come after []);
          split = ap totals split ∙ totals-append follows.told (Eof total ∷ to_come after []);
          agreed = follows.counted.agreed;
          refused = refused_first follows.told intake.count total error follows.counted follows.eods refused;
          few = rw split (few_same follows.told (keep_of state intake.keep).ranges (Eof total ∷ to_come after []) follows.booked behind.none);
        }

    module _ (offset : ℕ) (bytes : Bor (List ℕ)) (is : step.event ≡ Some (event.Piece offset bytes)) where
      told_more : arrivals 0 (stream ++ piece) ≡ follows.told ++ (data_at offset bytes.now ++ to_come after [])
      told_more =
          let came : to_come intake.channel piece ≡ data_at offset bytes.now ++ to_come after [] = rw is at came_of in
          follows.carried piece ∙ ap (λ rest. follows.told ++ rest) came

      sound_more : IsSoundStream (stream ++ piece)
      sound_more =
          let behind = behind_is (to_come after []) advances.behind in
          let brought = data_at offset bytes.now ++ to_come after [] in
          record {
            short = short_more;
            no_bad = rw told_more (HasNoBad-append follows.told brought follows.sound (HasNoBad-append (data_at offset bytes.now) (to_come after []) (HasNoBad-data_at offset bytes.now) behind.no_bad));
            agreed = rw told_more (agreed_same follows.told brought follows.counted.agreed (totals-data_behind offset bytes.now (to_come after []) behind));
          }

      pub ranges_from : 0 < wanted intake.channel → IsFull (keep_of state intake.keep).ranges (block_of offset bytes.now) → NeedsMoreRanges (stream ++ piece)
      ranges_from awaits full =
          let told = told_so_far follows awaits in
          record {
            sound = sound_more;
            front = stream;
            piece = piece;
            split = refl;
            offset = offset;
            bytes = bytes.now;
            behind = to_come after [];
            brought = rw told told_more;
            ranges = (keep_of state intake.keep).ranges;
            offsets = λ x. rw told (follows.booked.offsets x);
            full = full;
          }

      -- some of the piece was stored
      pub torn_from : (new : KeepState) → 0 < wanted intake.channel → length piece ≤ READ_LEN → MovesBy (StoresSome offset bytes.now) (keep_of state intake.keep) new → HoldsAllButLast (stream ++ piece) new.drive
      torn_from new awaits short moves =
          some_stored state 0 stream intake follows offset bytes.now piece (to_come after []) new moves (told_so_far follows awaits) short told_more

      -- the ranges weren't full
      pub unmet_from : ¬ IsFull (keep_of state intake.keep).ranges (block_of offset bytes.now) → MeetsNone (stream ++ piece)
      unmet_from fits =
          let behind = behind_is (to_come after []) advances.behind in
          record {
            sound = sound_more;
            few = rw told_more (few_not_full follows.told (keep_of state intake.keep).ranges offset bytes.now (to_come after []) follows.booked behind.none fits);
          }

-- a set without a gap has the offsets below its end
pub below_end : (set one two : List Range) (end : ℕ) (missing : Option Range) → one ≡ set → two ≡ set → missing ≡ None → IfNone missing (HasNoGap one) → (HasNoGap two → (x : ℕ) → HasOffset two x ↔ (x < end)) → (x : ℕ) → HasOffset set x ↔ (x < end)
below_end set one two end missing first second none no_gap whole =
    let nothing : HasNoGap one = subst (λ (o : Option Range). IfNone o (HasNoGap one)) none no_gap in
    let moved : HasNoGap two = subst HasNoGap (first ∙ sym second) nothing in
    subst (λ (rs : List Range). (x : ℕ) → HasOffset rs x ↔ (x < end)) second (whole moved)

-- the drive is blamed since before as it is since it was attached and emptied
pub blamed_since : (ending : Outcome) (first attached emptied begun last back : DriveState) → attached.faults ≡ first.faults → emptied.faults ≡ attached.faults → begun ≡ emptied → DriveIsBlamed ending begun.faults last.faults → last ≡ back
    → DriveIsBlamed ending first.faults back.faults
blamed_since ending first attached emptied begun last back one two same blamed given =
    let here : begun.faults ≡ first.faults = ap (λ (s : DriveState). s.faults) same ∙ two ∙ one in
    let there : last.faults ≡ back.faults = ap (λ (s : DriveState). s.faults) given in
    subst (λ (n : ℕ). DriveIsBlamed ending first.faults n) there (subst (λ (n : ℕ). DriveIsBlamed ending n last.faults) here blamed)
