-- What the images of an intake hold.
use Rattle.std.proofs.Common.{◌≡◌, ℕ, ◌+◌, ◌-◌, ◌<◌, ◌≤◌, ◌⊎◌, ◌↔◌, List, [], ◌∷◌, ◌++◌, length, append-nil, Option, Some, IsSome, refl, sym, ap, ◌∙◌, subst, arith, inl, inr}
use Rattle.std.specs.Prelude.{slice_index, slice_get}
use Rattle.std.proofs.lemmas.Bool.{cases_lt}
use Rattle.std.proofs.lemmas.Option.{slice_get-get_or, slice_get_past}
use Rattle.gft_eblock.specs.Words.{Arrival, Arrives, data_at}
use Rattle.gft_core.specs.Words.{kept, Done}
use Rattle.gft_range.specs.declared.Range.{Range}
use Rattle.gft_range.specs.Words.{HasOffset, InRange}
use Rattle.gft_range.proofs.Lemmas.{HasOffset-or}
use Rattle.gft_drive.specs.Words.{Covers, DriveState, Image, MayLeave}
use Rattle.gft_drive.proofs.Lemmas.{told_before}
use Rattle.gft_keep.specs.Words.{Finished, Finishes, Holds, IsExact, IsUnbroken, KeepState, MovesBy, Stored, Stores, StoresSome, block_of, keep_of}
use Rattle.gridftpd.specs.declared.intake.Intake.{Intake}
use Rattle.gridftpd.specs.declared.reading.TheConstants.{READ_LEN}
use Rattle.gridftpd.specs.Cause.{told_by}
use Rattle.gridftpd.specs.Events.{events_of, IsKept}
use Rattle.gridftpd.specs.Follows.{Follows, HasKeptIn}
use Rattle.gridftpd.specs.Images.{HoldsAllButLast, HoldsArrived, IsWholeFile, OfEach}
use Rattle.gridftpd.proofs.ArrivalLemmas.{Arrives-append, Arrives-data_at}
use Rattle.gridftpd.proofs.EventLemmas.{kept_arrives, kept-first, kept-later, kept-data_at, none_kept}
use Rattle.gft_keep.proofs.Lemmas.{CameBy, came_by, exact_of, exact_read, held_exact, sound_of}
use Rattle.gridftpd.proofs.KeepLemmas.{of_each}

some_same : (a b : Image) (o : Option Image) → o ≡ Some a → o ≡ Some b → a ≡ b
some_same a b o one two = let same : Some a ≡ Some b = sym one ∙ two in cc

some_byte : (a b : ℕ) (o : Option ℕ) → o ≡ Some a → o ≡ Some b → a ≡ b
some_byte a b o one two = let same : Some a ≡ Some b = sym one ∙ two in cc

no_arrival : (x : ℕ) → ¬ Arrives [] x
no_arrival x came = came

module _ {D : Type 0} (state : D → DriveState) (number : ℕ) (stream : List ℕ) (intake : Intake D) (follows : Follows state number stream intake) where
  -- where no data came behind what the intake was told of, its bytes are held
  holds_front : (front : List ℕ) (behind : List Arrival) → told_by front ≡ follows.told ++ behind → ((x : ℕ) → ¬ Arrives behind x) → (image : Image) → IsExact (keep_of state intake.keep) image → (x v : ℕ) → kept (events_of (told_by front)) x ≡ Some v → Holds image x v
  holds_front front behind split none image exact x v has =
      let moved : kept (events_of (follows.told ++ behind)) x ≡ Some v = subst (λ (list : List Arrival). kept (events_of list) x ≡ Some v) split has in
      let arrived : Arrives follows.told x = elim ((Arrives-append follows.told behind x).0 (kept_arrives (follows.told ++ behind) x v moved)) [ inl old ↦ old | inr new ↦ absurd (none x new) ] in
      let had = (follows.booked.offsets x).1 arrived in
      let byte = follows.kept image exact.read x had in
      let is = some_byte (slice_index image.bytes x) v (kept (events_of follows.told) x) byte (sym (kept-first follows.told behind x arrived) ∙ moved) in
      subst (λ n. Holds image x n) is (held_exact (keep_of state intake.keep) image exact x had)

  -- what an image names arrived, and is held
  named_in : (all : List ℕ) (more : List Arrival) → told_by all ≡ follows.told ++ more → (image : Image) → IsExact (keep_of state intake.keep) image → (x : ℕ) → Covers image.ranges x → (v : ℕ) × (kept (events_of (told_by all)) x ≡ Some v) × Holds image x v
  named_in all more split image exact x covered =
      let had = (exact.ranges x).0 covered in
      let arrived = (follows.booked.offsets x).0 had in (
        slice_index image.bytes x,
        ap (λ (list : List Arrival). kept (events_of list) x) split ∙ kept-first follows.told more x arrived ∙ follows.kept image exact.read x had,
        held_exact (keep_of state intake.keep) image exact x had,
      )

  pub each_holds : (front all : List ℕ) (behind more : List Arrival) → told_by front ≡ follows.told ++ behind → ((x : ℕ) → ¬ Arrives behind x) → told_by all ≡ follows.told ++ more → OfEach (keep_of state intake.keep).drive (HoldsArrived front all)
  each_holds front all behind more split none grown =
      let k = keep_of state intake.keep in
      of_each k.drive (HoldsArrived front all) follows.is_open.unbroken.facts.lawful
      (λ image some may.
      let exact = exact_of k follows.is_open.unbroken image some may in
      record { sound = exact.sound; held = holds_front front behind split none image exact; named = named_in all more grown image exact })

  -- all that the intake was told of
  pub each_told : told_by stream ≡ follows.told → OfEach (keep_of state intake.keep).drive (HoldsArrived stream stream)
  each_told told =
      let all : told_by stream ≡ follows.told ++ [] = told ∙ sym (append-nil follows.told) in
      each_holds stream stream [] [] all no_arrival all

  -- but for the last piece
  pub but_last : (piece : List ℕ) (more : List Arrival) → told_by stream ≡ follows.told → length piece ≤ READ_LEN → told_by (stream ++ piece) ≡ follows.told ++ more → HoldsAllButLast (stream ++ piece) (keep_of state intake.keep).drive
  but_last piece more told short grown = record {
    front = stream;
    piece = piece;
    split = refl;
    one_read = short;
    each = each_holds stream (stream ++ piece) [] more (told ∙ sym (append-nil follows.told)) no_arrival grown;
  }

  -- ---- a piece is stored, or some of it is

  -- at an offset of the piece that wasn't kept the piece's byte is
  piece_byte : (offset : ℕ) (bytes : List ℕ) (behind : List Arrival) (x : ℕ) → InRange (block_of offset bytes) x → ¬ HasOffset (keep_of state intake.keep).ranges x → kept (events_of (follows.told ++ (data_at offset bytes ++ behind))) x ≡ Some (slice_index bytes (x - offset))
  piece_byte offset bytes behind x here out =
      let low : offset ≤ x = here.0 in
      let high : x < offset + length bytes = here.1 in
      kept-later follows.told (data_at offset bytes ++ behind) x (λ arrived. out ((follows.booked.offsets x).1 arrived))
      ∙ kept-first (data_at offset bytes) behind x ((Arrives-data_at offset bytes x).1 here)
      ∙ kept-data_at offset bytes x (x - offset) (omega arith) (omega arith)

  pub some_stored : (offset : ℕ) (bytes piece : List ℕ) (behind : List Arrival) (new : KeepState) → MovesBy (StoresSome offset bytes) (keep_of state intake.keep) new → told_by stream ≡ follows.told → length piece ≤ READ_LEN
      → told_by (stream ++ piece) ≡ follows.told ++ (data_at offset bytes ++ behind) → HoldsAllButLast (stream ++ piece) new.drive
  some_stored offset bytes piece behind new moves told short grown =
      let k = keep_of state intake.keep in
      let more = data_at offset bytes ++ behind in
      record {
        front = stream;
        piece = piece;
        split = refl;
        one_read = short;
        each = of_each new.drive (HoldsArrived stream (stream ++ piece)) moves.keep.lawful (λ image some may.
            let came = came_by (StoresSome offset bytes) k new follows.is_open.unbroken moves image some may in
            let old : (x : ℕ) → Covers came.from.ranges x → (v : ℕ) × (kept (events_of (told_by (stream ++ piece))) x ≡ Some v) × Holds image x v = λ x covered. let n = named_in (stream ++ piece) more grown came.from came.exact x covered in (n.0, n.1, came.by.kept x n.0 n.2) in
            record {
              sound = sound_of new moves.keep some image may;
              held = λ x v has. came.by.kept x v (holds_front stream [] (told ∙ sym (append-nil follows.told)) no_arrival came.from came.exact x v has);
              named = λ x covered. elim (came.by.added x covered) [
                | inl before ↦ old x before
                | inr new_one ↦ elim (HasOffset-or k.ranges x) [
                  | inl had ↦ old x ((came.exact.ranges x).1 had)
                  | inr out ↦ (
                    slice_index bytes (x - offset),
                    ap (λ (list : List Arrival). kept (events_of list) x) grown ∙ piece_byte offset bytes behind x new_one.0 out,
                    new_one.1,
                  )
                ]
              ];
            });
      }

  -- a piece that was stored has its bytes
  pub kept_stored : (offset : ℕ) (bytes : List ℕ) (answer : ℕ) (new : KeepState) → MovesBy (StoresSome offset bytes) (keep_of state intake.keep) new → Stored (keep_of state intake.keep) new offset bytes answer
      → (read : Image) → new.drive.contents ≡ Some read → HasKeptIn (follows.told ++ data_at offset bytes) new.ranges read.bytes
  kept_stored offset bytes answer new moves stored read told x had =
      let k = keep_of state intake.keep in
      let from = told_before k.drive new.drive read moves.time.goes told in
      let step = stored.read from.0 from.1 in
      let stores : Stores offset bytes from.0 read = subst (λ image. Stores offset bytes from.0 image) (some_same step.0 read new.drive.contents step.1 told) step.2 in
      let exact = exact_read k follows.is_open.unbroken from.0 from.1 in
      elim (HasOffset-or k.ranges x) [
        | inl before ↦
            let holds = stores.some.kept x (slice_index from.0.bytes x) (held_exact k from.0 exact x before) in
            kept-first follows.told (data_at offset bytes) x ((follows.booked.offsets x).0 before) ∙ follows.kept from.0 from.1 x before ∙ ap (λ v. Some v) (sym holds.byte)
        | inr out ↦ elim ((stored.union.offsets x).0 had) [
          | inl before ↦ absurd (out before)
          | inr here ↦ elim (stores.all x here) [
            | inl covered ↦ absurd (out ((exact.ranges x).0 covered))
            | inr holds ↦
                let all : data_at offset bytes ++ [] ≡ data_at offset bytes = append-nil (data_at offset bytes) in
                subst (λ (brought : List Arrival). kept (events_of (follows.told ++ brought)) x ≡ Some (slice_index bytes (x - offset))) all (piece_byte offset bytes [] x here out) ∙ ap (λ v. Some v) (sym holds.byte)
          ]
        ]
      ]

  -- ---- the file is finished

  pub finished_holds : (len : ℕ) (new : KeepState) → MovesBy (Finishes len) (keep_of state intake.keep) new → told_by stream ≡ follows.told → OfEach new.drive (HoldsArrived stream stream)
  finished_holds len new moves told =
      let k = keep_of state intake.keep in
      let all : told_by stream ≡ follows.told ++ [] = told ∙ sym (append-nil follows.told) in
      of_each new.drive (HoldsArrived stream stream) moves.keep.lawful (λ image some may.
      let came = came_by (Finishes len) k new follows.is_open.unbroken moves image some may in
      record {
        sound = sound_of new moves.keep some image may;
        held = λ x v has. came.by.stays.held x v (holds_front stream [] all no_arrival came.from came.exact x v has);
        named = λ x covered. let n = named_in stream [] all came.from came.exact x ((came.by.stays.ranges x).0 covered) in (n.0, n.1, came.by.stays.held x n.0 n.2);
      })

  whole_file : (len : ℕ) (new : KeepState) → MovesBy (Finishes len) (keep_of state intake.keep) new → Finished len (keep_of state intake.keep) new → told_by stream ≡ follows.told → ((x : ℕ) → HasOffset (keep_of state intake.keep).ranges x ↔ (x < len))
      → (image : Image) → IsExact new image → IsWholeFile (events_of (told_by stream)) image
  whole_file len new moves finished told below image exact =
      let k = keep_of state intake.keep in
      let from = told_before k.drive new.drive image moves.time.goes exact.read in
      let step = finished.read from.0 from.1 in
      let same : step.0 ≡ image = some_same step.0 image new.drive.contents step.1 exact.read in
      let stays = subst (λ i. (x v : ℕ) → Holds from.0 x v → Holds i x v) same step.2.finishes.stays.held in
      let size : length image.bytes ≡ len = subst (λ (i : Image). length i.bytes ≡ len) same step.2.size in
      let before = exact_read k follows.is_open.unbroken from.0 from.1 in
      let in_both : (x : ℕ) → HasOffset new.ranges x ↔ HasOffset k.ranges x = λ x. (λ h. subst (λ rs. HasOffset rs x) finished.ranges h, λ h. subst (λ rs. HasOffset rs x) (sym finished.ranges) h) in
      record {
        bytes = λ x. elim (cases_lt x len) [
          | inl lt ↦
              let had = (below x).1 lt in
              let holds = stays x (slice_index from.0.bytes x) (held_exact k from.0 before x had) in
              ap (λ (list : List Arrival). kept (events_of list) x) told ∙ follows.kept from.0 from.1 x had ∙ ap (λ v. Some v) (sym holds.byte) ∙ sym (slice_get-get_or image.bytes x 0 (omega (arith, size)))
          | inr past ↦
              ap (λ (list : List Arrival). kept (events_of list) x) told
              ∙ none_kept follows.told x (λ came. let lt = (below x).0 ((follows.booked.offsets x).1 came) in omega arith) ∙ sym (slice_get_past image.bytes x (omega (arith, size)))
        ];
        complete = (exact.complete (length image.bytes)).1 (finished.complete ∙ ap (λ n. Some n) (sym size));
        ranges = λ x. (
          λ covered. let lt = (below x).0 ((in_both x).0 ((exact.ranges x).0 covered)) in omega (arith, size),
          λ lt. (exact.ranges x).1 ((in_both x).1 ((below x).1 (omega (arith, size)))),
        );
      }

  pub finished_file : (len : ℕ) (new : KeepState) → MovesBy (Finishes len) (keep_of state intake.keep) new → Finished len (keep_of state intake.keep) new → told_by stream ≡ follows.told → ((x : ℕ) → HasOffset (keep_of state intake.keep).ranges x ↔ (x < len)) → OfEach new.drive (IsWholeFile (events_of (told_by stream)))
  finished_file len new moves finished told below =
      let unbroken : IsUnbroken new = record { whole = finished.whole; facts = moves.keep } in
      of_each new.drive (IsWholeFile (events_of (told_by stream))) moves.keep.lawful
      (λ image some may. whole_file len new moves finished told below image (exact_of new unbroken image some may))
