use Rattle.std.proofs.Common.{◌≡◌, ◌<◌, ℕ, List, Option, Some, ap, sym, subst, ◌∙◌, refl, arith, inl, inr, Bor}
use Rattle.std.proofs.lemmas.Bool.{cases_lt}
use Rattle.std.proofs.lemmas.Option.{none-some}
use Rattle.gft_eblock.specs.declared.Event.{Event}
use Rattle.gft_eblock.specs.declared.Event.TheVariants as event
use Rattle.gft_eblock.specs.declared.channel.State.{State}
use Rattle.gft_eblock.specs.declared.channel.State.TheVariants.{Header, Data, EodWaits, Done, Failed}
use Rattle.gft_eblock.specs.Words.{IsDone, IsDoneState, IsEventOf, Reader, TakesMore, wanted}
use Rattle.gft_keep.specs.declared.KeepError.{KeepError}
use Rattle.gft_keep.specs.Words.{ShowsRefusal, block_of, keep_of}
use Rattle.gridftpd.proofs.FollowLemmas.{follows_none, follows_piece, follows_eof, follows_eod}
use Rattle.gridftpd.proofs.CountLemmas.{eod_taken}
use Rattle.gridftpd.proofs.EndLemmas.{bad_from, held_bad, held_but_last, held_eof, miscounted_from, ranges_from, torn_from, unmet_from}
use Rattle.gridftpd.proofs.intake.Intake.turn.Goals as goal

pub returns-in-Ok-store-clause-follows : goal.returns-in-Ok-store-clause-follows
returns-in-Ok-store-clause-follows g c stream follows =
    follows_piece g.D.Drive.state stream c.args.piece.now c.args.self.now _ c.in-Ok.step follows c.in-Ok.ensures.ok (c.in-Ok.ensures.wanted c.requires.wanted) c.requires.wanted c.requires.room c.in-Piece.offset c.in-Piece.bytes
    c.in-Ok-store.field-0 (c.in-Some.is ∙ ap (λ event. Some event) c.in-Piece.is) c.store.ensures.any_moment c.in-Ok-store.ensures.stored refl

pub returns-in_default-clause-follows : goal.returns-in_default-clause-follows
returns-in_default-clause-follows g c stream follows =
    follows_none g.D.Drive.state stream c.args.piece.now c.args.self.now _ c.in-Ok.step follows c.in-Ok.ensures.ok (c.in-Ok.ensures.wanted c.requires.wanted) c.requires.wanted c.requires.room c.in_default.is refl refl

pub returns-in-Ok-eof-clause-follows : goal.returns-in-Ok-eof-clause-follows
returns-in-Ok-eof-clause-follows g c stream follows =
    follows_eof g.D.Drive.state stream c.args.piece.now c.args.self.now _ c.in-Ok.step follows c.in-Ok.ensures.ok (c.in-Ok.ensures.wanted c.requires.wanted) c.requires.wanted c.requires.room c.in-Eof.total
    (c.in-Some.is ∙ ap (λ event. Some event) c.in-Eof.is) refl c.in-Ok-eof.ensures.taken c.in-Ok-eof.ensures.total c.eof.ensures.eods

pub returns-in-Err-eof-clause-caused : goal.returns-in-Err-eof-clause-caused
returns-in-Err-eof-clause-caused g c stream left follows =
    let state = g.D.Drive.state in
    let is = c.in-Some.is ∙ ap (λ event. Some event) c.in-Eof.is in
    let all = c.in-Ok.ensures.wanted c.requires.wanted in (
      miscounted_from state stream c.args.self.now c.args.piece.now c.in-Ok.step _ follows c.in-Ok.ensures.ok all c.requires.room c.in-Eof.total c.in-Err-eof.error is c.in-Err-eof.ensures.refused,
      held_eof state stream c.args.self.now c.args.piece.now c.in-Ok.step _ follows c.in-Ok.ensures.ok all c.requires.room c.in-Eof.total is,
    )

pub returns-in-Ok-eod-clause-follows : goal.returns-in-Ok-eod-clause-follows
returns-in-Ok-eod-clause-follows g c stream follows =
    follows_eod g.D.Drive.state stream c.args.piece.now c.args.self.now _ c.in-Ok.step follows c.in-Ok.ensures.ok (c.in-Ok.ensures.wanted c.requires.wanted) c.requires.wanted c.requires.room
    (c.in-Some.is ∙ ap (λ event. Some event) c.in-Eod.is) refl c.eod.ensures.total c.in-Ok-eod.ensures.eods

pub returns-in-Err-eod-clause-caused : goal.returns-in-Err-eod-clause-caused
returns-in-Err-eod-clause-caused g c stream left follows =
    let fine = eod_taken follows.told c.args.self.now.count follows.counted follows.eods in
    absurd (none-some c.in-Err-eod.error (sym fine ∙ c.in-Err-eod.ensures.refused))

pub returns-in-Err-clause-caused : goal.returns-in-Err-clause-caused
returns-in-Err-clause-caused g c stream left follows =
    let state = g.D.Drive.state in (
      bad_from state stream c.args.self.now c.args.piece.now c.in-Err.bad _ follows c.in-Err.ensures.bad c.requires.wanted c.requires.room,
      held_bad state stream c.args.self.now c.args.piece.now c.in-Err.bad _ follows c.in-Err.ensures.bad,
    )

open_not_done : (s : State) → TakesMore s → IsDoneState s → ⊥
open_not_done Header going done = done
open_not_done (Data offset left eod) going done = done
open_not_done EodWaits going done = done
open_not_done Done going done = going
open_not_done (Failed bad) going done = done

-- behind a piece the channel isn't done
piece_is_not_last : (told : Option Event) (r : Reader) (offset : ℕ) (bytes : Bor (List ℕ)) → told ≡ Some (event.Piece offset bytes) → IsEventOf told r.state r.header → IsDone r → ⊥
piece_is_not_last told r offset bytes is shape done =
    open_not_done r.state (subst (λ (e : Option Event). IsEventOf e r.state r.header) is shape).2 done

-- what a piece brings was awaited, since it isn't the EOD that waits
awaited : (channel : Reader) (told : Option Event) (offset : ℕ) (bytes : Bor (List ℕ)) → told ≡ Some (event.Piece offset bytes) → (wanted channel ≡ 0 → told ≡ Some event.Eod) → 0 < wanted channel
awaited channel told offset bytes is waiting = elim (cases_lt 0 (wanted channel)) [ inl some ↦ some | inr none ↦ absurd (let eod = waiting (omega arith) in cc) ]

pub returns-in-Err-RangesFull-clause-caused : goal.returns-in-Err-RangesFull-clause-caused
returns-in-Err-RangesFull-clause-caused g c stream left follows =
    let state = g.D.Drive.state in
    let old = c.args.self.now in
    let is = c.in-Some.is ∙ ap (λ event. Some event) c.in-Piece.is in
    let awaits = awaited old.channel c.in-Ok.step.event c.in-Piece.offset c.in-Piece.bytes is (λ none. (c.in-Ok.ensures.waiting none).1) in
    let refused = c.in-Err-RangesFull.ensures.refused in
    let shows = subst (λ (error : KeepError). ShowsRefusal (keep_of state old.keep) (keep_of state c.store.new.self) (block_of c.in-Piece.offset c.in-Piece.bytes.now) error) c.in-Err-RangesFull.field-0-is refused.shows in
    let same : c.store.new.self ≡ old.keep = refused.kept (λ failed. cc (failed, c.in-Err-RangesFull.field-0-is)) in (
      (
        shows.0,
        ranges_from state stream old c.args.piece.now c.in-Ok.step _ follows c.in-Ok.ensures.ok (c.in-Ok.ensures.wanted c.requires.wanted) c.requires.room
            c.in-Piece.offset c.in-Piece.bytes is awaits shows.1,
      ),
      rw same (held_but_last state stream old c.args.piece.now follows awaits c.requires.one_read),
    )

pub returns-in-Err-OutOfMemory-clause-caused : goal.returns-in-Err-OutOfMemory-clause-caused
returns-in-Err-OutOfMemory-clause-caused g c stream left follows =
    let state = g.D.Drive.state in
    let old = c.args.self.now in
    let is = c.in-Some.is ∙ ap (λ event. Some event) c.in-Piece.is in
    let awaits = awaited old.channel c.in-Ok.step.event c.in-Piece.offset c.in-Piece.bytes is (λ none. (c.in-Ok.ensures.waiting none).1) in
    let refused = c.in-Err-OutOfMemory.ensures.refused in
    let same : c.store.new.self ≡ old.keep = refused.kept (λ failed. cc (failed, c.in-Err-OutOfMemory.field-0-is)) in (
      unmet_from state stream old c.args.piece.now c.in-Ok.step _ follows c.in-Ok.ensures.ok (c.in-Ok.ensures.wanted c.requires.wanted) c.requires.room
          c.in-Piece.offset c.in-Piece.bytes is (λ full. let other = c.store.ensures.full full in cc (other, c.in-Err-OutOfMemory.is, c.in-Err-OutOfMemory.field-0-is)),
      rw same (held_but_last state stream old c.args.piece.now follows awaits c.requires.one_read),
    )

pub returns-in-Err-Failed-clause-caused : goal.returns-in-Err-Failed-clause-caused
returns-in-Err-Failed-clause-caused g c stream left follows =
    let state = g.D.Drive.state in
    let old = c.args.self.now in
    let is = c.in-Some.is ∙ ap (λ event. Some event) c.in-Piece.is in
    let awaits = awaited old.channel c.in-Ok.step.event c.in-Piece.offset c.in-Piece.bytes is (λ none. (c.in-Ok.ensures.waiting none).1) in (
      unmet_from state stream old c.args.piece.now c.in-Ok.step _ follows c.in-Ok.ensures.ok (c.in-Ok.ensures.wanted c.requires.wanted) c.requires.room
          c.in-Piece.offset c.in-Piece.bytes is (λ full. let other = c.store.ensures.full full in cc (other, c.in-Err-Failed.is, c.in-Err-Failed.field-0-is)),
      torn_from state stream old c.args.piece.now c.in-Ok.step _ follows c.in-Ok.ensures.ok (c.in-Ok.ensures.wanted c.requires.wanted) c.requires.room
          c.in-Piece.offset c.in-Piece.bytes is (keep_of state c.store.new.self) awaits c.requires.one_read c.store.ensures.any_moment,
    )

pub returns-in-Ok-store-clause-ended : goal.returns-in-Ok-store-clause-ended
returns-in-Ok-store-clause-ended g c =
    let is = c.in-Some.is ∙ ap (λ event. Some event) c.in-Piece.is in
    (λ no. cc no, λ done. absurd (piece_is_not_last c.in-Ok.step.event c.feed.new.self c.in-Piece.offset c.in-Piece.bytes is c.in-Ok.ensures.ok.event done))
