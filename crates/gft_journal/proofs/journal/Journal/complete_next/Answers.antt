use Rattle.gft_drive.proofs.Lemmas.{leaves_as, reads_from}
use Rattle.gft_journal.specs.Journal.{CompletesOrNot}
use Rattle.gft_journal.proofs.Adding.{opens_end, writes_end, matches_end}
use Rattle.gft_journal.proofs.journal.Journal.complete_next.Goals as goal

pub returns-in_err-open_slot-clause-any_moment : goal.returns-in_err-open_slot-clause-any_moment
returns-in_err-open_slot-clause-any_moment g c =
    let s = g.D.Drive.state in
    leaves_as (s c.args.drive.now) (s c.open_slot.new.drive) _ (CompletesOrNot c.args.len) c.requires.stands.synced
    (λ read told zs opens. opens_end c.args.self.now read.ranges zs _ c.args.len _ (c.requires.stands.matches read told) c.requires.room c.encode.ensures c.place-at.ensures opens)
    c.open_slot.ensures.any_moment

pub returns-clause-any_moment : goal.returns-clause-any_moment
returns-clause-any_moment g c =
    let s = g.D.Drive.state in
    leaves_as (s c.args.drive.now) (s c.open_slot.new.drive) _ (CompletesOrNot c.args.len) c.requires.stands.synced
    (λ read told zs opens. opens_end c.args.self.now read.ranges zs _ c.args.len _ (c.requires.stands.matches read told) c.requires.room c.encode.ensures c.place-at.ensures opens)
    c.open_slot.ensures.any_moment

pub returns-clause-completed : goal.returns-clause-completed
returns-clause-completed g c = λ from told.
    let to = c.in_ok-open_slot.ensures.written from told in (
      to.0,
      to.1,
      record {
        changed = writes_end c.args.self.now from.ranges to.0.ranges _ c.args.len _ (c.requires.stands.matches from told) c.requires.room c.encode.ensures c.place-at.ensures to.2.changed;
        kept = to.2.kept;
      },
    )

pub returns-clause-stands : goal.returns-clause-stands
returns-clause-stands g c =
    let s = g.D.Drive.state in
    record {
      matches = λ read told.
          let from = reads_from (s c.args.drive.now) (s c.open_slot.new.drive) _ c.open_slot.ensures.time c.in_ok-open_slot.ensures.written read told in
          matches_end c.args.self.now from.0.ranges read.ranges _ c.args.len _ (c.requires.stands.matches from.0 from.1) c.requires.room c.encode.ensures c.place-at.ensures from.2.changed;
      synced = c.in_ok-open_slot.ensures.synced;
    }
