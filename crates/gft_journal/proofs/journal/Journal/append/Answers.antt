use Rattle.std.proofs.Common.{arith}
use Rattle.gft_drive.proofs.Lemmas.{leaves_as, reads_from}
use Rattle.gft_journal.specs.Journal.{AddsOrNot}
use Rattle.gft_journal.proofs.Adding.{opens_range, writes_range, matches_next}
use Rattle.gft_journal.proofs.journal.Journal.append.Goals as goal

pub returns-in_err-open_slot-clause-any_moment : goal.returns-in_err-open_slot-clause-any_moment
returns-in_err-open_slot-clause-any_moment g c =
    let s = g.D.Drive.state in
    leaves_as (s c.args.drive.now) (s c.open_slot.new.drive) _ (AddsOrNot c.args.range) c.requires.stands.synced
    (λ read told zs opens. opens_range c.args.self.now read.ranges zs _ c.args.range _ (c.requires.stands.matches read told) (omega (arith, c.requires.room)) c.requires.range.some c.encode.ensures c.place-at.ensures opens)
    c.open_slot.ensures.any_moment

pub returns-clause-any_moment : goal.returns-clause-any_moment
returns-clause-any_moment g c =
    let s = g.D.Drive.state in
    leaves_as (s c.args.drive.now) (s c.open_slot.new.drive) _ (AddsOrNot c.args.range) c.requires.stands.synced
    (λ read told zs opens. opens_range c.args.self.now read.ranges zs _ c.args.range _ (c.requires.stands.matches read told) (omega (arith, c.requires.room)) c.requires.range.some c.encode.ensures c.place-at.ensures opens)
    c.open_slot.ensures.any_moment

pub returns-clause-added : goal.returns-clause-added
returns-clause-added g c = λ from told.
    let to = c.in_ok-open_slot.ensures.written from told in (
      to.0,
      to.1,
      record {
        changed = writes_range c.args.self.now from.ranges to.0.ranges _ c.args.range _ (c.requires.stands.matches from told) (omega (arith, c.requires.room)) c.requires.range.some c.encode.ensures c.place-at.ensures to.2.changed;
        kept = to.2.kept;
      },
    )

pub returns-clause-stands : goal.returns-clause-stands
returns-clause-stands g c =
    let s = g.D.Drive.state in
    record {
      matches = λ read told.
          let from = reads_from (s c.args.drive.now) (s c.open_slot.new.drive) _ c.open_slot.ensures.time c.in_ok-open_slot.ensures.written read told in
          matches_next c.args.self.now from.0.ranges read.ranges _ c.args.range _ (c.requires.stands.matches from.0 from.1) (omega (arith, c.requires.room)) c.requires.range.some c.encode.ensures c.place-at.ensures from.2.changed;
      synced = c.in_ok-open_slot.ensures.synced;
    }
