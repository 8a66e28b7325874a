use Rattle.std.proofs.Common.{sym, ◌∙◌}
use Rattle.gft_drive.specs.Words.{Torn}
use Rattle.gft_drive.proofs.Lemmas.{since_nothing, exact_goes_on, sync_goes_on, leaves_by, reads_from}
use Rattle.gft_journal.specs.Journal.{BearsOrNot}
use Rattle.gft_journal.proofs.Births.{bears_same, torn_births, bears, matches_born}
use Rattle.gft_journal.proofs.journal.Journal.birth.Goals as goal

pub returns-in_err-write_at-clause-any_moment : goal.returns-in_err-write_at-clause-any_moment
returns-in_err-write_at-clause-any_moment g c =
    let s = g.D.Drive.state in
    let laws = (g.met.D.Drive g.world.𝓛 g.world.𝓜 g.world.𝓡 ((λ s x. x), (λ x. x), (λ x. x), λ x. x)).lawful in
    let start = c.args.drive.now in
    leaves_by (s start) (s c.write_at.new.self) BearsOrNot c.requires.stands.synced (λ read told.
    let P = BearsOrNot read.ranges in
    let nothing = since_nothing (s start) P read told c.requires.stands.synced (bears_same read.ranges) in
    exact_goes_on (s start) (s start) (s c.write_at.new.self) P (Torn 1 1) read (laws start) (laws c.write_at.new.self) nothing told c.requires.stands.synced c.write_at.ensures.crash c.write_at.ensures.only.time
    (λ zs torn. torn_births c.args.self.now read.ranges zs (c.requires.stands.matches read told) c.if-self.false torn))

pub returns-in_err-sync-clause-any_moment : goal.returns-in_err-sync-clause-any_moment
returns-in_err-sync-clause-any_moment g c =
    let s = g.D.Drive.state in
    let laws = (g.met.D.Drive g.world.𝓛 g.world.𝓜 g.world.𝓡 ((λ s x. x), (λ x. x), (λ x. x), λ x. x)).lawful in
    let start = c.args.drive.now in
    leaves_by (s start) (s c.sync.new.self) BearsOrNot c.requires.stands.synced (λ read told.
    let P = BearsOrNot read.ranges in
    let nothing = since_nothing (s start) P read told c.requires.stands.synced (bears_same read.ranges) in
    let wrote = exact_goes_on (s start) (s start) (s c.write_at.new.self) P (Torn 1 1) read (laws start) (laws c.write_at.new.self) nothing told c.requires.stands.synced c.write_at.ensures.crash c.write_at.ensures.only.time
    (λ zs torn. torn_births c.args.self.now read.ranges zs (c.requires.stands.matches read told) c.if-self.false torn) in
    let staged = c.in_ok-write_at.ensures.written read told in
    sync_goes_on (s start) (s c.write_at.new.self) (s c.sync.new.self) P staged.0 (laws c.write_at.new.self) (laws c.sync.new.self) wrote staged.1 c.sync.ensures.crash c.sync.ensures.only.time)

pub returns-clause-any_moment : goal.returns-clause-any_moment
returns-clause-any_moment g c =
    let s = g.D.Drive.state in
    let laws = (g.met.D.Drive g.world.𝓛 g.world.𝓜 g.world.𝓡 ((λ s x. x), (λ x. x), (λ x. x), λ x. x)).lawful in
    let start = c.args.drive.now in
    leaves_by (s start) (s c.sync.new.self) BearsOrNot c.requires.stands.synced (λ read told.
    let P = BearsOrNot read.ranges in
    let nothing = since_nothing (s start) P read told c.requires.stands.synced (bears_same read.ranges) in
    let wrote = exact_goes_on (s start) (s start) (s c.write_at.new.self) P (Torn 1 1) read (laws start) (laws c.write_at.new.self) nothing told c.requires.stands.synced c.write_at.ensures.crash c.write_at.ensures.only.time
    (λ zs torn. torn_births c.args.self.now read.ranges zs (c.requires.stands.matches read told) c.if-self.false torn) in
    let staged = c.in_ok-write_at.ensures.written read told in
    sync_goes_on (s start) (s c.write_at.new.self) (s c.sync.new.self) P staged.0 (laws c.write_at.new.self) (laws c.sync.new.self) wrote staged.1 c.sync.ensures.crash c.sync.ensures.only.time)

pub returns-clause-born : goal.returns-clause-born
returns-clause-born g c = λ read told.
    let staged = c.in_ok-write_at.ensures.written read told in (
      staged.0,
      c.in_ok-sync.ensures.read ∙ staged.1,
      record { changed = bears c.args.self.now read.ranges staged.0.ranges (c.requires.stands.matches read told) c.if-self.false staged.2.changed; kept = staged.2.kept },
    )

pub returns-clause-stands : goal.returns-clause-stands
returns-clause-stands g c =
    let s = g.D.Drive.state in
    record {
      matches = λ last told.
          let from = reads_from (s c.args.drive.now) (s c.write_at.new.self) _ c.write_at.ensures.only.time c.in_ok-write_at.ensures.written last (sym c.in_ok-sync.ensures.read ∙ told) in
          matches_born c.args.self.now from.0.ranges last.ranges (c.requires.stands.matches from.0 from.1) c.if-self.false from.2.changed;
      synced = c.in_ok-sync.ensures.durable;
    }
