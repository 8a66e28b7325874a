use Rattle.std.proofs.Common.{◌≡◌, ◌+◌, [], ◌∷◌, ℕ, length, Option, Some, None, refl, sym, ◌∙◌, ap, subst}
use mir.Val.{bool_byte}
use Rattle.std.specs.Option.{is_some}
use Rattle.gft_drive.specs.Words.{Written, Torn, DiffersIn}
use Rattle.gft_drive.specs.Words.{bank_at, bank_size}
use Rattle.gft_drive.proofs.Lemmas.{since_nothing, exact_goes_on, sync_goes_on, leaves_by, reads_from}
use Rattle.gft_journal.specs.Slot.{bank_number}
use Rattle.gft_journal.specs.Bank.{end_slot}
use Rattle.gft_journal.specs.Journal.{BecomesOrNot}
use Rattle.gft_journal.proofs.Basing.{same_now, wrote, flipping, becomes, matches_after}
use Rattle.gft_journal.proofs.journal.Journal.rebase_to.Goals as goal

pub returns-in_err-write_bank-clause-any_moment : goal.returns-in_err-write_bank-clause-any_moment
returns-in_err-write_bank-clause-any_moment g c =
    let s = g.D.Drive.state in
    let laws = (g.met.D.Drive g.world.𝓛 g.world.𝓜 g.world.𝓡 ((λ s x. x), (λ x. x), (λ x. x), λ x. x)).lawful in
    let start = c.args.drive.now in
    let o = bank_number c.other-bank.result in
    leaves_by (s start) (s c.write_bank.new.drive) (BecomesOrNot c.args.set.now c.args.complete) c.requires.stands.synced (λ read told.
    let was = c.requires.stands.matches read told in
    let P = BecomesOrNot c.args.set.now c.args.complete read.ranges in
    let nothing = since_nothing (s start) P read told c.requires.stands.synced (same_now c.args.self.now c.args.set.now c.args.complete read.ranges was c.requires.set o c.other-bank.ensures) in
    exact_goes_on (s start) (s start) (s c.write_bank.new.drive) P (DiffersIn (bank_at o) bank_size) read (laws start) (laws c.write_bank.new.drive) nothing told c.requires.stands.synced c.write_bank.ensures.any_moment c.write_bank.ensures.time (wrote c.args.self.now c.args.set.now c.args.complete read.ranges was c.requires.set o c.other-bank.ensures))

pub returns-in_err-sync-clause-any_moment : goal.returns-in_err-sync-clause-any_moment
returns-in_err-sync-clause-any_moment g c =
    let s = g.D.Drive.state in
    let laws = (g.met.D.Drive g.world.𝓛 g.world.𝓜 g.world.𝓡 ((λ s x. x), (λ x. x), (λ x. x), λ x. x)).lawful in
    let start = c.args.drive.now in
    let o = bank_number c.other-bank.result in
    leaves_by (s start) (s c.sync.new.self) (BecomesOrNot c.args.set.now c.args.complete) c.requires.stands.synced (λ read told.
    let was = c.requires.stands.matches read told in
    let P = BecomesOrNot c.args.set.now c.args.complete read.ranges in
    let nothing = since_nothing (s start) P read told c.requires.stands.synced (same_now c.args.self.now c.args.set.now c.args.complete read.ranges was c.requires.set o c.other-bank.ensures) in
    let wrote_bank = exact_goes_on (s start) (s start) (s c.write_bank.new.drive) P (DiffersIn (bank_at o) bank_size) read (laws start) (laws c.write_bank.new.drive) nothing told c.requires.stands.synced c.write_bank.ensures.any_moment c.write_bank.ensures.time (wrote c.args.self.now c.args.set.now c.args.complete read.ranges was c.requires.set o c.other-bank.ensures) in
    let staged = c.in_ok-write_bank.ensures.written read told in
    sync_goes_on (s start) (s c.write_bank.new.drive) (s c.sync.new.self) P staged.0 (laws c.write_bank.new.drive) (laws c.sync.new.self) wrote_bank staged.1 c.sync.ensures.crash c.sync.ensures.only.time)

pub returns-in_err-write_at-clause-any_moment : goal.returns-in_err-write_at-clause-any_moment
returns-in_err-write_at-clause-any_moment g c =
    let s = g.D.Drive.state in
    let laws = (g.met.D.Drive g.world.𝓛 g.world.𝓜 g.world.𝓡 ((λ s x. x), (λ x. x), (λ x. x), λ x. x)).lawful in
    let start = c.args.drive.now in
    let o = bank_number c.other-bank.result in
    leaves_by (s start) (s c.write_at.new.self) (BecomesOrNot c.args.set.now c.args.complete) c.requires.stands.synced (λ read told.
    let was = c.requires.stands.matches read told in
    let P = BecomesOrNot c.args.set.now c.args.complete read.ranges in
    let nothing = since_nothing (s start) P read told c.requires.stands.synced (same_now c.args.self.now c.args.set.now c.args.complete read.ranges was c.requires.set o c.other-bank.ensures) in
    let wrote_bank = exact_goes_on (s start) (s start) (s c.write_bank.new.drive) P (DiffersIn (bank_at o) bank_size) read (laws start) (laws c.write_bank.new.drive) nothing told c.requires.stands.synced c.write_bank.ensures.any_moment c.write_bank.ensures.time (wrote c.args.self.now c.args.set.now c.args.complete read.ranges was c.requires.set o c.other-bank.ensures) in
    let staged = c.in_ok-write_bank.ensures.written read told in
    let synced = sync_goes_on (s start) (s c.write_bank.new.drive) (s c.sync.new.self) P staged.0 (laws c.write_bank.new.drive) (laws c.sync.new.self) wrote_bank staged.1 c.sync.ensures.crash c.sync.ensures.only.time in
    let told_staged = c.in_ok-sync.ensures.read ∙ staged.1 in
    exact_goes_on (s start) (s c.sync.new.self) (s c.write_at.new.self) P (Torn 0 1) staged.0 (laws c.sync.new.self) (laws c.write_at.new.self) synced told_staged c.in_ok-sync.ensures.durable c.write_at.ensures.crash c.write_at.ensures.only.time (flipping c.args.self.now c.args.set.now c.args.complete read.ranges was c.requires.set o c.other-bank.ensures staged.0.ranges staged.2.changed))

pub returns-in_err-sync-2-clause-any_moment : goal.returns-in_err-sync-2-clause-any_moment
returns-in_err-sync-2-clause-any_moment g c =
    let s = g.D.Drive.state in
    let laws = (g.met.D.Drive g.world.𝓛 g.world.𝓜 g.world.𝓡 ((λ s x. x), (λ x. x), (λ x. x), λ x. x)).lawful in
    let start = c.args.drive.now in
    let o = bank_number c.other-bank.result in
    leaves_by (s start) (s c.sync-2.new.self) (BecomesOrNot c.args.set.now c.args.complete) c.requires.stands.synced (λ read told.
    let was = c.requires.stands.matches read told in
    let P = BecomesOrNot c.args.set.now c.args.complete read.ranges in
    let nothing = since_nothing (s start) P read told c.requires.stands.synced (same_now c.args.self.now c.args.set.now c.args.complete read.ranges was c.requires.set o c.other-bank.ensures) in
    let wrote_bank = exact_goes_on (s start) (s start) (s c.write_bank.new.drive) P (DiffersIn (bank_at o) bank_size) read (laws start) (laws c.write_bank.new.drive) nothing told c.requires.stands.synced c.write_bank.ensures.any_moment c.write_bank.ensures.time (wrote c.args.self.now c.args.set.now c.args.complete read.ranges was c.requires.set o c.other-bank.ensures) in
    let staged = c.in_ok-write_bank.ensures.written read told in
    let synced = sync_goes_on (s start) (s c.write_bank.new.drive) (s c.sync.new.self) P staged.0 (laws c.write_bank.new.drive) (laws c.sync.new.self) wrote_bank staged.1 c.sync.ensures.crash c.sync.ensures.only.time in
    let told_staged = c.in_ok-sync.ensures.read ∙ staged.1 in
    let flip = exact_goes_on (s start) (s c.sync.new.self) (s c.write_at.new.self) P (Torn 0 1) staged.0 (laws c.sync.new.self) (laws c.write_at.new.self) synced told_staged c.in_ok-sync.ensures.durable c.write_at.ensures.crash c.write_at.ensures.only.time (flipping c.args.self.now c.args.set.now c.args.complete read.ranges was c.requires.set o c.other-bank.ensures staged.0.ranges staged.2.changed) in
    let selected = c.in_ok-write_at.ensures.written staged.0 told_staged in
    sync_goes_on (s start) (s c.write_at.new.self) (s c.sync-2.new.self) P selected.0 (laws c.write_at.new.self) (laws c.sync-2.new.self) flip selected.1 c.sync-2.ensures.crash c.sync-2.ensures.only.time)

pub returns-clause-any_moment : goal.returns-clause-any_moment
returns-clause-any_moment g c =
    let s = g.D.Drive.state in
    let laws = (g.met.D.Drive g.world.𝓛 g.world.𝓜 g.world.𝓡 ((λ s x. x), (λ x. x), (λ x. x), λ x. x)).lawful in
    let start = c.args.drive.now in
    let o = bank_number c.other-bank.result in
    leaves_by (s start) (s c.sync-2.new.self) (BecomesOrNot c.args.set.now c.args.complete) c.requires.stands.synced (λ read told.
    let was = c.requires.stands.matches read told in
    let P = BecomesOrNot c.args.set.now c.args.complete read.ranges in
    let nothing = since_nothing (s start) P read told c.requires.stands.synced (same_now c.args.self.now c.args.set.now c.args.complete read.ranges was c.requires.set o c.other-bank.ensures) in
    let wrote_bank = exact_goes_on (s start) (s start) (s c.write_bank.new.drive) P (DiffersIn (bank_at o) bank_size) read (laws start) (laws c.write_bank.new.drive) nothing told c.requires.stands.synced c.write_bank.ensures.any_moment c.write_bank.ensures.time (wrote c.args.self.now c.args.set.now c.args.complete read.ranges was c.requires.set o c.other-bank.ensures) in
    let staged = c.in_ok-write_bank.ensures.written read told in
    let synced = sync_goes_on (s start) (s c.write_bank.new.drive) (s c.sync.new.self) P staged.0 (laws c.write_bank.new.drive) (laws c.sync.new.self) wrote_bank staged.1 c.sync.ensures.crash c.sync.ensures.only.time in
    let told_staged = c.in_ok-sync.ensures.read ∙ staged.1 in
    let flip = exact_goes_on (s start) (s c.sync.new.self) (s c.write_at.new.self) P (Torn 0 1) staged.0 (laws c.sync.new.self) (laws c.write_at.new.self) synced told_staged c.in_ok-sync.ensures.durable c.write_at.ensures.crash c.write_at.ensures.only.time (flipping c.args.self.now c.args.set.now c.args.complete read.ranges was c.requires.set o c.other-bank.ensures staged.0.ranges staged.2.changed) in
    let selected = c.in_ok-write_at.ensures.written staged.0 told_staged in
    sync_goes_on (s start) (s c.write_at.new.self) (s c.sync-2.new.self) P selected.0 (laws c.write_at.new.self) (laws c.sync-2.new.self) flip selected.1 c.sync-2.ensures.crash c.sync-2.ensures.only.time)

pub returns-clause-based : goal.returns-clause-based
returns-clause-based g c = λ read told.
    let o = bank_number c.other-bank.result in
    let staged = c.in_ok-write_bank.ensures.written read told in
    let selected = c.in_ok-write_at.ensures.written staged.0 (c.in_ok-sync.ensures.read ∙ staged.1) in (
      selected.0,
      c.in_ok-sync-2.ensures.read ∙ selected.1,
      record {
        changed = becomes c.args.self.now c.args.set.now c.args.complete read.ranges (c.requires.stands.matches read told) c.requires.set o c.other-bank.ensures staged.0.ranges staged.2.changed selected.0.ranges (subst (λ (n : ℕ). Written 0 (n ∷ []) staged.0.ranges selected.0.ranges) c.number.ensures selected.2.changed);
        kept = selected.2.kept ∙ staged.2.kept;
      },
    )

ends : (complete : Option ℕ) → bool_byte (is_some complete) ≡ length (end_slot complete)
ends None = refl
ends (Some len) = refl

pub returns-clause-stands : goal.returns-clause-stands
returns-clause-stands g c =
    let s = g.D.Drive.state in
    let o = bank_number c.other-bank.result in
    let count : length c.args.set.now + c.from.result ≡ length c.args.set.now + length (end_slot c.args.complete) =
    ap (λ (n : ℕ). length c.args.set.now + n) (c.from.ensures ∙ ap bool_byte c.is_some.ensures ∙ ends c.args.complete) in
    record {
      matches = λ last told.
          let staged = reads_from (s c.sync.new.self) (s c.write_at.new.self) _ c.write_at.ensures.only.time c.in_ok-write_at.ensures.written last (sym c.in_ok-sync-2.ensures.read ∙ told) in
          let read = reads_from (s c.args.drive.now) (s c.write_bank.new.drive) _ c.write_bank.ensures.time c.in_ok-write_bank.ensures.written staged.0 (sym c.in_ok-sync.ensures.read ∙ staged.1) in
          matches_after c.args.self.now c.args.set.now c.args.complete read.0.ranges (c.requires.stands.matches read.0 read.1) c.requires.set o c.other-bank.ensures staged.0.ranges read.2.changed last.ranges
          (subst (λ (n : ℕ). Written 0 (n ∷ []) staged.0.ranges last.ranges) c.number.ensures staged.2.changed) c.other-bank.result _ refl count;
      synced = c.in_ok-sync-2.ensures.durable;
    }
