use Rattle.std.proofs.Common.{◌≡◌, ◌-◌, List, ℕ, length, drop, take, ◌∙◌, arith, length-drop}
use Rattle.std.proofs.lemmas.List.{take_all}
use Rattle.gft_drive.proofs.Lemmas.{sync_goes_on, leaves_by}
use Rattle.gft_journal.specs.Slot.{OpensSlot}
use Rattle.gft_journal.proofs.OpenSlots.{body_since, gate_since}
use Rattle.gft_journal.proofs.journal.open_slot.Goals as goal

is_body : (slot : List ℕ) → take (length slot - 1) (drop 1 slot) ≡ drop 1 slot
is_body slot = take_all (length slot - 1) (drop 1 slot) (omega (arith, length-drop 1 slot))

pub returns-in_err-write_at-clause-any_moment : goal.returns-in_err-write_at-clause-any_moment
returns-in_err-write_at-clause-any_moment g c =
    let s = g.D.Drive.state in
    let laws = (g.met.D.Drive g.world.𝓛 g.world.𝓜 g.world.𝓡 ((λ s x. x), (λ x. x), (λ x. x), λ x. x)).lawful in
    let start = c.args.drive.now in
    leaves_by (s start) (s c.write_at.new.self) (OpensSlot c.args.at c.args.slot.now) c.requires.synced (λ read told.
    body_since c.args.at c.args.slot.now _ (s start) read (laws start) told c.requires.synced (is_body c.args.slot.now) c.requires.size (c.requires.shut.gate read told) (c.requires.shut.within read told)
    (s c.write_at.new.self) (laws c.write_at.new.self) c.write_at.ensures.crash c.write_at.ensures.only.time)

pub returns-in_err-sync-clause-any_moment : goal.returns-in_err-sync-clause-any_moment
returns-in_err-sync-clause-any_moment g c =
    let s = g.D.Drive.state in
    let laws = (g.met.D.Drive g.world.𝓛 g.world.𝓜 g.world.𝓡 ((λ s x. x), (λ x. x), (λ x. x), λ x. x)).lawful in
    let start = c.args.drive.now in
    leaves_by (s start) (s c.sync.new.self) (OpensSlot c.args.at c.args.slot.now) c.requires.synced (λ read told.
    let body = body_since c.args.at c.args.slot.now _ (s start) read (laws start) told c.requires.synced (is_body c.args.slot.now) c.requires.size (c.requires.shut.gate read told) (c.requires.shut.within read told)
    (s c.write_at.new.self) (laws c.write_at.new.self) c.write_at.ensures.crash c.write_at.ensures.only.time in
    let staged = c.in_ok-write_at.ensures.written read told in
    sync_goes_on (s start) (s c.write_at.new.self) (s c.sync.new.self) _ staged.0 (laws c.write_at.new.self) (laws c.sync.new.self) body staged.1 c.sync.ensures.crash c.sync.ensures.only.time)

pub returns-in_err-write_at-2-clause-any_moment : goal.returns-in_err-write_at-2-clause-any_moment
returns-in_err-write_at-2-clause-any_moment g c =
    let s = g.D.Drive.state in
    let laws = (g.met.D.Drive g.world.𝓛 g.world.𝓜 g.world.𝓡 ((λ s x. x), (λ x. x), (λ x. x), λ x. x)).lawful in
    let start = c.args.drive.now in
    leaves_by (s start) (s c.write_at-2.new.self) (OpensSlot c.args.at c.args.slot.now) c.requires.synced (λ read told.
    let body = body_since c.args.at c.args.slot.now _ (s start) read (laws start) told c.requires.synced (is_body c.args.slot.now) c.requires.size (c.requires.shut.gate read told) (c.requires.shut.within read told)
    (s c.write_at.new.self) (laws c.write_at.new.self) c.write_at.ensures.crash c.write_at.ensures.only.time in
    let staged = c.in_ok-write_at.ensures.written read told in
    let kept = sync_goes_on (s start) (s c.write_at.new.self) (s c.sync.new.self) _ staged.0 (laws c.write_at.new.self) (laws c.sync.new.self) body staged.1 c.sync.ensures.crash c.sync.ensures.only.time in
    gate_since c.args.at c.args.slot.now _ (s start) read (laws start) told c.requires.synced (is_body c.args.slot.now) c.requires.size (c.requires.shut.gate read told) (c.requires.shut.within read told)
    (s c.sync.new.self) (s c.write_at-2.new.self) staged.0 (laws c.sync.new.self) (laws c.write_at-2.new.self) kept (c.in_ok-sync.ensures.read ∙ staged.1) c.in_ok-sync.ensures.durable staged.2.changed c.write_at-2.ensures.crash c.write_at-2.ensures.only.time)

pub returns-clause-any_moment : goal.returns-clause-any_moment
returns-clause-any_moment g c =
    let s = g.D.Drive.state in
    let laws = (g.met.D.Drive g.world.𝓛 g.world.𝓜 g.world.𝓡 ((λ s x. x), (λ x. x), (λ x. x), λ x. x)).lawful in
    let start = c.args.drive.now in
    leaves_by (s start) (s c.sync-2.new.self) (OpensSlot c.args.at c.args.slot.now) c.requires.synced (λ read told.
    let body = body_since c.args.at c.args.slot.now _ (s start) read (laws start) told c.requires.synced (is_body c.args.slot.now) c.requires.size (c.requires.shut.gate read told) (c.requires.shut.within read told)
    (s c.write_at.new.self) (laws c.write_at.new.self) c.write_at.ensures.crash c.write_at.ensures.only.time in
    let staged = c.in_ok-write_at.ensures.written read told in
    let kept = sync_goes_on (s start) (s c.write_at.new.self) (s c.sync.new.self) _ staged.0 (laws c.write_at.new.self) (laws c.sync.new.self) body staged.1 c.sync.ensures.crash c.sync.ensures.only.time in
    let gate = gate_since c.args.at c.args.slot.now _ (s start) read (laws start) told c.requires.synced (is_body c.args.slot.now) c.requires.size (c.requires.shut.gate read told) (c.requires.shut.within read told)
    (s c.sync.new.self) (s c.write_at-2.new.self) staged.0 (laws c.sync.new.self) (laws c.write_at-2.new.self) kept (c.in_ok-sync.ensures.read ∙ staged.1) c.in_ok-sync.ensures.durable staged.2.changed c.write_at-2.ensures.crash c.write_at-2.ensures.only.time in
    let opened = c.in_ok-write_at-2.ensures.written staged.0 (c.in_ok-sync.ensures.read ∙ staged.1) in
    sync_goes_on (s start) (s c.write_at-2.new.self) (s c.sync-2.new.self) _ opened.0 (laws c.write_at-2.new.self) (laws c.sync-2.new.self) gate opened.1 c.sync-2.ensures.crash c.sync-2.ensures.only.time)
