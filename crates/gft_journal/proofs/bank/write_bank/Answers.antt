use Rattle.std.proofs.Common.{◌≡◌, ℕ, subst, arith}
use Rattle.gft_drive.specs.Words.{bank_at}
use Rattle.gft_journal.specs.Slot.{bank_number}
use Rattle.gft_journal.specs.Bank.{slots_of}
use Rattle.gft_journal.proofs.Writing.{WritingBank, none_written, piece_leaves, piece_written, bank_written, bank_leaves}
use Rattle.gft_journal.proofs.bank.write_bank.Goals as goal

pub loop-i-init : goal.loop-i-init
loop-i-init g c = none_written (g.D.Drive.state c.args.drive.now) (bank_at (bank_number c.args.bank)) (slots_of c.args.set.now c.args.complete) c.requires.synced

pub returns-in_err-write_at-clause-any_moment : goal.returns-in_err-write_at-clause-any_moment
returns-in_err-write_at-clause-any_moment g c =
    let s = g.D.Drive.state in
    let laws = (g.met.D.Drive g.world.𝓛 g.world.𝓜 g.world.𝓡 ((λ s x. x), (λ x. x), (λ x. x), λ x. x)).lawful in
    piece_leaves (s c.args.drive.now) (s c.loop-i.drive) (s c.write_at.new.self) (bank_at (bank_number c.args.bank)) (slots_of c.args.set.now c.args.complete) c.loop-i.i c.piece-bytes.result c.loop-i.invariant
    (laws c.loop-i.drive) (laws c.write_at.new.self) c.requires.room c.loop-i-test.true c.piece-bytes.ensures.size _ (omega (arith, c.place-place.ensures)) c.write_at.ensures.crash c.write_at.ensures.only.time c.requires.synced

pub loop-i-preserved : goal.loop-i-preserved
loop-i-preserved g c =
    let s = g.D.Drive.state in
    let laws = (g.met.D.Drive g.world.𝓛 g.world.𝓜 g.world.𝓡 ((λ s x. x), (λ x. x), (λ x. x), λ x. x)).lawful in
    piece_written (s c.args.drive.now) (s c.loop-i.drive) (s c.write_at.new.self) (bank_at (bank_number c.args.bank)) (slots_of c.args.set.now c.args.complete) c.loop-i.i c.piece-bytes.result c.loop-i.invariant
    (laws c.loop-i.drive) (laws c.write_at.new.self) c.requires.room c.loop-i-test.true c.piece-bytes.ensures.size _ (omega (arith, c.place-place.ensures)) c.write_at.ensures.crash c.write_at.ensures.only.time
    c.in_ok-write_at.ensures.only.cause.kept c.piece-bytes.ensures.units c.in_ok-write_at.ensures.written

pub returns-clause-written : goal.returns-clause-written
returns-clause-written g c =
    let s = g.D.Drive.state in
    let at = bank_at (bank_number c.args.bank) in
    let slots = slots_of c.args.set.now c.args.complete in
    let all : c.loop-i.i ≡ 256 = omega arith in
    bank_written (s c.args.drive.now) (s c.loop-i.drive) at slots (subst (λ (n : ℕ). WritingBank (s c.args.drive.now) (s c.loop-i.drive) at slots n) all c.loop-i.invariant)

pub returns-clause-any_moment : goal.returns-clause-any_moment
returns-clause-any_moment g c =
    let s = g.D.Drive.state in
    bank_leaves (s c.args.drive.now) (s c.loop-i.drive) (bank_at (bank_number c.args.bank)) c.loop-i.i (slots_of c.args.set.now c.args.complete) c.requires.synced c.loop-i.invariant
