use Rattle.std.proofs.Common.{rules, ◌≡◌, ℕ, ◌+◌, ◌*◌, ◌∙◌, subst, arith}
use Rattle.gft_drive.specs.Words.{bank_at}
use Rattle.gft_drive.proofs.Lemmas.{Unchanged-then}
use Rattle.gft_journal.specs.Slot.{bank_number}
use Rattle.gft_journal.specs.Scan.{IsScan}
use Rattle.gft_journal.proofs.opening.read_bank.Goals as goal

pub loop-i-preserved : goal.loop-i-preserved
loop-i-preserved g c =
    let s = g.D.Drive.state in
    let laws = (g.met.D.Drive g.world.𝓛 g.world.𝓜 g.world.𝓡 ((λ s x. x), (λ x. x), (λ x. x), λ x. x)).lawful in
    let kept = c.loop-i.invariant in
    record {
      looks = Unchanged-then (s c.args.drive.now) (s c.loop-i.drive) (s c.read_slots.new.drive) (laws c.loop-i.drive) (laws c.read_slots.new.drive) kept.looks c.read_slots.ensures.unchanged;
      faults = search rules;
      in_limit = c.read_slots.ensures.in_limit kept.in_limit;
      scan = λ read told.
          let count : 256 * c.loop-i.i + 256 ≡ 256 * (c.loop-i.i + 1) = omega arith in
          subst (λ (n : ℕ). IsScan read.ranges (bank_at (bank_number c.args.bank)) n c.read_slots.new.scan) count (c.in-Ok.ensures.taken read (kept.looks.read ∙ told) (kept.scan read told));
    }

pub returns-in-Ok-read_slots-clause-scan : goal.returns-in-Ok-read_slots-clause-scan
returns-in-Ok-read_slots-clause-scan g c = λ read told.
    let kept = c.loop-i.invariant in
    let all : 256 * c.loop-i.i ≡ 65280 = omega (arith, c.loop-i-test.false, c.loop-i.auto.i-end) in
    c.in-Ok-read_slots.ensures.taken read (kept.looks.read ∙ told) (subst (λ (n : ℕ). IsScan read.ranges (bank_at (bank_number c.args.bank)) n c.loop-i.scan) all (kept.scan read told))
