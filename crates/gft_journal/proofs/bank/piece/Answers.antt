use Rattle.std.proofs.Common.{◌≡◌, ◌+◌, ◌*◌, ℕ, subst, arith}
use Rattle.gft_drive.specs.Words.{Written}
use Rattle.gft_journal.proofs.Units.{units_more}
use Rattle.gft_journal.specs.Bank.{slots_of}
use Rattle.gft_journal.proofs.bank.piece.Goals as goal

pub loop-i-preserved : goal.loop-i-preserved
loop-i-preserved c =
    let place : 16 * c.loop-i.i ≡ 0 + 16 * c.loop-i.i = omega arith in
    record {
      size = omega (arith, c.put.ensures.size, c.loop-i.invariant.size, c.unit-unit.ensures.size, c.loop-i-test.true);
      units = units_more (slots_of c.args.set.now c.args.complete) c.args.first c.loop-i.i 0 _ c.loop-i.buf _ c.unit-unit.ensures.size c.unit-unit.ensures.unit
          (subst (λ (p : ℕ). Written p c.unit-unit.result c.loop-i.buf c.put.new.buf) place c.put.ensures) c.loop-i.invariant.units;
    }
