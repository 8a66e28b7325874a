use Rattle.std.proofs.Common.{ℕ, ◌∷◌, [], ap, length, length-append, ◌/◌, ◌+◌, ◌%◌, arith}
use Rattle.std.specs.Fmt.{decimal}
use Rattle.std.proofs.lemmas.Fmt.{decimal_digit, decimal_step, length-decimal-le}
use Rattle.gft_command.proofs.line.digit_count.Goals as goal

pub loop-left-init : goal.loop-left-init
loop-left-init c = record {
  digits = omega arith;
  few = length-decimal-le 20 c.args.number (omega arith) (omega arith) (omega arith);
  fits = omega arith;
}

pub loop-left-preserved : goal.loop-left-preserved
loop-left-preserved c =
    let left : ℕ = c.loop-left.left in
    let step = ap length (decimal_step left (omega arith) c.loop-left.invariant.fits) in
    record {
      digits = omega (arith, c.loop-left.invariant.digits, step, length-append (decimal (left / 10)) ((48 + left % 10) ∷ []));
      few = c.loop-left.invariant.few;
      fits = omega (arith, c.loop-left.invariant.fits);
    }

pub returns-clause-digits : goal.returns-clause-digits
returns-clause-digits c = omega (arith, c.loop-left.invariant.digits, ap length (decimal_digit c.loop-left.left (omega arith)))

pub returns-clause-few : goal.returns-clause-few
returns-clause-few c = omega (arith, c.loop-left.invariant.digits, c.loop-left.invariant.few, ap length (decimal_digit c.loop-left.left (omega arith)))
