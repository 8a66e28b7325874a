use Rattle.std.proofs.Common.{◌+◌, arith}
use Rattle.gft_command.proofs.PartFits.{eret_fits, both_ways_of}
use Rattle.gft_command.proofs.forms.part.PartForm.fits.Goals as goal

pub returns-then-fits : goal.returns-then-fits
returns-then-fits c =
    let line = both_ways_of (eret_fits c.args.verb.now c.args.value.now (4 + c.digit_count.result + c.digit_count-2.result) c.digit_count.ensures.range c.digit_count-2.ensures.range (omega (arith, c.digit_count.ensures.digits, c.digit_count-2.ensures.digits))) (rw c.bytes.ensures at c.fits_behind.ensures) in
    (λ yes. (c.fits.ensures.0 c.if-fits.true, line.0 yes), λ fits. line.1 fits.1)
