use Rattle.std.proofs.Common.{◌+◌, arith}
use Rattle.gft_command.proofs.PartFits.{esto_fits, both_ways_of}
use Rattle.gft_command.proofs.forms.place.PlaceForm.fits.Goals as goal

pub returns-then-fits : goal.returns-then-fits
returns-then-fits c =
    let line = both_ways_of (esto_fits c.args.verb.now c.args.value.now (3 + c.digit_count-front.result) c.digit_count-front.ensures.range (omega (arith, c.digit_count-front.ensures.digits))) (rw c.bytes.ensures at c.fits_behind.ensures) in
    (λ yes. (c.fits.ensures.0 c.if-fits.true, line.0 yes), λ fits. line.1 fits.1)
