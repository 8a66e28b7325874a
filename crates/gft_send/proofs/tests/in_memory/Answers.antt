use Rattle.std.proofs.Common.{◌≤◌, length}
use Rattle.gft_drive.specs.Words.{image_of}
use Rattle.gft_send.proofs.TestLemmas.{has_ten}
use Rattle.gft_send.proofs.tests.in_memory.Goals as goal

pub first_stripe-requires-clause-there : goal.first_stripe-requires-clause-there
first_stripe-requires-clause-there c κs = has_ten (image_of c.in_ok-drive.drive) c.in_ok-drive.ensures
