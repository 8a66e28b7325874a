use Rattle.std.proofs.Common.{◌≡◌, take, reverse}
use Rattle.gft_drive.specs.Drive.{Image, part_of}
use Rattle.gft_drive.proofs.Crashing.{IsCrashed}
use Rattle.gft_drive.proofs.crash.crashed.Given as goal

abbrev pub invariant-loop-step : goal.invariant-loop-step
invariant-loop-step l = (image : Image) → part_of l.part image ≡ l.first
    → IsCrashed image (reverse (take l.step-index l.log)) l.part l.choice l.current.items l.left.items
