-- What holds of what a read gives and of what a crash may leave.
use Rattle.std.proofs.Common.{◌≡◌, IsSome, inl, inr}
use Rattle.gft_drive.specs.Words.{DriveState, Image, IsLawful, MayLeave}
use Rattle.gft_drive.proofs.Lemmas.{tells_some}
use Rattle.gridftpd.specs.Images.{OfEach}

pub of_each : (drive : DriveState) (P : Image → Type 0) → IsLawful drive → ((image : Image) → IsSome drive.contents → MayLeave drive image → P image) → OfEach drive P
of_each drive P lawful each image (inl read) = each image (tells_some drive image read) (lawful.read image read)
of_each drive P lawful each image (inr left) = each image left.0 left.1
