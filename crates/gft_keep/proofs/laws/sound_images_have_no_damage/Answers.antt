use Rattle.gft_keep.proofs.Images.{blank_sound, sound_undamaged}
use Rattle.gft_keep.proofs.laws.sound_images_have_no_damage.Goals as goal

pub returns-clause-new : goal.returns-clause-new
returns-clause-new c = blank_sound

pub returns-clause-undamaged : goal.returns-clause-undamaged
returns-clause-undamaged c = sound_undamaged
