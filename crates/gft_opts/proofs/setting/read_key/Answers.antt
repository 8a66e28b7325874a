use Rattle.std.proofs.Common.{refl}
use Rattle.gft_opts.proofs.SettingLemmas.{no_key}
use Rattle.gft_opts.proofs.setting.read_key.Goals as goal

pub returns-in_err-find : goal.returns-in_err-find
returns-in_err-find c = rw c.from_residual.ensures (no_key c.args.text.now _ _ _ c.in_err-find.ensures.none refl refl refl)
