use Rattle.std.proofs.Common.{refl}
use Rattle.gft_opts.proofs.SettingLemmas.{no_layout_name}
use Rattle.gft_opts.proofs.setting.read_layout_name.Goals as goal

pub returns-in_err-find : goal.returns-in_err-find
returns-in_err-find c = rw c.from_residual.ensures (no_layout_name c.args.text.now _ _ c.in_err-find.ensures.none refl refl)
