use Rattle.std.proofs.Common.{ap, ◌∙◌}
use Rattle.std.specs.List.{position}
use Rattle.gft_library.specs.Kept.{is_under}
use Rattle.gft_library.proofs.ListLemmas.{found}
use Rattle.gft_library.proofs.list.NameList.place_of.Goals as goal

pub returns : goal.returns
returns g c = found c.args.name.now c.args.self.now c.position_of.result (c.position_of.ensures ∙ ap (position (is_under c.args.name.now)) c.deref.ensures.value ∙ ap (position (is_under c.args.name.now)) c.self.view_is)
