use Rattle.std.proofs.Common.{◌∙◌, ap}
use Rattle.std.specs.List.{flat_map}
use Rattle.gft_layout.specs.Blocks.{left_in}
use Rattle.gft_layout.proofs.PlanLemmas.{plan-blocks}
use Rattle.gft_layout.proofs.planning.plan.Goals as goal

pub returns : goal.returns
returns c =
    let done = c.args.done.now.ranges in
    c.new.ensures ∙ ap (flat_map (left_in done)) c.new-blocks.ensures
    ∙ plan-blocks c.args.region done c.args.layout c.args.shape c.args.stripe c.args.channel c.requires.block c.requires.owner
