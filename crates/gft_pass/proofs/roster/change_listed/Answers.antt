use Rattle.std.proofs.Common.{refl}
use Rattle.atomic_table.specs.Table.{keeps}
use Rattle.gft_pass.specs.Views.{changed}
use Rattle.gft_pass.proofs.SeatLemmas.{grows, listed}
use Rattle.gft_pass.proofs.roster.change_listed.Goals as goal

pub load-requires : goal.load-requires
load-requires g c =
    let v = c.args.seat.now.me.0 in
    let j = c.requires.joined in (
      c.requires.table.0,
      c.requires.table.1,
      λ s h len at fits. (
        changed g.C.Change.after v,
        keeps,
        tt,
        grows s.views _ v g.C.Change.after j.0 j.1 h at,
        (refl, listed s.views _ v j.0 j.1 h at),
      ),
    )
