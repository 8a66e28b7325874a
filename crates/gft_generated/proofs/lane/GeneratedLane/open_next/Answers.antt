use Rattle.std.proofs.Common.{◌≡◌, length, refl, rules}
use Rattle.gft_generated.proofs.LaneLemmas.{comes_opened}
use Rattle.gft_generated.proofs.lane.GeneratedLane.open_next.Goals as goal

pub returns : goal.returns
returns c =
    let next : c.len-number.result ≡ length c.self.inside.opened.items = search rules in
    rw (← c.self.view_is) (λ buf. (comes_opened _ _ _ _ buf c.push_reserved.ensures.items refl next refl, tt))
