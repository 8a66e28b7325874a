use Rattle.std.proofs.Common.{◌≡◌, ◌++◌, ◌∷◌, [], length, length-take, take, ap, arith, rules}
use Rattle.std.specs.Prelude.{codes}
use Rattle.std.proofs.lemmas.Grind.{common_steps}
use Rattle.gft_range.specs.declared.TheConstants.{MAX_ITEMS}
use Rattle.gft_range.specs.Words.{IsList}
use Rattle.gft_mark.proofs.RangeLemmas.{FitsReply-range}
use Rattle.gft_mark.proofs.range.range_marker.Goals as goal

pub write_list-requires : goal.write_list-requires
write_list-requires c =
    let first : c.in_ok-named.named.ranges ≡ take MAX_ITEMS c.args.set.now.ranges = search rules in
    record { few = omega (arith, ap length first, length-take MAX_ITEMS c.args.set.now.ranges) }

pub returns-clause-fits : goal.returns-clause-fits
returns-clause-fits c =
    let lines : c.push.new.self ≡ (codes "Range Marker " ++ c.in_ok-list.list.items) ∷ [] = grind (arith, common_steps) in
    let list : IsList c.in_ok-list.list.items c.in_ok-named.named.ranges = search rules in
    rw lines (FitsReply-range c.in_ok-list.list.items c.in_ok-named.named.ranges list)
