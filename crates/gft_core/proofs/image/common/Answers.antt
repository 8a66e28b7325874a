use Rattle.gft_core.proofs.MachineLemmas.{if_ok, in_both}
use Rattle.gft_core.proofs.image.common.Goals as goal

pub returns : goal.returns
returns c =
    if_ok c.complement-3.result _ _
    (λ set is. in_both c.args.a.now.ranges c.args.b.now.ranges c.in_ok-out.out.ranges c.in_ok-out_of_b.out_of_b.ranges c.union.new.self.ranges set.ranges c.end-end.result
    c.end-end.ensures.below c.in_ok-out.ensures.complement.offsets c.in_ok-out_of_b.ensures.complement.offsets c.in_ok-union.ensures.union.offsets is.offsets)
    c.complement-3.ensures.complement
