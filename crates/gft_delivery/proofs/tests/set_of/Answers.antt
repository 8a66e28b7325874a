use Rattle.std.proofs.Common.{◌≡◌, ◌<◌, ℕ, List, [], ◌∷◌, inr, length, arith}
use Rattle.gft_range.specs.declared.Range.{Range}
use Rattle.gft_range.specs.Words.{IsUnion}
use Rattle.gft_delivery.proofs.tests.set_of.Goals as goal

has_some : (set union : List Range) (r : Range) → r.start < r.end → IsUnion set r union → 0 < length union
has_some set [] r some is = absurd ((is.offsets r.start).1 (inr (omega arith, some)))
has_some set (first ∷ others) r some is = omega arith

pub returns : goal.returns
returns c = λ some. has_some _ c.insert.new.self.ranges c.args.range some c.insert.ensures.union
