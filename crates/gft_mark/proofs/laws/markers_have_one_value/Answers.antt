use Rattle.gft_mark.proofs.PerfLemmas.{IsPerfMarker-one}
use Rattle.gft_mark.proofs.RangeLemmas.{IsRangeMarker-one}
use Rattle.gft_mark.proofs.laws.markers_have_one_value.Goals as goal

pub returns-clause-ranges : goal.returns-clause-ranges
returns-clause-ranges c = IsRangeMarker-one

pub returns-clause-perf : goal.returns-clause-perf
returns-clause-perf c = IsPerfMarker-one
