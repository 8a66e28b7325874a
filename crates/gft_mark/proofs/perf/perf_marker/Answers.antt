use Rattle.std.proofs.Common.{◌≡◌, arith, rules}
use Rattle.std.proofs.lemmas.Grind.{common_steps}
use Rattle.gft_mark.specs.Markers.{FitsPerf, perf_lines}
use Rattle.gft_mark.proofs.PerfLemmas.{FitsReply-perf, IsPerfMarker-written}
use Rattle.gft_mark.proofs.perf.perf_marker.Goals as goal

pub returns-clause-read_again : goal.returns-clause-read_again
returns-clause-read_again c =
    let lines : c.push-6.new.self ≡ perf_lines c.args.perf.now = grind (arith, common_steps) in
    let fits : FitsPerf c.args.perf.now = record { tenths = search rules; stripe = search rules; bytes = search rules; stripes = search rules } in
    rw lines (IsPerfMarker-written c.args.perf.now fits)

pub returns-clause-fits : goal.returns-clause-fits
returns-clause-fits c =
    let lines : c.push-6.new.self ≡ perf_lines c.args.perf.now = grind (arith, common_steps) in
    let fits : FitsPerf c.args.perf.now = record { tenths = search rules; stripe = search rules; bytes = search rules; stripes = search rules } in
    rw lines (FitsReply-perf c.args.perf.now fits)
