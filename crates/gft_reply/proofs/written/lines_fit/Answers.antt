use Rattle.std.proofs.Common.{refl, arith}
use Rattle.std.specs.List.{AllByRecursion}
use Rattle.gft_reply.specs.declared.written.Place.TheVariants as place
use Rattle.gft_reply.specs.Written.{IsReplyLine, written_lines}
use Rattle.gft_reply.proofs.FitsLemmas.{fit-more}
use Rattle.gft_reply.proofs.written.lines_fit.Goals as goal

pub loop-rest-preserved : goal.loop-rest-preserved
loop-rest-preserved c =
    let kept = c.loop-rest.invariant in
    let more = fit-more (AllByRecursion IsReplyLine (written_lines place.First c.args.code c.args.lines.now)) c.loop-rest.at c.place_before.result c.args.code c.loop-rest.rest.now c.line-item.result c.bytes.result.now (omega arith) c.line-item.is c.bytes.ensures c.place_before.ensures (c.if-not-line_fits.ensures.0 refl) kept.all kept.back in
    record { all = more.0; back = more.1 }
