use Rattle.std.proofs.Common.{◌≡◌, [], get_or, arith, rules}
use Rattle.std.specs.Prelude.{codes}
use Rattle.gft_mark.proofs.PerfLemmas.{perf-bytes, perf-read, perf-stripe, perf-stripes, perf-tenths}
use Rattle.gft_mark.proofs.perf.read_perf.Goals as goal

pub returns-in_err-stated_tenths : goal.returns-in_err-stated_tenths
returns-in_err-stated_tenths c = rw c.from_residual-in_err-stated_tenths.ensures (λ perf is.
    c.in_err-stated_tenths.ensures perf.tenths (rw c.line_at-3.ensures (perf-tenths c.args.reply.now perf is)))

pub returns-in_err-stated_short : goal.returns-in_err-stated_short
returns-in_err-stated_short c = rw c.from_residual-in_err-stated_short.ensures (λ perf is.
    c.in_err-stated_short.ensures perf.stripe (rw c.line_at-4.ensures (perf-stripe c.args.reply.now perf is)))

pub returns-in_err-stated_number : goal.returns-in_err-stated_number
returns-in_err-stated_number c = rw c.from_residual-in_err-stated_number.ensures (λ perf is.
    c.in_err-stated_number.ensures perf.bytes (rw c.line_at-5.ensures (perf-bytes c.args.reply.now perf is)))

pub returns-in_err-stated_short-2 : goal.returns-in_err-stated_short-2
returns-in_err-stated_short-2 c = rw c.from_residual-in_err-stated_short-2.ensures (λ perf is.
    c.in_err-stated_short-2.ensures perf.stripes (rw c.line_at-6.ensures (perf-stripes c.args.reply.now perf is)))

pub returns : goal.returns
returns c =
    let lines = c.args.reply.now.lines in
    let name : get_or lines 0 [] ≡ codes "Perf Marker" = search rules in
    perf-read c.args.reply.now _ c.in_ok-strip_front.field-0.now (omega arith) (omega arith) name
    (rw (← c.line_at-2.ensures) c.in_ok-strip_front.ensures)
    (rw (← c.line_at-3.ensures) c.in_ok-stated_tenths.ensures)
    (rw (← c.line_at-4.ensures) c.in_ok-stated_short.ensures)
    (rw (← c.line_at-5.ensures) c.in_ok-stated_number.ensures)
    (rw (← c.line_at-6.ensures) c.in_ok-stated_short-2.ensures)
