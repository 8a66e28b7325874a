use Rattle.std.proofs.Common.{ℕ, ◌≡◌, ◌*◌, List, subst, sym}
use Rattle.std.specs.Prelude.{Err}
use Rattle.gft_eblock.specs.Words.{spelling}
use Rattle.gft_send.specs.Sending.{GoesOut}
use Rattle.gft_send.specs.Streams.{eod_header, eof_header}
use Rattle.gft_send.proofs.SendLemmas.{ending_first, goes_stop, goes_then}
use Rattle.gft_send.proofs.channel.send_ending.Goals as goal

pub returns-in-Ok-clause-goes : goal.returns-in-Ok-clause-goes
returns-in-Ok-clause-goes g c =
    let total : c.from.result * c.from-2.result ≡ c.args.shape.stripes * c.args.shape.parallel = cc (c.from.ensures, c.from-2.ensures) in
    let first = ending_first c.args.shape c.args.stripe c.args.channel (c.from.result * c.from-2.result) total c.if-stripe-gt0.false c.if-channel-gt0.false in
    let old = g.X.OutLane.state c.args.out.now in
    let new = g.X.OutLane.state c.put_header-in-Ok.new.out in
    subst (λ (l : List ℕ). GoesOut c.put_header-in-Ok.result l old new) (sym first)
    (goes_then {T = ℕ} 0 c.put_header-in-Ok.result (spelling (eof_header (c.from.result * c.from-2.result))) (spelling eod_header) old (g.X.OutLane.state c.put_header-2.new.out) new c.in-Ok.ensures.goes c.put_header-in-Ok.ensures.goes)

pub returns-in-Err-clause-goes : goal.returns-in-Err-clause-goes
returns-in-Err-clause-goes g c =
    let total : c.from.result * c.from-2.result ≡ c.args.shape.stripes * c.args.shape.parallel = cc (c.from.ensures, c.from-2.ensures) in
    let first = ending_first c.args.shape c.args.stripe c.args.channel (c.from.result * c.from-2.result) total c.if-stripe-gt0.false c.if-channel-gt0.false in
    let old = g.X.OutLane.state c.args.out.now in
    let new = g.X.OutLane.state c.put_header-2.new.out in
    subst (λ (l : List ℕ). GoesOut {T = ℕ} {E = ℕ} (Err 0) l old new) (sym first)
    (goes_stop (spelling (eof_header (c.from.result * c.from-2.result))) (spelling eod_header) old new c.in-Err.ensures.goes)
