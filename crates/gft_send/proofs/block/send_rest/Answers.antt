use Rattle.std.proofs.Common.{◌≡◌, ◌+◌, ℕ, take, drop, arith, sym, ap, subst}
use Rattle.std.specs.Prelude.{Err, Ok, Option, slice_range}
use Rattle.gft_range.specs.Words.{InRange}
use Rattle.gft_drive.specs.Words.{Image}
use Rattle.gft_send.specs.Sending.{IsRestOf, MustHave}
use Rattle.gft_send.proofs.BlockLemmas.{no_header, range_from, rest_step}
use Rattle.gft_send.proofs.FileLemmas.{part_none}
use Rattle.gft_send.proofs.SendLemmas.{sends_as, sends_err, sends_none, sends_with}
use Rattle.gft_send.proofs.block.send_rest.Goals as goal

pub pieces-init : goal.pieces-init
pieces-init g c =
    let range = c.args.range in
    record {
      low = omega arith;
      high = c.requires.order;
      is_open = c.requires.is_open;
      sent = sends_none {T = ℕ} 0 (InRange range) (IsRestOf range) (λ file. slice_range file range.start range.start) (g.D.Drive.state c.args.drive.now) (g.X.OutLane.state c.args.out.now) c.requires.is_open (λ f. part_none f range.start range.start (omega arith));
    }

pub send_piece-requires-clause-there : goal.send_piece-requires-clause-there
send_piece-requires-clause-there g c κs within =
    let low = c.pieces.invariant.low in
    subst (λ (o : Option Image). MustHave o (InRange (range_from c.args.range c.pieces.at))) (sym c.pieces.invariant.sent.unchanged.read)
    (λ image told x h. c.requires.there image told x (omega arith, h.1))

pub pieces-preserved : goal.pieces-preserved
pieces-preserved g c =
    let range = c.args.range in
    let at = c.pieces.at in
    let s = g.D.Drive.state in
    let o = g.X.OutLane.state in
    let laws = (g.met.D.Drive g.world.𝓛 g.world.𝓜 g.world.𝓡 ((λ s x. x), (λ x. x), (λ x. x), λ x. x)).lawful in
    let count = c.in-Ok.ensures.count in
    let low = c.pieces.invariant.low in
    let test = c.pieces-test.true in
    let step = rest_step range at (drop 17 (take 17 c.pieces.buf)) (s c.args.drive.now) (s c.pieces.drive) (s c.send_piece.new.drive) (o c.args.out.now) (o c.pieces.out) (o c.send_piece.new.out) (Ok c.in-Ok.count)
    (laws c.pieces.drive) (laws c.send_piece.new.drive) (no_header 17 c.pieces.buf) low (omega arith) c.pieces.invariant.sent (rw c.in-Ok.is at c.send_piece.ensures.sends) in
    record {
      low = omega arith;
      high = omega arith;
      is_open = step.is_open;
      sent = sends_with {T = ℕ} {U = ℕ} (InRange range) (IsRestOf range) (λ file. slice_range file range.start (at + c.in-Ok.count)) (s c.args.drive.now) (s c.send_piece.new.drive) (o c.args.out.now) (o c.send_piece.new.out) c.in-Ok.count 0 step;
    }

pub returns-in-Err : goal.returns-in-Err
returns-in-Err g c =
    let range = c.args.range in
    let at = c.pieces.at in
    let s = g.D.Drive.state in
    let o = g.X.OutLane.state in
    let laws = (g.met.D.Drive g.world.𝓛 g.world.𝓜 g.world.𝓡 ((λ s x. x), (λ x. x), (λ x. x), λ x. x)).lawful in
    let test = c.pieces-test.true in
    sends_err {T = ℕ} (InRange range) (IsRestOf range) (λ file. slice_range file range.start range.end) (s c.args.drive.now) (s c.send_piece.new.drive) (o c.args.out.now) (o c.send_piece.new.out) c.in-Err.cause
    (rest_step range at (drop 17 (take 17 c.pieces.buf)) (s c.args.drive.now) (s c.pieces.drive) (s c.send_piece.new.drive) (o c.args.out.now) (o c.pieces.out) (o c.send_piece.new.out) (Err c.in-Err.cause)
    (laws c.pieces.drive) (laws c.send_piece.new.drive) (no_header 17 c.pieces.buf) c.pieces.invariant.low (omega arith) c.pieces.invariant.sent (rw c.in-Err.is at c.send_piece.ensures.sends))

pub returns : goal.returns
returns g c =
    let range = c.args.range in
    let s = g.D.Drive.state in
    let o = g.X.OutLane.state in
    let low = c.pieces.invariant.low in
    let high = c.pieces.invariant.high in
    let test = c.pieces-test.false in
    let all : range.end ≡ c.pieces.at = omega arith in
    sends_as {T = ℕ} (InRange range) (InRange range) (IsRestOf range) (IsRestOf range) (λ file. slice_range file range.start c.pieces.at) (λ file. slice_range file range.start c.pieces.at) (λ file. slice_range file range.start range.end)
    (s c.args.drive.now) (s c.pieces.drive) (o c.args.out.now) (o c.pieces.out) 0 tt c.pieces.invariant.sent (λ x h. h) (λ f. ap (λ (n : ℕ). slice_range f range.start n) all)
