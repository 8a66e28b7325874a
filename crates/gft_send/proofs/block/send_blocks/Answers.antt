use Rattle.std.proofs.Common.{◌≡◌, ◌+◌, ◌-◌, List, arith, sym, subst}
use Rattle.std.specs.Prelude.{Option}
use Rattle.gft_range.specs.declared.Range.{Range}
use Rattle.gft_range.specs.Words.{InRange}
use Rattle.gft_drive.specs.Words.{Image}
use Rattle.gft_send.specs.Sending.{MustHave}
use Rattle.gft_send.specs.Stripes.{bytes_in}
use Rattle.gft_send.proofs.BlockLemmas.{HasPut, put_all, put_cut, put_fits, put_more, put_none, put_some, put_there, put_total}
use Rattle.gft_send.proofs.block.send_blocks.Goals as goal

pub loop-range-init : goal.loop-range-init
loop-range-init g c =
    let d = g.D.Drive.state c.args.drive.now in
    let o = g.X.OutLane.state c.args.out.now in
    record {
      can = tt;
      finite = tt;
      is_open = c.requires.is_open;
      put = subst (λ (l : List Range). HasPut c.args.ranges l 0 d d o o) (sym c.into_iter-range-iterator.ensures.into_iter_gives) (put_none c.args.ranges d o c.requires.is_open);
    }

pub send_block-requires-clause-some : goal.send_block-requires-clause-some
send_block-requires-clause-some g c κs within =
    put_some c.args.ranges c.loop-range.range-iterator c.loop-range.sent c.in-Some.range c.next.new.self (g.D.Drive.state c.args.drive.now) (g.D.Drive.state c.loop-range.drive) (g.D.Drive.state c.loop-range.drive) (g.X.OutLane.state c.args.out.now) (g.X.OutLane.state c.loop-range.out) (g.X.OutLane.state c.loop-range.out)
    c.loop-range.invariant.put c.in-Some.ensures.steps c.requires.ascending

pub send_block-requires-clause-there : goal.send_block-requires-clause-there
send_block-requires-clause-there g c κs within =
    let put = c.loop-range.invariant.put in
    let r = c.in-Some.range in
    subst (λ (o : Option Image). MustHave o (InRange r)) (sym put.sends.unchanged.read)
    (λ image told x h. c.requires.there image told x (put_there c.args.ranges c.loop-range.range-iterator c.loop-range.sent r c.next.new.self (g.D.Drive.state c.args.drive.now) (g.D.Drive.state c.loop-range.drive) (g.D.Drive.state c.loop-range.drive) (g.X.OutLane.state c.args.out.now) (g.X.OutLane.state c.loop-range.out) (g.X.OutLane.state c.loop-range.out) put c.in-Some.ensures.steps x h))

pub overflow_sub-sent : goal.overflow_sub-sent
overflow_sub-sent g c =
    let h = put_some c.args.ranges c.loop-range.range-iterator c.loop-range.sent c.in-Some.range c.next.new.self (g.D.Drive.state c.args.drive.now) (g.D.Drive.state c.loop-range.drive) (g.D.Drive.state c.loop-range.drive) (g.X.OutLane.state c.args.out.now) (g.X.OutLane.state c.loop-range.out) (g.X.OutLane.state c.loop-range.out)
    c.loop-range.invariant.put c.in-Some.ensures.steps c.requires.ascending in
    omega (arith, h)

pub overflow_add-sent : goal.overflow_add-sent
overflow_add-sent g c =
    let r = c.in-Some.range in
    let h : c.loop-range.sent + ((r.end - r.start) + bytes_in c.next.new.self) ≡ bytes_in c.args.ranges = put_fits c.args.ranges c.loop-range.range-iterator c.loop-range.sent r c.next.new.self (g.D.Drive.state c.args.drive.now) (g.D.Drive.state c.loop-range.drive) (g.D.Drive.state c.loop-range.drive) (g.X.OutLane.state c.args.out.now) (g.X.OutLane.state c.loop-range.out) (g.X.OutLane.state c.loop-range.out)
    c.loop-range.invariant.put c.in-Some.ensures.steps in
    omega (arith, h, c.requires.fits)

pub loop-range-preserved : goal.loop-range-preserved
loop-range-preserved g c =
    let s = g.D.Drive.state in
    let o = g.X.OutLane.state in
    let laws = (g.met.D.Drive g.world.𝓛 g.world.𝓜 g.world.𝓡 ((λ s x. x), (λ x. x), (λ x. x), λ x. x)).lawful in
    let block = rw c.in-Ok.is at c.send_block.ensures in
    record {
      can = tt;
      finite = tt;
      is_open = block.is_open;
      put = put_more c.args.ranges c.loop-range.range-iterator c.loop-range.sent c.in-Some.range c.next.new.self (s c.args.drive.now) (s c.loop-range.drive) (s c.send_block.new.drive) (o c.args.out.now) (o c.loop-range.out) (o c.send_block.new.out)
          c.loop-range.invariant.put c.in-Some.ensures.steps _ (laws c.loop-range.drive) (laws c.send_block.new.drive) c.requires.ascending block;
    }

pub returns-in-Err-clause-sends : goal.returns-in-Err-clause-sends
returns-in-Err-clause-sends g c =
    let s = g.D.Drive.state in
    let o = g.X.OutLane.state in
    let laws = (g.met.D.Drive g.world.𝓛 g.world.𝓜 g.world.𝓡 ((λ s x. x), (λ x. x), (λ x. x), λ x. x)).lawful in
    put_cut c.args.ranges c.loop-range.range-iterator c.loop-range.sent c.in-Some.range c.next.new.self (s c.args.drive.now) (s c.loop-range.drive) (s c.send_block.new.drive) (o c.args.out.now) (o c.loop-range.out) (o c.send_block.new.out)
    c.loop-range.invariant.put c.in-Some.ensures.steps c.in-Err.cause (laws c.loop-range.drive) (laws c.send_block.new.drive) c.requires.ascending (rw c.in-Err.is at c.send_block.ensures)

pub returns-clause-count : goal.returns-clause-count
returns-clause-count g c =
    put_total c.args.ranges c.loop-range.range-iterator c.loop-range.sent (g.D.Drive.state c.args.drive.now) (g.D.Drive.state c.loop-range.drive) (g.X.OutLane.state c.args.out.now) (g.X.OutLane.state c.loop-range.out) c.loop-range.invariant.put (c.in-None.ensures.steps).0

pub returns-clause-sends : goal.returns-clause-sends
returns-clause-sends g c =
    put_all c.args.ranges c.loop-range.range-iterator c.loop-range.sent (g.D.Drive.state c.args.drive.now) (g.D.Drive.state c.loop-range.drive) (g.X.OutLane.state c.args.out.now) (g.X.OutLane.state c.loop-range.out) c.loop-range.invariant.put (c.in-None.ensures.steps).0
