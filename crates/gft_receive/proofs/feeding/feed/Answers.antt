use Rattle.std.proofs.Common.{◌∙◌, arith, rules, subst}
use Rattle.std.specs.Prelude.{Option}
use Rattle.gft_drive.specs.Words.{sent_by}
use Rattle.gft_eblock.specs.declared.Event.{Event}
use Rattle.gft_eblock.specs.Words.{IsEventOf}
use Rattle.gft_receive.proofs.FeedLemmas.{event_honest, event_sized, feeds_bad, feeds_done, feeds_fewer, feeds_first, feeds_none, feeds_on, feeds_stopped, slice_rest}
use Rattle.gft_receive.proofs.TableLemmas.{no_both}
use Rattle.gft_receive.proofs.feeding.feed.Goals as goal

pub events-init : goal.events-init
events-init g c = feeds_first (sent_by g.O.Origin.source g.O.Origin.orders g.O.Origin.fit) g.N.Run.start c.args.reader.now c.args.bytes.now c.args.pass.now c.requires.honest

pub returns-then-is_done-clause-fed : goal.returns-then-is_done-clause-fed
returns-then-is_done-clause-fed g c =
    feeds_done (sent_by g.O.Origin.source g.O.Origin.orders g.O.Origin.fit) g.N.Run.start c.args.reader.now c.args.bytes.now c.args.pass.now c.events.reader c.events.left.now c.events.pass c.events.invariant (c.is_done.ensures.0 c.if-is_done.true)

pub feed-requires-clause-room : goal.feed-requires-clause-room
feed-requires-clause-room g c = let most = c.events.invariant.most in let room = c.requires.room in omega (arith, most, room)

pub returns-in-Err-clause-unfed : goal.returns-in-Err-clause-unfed
returns-in-Err-clause-unfed g c =
    feeds_bad (sent_by g.O.Origin.source g.O.Origin.orders g.O.Origin.fit) g.N.Run.start c.args.reader.now c.args.bytes.now c.args.pass.now c.events.reader c.feed.new.self c.events.left.now c.events.pass c.in-Err.bad c.events.invariant c.in-Err.ensures.bad

pub returns-in-None-clause-fed : goal.returns-in-None-clause-fed
returns-in-None-clause-fed g c =
    feeds_none (sent_by g.O.Origin.source g.O.Origin.orders g.O.Origin.fit) g.N.Run.start c.args.reader.now c.args.bytes.now c.args.pass.now c.events.reader c.feed.new.self c.events.left.now c.events.pass c.in-Ok.step c.events.invariant
    (λ done. no_both c.is_done.result (c.is_done.ensures.1 done) c.if-is_done.false) c.in-Ok.ensures.ok c.in-None.is (c.in-Ok.ensures.whole (search rules))

pub book_event-requires-clause-pass : goal.book_event-requires-clause-pass
book_event-requires-clause-pass g c = λ κs lives. (c.events.invariant.same.table ∙ c.requires.pass.0, let lane = c.events.invariant.same.lane in let below = c.requires.pass.1 in omega (arith, lane, below))

pub book_event-requires-clause-sized : goal.book_event-requires-clause-sized
book_event-requires-clause-sized g c = λ κs lives.
    event_sized c.in-Some.event c.feed.new.self.state c.feed.new.self.header (subst (λ (o : Option Event). IsEventOf o c.feed.new.self.state c.feed.new.self.header) c.in-Some.is c.in-Ok.ensures.ok.event)

pub book_event-requires-clause-honest : goal.book_event-requires-clause-honest
book_event-requires-clause-honest g c = λ κs lives.
    event_honest (sent_by g.O.Origin.source g.O.Origin.orders g.O.Origin.fit) g.N.Run.start c.args.reader.now c.args.bytes.now c.args.pass.now c.events.reader c.feed.new.self c.events.left.now c.events.pass c.in-Ok.step c.in-Some.event
    c.events.invariant c.in-Ok.ensures.ok c.in-Some.is

pub returns-in-Err-book_event-clause-unfed : goal.returns-in-Err-book_event-clause-unfed
returns-in-Err-book_event-clause-unfed g c =
    feeds_stopped (sent_by g.O.Origin.source g.O.Origin.orders g.O.Origin.fit) g.N.Run.start c.args.reader.now c.args.bytes.now c.args.pass.now c.events.reader c.feed.new.self c.events.left.now c.events.pass c.book_event.new.pass c.in-Ok.step c.in-Some.event
    c.events.invariant c.in-Ok.ensures.ok c.in-Some.is c.in-Err-book_event.ensures.pass c.in-Err-book_event.ensures.stopped

pub events-smaller : goal.events-smaller
events-smaller g c =
    feeds_fewer c.events.reader c.feed.new.self c.events.left.now _ c.in-Ok.step c.in-Some.event (λ done. no_both c.is_done.result (c.is_done.ensures.1 done) c.if-is_done.false) c.in-Ok.ensures.ok c.in-Some.is c.in-Ok.ensures.waiting
    (slice_rest c.events.left.now c.in-Ok.step.used)

pub events-preserved : goal.events-preserved
events-preserved g c =
    feeds_on (sent_by g.O.Origin.source g.O.Origin.orders g.O.Origin.fit) g.N.Run.start c.args.reader.now c.args.bytes.now c.args.pass.now c.events.reader c.feed.new.self c.events.left.now c.events.pass c.book_event.new.pass c.in-Ok.step c.in-Some.event
    c.events.invariant (λ done. no_both c.is_done.result (c.is_done.ensures.1 done) c.if-is_done.false) c.in-Ok.ensures.ok c.in-Some.is c.in-Ok-book_event.ensures.pass c.in-Ok-book_event.ensures.booked _ (slice_rest c.events.left.now c.in-Ok.step.used)
