use Rattle.std.proofs.Common.{refl}
use Rattle.gft_drive.specs.Words.{sent_by}
use Rattle.gft_keep.specs.Words.{keep_of}
use Rattle.gft_book.specs.Words.{book_of, start_now}
use Rattle.gft_delivery.proofs.DeliveryLemmas.{delivers, ready}
use Rattle.gft_delivery.proofs.delivering.deliver.Goals as goal

pub receive-requires-clause-lanes : goal.receive-requires-clause-lanes
receive-requires-clause-lanes g c κs within =
    ready g.L.Lane.state (sent_by g.O.Origin.source g.O.Origin.orders g.O.Origin.fit) (start_now (book_of g.D.Drive.state c.args.book)) c.args.lanes.items
    c.sent_streams_are_honest.ensures.whole c.sent_streams_are_honest.ensures.short c.requires.delivery c.args.limits.now c.requires.patient

pub returns-clause-delivers : goal.returns-clause-delivers
returns-clause-delivers g c =
    delivers g.L.Lane.state (sent_by g.O.Origin.source g.O.Origin.orders g.O.Origin.fit) (start_now (book_of g.D.Drive.state c.args.book)) c.args.lanes.items
    c.sent_streams_are_honest.ensures.whole c.sent_streams_are_honest.ensures.short c.requires.delivery c.args.limits.now c.requires.patient
    (book_of g.D.Drive.state c.args.book) refl c.requires.running c.receive.result.lanes.items (keep_of g.D.Drive.state c.receive.result.book.keep) c.receive.result.outcome.end c.receive.result.put_failed
    c.receive.ensures.honest c.receive.ensures.receives (λ quiet. (c.receive.ensures.complete quiet).0)
