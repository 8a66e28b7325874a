use Rattle.std.proofs.Common.{Some, subst}
use Rattle.gft_drive.specs.Words.{sent_by}
use Rattle.gft_eblock.specs.declared.Event.{Event}
use Rattle.gft_eblock.specs.Words.{event_arrivals}
use Rattle.gft_receive.specs.Honest.{MayBring}
use Rattle.gft_receive.proofs.BookingLemmas.{booked_piece, refused_piece}
use Rattle.gft_receive.proofs.HonestLemmas.{block_in, eod_in, total_in}
use Rattle.gft_receive.proofs.feeding.book_event.Goals as goal

pub store-requires-clause-honest : goal.store-requires-clause-honest
store-requires-clause-honest g c = λ κs lives.
    let sent = sent_by g.O.Origin.source g.O.Origin.orders g.O.Origin.fit in
    block_in sent g.N.Run.start c.args.pass.now c.in-Piece.offset c.in-Piece.bytes.now
    (subst (λ (e : Event). MayBring sent g.N.Run.start c.args.pass.now.lane c.args.pass.now.count (event_arrivals (Some e))) c.in-Piece.is c.requires.honest)

pub eof-requires-clause-honest : goal.eof-requires-clause-honest
eof-requires-clause-honest g c = λ κs lives.
    let sent = sent_by g.O.Origin.source g.O.Origin.orders g.O.Origin.fit in
    total_in sent g.N.Run.start c.args.pass.now c.in-Eof.total
    (subst (λ (e : Event). MayBring sent g.N.Run.start c.args.pass.now.lane c.args.pass.now.count (event_arrivals (Some e))) c.in-Eof.is c.requires.honest)

pub eod-requires-clause-honest : goal.eod-requires-clause-honest
eod-requires-clause-honest g c = λ κs lives.
    let sent = sent_by g.O.Origin.source g.O.Origin.orders g.O.Origin.fit in
    eod_in sent g.N.Run.start c.args.pass.now
    (subst (λ (e : Event). MayBring sent g.N.Run.start c.args.pass.now.lane c.args.pass.now.count (event_arrivals (Some e))) c.in-Eod.is c.requires.honest)

pub returns-in-Ok-clause-booked : goal.returns-in-Ok-clause-booked
returns-in-Ok-clause-booked g c = booked_piece c.args.event c.in-Piece.offset c.in-Piece.bytes c.args.pass.now.count c.store.new.pass.count c.in-Piece.is c.requires.sized c.in-Ok.ensures.stored

pub returns-in-Piece-clause-stopped : goal.returns-in-Piece-clause-stopped
returns-in-Piece-clause-stopped g c = refused_piece c.args.event c.in-Piece.offset c.in-Piece.bytes c.args.pass.now.count c.store.new.pass.count c.in-Piece.is c.requires.sized c.in-Err.ensures.stopped
