use Rattle.std.proofs.Common.{◌+◌, ◌≤◌, List, length, refl, set, subst, sym, ap, ◌∙◌}
use Rattle.std.specs.Prelude.{slice_index_or}
use Rattle.gft_drive.specs.Words.{sent_by}
use Rattle.gft_eblock.specs.declared.TheConstants.{MAX_BYTES}
use Rattle.gft_eblock.specs.Words.{to_come}
use Rattle.gft_receive.specs.declared.channels.LiveChannel.{LiveChannel}
use Rattle.gft_receive.specs.declared.halt.Unfed.TheVariants.{Refused, Stop}
use Rattle.gft_receive.specs.Honest.{MayBring}
use Rattle.gft_receive.specs.Table.{IsAtPlace}
use Rattle.gft_receive.specs.Turns.{IsFedWhole, IsUnfed}
use Rattle.gft_receive.proofs.PieceLemmas.{piece_goes, piece_honest, piece_long, piece_refused, piece_room, piece_stopped, reader_is, written_back}
use Rattle.gft_receive.proofs.mover.Mover.feed.Goals as goal

pub feed-requires-clause-room : goal.feed-requires-clause-room
feed-requires-clause-room g c κs within =
    let m = c.args.self.now in
    let p : IsAtPlace m.channels.table.items c.args.channel c.in-Some.place = subst (λ (l : List LiveChannel). IsAtPlace l c.args.channel c.in-Some.place) c.deref.ensures.0 c.in-Some.ensures.some in
    let is = reader_is c.deref_mut.result.now m.channels.table.items c.in-Some.place p.found c.index-deref_mut-place.result c.deref_mut.ensures.value p.at in
    subst (λ (l : LiveChannel). l.reader.taken + length c.args.bytes.now ≤ MAX_BYTES) (sym is) (piece_room c.args.channel c.in-Some.place c.args.bytes.now m p c.requires.honest.0 c.requires.honest.1 c.requires.room)

pub feed-requires-clause-honest : goal.feed-requires-clause-honest
feed-requires-clause-honest g c κs within =
    let m = c.args.self.now in
    let sent = sent_by g.O.Origin.source g.O.Origin.orders g.O.Origin.fit in
    let p : IsAtPlace m.channels.table.items c.args.channel c.in-Some.place = subst (λ (l : List LiveChannel). IsAtPlace l c.args.channel c.in-Some.place) c.deref.ensures.0 c.in-Some.ensures.some in
    let is = reader_is c.deref_mut.result.now m.channels.table.items c.in-Some.place p.found c.index-deref_mut-place.result c.deref_mut.ensures.value p.at in
    subst (λ (l : LiveChannel). MayBring sent g.N.Run.start c.args.pass.now.lane c.args.pass.now.count (to_come l.reader c.args.bytes.now)) (sym is) (piece_honest c.args.channel c.in-Some.place c.args.bytes.now m p sent g.N.Run.start c.args.pass.now c.requires.honest)

pub returns-in-Err-Stop : goal.returns-in-Err-Stop
returns-in-Err-Stop g c =
    let m = c.args.self.now in
    let p : IsAtPlace m.channels.table.items c.args.channel c.in-Some.place = subst (λ (l : List LiveChannel). IsAtPlace l c.args.channel c.in-Some.place) c.deref.ensures.0 c.in-Some.ensures.some in
    let is = reader_is c.deref_mut.result.now m.channels.table.items c.in-Some.place p.found c.index-deref_mut-place.result c.deref_mut.ensures.value p.at in
    let unfed : IsUnfed p.found.reader c.args.bytes.now c.args.pass.now c.feed.new.pass Stop = subst (λ (l : LiveChannel). IsUnfed l.reader c.args.bytes.now c.args.pass.now c.feed.new.pass Stop) is (rw c.in-Err-Stop.field-0-is at c.in-Err-Stop.ensures.unfed) in
    record { turned = λ inputs s. piece_stopped c.args.channel c.in-Some.place c.args.bytes.now m p inputs _ c.args.pass.now c.feed.new.pass s unfed }

pub returns-in-Err-Refused : goal.returns-in-Err-Refused
returns-in-Err-Refused g c =
    let m = c.args.self.now in
    let p : IsAtPlace m.channels.table.items c.args.channel c.in-Some.place = subst (λ (l : List LiveChannel). IsAtPlace l c.args.channel c.in-Some.place) c.deref.ensures.0 c.in-Some.ensures.some in
    let is = reader_is c.deref_mut.result.now m.channels.table.items c.in-Some.place p.found c.index-deref_mut-place.result c.deref_mut.ensures.value p.at in
    let unfed : IsUnfed p.found.reader c.args.bytes.now c.args.pass.now c.feed.new.pass (Refused c.in-Err-Refused.bad) = subst (λ (l : LiveChannel). IsUnfed l.reader c.args.bytes.now c.args.pass.now c.feed.new.pass (Refused c.in-Err-Refused.bad)) is (rw c.in-Err-Refused.field-0-is at c.in-Err-Refused.ensures.unfed) in
    record { turned = λ inputs s. piece_refused c.args.channel c.in-Some.place c.args.bytes.now m p inputs _ c.args.pass.now c.feed.new.pass c.in-Err-Refused.bad s c.requires.room unfed }

pub returns-then-self-ge-MAX_BYTES : goal.returns-then-self-ge-MAX_BYTES
returns-then-self-ge-MAX_BYTES g c =
    let m = c.args.self.now in
    let p : IsAtPlace m.channels.table.items c.args.channel c.in-Some.place = subst (λ (l : List LiveChannel). IsAtPlace l c.args.channel c.in-Some.place) c.deref.ensures.0 c.in-Some.ensures.some in
    let is = reader_is c.deref_mut.result.now m.channels.table.items c.in-Some.place p.found c.index-deref_mut-place.result c.deref_mut.ensures.value p.at in
    let fed : IsFedWhole p.found.reader c.feed.new.reader c.args.bytes.now c.args.pass.now c.feed.new.pass = subst (λ (l : LiveChannel). IsFedWhole l.reader c.feed.new.reader c.args.bytes.now c.args.pass.now c.feed.new.pass) is c.in-Ok.ensures.fed in
    record { turned = λ inputs s. piece_long c.args.channel c.in-Some.place c.args.bytes.now m p inputs _ c.feed.new.reader c.args.pass.now c.feed.new.pass s c.requires.some c.requires.room c.if-self-ge-MAX_BYTES.true fed }

pub returns : goal.returns
returns g c =
    let m = c.args.self.now in
    let p : IsAtPlace m.channels.table.items c.args.channel c.in-Some.place = subst (λ (l : List LiveChannel). IsAtPlace l c.args.channel c.in-Some.place) c.deref.ensures.0 c.in-Some.ensures.some in
    let is = reader_is c.deref_mut.result.now m.channels.table.items c.in-Some.place p.found c.index-deref_mut-place.result c.deref_mut.ensures.value p.at in
    let fed : IsFedWhole p.found.reader c.feed.new.reader c.args.bytes.now c.args.pass.now c.feed.new.pass = subst (λ (l : LiveChannel). IsFedWhole l.reader c.feed.new.reader c.args.bytes.now c.args.pass.now c.feed.new.pass) is c.in-Ok.ensures.fed in
    let table = written_back c.deref_mut.result.now m.channels.table.items c.in-Some.place (record { number = (slice_index_or c.deref_mut.result.now c.in-Some.place c.index-deref_mut-place.result).number; reader = c.feed.new.reader }) c.deref_mut.ensures.value
    ∙ ap (λ (l : LiveChannel). set m.channels.table.items c.in-Some.place (record { number = l.number; reader = c.feed.new.reader })) is in
    record { turned = λ inputs s. piece_goes c.args.channel c.in-Some.place c.args.bytes.now m p inputs _ c.feed.new.reader c.args.pass.now c.feed.new.pass _ s c.if-self-ge-MAX_BYTES.false fed table refl refl refl refl c.reset.ensures.quiets c.reset.ensures.idle }
