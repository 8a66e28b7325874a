use Rattle.std.proofs.Common.{◌≡◌, ◌∙◌, ap, inr, refl, subst, sym, take, reverse, map, true, List, ℕ, [], ◌∷◌}
use Rattle.gft_drive.specs.Words.{sent_by}
use Rattle.gft_outside.specs.Words.{Came, Channels, Ended, LaneInput, Opened, Silence, is_live}
use Rattle.gft_receive.specs.Turns.{FeedsHonest, Turned, bounds_of}
use Rattle.gft_receive.proofs.MoverLemmas.{front_of, next_honest, piece_live, some_front, turned_more, turned_none, turned_one}
use Rattle.gft_receive.proofs.mover.Mover.turn.Goals as goal

pub returns-in-Err-clause-turned : goal.returns-in-Err-clause-turned
returns-in-Err-clause-turned g c inputs s channels =
    ([], c.in-Err.ensures.gives, c.in-Err.ensures.cause.later, turned_none (bounds_of c.args.self.now) inputs _ _ c.args.self.now c.args.pass.now _ (refl, inr (s.none, inr (refl, c.in-Err.ensures.cause.failed)), tt))

pub feed-requires-clause-live : goal.feed-requires-clause-live
feed-requires-clause-live g c κs within =
    let a = c.requires.awaits.1 in
    let buf = c.next.new.buf in
    let fits = rw c.in-Bytes.is at c.in-Ok.ensures.fits in
    let gives = rw c.in-Bytes.is at c.in-Ok.ensures.gives in
    subst (λ (l : List ℕ). is_live c.in-Bytes.channel l ≡ true) (ap (λ (k : Channels). k.live) a.channels ∙ sym a.stands.channels.live)
    (piece_live c.in-Bytes.channel (take c.in-Bytes.count buf) (g.L.Lane.state c.args.lane.now).channels (some_front c.in-Bytes.count buf fits.0 fits.1) gives.in_turn)

pub feed-requires-clause-honest : goal.feed-requires-clause-honest
feed-requires-clause-honest g c κs within =
    let sent = sent_by g.O.Origin.source g.O.Origin.orders g.O.Origin.fit in
    let buf = c.next.new.buf in
    let fits = rw c.in-Bytes.is at c.in-Ok.ensures.fits in
    let gives = rw c.in-Bytes.is at c.in-Ok.ensures.gives in
    subst (λ (l : List ℕ). FeedsHonest sent g.N.Run.start c.args.self.now c.args.pass.now c.in-Bytes.channel l) (sym (front_of c.in-Bytes.count buf _ fits.1))
    (next_honest sent g.N.Run.start (g.L.Lane.state c.args.lane.now) (g.L.Lane.state c.next.new.self) c.args.self.now c.args.pass.now c.in-Bytes.channel (take c.in-Bytes.count buf) c.requires.awaits gives)

pub returns-in-Bytes-clause-turned : goal.returns-in-Bytes-clause-turned
returns-in-Bytes-clause-turned g c inputs s channels =
    let buf = c.next.new.buf in
    let fits = rw c.in-Bytes.is at c.in-Ok.ensures.fits in
    let gives = rw c.in-Bytes.is at c.in-Ok.ensures.gives in
    let given : List ℕ → List LaneInput = λ l. reverse (map (λ value. Came c.in-Bytes.channel value) l) in
    let fed = subst (λ (l : List ℕ). Turned (bounds_of c.args.self.now) inputs (given l) ⊥ ⊥ c.feed.new.self c.args.pass.now c.feed.new.pass c.feed.result) (front_of c.in-Bytes.count buf _ fits.1) (c.feed.ensures.turned inputs s) in
    (given (take c.in-Bytes.count buf), gives, c.in-Ok.ensures.cause.later, turned_more (bounds_of c.args.self.now) inputs (given (take c.in-Bytes.count buf)) _ _ c.feed.new.self c.args.pass.now c.feed.new.pass c.feed.result fed)

pub returns-in-Opened-clause-turned : goal.returns-in-Opened-clause-turned
returns-in-Opened-clause-turned g c inputs s channels =
    (Opened c.in-Opened.channel ∷ [], rw c.in-Opened.is at c.in-Ok.ensures.gives, c.in-Ok.ensures.cause.later, turned_one (bounds_of c.args.self.now) inputs (Opened c.in-Opened.channel) _ _ _ c.args.pass.now _ refl (c.open.ensures inputs s c.args.pass.now.count))

pub returns-in-Ended-clause-turned : goal.returns-in-Ended-clause-turned
returns-in-Ended-clause-turned g c inputs s channels =
    (Ended c.in-Ended.channel ∷ [], rw c.in-Ended.is at c.in-Ok.ensures.gives, c.in-Ok.ensures.cause.later, turned_one (bounds_of c.args.self.now) inputs (Ended c.in-Ended.channel) _ _ _ c.args.pass.now _ refl (c.close.ensures inputs s c.args.pass.now.count))

pub returns-in-Quiet-clause-turned : goal.returns-in-Quiet-clause-turned
returns-in-Quiet-clause-turned g c inputs s channels =
    (Silence ∷ [], rw c.in-Quiet.is at c.in-Ok.ensures.gives, c.in-Ok.ensures.cause.later, turned_one (bounds_of c.args.self.now) inputs Silence _ _ _ c.args.pass.now _ refl (c.wait.ensures inputs s c.args.pass.now.count))
