use Rattle.std.proofs.Common.{◌≤◌, ap, length, drop, rules, sym, ◌∙◌}
use Rattle.std.specs.Prelude.{flat_map, reverse, take, Option, ◌++◌, ℕ}
use Rattle.gft_generated.specs.Streams.{front_of, segment_bytes}
use Rattle.gft_generated.proofs.StreamLemmas.{fewer_left, stream_given}
use Rattle.gft_generated.proofs.stream.Stream.give_some.Goals as goal

pub returns-clause-given : goal.returns-clause-given
returns-clause-given c =
    let few : c.give-count.result.0 ≤ length c.give-count.new.buf = search rules in
    let most : c.give-count.result.0 ≤ c.room_for-most.result = search rules in
    let within = fewer_left c.self.inside.left c.give-count.result.0 c.room_for-most.result most c.room_for-most.ensures.few in
    let all = flat_map (segment_bytes c.self.inside.seed) (reverse c.put_back.new.segments.items) in
    let g = take c.give-count.result.0 (c.give-count.new.buf ++ drop c.room_for-most.result c.args.buf.now) in
    rw (← c.self.view_is)
    (stream_given c.self.inside.seed c.give-count.result.0 c.self.inside.left _ _ _ c.in-Some.segment c.give-count.result.1 c.give-count.new.buf (drop c.room_for-most.result c.args.buf.now)
    c.in-Some.ensures.items c.put_back.ensures few within c.give-count.ensures.given
    ∙ ap (λ (o : Option ℕ). g ++ front_of o all) (sym c.left_behind-self-inside.ensures))
