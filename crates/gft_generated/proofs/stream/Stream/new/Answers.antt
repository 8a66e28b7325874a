use Rattle.std.proofs.Common.{List, ◌++◌, ap, ◌∙◌, ℕ}
use Rattle.std.specs.Prelude.{flat_map, reverse}
use Rattle.std.proofs.lemmas.List.{reverse-reverse}
use Rattle.gft_generated.specs.Streams.{ending, segment_bytes}
use Rattle.gft_generated.specs.declared.segment.Segment.{Segment}
use Rattle.gft_generated.proofs.stream.Stream.new.Goals as goal

pub returns : goal.returns
returns c =
    ap (λ (l : List Segment). flat_map (segment_bytes c.args.seed) (reverse l)) c.reverse.ensures.items
    ∙ ap (flat_map (segment_bytes c.args.seed)) (reverse-reverse c.end_blocks.new.segments.items)
    ∙ c.in_ok-end_blocks.ensures c.args.seed
    ∙ ap (λ (l : List ℕ). l ++ ending c.args.total) (c.in_ok-segments.ensures c.args.seed)
