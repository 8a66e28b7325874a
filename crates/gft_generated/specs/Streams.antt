-- What a data connection carries of a generated file, stretch by stretch.
use Rattle.std.specs.Prelude.{ℕ, ◌-◌, List, [], ◌∷◌, ◌++◌, drop, take}
use Rattle.std.specs.Prelude.{Option, None, Some}
use Rattle.gft_eblock.specs.Words.{spelling}
use Rattle.gft_layout.specs.declared.Layout.TheVariants.{Blocked}
use Rattle.gft_layout.specs.Words.{plan_of}
use Rattle.gft_range.specs.declared.Range.{Range}
use Rattle.gft_send.specs.Words.{data_header, ending_of, eod_header, eof_header}
use Rattle.gft_generated.specs.declared.lanes.Generated.{Generated}
use Rattle.gft_generated.specs.Generator.{generated}
use Rattle.gft_generated.specs.declared.segment.Segment.{Segment}
use Rattle.gft_generated.specs.declared.segment.Segment.TheVariants as segment

-- what is left of a header, or of the bytes of the file of this seed
abbrev pub segment_bytes : ℕ → Segment → List ℕ
segment_bytes seed (segment.Header bytes from) = drop from bytes
segment_bytes seed (segment.Data range) = generated seed range.start (range.end - range.start)

abbrev pub left_of : ℕ → Option Segment → List ℕ
left_of seed None = []
left_of seed (Some segment) = segment_bytes seed segment

-- all of a stream, or what comes before it is cut
abbrev pub front_of : Option ℕ → List ℕ → List ℕ
front_of None bytes = bytes
front_of (Some left) bytes = take left bytes

-- so many bytes fewer may come
abbrev pub fewer : Option ℕ → ℕ → Option ℕ
fewer None count = None
fewer (Some left) count = Some (left - count)

-- each range as a block of the bytes of the file of this seed
abbrev pub generated_blocks : ℕ → List Range → List ℕ
generated_blocks seed [] = []
generated_blocks seed (r ∷ rs) =
    spelling (data_header r) ++ (generated seed r.start (r.end - r.start) ++ generated_blocks seed rs)

-- what stands behind the blocks: the EOF where a total is told, and the EOD
abbrev pub ending : Option ℕ → List ℕ
ending None = spelling eod_header
ending (Some total) = spelling (eof_header total) ++ spelling eod_header

-- what a data connection carries of the generated file, without the offsets that are done: four stripes of four
-- data connections, with blocks of 1,048,576 bytes to the stripes in turn
abbrev pub generated_stream : Generated → List Range → ℕ → ℕ → List ℕ
generated_stream file done stripe channel =
    generated_blocks file.seed (plan_of (record { start = 0; end = file.size }) done (Blocked 1048576)
    (record { stripes = 4; parallel = 4 }) stripe channel)
    ++ ending_of (record { stripes = 4; parallel = 4 }) stripe channel
