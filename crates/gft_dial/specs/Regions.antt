-- Which offsets of a file a sender is asked for.
use Rattle.std.specs.Prelude.{ℕ, ◌+◌, min, Option, Some, None}
use Rattle.gft_range.specs.declared.range.Range.{Range}
use Rattle.gft_dial.specs.declared.region.FilePart.{FilePart}

-- all of a file of so many bytes, or a part of it, as far as the file goes
abbrev pub region_in : ℕ → Option FilePart → Range
region_in len None = record { start = 0; end = len }
region_in len (Some part) = record { start = min part.offset len; end = min (part.offset + part.size) len }
