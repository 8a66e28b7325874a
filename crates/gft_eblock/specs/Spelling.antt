-- The bytes of a header (GFD.20, extended block mode): one of flags, eight of count, eight of offset, in
-- network byte order.
use Rattle.std.specs.Prelude.{ℕ, List, ◌∷◌, ◌++◌, slice_index, slice_range}
use Rattle.std.specs.Int.{w64, from_be_bytes, to_be_bytes}
use Rattle.gft_eblock.specs.declared.TheConstants.{HEADER_LEN}
use Rattle.gft_eblock.specs.declared.header.Header.{Header}

-- the bytes of a header
unfoldable pub spelling : Header → List ℕ
spelling h = h.flags ∷ (to_be_bytes w64 h.count ++ to_be_bytes w64 h.offset)

-- the header that these bytes spell
unfoldable pub header_of : List ℕ → Header
header_of bytes = record {
  flags = slice_index bytes 0;
  count = from_be_bytes w64 (slice_range bytes 1 9);
  offset = from_be_bytes w64 (slice_range bytes 9 HEADER_LEN);
}
