-- A header's bytes give it back.
use Rattle.std.proofs.Common.{◌≡◌, ◌<◌, ◌^◌, ap, ◌∙◌, slice_range}
use Rattle.std.specs.Int.{w64, from_be_bytes}
use Rattle.std.proofs.lemmas.Nat.{from_be_bytes-to_be_bytes_8}
use Rattle.gft_eblock.specs.declared.TheConstants.{HEADER_LEN}
use Rattle.gft_eblock.specs.declared.header.Header.{Header}
use Rattle.gft_eblock.specs.Spelling.{spelling, header_of}

pub header_of-spelling : (h : Header) → h.count < 2 ^ 64 → h.offset < 2 ^ 64 → header_of (spelling h) ≡ h
unfolding spelling header_of
header_of-spelling h count_fits offset_fits =
    let offset_read = from_be_bytes w64 (slice_range (spelling h) 9 HEADER_LEN) in
    ap (λ n. let read : Header = record { flags = h.flags; count = n; offset = offset_read } in read) (from_be_bytes-to_be_bytes_8 h.count count_fits)
    ∙ ap (λ n. let read : Header = record { flags = h.flags; count = h.count; offset = n } in read) (from_be_bytes-to_be_bytes_8 h.offset offset_fits)
