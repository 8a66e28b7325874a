-- Which blocks are refused, and what the flags of a block say (GFD.20, extended block mode).
use Rattle.std.specs.Prelude.{ℕ, ◌+◌, Bool, not, ◌&&◌, ◌||◌, ◌==◌, nat_lt, bit_and}
use Rattle.gft_base.specs.declared.TheConstants.{LIMIT}
use Rattle.gft_eblock.specs.declared.header.Header.{Header}

unfoldable pub has_flag : ℕ → ℕ → Bool
has_flag flags flag = not (bit_and flags flag == 0)

-- the offset is the number of EODs to expect over all connections
abbrev pub is_eof : ℕ → Bool
is_eof flags = has_flag flags 64

-- the connection's data ends with this block
abbrev pub is_eod : ℕ → Bool
is_eod flags = has_flag flags 8

-- suspect data, or a restart marker
abbrev pub is_refused : ℕ → Bool
is_refused flags = has_flag flags 32 || has_flag flags 16

-- a flag that is refused, an EOF with data, or data past the limit
unfoldable pub is_bad : ℕ → Header → Bool
is_bad shift h =
    is_refused h.flags || (is_eof h.flags && nat_lt 0 h.count)
    || (nat_lt 0 h.count && nat_lt LIMIT (shift + h.offset + h.count))
