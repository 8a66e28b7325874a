-- What a sender puts on each data connection of a striped transfer (GFD.20, extended block mode).
use Rattle.std.specs.Prelude.{ℕ, ◌-◌, ◌*◌, ◌&&◌, nat_eq, if◌then◌else◌, List, [], ◌∷◌, ◌++◌, slice_range}
use Rattle.gft_range.specs.declared.Range.{Range}
use Rattle.gft_eblock.specs.declared.Header.{Header}
use Rattle.gft_eblock.specs.Words.{spelling}
use Rattle.gft_layout.specs.declared.Shape.{Shape}
use Rattle.gft_layout.specs.Words.{plan_of}
use Rattle.gft_send.specs.declared.plan.SendPlan.{SendPlan}

-- data of so many bytes, from this offset on
abbrev pub data_header : Range → Header
data_header r = record { flags = 0; count = r.end - r.start; offset = r.start }

-- so many EODs are to be expected over all data connections
abbrev pub eof_header : ℕ → Header
eof_header total = record { flags = 64; count = 0; offset = total }

-- the connection's data ends, and the sender closes it
abbrev pub eod_header : Header
eod_header = record { flags = 12; count = 0; offset = 0 }

-- each range as a block of the file's bytes
abbrev pub data_blocks : List ℕ → List Range → List ℕ
data_blocks file [] = []
data_blocks file (r ∷ rs) =
    spelling (data_header r) ++ (slice_range file r.start r.end ++ data_blocks file rs)

-- what stands behind the blocks: the one EOF of the transfer, on the first connection, and each one's EOD
abbrev pub ending_of : Shape → ℕ → ℕ → List ℕ
ending_of shape stripe channel =
    if nat_eq stripe 0 && nat_eq channel 0
    then spelling (eof_header (shape.stripes * shape.parallel)) ++ spelling eod_header
    else spelling eod_header

-- what one connection carries of a file, without the offsets that are done
abbrev pub sent_stream : List ℕ → SendPlan → List Range → ℕ → ℕ → List ℕ
sent_stream file plan done stripe channel =
    data_blocks file (plan_of plan.region done plan.layout plan.shape stripe channel)
    ++ ending_of plan.shape stripe channel
