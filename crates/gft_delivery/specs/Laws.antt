-- What holds of lanes that bring the streams of a file.
use Rattle.std.specs.Prelude.{ℕ, ◌<◌, ◌^◌, List, length}
use Rattle.gft_range.specs.declared.Range.{Range}
use Rattle.gft_drive.specs.Words.{IsSending}
use Rattle.gft_outside.specs.Words.{AreWhole, LaneInput}
use Rattle.gft_send.specs.declared.SendPlan.{SendPlan}
use Rattle.gft_delivery.specs.Brought.{BringsStreams, SendsWhole, orders_of}

-- the lanes are what a source's senders send for this REST list
abbrev pub StreamsAreSendingLaw : Type 0
StreamsAreSendingLaw = (file : List ℕ) (plan : SendPlan) (done : List Range) (lists : List (List LaneInput))
    → SendsWhole file plan → BringsStreams file plan done lists → IsSending file done (orders_of lists)

-- and each is honest for the source, and whole
abbrev pub StreamsAreWholeLaw : Type 0
StreamsAreWholeLaw = (file : List ℕ) (plan : SendPlan) (done : List Range) (lists : List (List LaneInput))
    → SendsWhole file plan → BringsStreams file plan done lists → AreWhole file (orders_of lists) lists

-- no lane sends so many bytes that their number doesn't fit 64 bits
abbrev pub OrdersAreShortLaw : Type 0
OrdersAreShortLaw = (file : List ℕ) (plan : SendPlan) (done : List Range) (lists : List (List LaneInput))
    → SendsWhole file plan → BringsStreams file plan done lists
    → (lane : ℕ) → length ((orders_of lists).order lane) < 2 ^ 64
