use Rattle.std.proofs.Common.{◌≡◌, ℕ, List, ◌++◌, take}
use Rattle.std.specs.Option.{option_copied}
use Rattle.std.specs.List.{AllZip}
use Rattle.gft_base.specs.Words.{comma, parts_at, parts_left}
use Rattle.gft_text.specs.HostPort.{IsByte}
use Rattle.gft_text.proofs.host_port.read_six.Given as goal

abbrev pub invariant-loop-number : goal.invariant-loop-number
invariant-loop-number l =
    (done : List (List ℕ)) × (parts_at comma l.text ≡ done ++ parts_left comma (option_copied l.rest)) × AllZip IsByte done (take l.number-index l.number-items)
