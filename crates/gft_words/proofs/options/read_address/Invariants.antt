use Rattle.std.proofs.Common.{◌≡◌, ℕ, List, ◌++◌, take}
use Rattle.std.specs.Option.{option_copied}
use Rattle.std.specs.List.{AllZip}
use Rattle.gft_base.specs.Words.{dot, parts_at, parts_left}
use Rattle.gft_text.specs.Words.{IsByte}
use Rattle.gft_words.proofs.options.read_address.Given as goal

abbrev pub invariant-loop-number : goal.invariant-loop-number
invariant-loop-number l =
    (done : List (List ℕ)) × (parts_at dot l.text ≡ done ++ parts_left dot (option_copied l.rest)) × AllZip IsByte done (take l.number-index l.number-items)
