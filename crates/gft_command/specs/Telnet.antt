-- The bytes of Telnet in a line of the control conversation (RFC 854; RFC 959, section 3.1).
use Rattle.std.specs.Prelude.{ℕ, ◌==◌, ◌&&◌, ◌||◌, if◌then◌else◌, List, [], ◌∷◌}

-- the byte that begins Telnet's own commands
abbrev pub telnet_escape : ℕ
telnet_escape = 255

-- the signals that come with an urgent ABOR, each behind a byte 255
abbrev pub interrupt_process : ℕ
interrupt_process = 244

abbrev pub data_mark : ℕ
data_mark = 242

-- without the signals in front
abbrev pub past_signals : List ℕ → List ℕ
past_signals [] = []
past_signals (b ∷ []) = b ∷ []
past_signals (b ∷ c ∷ bs) =
    if (b == telnet_escape) && (c == interrupt_process || c == data_mark) then past_signals bs else b ∷ c ∷ bs

-- from the left, 255 255 stands for one byte 255, and each other byte for itself, a single 255 too
abbrev pub undoubled : List ℕ → List ℕ
undoubled [] = []
undoubled (b ∷ []) = b ∷ []
undoubled (b ∷ c ∷ bs) =
    if (b == telnet_escape) && (c == telnet_escape) then b ∷ undoubled bs else b ∷ undoubled (c ∷ bs)

-- each byte 255 twice
abbrev pub doubled : List ℕ → List ℕ
doubled [] = []
doubled (b ∷ bs) = if b == telnet_escape then b ∷ b ∷ doubled bs else b ∷ doubled bs

-- the text that a line stands for
abbrev pub telnet_text : List ℕ → List ℕ
telnet_text line = undoubled (past_signals line)
