-- The bytes that the grammars of text name.
use Rattle.std.specs.Prelude.{ℕ}

-- b'\n', the last byte of a line
abbrev pub line_feed : ℕ
line_feed = 10

-- b'\r'
abbrev pub carriage_return : ℕ
carriage_return = 13

-- b' '
abbrev pub space : ℕ
space = 32

-- b','
abbrev pub comma : ℕ
comma = 44

-- b'-'
abbrev pub dash : ℕ
dash = 45

-- b'.'
abbrev pub dot : ℕ
dot = 46

-- b'/'
abbrev pub slash : ℕ
slash = 47

-- b'0'
abbrev pub digit_zero : ℕ
digit_zero = 48

-- b'9'
abbrev pub digit_nine : ℕ
digit_nine = 57

-- b':'
abbrev pub colon : ℕ
colon = 58

-- b';'
abbrev pub semicolon : ℕ
semicolon = 59

-- b'='
abbrev pub equals_sign : ℕ
equals_sign = 61

-- b'_'
abbrev pub underscore : ℕ
underscore = 95
