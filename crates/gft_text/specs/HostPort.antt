-- Addresses in text (RFC 959, section 4.1.2, PORT): `h1,h2,h3,h4,p1,p2`.
use Rattle.std.specs.Prelude.{◌≡◌, ℕ, ◌/◌, ◌%◌, ◌<◌, ◌^◌, ◌++◌, List, [], ◌∷◌, length, map, decimal}
use Rattle.std.specs.List.{AllZip, AllByRecursion, join_with_byte}
use Rattle.gft_base.specs.Words.{IsNumber, comma, parts_at}
use Rattle.gft_text.specs.declared.host_port.HostPort.{HostPort}

-- the text writes a number of 8 bits
pub record IsByte (text : List ℕ) (n : ℕ) : Type 0 where
  pub number : IsNumber text n
  pub fits : n < 256

-- the four numbers of the host, and the port's high and low byte
abbrev pub numbers_of : HostPort → List ℕ
numbers_of at = at.host ++ at.port / 256 ∷ at.port % 256 ∷ []

-- six numbers with commas between them
pub record IsHostPort (text : List ℕ) (at : HostPort) : Type 0 where
  pub numbers : AllZip IsByte (parts_at comma text) (numbers_of at)
  pub host : length at.host ≡ 4

-- the one text that is written
abbrev pub host_port_text : HostPort → List ℕ
host_port_text at = join_with_byte comma (map decimal (numbers_of at))

-- a value that the type has
pub record FitsHostPort (at : HostPort) : Type 0 where
  pub host : length at.host ≡ 4
  pub bytes : AllByRecursion (λ n. n < 256) at.host
  pub port : at.port < 2 ^ 16
