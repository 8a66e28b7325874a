-- The words of `gridftpd serve`.
use Rattle.std.specs.Prelude.{◌≡◌, ℕ, ◌≤◌, ◌^◌, Bool, false, ◌||◌}
use Rattle.std.specs.Prelude.{List, [], ◌∷◌, codes}
use Rattle.std.specs.List.{AllPass}
use Rattle.std.specs.Str.{bytes_eq}
use Rattle.gft_words.specs.Arguments.{Given, Gives, Positional, Keyed}
use Rattle.gft_words.specs.Options.{IsAddress, IsOneOr, SaysNumber, values}
use Rattle.gft_words.specs.declared.server.ServerWords.{ServerWords}

-- 127.0.0.1
abbrev pub loopback : List ℕ
loopback = 127 ∷ 0 ∷ 0 ∷ 1 ∷ []

-- the keys of `serve`
abbrev pub is_serve_key : List ℕ → Bool
is_serve_key key =
    bytes_eq key (codes "address") || bytes_eq key (codes "port") || bytes_eq key (codes "workers")
    || bytes_eq key (codes "stripes") || bytes_eq key (codes "marker-bytes")
    || bytes_eq key (codes "idle")

-- whether it is an option that `serve` has
abbrev pub is_serve_option : Given → Bool
is_serve_option (Positional word) = false
is_serve_option (Keyed key value) = is_serve_key key

-- options alone, each key at most once; one that is absent has its default
pub record SaysServe (given : List Given) (words : ServerWords) : Type 0 where
  pub known : AllPass is_serve_option given
  pub address : IsOneOr IsAddress loopback (values (codes "address") given) words.at.host
  pub port : SaysNumber (codes "port") 1 65535 2811 given words.at.port
  pub workers : SaysNumber (codes "workers") 1 64 8 given words.workers
  pub stripes : SaysNumber (codes "stripes") 1 16 4 given words.config.stripes
  pub marker_bytes : SaysNumber (codes "marker-bytes") 1 (2 ^ 40) 67108864 given words.config.marker_bytes
  pub idle : SaysNumber (codes "idle") 1 1000000 600 given words.config.idle

-- `serve` and its options
pub record AreServeWords (words : List (List ℕ)) (value : ServerWords) : Type 0 where
  pub options : List (List ℕ)
  pub given : List Given
  pub begun : words ≡ codes "serve" ∷ options
  pub read : Gives options given []
  pub says : SaysServe given value

-- the values are in their ranges
pub record AreInRange (value : ServerWords) : Type 0 where
  pub port : 1 ≤ value.at.port
  pub workers : (1 ≤ value.workers) × (value.workers ≤ 64)
  pub stripes : (1 ≤ value.config.stripes) × (value.config.stripes ≤ 16)
  pub marker_bytes : (1 ≤ value.config.marker_bytes) × (value.config.marker_bytes ≤ 2 ^ 40)
  pub idle : (1 ≤ value.config.idle) × (value.config.idle ≤ 1000000)
