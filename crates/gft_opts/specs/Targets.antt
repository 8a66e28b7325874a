-- Targets in text (GFD.20, SPOR): addresses with one space between them.
use Rattle.std.specs.Prelude.{ℕ, ◌<◌, ◌≤◌, List, length, map}
use Rattle.std.specs.List.{AllZip, AllByRecursion, join_with_byte}
use Rattle.gft_base.specs.Words.{parts_at, space}
use Rattle.gft_text.specs.Words.{IsHostPort, FitsHostPort, host_port_text}
use Rattle.gft_text.specs.declared.HostPort.{HostPort}
use Rattle.gft_opts.specs.declared.TheConstants.{MAX_TARGETS}

-- 1 to 16 addresses; a text has at least one part
pub record IsTargets (text : List ℕ) (targets : List HostPort) : Type 0 where
  pub read : AllZip IsHostPort (parts_at space text) targets
  pub few : length targets ≤ MAX_TARGETS

-- the one text that is written
abbrev pub targets_text : List HostPort → List ℕ
targets_text targets = join_with_byte space (map host_port_text targets)

-- the targets have a text
pub record FitsTargets (targets : List HostPort) : Type 0 where
  pub some : 0 < length targets
  pub few : length targets ≤ MAX_TARGETS
  pub each : AllByRecursion FitsHostPort targets
