-- The words of this crate that the clauses and proofs of other crates may cite.
pub use Rattle.gft_text.specs.HostPort.{FitsHostPort, IsByte, IsHostPort, host_port_text, numbers_of}
pub use Rattle.gft_text.specs.LineStream.{Line, Overlong, Told}
unfoldable pub use Rattle.gft_text.specs.LineStream.{told}
pub use Rattle.gft_text.specs.Lines.{CarriesLine, Held, Overruns, TakesAll, TakesLine, line_begun, lines_told}
pub use Rattle.gft_text.specs.Lines.{lines_to_come, shown}
pub use Rattle.gft_text.specs.Name.{IsName, RefusesName, WritesName, fault_of, without_slash}
pub use Rattle.gft_text.specs.Table.{HasText, IsAbsent, folded, same_bytes}
