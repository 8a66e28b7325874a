-- The words of this crate that the clauses and proofs of other crates may cite.
pub use Rattle.gft_command.specs.Commands.{IsCommand, IsSame, RefusesLine}
pub use Rattle.gft_command.specs.Parameters.{FitsParameter, IsParameter, Parameter, parameter_text}
pub use Rattle.gft_command.specs.Table.{Row, row_of, parameter_of, verb_of}
pub use Rattle.gft_command.specs.Telnet.{doubled, telnet_text}
pub use Rattle.gft_command.specs.Written.{FitsCommand, IsSentAs, command_text, text_for}
