-- The words of this crate that the clauses and proofs of other crates may cite.
pub use Rattle.gft_session.specs.Asking.{AnswersFor, AsksLibrary, RefusesPath, name_reply, to_take, word_reply}
pub use Rattle.gft_session.specs.Brought.{Brought, Output, output, text_of_all}
pub use Rattle.gft_session.specs.Conversation.{AreTaken, Converses, HasFault, IsCauseOf, IsConfig, IsCutOff}
pub use Rattle.gft_session.specs.Conversation.{IsQuit, IsSession, Leads, Turn, answers_in, due, inputs_of}
pub use Rattle.gft_session.specs.Conversation.{lines_of, refusals_in}
pub use Rattle.gft_session.specs.Settings.{Around, State, World, start_state, start_world}
pub use Rattle.gft_session.specs.Table.{AnswersCommand, AnswersLine, Row}
