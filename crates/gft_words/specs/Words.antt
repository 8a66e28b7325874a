-- The words of this crate that the clauses and proofs of other crates may cite.
pub use Rattle.gft_words.specs.Arguments.{Begins, Given, Gives, Keyed, Positional, texts}
pub use Rattle.gft_words.specs.Drain.{AreDrainWords}
pub use Rattle.gft_words.specs.Make.{AreMakeWords, SaysMake}
pub use Rattle.gft_words.specs.Options.{IsAddress, IsOneOr, IsWithin, SaysNumber, values}
pub use Rattle.gft_words.specs.Refusal.{RefusesWords}
pub use Rattle.gft_words.specs.Serve.{AreInRange, AreServeWords, SaysServe, is_serve_key, is_serve_option}
