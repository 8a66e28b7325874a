-- The words of this crate that the clauses and proofs of other crates may cite.
pub use Rattle.gft_base.specs.Ascii.{line_feed, carriage_return, space, comma, dash, dot, slash, digit_zero}
pub use Rattle.gft_base.specs.Ascii.{digit_nine}
pub use Rattle.gft_base.specs.Ascii.{colon, semicolon, equals_sign, underscore}
pub use Rattle.gft_base.specs.Causes.{HasCause, Rose, one_more}
pub use Rattle.gft_base.specs.Number.{AreDigits, IsNumber, value_of}
pub use Rattle.gft_base.specs.Parts.{AreSpaces, Lacks, parts_at, parts_left}
