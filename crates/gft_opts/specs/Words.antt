-- The words of this crate that the clauses and proofs of other crates may cite.
pub use Rattle.gft_opts.specs.Part.{FitsEret, FitsEsto, IsEret, IsEsto, eret_text, esto_text}
pub use Rattle.gft_opts.specs.Retr.{FitsLayout, FitsParallel, FitsRetr, IsRetr, layout_settings}
pub use Rattle.gft_opts.specs.Retr.{parallel_settings, retr_text, settings_text}
pub use Rattle.gft_opts.specs.Refusal.{RefusesOption}
pub use Rattle.gft_opts.specs.Targets.{FitsTargets, IsTargets, targets_text}
pub use Rattle.gft_opts.specs.Word.{IsWord}
