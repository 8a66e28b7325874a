-- The lemmas of this crate that the proofs of other crates may cite.
pub use Rattle.gft_opts.proofs.PartLemmas.{eret_fits as IsEret-fits, eret_one as IsEret-one}
pub use Rattle.gft_opts.proofs.PartLemmas.{esto_fits as IsEsto-fits, esto_one as IsEsto-one}
pub use Rattle.gft_opts.proofs.RetrLemmas.{fits as IsRetr-fits, one as IsRetr-one}
pub use Rattle.gft_opts.proofs.TargetsLemmas.{fits as IsTargets-fits, one as IsTargets-one}
