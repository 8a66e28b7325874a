-- The lemmas of this crate that the proofs of other crates may cite.
pub use Rattle.gft_keep.proofs.Holding.{CameBy, came_by, exact_of, exact_read, held_exact, sound_of}
