-- The words of this crate that the clauses and proofs of other crates may cite.
pub use Rattle.gft_generated.specs.Carried.{CarriesFile, IsCarried, IsCut, IsFront, lost_behind}
pub use Rattle.gft_generated.specs.Drive.{OnGenerator, generated_state}
pub use Rattle.gft_generated.specs.Generator.{generated, generated_byte}
pub use Rattle.gft_generated.specs.Lanes.{OnLane, generated_lane_state}
pub use Rattle.gft_generated.specs.Streams.{generated_blocks, generated_stream}
