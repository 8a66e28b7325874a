-- The lemmas of this crate that the proofs of other crates may cite.
pub use Rattle.gft_base.proofs.NumberLemmas.{IsNumber-decimal, IsNumber-one, digits_apart, number_part, parts-decimals}
pub use Rattle.gft_base.proofs.PartsLemmas.{front_apart, part_alone, parts_alone, parts_found, parts_front, parts_join, parts_length, parts_some, place_found, place_none, position-None, position-none_from}
pub use Rattle.gft_base.proofs.ZipLemmas.{AllZip-length, AllZip-middle, AllZip-one, AllZip-push}
