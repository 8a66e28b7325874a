-- The words of this crate that the clauses and proofs of other crates may cite.
pub use Rattle.gft_delivery.specs.Brought.{BringsStreams, CarriesStreams, DealsOut, IsCarried, SendsWhole}
pub use Rattle.gft_delivery.specs.Brought.{eods_of, order_on, orders_of}
pub use Rattle.gft_delivery.specs.Delivery.{Delivers, HasLeft, IsDelivery, IsPatient, NoneFailed}
