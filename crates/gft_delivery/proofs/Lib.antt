mod DeliveryLemmas
mod LawLemmas
mod ListLemmas
mod LaneLemmas
mod OrderLemmas
mod StreamLemmas
mod SumLemmas
mod RowLemmas
