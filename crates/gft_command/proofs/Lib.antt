mod LawLemmas
mod PartFits
mod PrintedLemmas
mod QuitLemmas
mod RowLemmas
mod TelnetLemmas
mod VerbLemmas
