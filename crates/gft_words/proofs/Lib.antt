mod ArgumentLemmas
mod OneLemmas
mod OptionLemmas
mod WordsLemmas
