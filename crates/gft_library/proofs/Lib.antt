mod ListLemmas
mod NamesLemmas
mod SourceLemmas
mod StepLemmas
