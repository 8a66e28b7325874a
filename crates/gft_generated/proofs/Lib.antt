mod EachLemmas
mod GeneratorLemmas
mod LaneLemmas
mod StreamLemmas
