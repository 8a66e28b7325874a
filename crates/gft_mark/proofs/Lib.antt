mod FieldLemmas
mod ValueLemmas
mod PerfLemmas
mod RangeLemmas
