mod ArgumentLemmas
mod NumberLemmas
mod PartLemmas
mod RefreshLemmas
mod ValueLemmas
