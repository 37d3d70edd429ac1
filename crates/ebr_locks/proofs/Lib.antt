pub mod EntryLemmas
pub mod OwnedLemmas
pub mod FiledLemmas
pub mod ListLemmas
pub mod PlaceLemmas
pub mod Released
pub mod Taken
