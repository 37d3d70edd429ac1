pub mod FiledLemmas
