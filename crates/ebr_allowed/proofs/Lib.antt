mod Examples
pub mod RecordLemmas
mod SessionLemmas
mod AskLemmas
mod TableLemmas
mod AddedLemmas
pub mod CatalogueLemmas
pub mod DefinedLemmas
mod OutcomeLemmas
mod DdlLemmas
mod ReplyLemmas
pub mod HistoryLemmas
mod FirstLemmas
