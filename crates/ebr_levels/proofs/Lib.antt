mod OthersLemmas
pub mod EarlyLemmas
mod KeepsLemmas
pub mod LeavesLemmas
pub mod TopLemmas
pub mod InsideLemmas
pub mod EndLemmas
pub mod AskLemmas
pub mod ReplyLemmas
pub mod StepLemmas
