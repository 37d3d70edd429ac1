pub mod AllowedTables
mod KeptViews
pub mod KnownTables
mod MadeRecords
mod Payloads
pub mod ReachedRecords
mod ReadExamples
pub mod ReadsBack
mod SmallRecords
pub mod Spellings
mod HeldAgain
mod CallBeginning
mod Switched
mod StatementRecords
mod RunStatements
mod Placed
mod Counted
mod Recording
mod Carrying
mod Lives
mod Rooms
mod LightAsks
mod Histories
pub mod KeptBehind
mod Books
mod Answering
mod HasLeft
pub mod Starting
mod SeenAlike
mod DefinedAlike
mod ReplyApart
mod AnswerApart
mod ApartExamples
mod HistoryExamples
pub mod Crossing
