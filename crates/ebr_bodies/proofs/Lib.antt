mod Examples
mod OfCode
mod CodeStates
mod CodeValues
mod CodeOperators
mod CodeExpressions
mod CodeTargets
mod CodeStatements
mod CodeBlocks
mod CodeCalls
pub mod CodeAsks
pub mod Questions
pub mod AgreeLaws
pub mod Apart
pub mod ApartAsks
mod ReadyAlike
mod StartsAlike
pub mod ApartBodies
mod ApartRows
pub mod ApartStatements
pub mod ToldApart
pub mod ApartReplies
pub mod StatementReplies
