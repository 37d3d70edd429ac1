pub mod OpenRows
pub mod Views
