pub mod Changes
pub mod Origins
