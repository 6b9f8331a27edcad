pub mod Rights
pub mod Origins
