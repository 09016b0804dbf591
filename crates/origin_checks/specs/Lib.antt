pub mod Resolving
pub mod Origins
