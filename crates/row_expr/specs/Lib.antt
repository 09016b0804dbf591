pub mod Columns
pub mod Eval
pub mod Kinds
