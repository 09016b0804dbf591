pub mod Forms
pub mod Typing
