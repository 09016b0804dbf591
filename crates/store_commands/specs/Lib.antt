pub mod Commands
pub mod Counted
pub mod Folding
pub mod Shown
