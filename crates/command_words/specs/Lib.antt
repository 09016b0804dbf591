pub mod Arguments
pub mod Commands
pub mod Numbers
pub mod Parts
pub mod Refreshes
pub mod Values
