pub mod Kinded
pub mod Outputs
pub mod Streams
pub mod Views
pub mod Expecting
pub mod Ends
pub mod Parts
