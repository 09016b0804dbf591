pub mod Reading
pub mod Meeting
pub mod Laws
pub mod Printing
