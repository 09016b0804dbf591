pub mod Rows
pub mod Results
pub mod Judges
pub mod Gathers
pub mod Batches
