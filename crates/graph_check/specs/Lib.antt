pub mod Graphs
pub mod Levels
pub mod Paths
pub mod Ends
pub mod Rounds
pub mod Marks
