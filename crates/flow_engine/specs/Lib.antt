pub mod Points
pub mod Flows
pub mod Ends
pub mod Commits
pub mod Engine
