pub mod Commits
pub mod Payloads
pub mod Refusals
