pub mod Places
pub mod Clauses
pub mod Feeds
