pub mod Paths
pub mod Options
pub mod Schemas
pub mod Rules
