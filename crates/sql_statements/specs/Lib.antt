pub mod Languages
pub mod Grammar
pub mod Parsers
pub mod Descent
pub mod Limits
pub mod Pipelines
