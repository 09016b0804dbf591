pub mod Operators
pub mod Grammar
pub mod Descent
pub mod Nests
