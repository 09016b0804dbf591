pub mod Form
pub mod Outputs
pub mod Rules
pub mod Texts
