pub mod Forms
pub mod Limits
pub mod Places
pub mod Plans
pub mod Tells
pub mod Texts
