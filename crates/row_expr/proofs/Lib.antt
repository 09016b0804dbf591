pub mod Fitting
pub mod Typed
