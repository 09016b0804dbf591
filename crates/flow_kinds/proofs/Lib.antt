pub mod AppendFits
pub mod EventFits
pub mod FitTools
pub mod TargetFits
pub mod ViewFits
