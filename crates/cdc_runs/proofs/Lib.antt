pub mod CodeLemmas
pub mod RunLemmas
pub mod ScanLemmas
pub mod StandLemmas
