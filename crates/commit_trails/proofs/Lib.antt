pub mod LoadTrailLemmas
pub mod StintLemmas
pub mod TrailLemmas
