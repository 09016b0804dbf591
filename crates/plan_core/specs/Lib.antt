pub mod Sound
pub mod Named
