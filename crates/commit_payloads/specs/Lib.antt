pub mod Forms
pub mod PartLaws
pub mod Payloads
pub mod Ranges
pub mod Reading
pub mod Spelling
pub mod StateLaws
