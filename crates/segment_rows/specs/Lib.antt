pub mod EventParts
pub mod Exact
pub mod FieldLaws
pub mod PartLaws
pub mod Ranges
pub mod Reading
pub mod Spelling
pub mod ValueLaws
