pub mod Told
pub mod TextLexemes
pub mod OneAnswer
pub mod Safe
pub mod SafeExprs
pub mod SafeParts
pub mod SafeStatements
pub mod PrintLaws
