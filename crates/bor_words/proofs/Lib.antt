pub mod Numerals
pub mod KnownWords
pub mod Locals
pub mod Tables
pub mod HyphenLemmas
pub mod Reporting
mod Examples
