pub mod Examples
pub mod Texts
pub mod Stepwise
pub mod Messages
