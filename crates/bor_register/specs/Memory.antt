pub mod Holding
pub mod Sited
pub mod Indexed
pub mod Sighted
