pub mod Machine
pub mod Served
