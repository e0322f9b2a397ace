pub mod Query
pub mod Parts
pub mod Refusals
pub mod Spell
pub mod Steps
pub mod Laws
