pub mod Keyed
pub mod Mentions
pub mod Kin
pub mod Ways
pub mod OneWay
