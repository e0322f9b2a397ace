pub mod Holding
pub mod SeriesSeen
pub mod OpenAt
pub mod Told
pub mod Recording
