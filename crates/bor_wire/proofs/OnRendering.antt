pub mod Writing
pub mod Bodies
pub mod ReadBack
pub mod ItemsBack
pub mod ShortTexts
pub mod LengthTold
pub mod Examples
pub mod Phrases
