pub mod Limits
pub mod Values
pub mod Bodies
pub mod Statuses
pub mod Heads
pub mod Replies
pub mod Parts
pub mod Laws
