pub mod Texts
pub mod Day
pub mod Points
pub mod Span
pub mod Shown
pub mod Period
pub mod Tables
