pub mod Gaining
pub mod Numbers
pub mod ReadUpTo
pub mod Rising
