pub mod Acts
pub mod Beginning
