-- What the answers of the program say.
pub mod Holds
pub mod Tells
