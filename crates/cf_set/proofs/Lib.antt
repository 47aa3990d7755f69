pub mod Spelling
pub mod BuiltInNames
pub mod Twice
pub mod Missing
pub mod Distinct
pub mod Reading
