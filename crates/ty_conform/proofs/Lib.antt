pub mod CarriedLists
pub mod Found
pub mod Inherited
