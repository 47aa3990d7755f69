mod Chains
mod Targeting
mod Numbering
mod Types
mod Following
mod Methods
