pub mod Members
pub mod Table
pub mod Lines
pub mod Refusals
pub mod LineMembers
