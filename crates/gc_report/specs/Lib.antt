pub mod Reports
pub mod Empty
pub mod Writing
pub mod Impacts
