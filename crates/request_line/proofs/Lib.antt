pub mod Checks
pub mod Asking
pub mod RawLabels
pub mod LineMembers
pub mod PassedOn
mod Places
