pub mod Answers
pub mod Nodes
pub mod Snaps
pub mod Objects
pub mod Fuses
pub mod Shown
pub mod Settled
pub mod Held
