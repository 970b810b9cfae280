pub mod Handing
mod Rooms
mod Through
mod WorkerCounts
