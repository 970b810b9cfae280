pub mod Behind
pub mod Blanking
mod Blanks
mod Blocks
pub mod Bonding
mod Chain
mod Changed
mod Clear
mod Committing
mod Errors
mod Feeds
pub mod FileHeads
mod Files
mod FirstGroup
mod Formats
pub mod Fronts
pub mod Groups
pub mod Growing
pub mod Growth
pub mod Heads
pub mod HiddenNotes
mod LastFeeds
mod LineFeeds
mod MixedBytes
mod Most
mod NewHeads
pub mod Noise
pub mod NotePuts
pub mod NoteTexts
mod Openings
mod Over
mod Pairs
mod Parts
mod Pieces
mod Pushing
mod PutSelectors
mod ReadHeads
mod ReadOn
mod Recovering
mod Rooms
pub mod Selectors
mod Skipped
pub mod Sums
pub mod Tearing
pub mod TextLines
mod Texts
mod ThreeBytes
mod Told
pub mod Witnesses
mod WorkedFiles
mod WorkedSums
mod Writing
mod Zeroing
mod Zeros
