pub mod Replies
pub mod Fixed
pub mod Foreseen
pub mod Shown
pub mod Explained
pub mod StepWriting
pub mod Blocks
pub mod ReportTexts
