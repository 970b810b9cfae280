pub mod Days
pub mod Scales
pub mod InstantParts
pub mod Wide
pub mod ContentKeys
pub mod PassedLabels
