-- The definitions, in the order of a reader.

-- I. What stays: what a store holds, which rows and objects a collection keeps, what it reports and
-- what it promises.
pub mod Rows
pub mod CollectorLabels
pub mod Paths
pub mod Collected
pub mod Backends
pub mod Reports
pub mod Promises
-- II. What requests do: what each of them comes to, what each event answers and leaves, and which
-- stores are sound. What questions answer: what keeps a row, and what would go without it.
pub mod Ops
pub mod Changes
pub mod Requests
pub mod Shown
pub mod Holdings
pub mod Steps
pub mod Histories
pub mod Sound
pub mod Finding
pub mod EachKind
pub mod Reasons
pub mod Explanations
pub mod Impacts
pub mod Questions
-- III. The words that the others use.
pub mod Text
pub mod Time
pub mod EndTexts
pub mod Faults
pub mod Limits
pub mod Keys
pub mod Labels
pub mod Updates
pub mod Data
pub mod Resources
pub mod Digits
pub mod Digests
pub mod Listings
pub mod Walks
-- IV. Worked scripts: small stores, what a collection reports of them, and what it leaves.
pub mod Worked
