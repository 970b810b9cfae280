pub mod LineAnswers
mod WithWords
mod Unchanged
mod Effects
mod Changing
mod Heard
mod Stepping
mod Letting
mod Replying
mod RenderedTexts
pub mod Writers
pub mod Runs
mod Stops
pub mod Outcomes
pub mod WholeScripts
pub mod AnsweredRuns
pub mod Served
pub mod Asking
mod OneThing
mod OneExplanation
pub mod OneOutput
mod WorkedScripts
mod LeaseEnds
mod WorkedEnds
