mod Always
mod Banks
mod Crashes
mod Crashing
mod Known
mod Looking
mod Reading
mod Run
mod Sending
mod Slots
mod Steps
mod Written
-- what the proofs of other crates may cite
pub mod Lemmas
