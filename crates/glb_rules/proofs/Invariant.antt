-- Every start meets the invariant, and every event keeps it: a file for each event, and what they
-- share.
pub mod Frames
pub mod Keeping
pub mod PlaceEvents
pub mod VictimEvents
pub mod ThiefEvents
pub mod Start
pub mod Look
pub mod Batch
pub mod Ask
pub mod Deny
pub mod Mint
pub mod Give
pub mod Take
pub mod Burn
pub mod Shrug
pub mod Sleep
pub mod Leave
pub mod Steps
pub mod Replaced
pub mod Enabled
