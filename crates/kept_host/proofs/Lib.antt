mod Looking
mod Running
pub mod TakingRead
pub mod TakingSteps
pub mod Together
pub mod RangeKept
pub mod OnBook
pub mod RangeTalk
pub mod Talking
