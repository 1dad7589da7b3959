mod Ending
mod OnBook
mod Carrying
pub mod SpokenLive
mod Living
