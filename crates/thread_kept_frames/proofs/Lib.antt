pub mod OfFrames
pub mod Disk
pub mod Hosting
mod Heeding
mod Copying
mod PortionLemmas
pub mod Turns
mod LiveHosting
