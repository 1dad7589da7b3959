pub mod Asks
pub mod HostTerms
pub mod Logs
pub mod Looks
pub mod Runs
pub mod Talks
pub mod Taking
pub mod Ranges
