pub mod Serving
pub mod Supplied
pub mod Ending
pub mod OnHost
