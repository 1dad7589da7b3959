pub mod Follows
pub mod Replied
pub mod Placed
