pub mod Access
pub mod Reply
