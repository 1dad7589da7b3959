pub mod Ids
pub mod Boxes
pub mod ById
pub mod Operations
