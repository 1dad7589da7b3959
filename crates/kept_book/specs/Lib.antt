pub mod Leading
pub mod Boxes
pub mod Redone
pub mod Noted
pub mod Laws
