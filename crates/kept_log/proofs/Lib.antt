pub mod LastText
pub mod LastEvents
pub mod LogLemmas
