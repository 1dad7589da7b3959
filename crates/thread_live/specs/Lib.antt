pub mod Crew
pub mod Footings
pub mod Lines
pub mod Reports
pub mod Standings
pub mod Trying
