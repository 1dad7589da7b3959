pub mod WordsRead
pub mod MapsRead
pub mod CodeRead
pub mod ReadBack
