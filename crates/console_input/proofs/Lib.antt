pub mod LiveOrder
mod LiveRead
mod LiveWithin
mod NamedFiles
mod OptionsRead
mod PlainRequest
mod Whole
