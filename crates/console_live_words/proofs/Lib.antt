pub mod LiveRead
mod WorkedLines
