mod Copies
mod Adding
mod Turns
