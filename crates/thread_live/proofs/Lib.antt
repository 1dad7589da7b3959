mod Beside
mod Batching
mod Going
mod Manning
mod Short
