pub mod LiveGrammar
pub mod LiveLines
