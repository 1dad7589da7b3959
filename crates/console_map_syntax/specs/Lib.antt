pub mod Made
pub mod MapGrammar
pub mod CreateSteps
pub mod UpdateSteps
pub mod KeySteps
pub mod PushSteps
pub mod WholeSteps
pub mod MapSteps
