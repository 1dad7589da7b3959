pub mod Parts
pub mod JoinsLemmas
pub mod RetiringLemmas
pub mod ContentsLemmas
pub mod FrozenLemmas
pub mod TurnedLemmas
pub mod ReturnedLemmas
pub mod DroppedLemmas
