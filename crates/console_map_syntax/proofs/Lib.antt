pub mod CreateRead
pub mod UpdateRead
pub mod KeyRead
pub mod PushRead
pub mod WholeRead
pub mod MapRead
