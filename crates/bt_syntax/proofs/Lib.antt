pub mod Least
pub mod JournalRead
pub mod UnpinRead
pub mod BatchRead
pub mod ProgRead
pub mod DeviceRead
pub mod AttachRead
pub mod NetRead
pub mod FrameRead
pub mod RunRead
pub mod LineRead
pub mod NeedsRead
pub mod BatchPath
mod WorkedLines
