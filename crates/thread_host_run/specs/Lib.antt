pub mod FramesOf
pub mod Faults
pub mod FrameTexts
pub mod HostRuns
pub mod HostRun
pub mod Refused
pub use Rattle.bt_workers.specs.declared.result.FrameResult
