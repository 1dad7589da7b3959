-- What other faults are called where frames are kept.
use Rattle.thread_frames.specs.declared.fault.FramesFault.{FramesFault}
use Rattle.thread_frames.specs.declared.fault.FramesFault.TheVariants as frames
use Rattle.thread_host_run.specs.declared.fault.RunHostFault.{RunHostFault}
use Rattle.thread_host_run.specs.declared.fault.RunHostFault.TheVariants as run
use Rattle.thread_kept_frames.specs.declared.fault.ServeFault.{ServeFault}
use Rattle.thread_kept_frames.specs.declared.fault.ServeFault.TheVariants.{BadFrames, NoMemory, NoThread}

abbrev pub fault_of_frames : FramesFault → ServeFault
fault_of_frames frames.TooMany = BadFrames
fault_of_frames (frames.FrameTooLong number) = BadFrames
fault_of_frames frames.NoMemory = NoMemory

abbrev pub fault_of_run : RunHostFault → ServeFault
fault_of_run run.NoThread = NoThread
fault_of_run _ = NoMemory
