-- What other faults are called in a host run.
use Rattle.thread_frame_lines.specs.declared.fault.LinesFault.{LinesFault}
use Rattle.thread_frame_lines.specs.declared.fault.LinesFault.TheVariants as lines
use Rattle.thread_capture.specs.declared.fault.CaptureFault.{CaptureFault}
use Rattle.thread_capture.specs.declared.fault.CaptureFault.TheVariants as capture
use Rattle.thread_frames.specs.declared.fault.FramesFault.{FramesFault}
use Rattle.thread_frames.specs.declared.fault.FramesFault.TheVariants as frames
use Rattle.journal_model.specs.declared.faults.BookFault.{BookFault}
use Rattle.journal_model.specs.declared.faults.BookFault.TheVariants as book
use Rattle.bt_workers.specs.declared.two.RunFault.{RunFault}
use Rattle.bt_workers.specs.declared.two.RunFault.TheVariants as run
use Rattle.thread_host_run.specs.declared.fault.RunHostFault.{RunHostFault}
use Rattle.thread_host_run.specs.declared.fault.RunHostFault.TheVariants.{BadDevices, BadLimits, BadFrames, NoMemory, NoThread}

abbrev pub fault_of_lines : LinesFault → RunHostFault
fault_of_lines lines.BadLine = BadFrames
fault_of_lines lines.NoMemory = NoMemory

abbrev pub fault_of_capture : CaptureFault → RunHostFault
fault_of_capture capture.NotACapture = BadFrames
fault_of_capture capture.NoMemory = NoMemory

abbrev pub fault_of_frames : FramesFault → RunHostFault
fault_of_frames frames.TooMany = BadFrames
fault_of_frames (frames.FrameTooLong number) = BadFrames
fault_of_frames frames.NoMemory = NoMemory

abbrev pub fault_of_book : BookFault → RunHostFault
fault_of_book book.BadDevices = BadDevices
fault_of_book book.BadLimits = BadLimits
fault_of_book book.NoMemory = NoMemory

abbrev pub fault_of_run : RunFault → RunHostFault
fault_of_run run.NoMemory = NoMemory
fault_of_run run.NoThread = NoThread
