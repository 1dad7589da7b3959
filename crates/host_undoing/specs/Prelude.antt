-- What the definitions of undoings cite of states, passed on from one place.
pub use Rattle.host_state.specs.declared.change.Change.{Change}
pub use Rattle.host_state.specs.declared.entry.MapEntry.{MapEntry}
pub use Rattle.host_state.specs.declared.reply.Reply.{Reply}
pub use Rattle.host_state.specs.declared.reply.Refusal.{Refusal}
pub use Rattle.host_state.specs.declared.reply.Refusal.TheVariants.{Errno, NoMemory}
pub use Rattle.host_state.specs.State.{HostMap, HostProg, State, made}
pub use Rattle.host_state.specs.Settled.{IsSettled, is_live_in, is_listed, named_in}
pub use Rattle.host_state.specs.Act.{act, is_console}
pub use Rattle.host_state.specs.World.{Ready, WorldView}
