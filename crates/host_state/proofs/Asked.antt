-- Names for the answers to questions about what is found.
use Rattle.std.specs.Prelude.{ℕ, Option, if◌then◌else◌}
use Rattle.std.specs.Option.{option_map}
use Rattle.bt_mapkind.specs.declared.request.Query.{Query}
use Rattle.bt_mapkind.specs.Read.{map_read, key_of_index}
use Rattle.host_state.specs.Prelude.{MapType, EINVAL, holds_progs}
use Rattle.host_state.specs.declared.ask.AskReply.{AskReply}
use Rattle.host_state.specs.declared.ask.AskReply.TheVariants.{Attr as AttrReply, Dump as DumpReply, Code as CodeReply, Started, Fetched, Refused}
use Rattle.host_state.specs.State.{HostMap, HostProg}
use Rattle.host_state.specs.Ask.{if_found, reply_of, elements_of, id_in, named}

abbrev pub attr_of : Option HostMap → AskReply
attr_of found = if_found (λ m. AttrReply m.attr) found

abbrev pub read_from : Option HostMap → Query → AskReply
read_from found query = if_found (λ m. reply_of (map_read m.attr m.contents query)) found

abbrev pub dumped : Option HostMap → AskReply
dumped found = if_found (λ m. DumpReply (elements_of m.attr m.contents)) found

abbrev pub code_of : Option HostProg → AskReply
code_of found = if_found (λ p. CodeReply p.code.insns) found

abbrev pub started : (ℕ → Option HostProg) → Option (ℕ × Option ℕ) → AskReply
started found device = if_found (λ d. Started (option_map (λ program. (program, d.0)) (named found d.1))) device

abbrev pub slot_fetched : (ℕ → Option HostProg) → MapType → Option ℕ → AskReply
slot_fetched found kind id = if holds_progs kind then Fetched (named found id) else Refused EINVAL

abbrev pub fetched : (ℕ → Option HostProg) → Option HostMap → ℕ → AskReply
fetched found held index = if_found (λ m. slot_fetched found m.attr.kind (id_in m.attr m.contents (key_of_index index))) held
