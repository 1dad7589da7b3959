-- What a call that takes memory comes to for a running program.
use Rattle.std.specs.Prelude.{⊤, Option, Some, None, Result, Ok, Err}
use Rattle.bt_mapkind.specs.declared.attr.MapAttr.{MapAttr}
use Rattle.bt_mapkind.specs.declared.errno.Errno.TheVariants.{ENOENT}
use Rattle.host_state.specs.declared.ask.AskReply.{AskReply}
use Rattle.host_state.specs.declared.ask.AskReply.TheVariants.{Attr, Refused}
use Rattle.program_access.specs.declared.access.Access.{Access}
use Rattle.program_access.specs.declared.access.Access.TheVariants.{Load, Lookup, Peek}
use Rattle.program_access.specs.declared.reply.AccessReply.{AccessReply}

-- what was told, or this if an allocation failed
abbrev pub told_or : {E : Type 0} → Result AccessReply E → AccessReply → AccessReply
told_or (Ok told) want = told
told_or (Err fault) want = want

-- an access that reads what a map holds, and asks for no program
abbrev pub Reads : Access → Type 0
Reads (Load id key offset size) = ⊤
Reads (Lookup id key outer) = ⊤
Reads (Peek id value_size) = ⊤
Reads _ = ⊥

-- what the question for a map's attributes is answered
abbrev pub attr_reply : Option MapAttr → AskReply
attr_reply None = Refused ENOENT
attr_reply (Some attr) = Attr attr
