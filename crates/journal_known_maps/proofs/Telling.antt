-- What an event answers tells of no maps but those of its book's state, and of no programs but its own.
use Rattle.std.proofs.Common.{◌≡◌, ℕ, ◌+◌, Bool, true, false, cond, List, length, Option, Some, None, Result, Ok, Err, refl, subst}
use Rattle.std.specs.Prelude.{⊤, nat_le, option_map}
use Rattle.std.specs.FinMap as map
use Rattle.bt_insn.specs.LoadStore.{size_bytes}
use Rattle.bt_insn.specs.declared.load_store.Size.{Size}
use Rattle.bt_mapkind.specs.declared.attr.MapAttr.{MapAttr}
use Rattle.bt_mapkind.specs.declared.errno.Errno.{Errno}
use Rattle.bt_mapkind.specs.declared.errno.Errno.TheVariants.{ENOENT, EINVAL}
use Rattle.bt_mapkind.specs.declared.request.MapOp.TheVariants as op
use Rattle.bt_mapkind.specs.declared.request.MapReply.{MapReply}
use Rattle.bt_mapkind.specs.declared.request.MapReply.TheVariants as map_reply
use Rattle.bt_mapkind.specs.declared.request.Query.TheVariants.{Lookup as ToLookup, Peek as ToPeek}
use Rattle.bt_mapkind.specs.Atomic.{part_of}
use Rattle.bt_mapkind.specs.Index.{number_of}
use Rattle.bt_mapkind.specs.Inner.{holds_ids, holds_progs}
use Rattle.bt_mapkind.specs.Read.{key_of_index}
use Rattle.bt_verify.specs.Program.{ProgramView}
use Rattle.program_access.specs.declared.access.Access.{Access}
use Rattle.program_access.specs.declared.access.Access.TheVariants as access
use Rattle.program_access.specs.declared.reply.AccessReply.{AccessReply}
use Rattle.program_access.specs.declared.reply.AccessReply.TheVariants as told
use Rattle.bt_interp.specs.Known.{AreMaps, TellsOf}
use Rattle.bt_roots.specs.Exchange.{device_named}
use Rattle.host_state.specs.declared.ask.Ask.TheVariants as question
use Rattle.host_state.specs.declared.ask.AskReply.{AskReply}
use Rattle.host_state.specs.declared.ask.AskReply.TheVariants as reply
use Rattle.host_state.specs.declared.reply.Reply.{Reply}
use Rattle.host_state.specs.declared.reply.Reply.TheVariants.{Done, Id, Loaded, Value, Old}
use Rattle.host_state.specs.declared.reply.Refusal.{Refusal}
use Rattle.host_state.specs.declared.reply.Refusal.TheVariants as refusal
use Rattle.host_state.specs.State.{HostMap, HostProg, State}
use Rattle.host_state.specs.Act.{live_map}
use Rattle.host_state.specs.Ask.{if_found, id_in, if_live_prog, live_prog, named, ask}
use Rattle.host_state.proofs.ByIdLemmas.{same_some}
use Rattle.journal_model.specs.Book.{PlainBook, state_of, recorded, asked}
use Rattle.journal_model.specs.Run.{PlainEvent, Start, Serve, Started, bookstep}
use Rattle.journal_model.specs.Serve.{start_told, started, pointer_errno, pointer_refusal, helper_errno, helper_refusal, want_told, reply_told, change_told, is_live_at, told_unless, number_in, is_itself, load_found, load_read, load_fault, inner_told, lookup_found, lookup_read, lookup_fault, peek_found, peek_told, fetch_told, fetched, operation, served}
use Rattle.journal_invariant.proofs.Settling.{live_at}
use Rattle.journal_known_maps.specs.Known.{HaveAttributes, ProgsKnow, AnswerKnows}

-- what is seen of a program that runs
abbrev view_of : ℕ → HostProg → ProgramView
view_of id p = record { id = id; code = p.code }

prog_there : (s : State) (id : ℕ) (p : HostProg) → live_prog s id ≡ Some p → map.get s.progs id ≡ Some p
prog_there s id p e = by (map.get s.progs id) e
  where
    by_live : (x : HostProg) (live : Bool) → cond live (Some x) None ≡ Some p → Some x ≡ Some p
    by_live x true f = f
    by_live x false f = cc

    by : (o : Option HostProg) → if_live_prog o ≡ Some p → o ≡ Some p
    by None f = cc
    by (Some x) f = by_live x x.live f

module _ (maps : ℕ → Option MapAttr) where
  -- ---- replies that tell of no map and no program
  if_tells : (test : Bool) (x y : AccessReply) → TellsOf maps x → TellsOf maps y → TellsOf maps (cond test x y)
  if_tells true x y h k = h
  if_tells false x y h k = k

  abbrev FaultTells : Option AccessReply → Type 0
  FaultTells None = ⊤
  FaultTells (Some fault) = TellsOf maps fault

  unless_tells : (fault : Option AccessReply) (read : AccessReply) → FaultTells fault → TellsOf maps read → TellsOf maps (told_unless fault read)
  unless_tells (Some fault) read h k = h
  unless_tells None read h k = k

  fault_if : (test : Bool) (fault : AccessReply) → TellsOf maps fault → FaultTells (cond test (Some fault) None)
  fault_if true fault h = h
  fault_if false fault h = tt

  pointer_tells : (errno : Errno) → TellsOf maps (pointer_errno errno)
  pointer_tells ENOENT = tt
  pointer_tells EINVAL = tt
  pointer_tells _ = tt

  helper_tells : (live : Bool) (errno : Errno) → TellsOf maps (helper_errno live errno)
  helper_tells live ENOENT = if_tells live (told.Errno ENOENT) told.Gone tt tt
  helper_tells live _ = tt

  pointer_refused : (fault : Refusal) → TellsOf maps (pointer_refusal fault)
  pointer_refused (refusal.Errno errno) = pointer_tells errno
  pointer_refused _ = tt

  helper_refused : (live : Bool) (fault : Refusal) → TellsOf maps (helper_refusal live fault)
  helper_refused live (refusal.Errno errno) = helper_tells live errno
  helper_refused live _ = tt

  done_tells : (done : Reply) → TellsOf maps (reply_told done)
  done_tells Done = tt
  done_tells (Id id) = tt
  done_tells (Loaded id) = tt
  done_tells (Value bytes) = tt
  done_tells (Old number) = tt

  change_tells : (refused : Refusal → AccessReply) → ((fault : Refusal) → TellsOf maps (refused fault)) → (made : Result (ℕ × Reply) Refusal) → TellsOf maps (change_told refused made)
  change_tells refused h (Ok done) = done_tells done.1
  change_tells refused h (Err fault) = h fault

  want_tells : (it : Access) → TellsOf maps (want_told it)
  want_tells (access.Load id key offset size) = tt
  want_tells (access.Store id key offset bytes) = tt
  want_tells (access.Atomic id key offset size op operand) = tt
  want_tells (access.Lookup id key outer) = tt
  want_tells _ = tt

  -- ---- a load and a peek
  load_barred : (a : AskReply) → FaultTells (load_fault a)
  load_barred (reply.Attr a) = fault_if (holds_ids a.kind) told.OutOfRange tt
  load_barred _ = tt

  number_tells : (value : List ℕ) (offset : ℕ) (size : Size) → TellsOf maps (number_in value offset size)
  number_tells value offset size = if_tells (nat_le (offset + size_bytes size) (length value)) (told.Number (number_of (part_of value offset (size_bytes size)))) told.OutOfRange tt tt

  load_finds : (key : List ℕ) (offset : ℕ) (size : Size) (it : MapReply) → TellsOf maps (load_found key offset size it)
  load_finds key offset size (map_reply.Found found value) = if_tells (is_itself key found) (number_in value offset size) told.Gone (number_tells value offset size) tt
  load_finds key offset size map_reply.Nothing = tt
  load_finds key offset size _ = tt

  load_reads : (key : List ℕ) (offset : ℕ) (size : Size) (a : AskReply) → TellsOf maps (load_read key offset size a)
  load_reads key offset size (reply.Answered it) = load_finds key offset size it
  load_reads key offset size (reply.Refused errno) = pointer_tells errno
  load_reads key offset size _ = tt

  peek_finds : (it : MapReply) → TellsOf maps (peek_found it)
  peek_finds (map_reply.Value bytes) = tt
  peek_finds _ = tt

  peek_tells : (live : Bool) (a : AskReply) → TellsOf maps (peek_told live a)
  peek_tells live (reply.Answered it) = peek_finds it
  peek_tells live (reply.Refused errno) = helper_tells live errno
  peek_tells live _ = tt

  lookup_barred : (a : AskReply) → FaultTells (lookup_fault a)
  lookup_barred (reply.Attr a) = fault_if (holds_progs a.kind) (told.Errno EINVAL) tt
  lookup_barred _ = tt

  -- ---- replies of a book that tell of its maps and its programs
  module _ (b : PlainBook) (has : HaveAttributes maps (state_of b)) (knows : ProgsKnow maps (state_of b)) where
    inner_tells : (id : ℕ) → TellsOf maps (inner_told id (asked b (question.Attr id)))
    unfolding ask
    inner_tells id = by (live_map (state_of b) id) refl
      where
        by : (o : Option HostMap) → live_map (state_of b) id ≡ o → TellsOf maps (inner_told id (if_found (λ (m : HostMap). reply.Attr m.attr) o))
        by None is = tt
        by (Some m) is = has id m (live_at (state_of b) id m is).there

    lookup_finds : (it : MapReply) → TellsOf maps (lookup_found b it)
    lookup_finds (map_reply.Found key value) = tt
    lookup_finds map_reply.Nothing = tt
    lookup_finds (map_reply.Link id) = inner_tells id
    lookup_finds _ = tt

    lookup_reads : (a : AskReply) → TellsOf maps (lookup_read b a)
    lookup_reads (reply.Answered it) = lookup_finds it
    lookup_reads (reply.Refused errno) = tt
    lookup_reads _ = tt

    -- the program of an id
    named_knows : (id : Option ℕ) (program : ProgramView) → named (live_prog (state_of b)) id ≡ Some program → AreMaps maps program.code.maps
    named_knows None program e = cc
    named_knows (Some id) program e = by (live_prog (state_of b) id) refl e
      where
        by : (o : Option HostProg) → live_prog (state_of b) id ≡ o → option_map (view_of id) o ≡ Some program → AreMaps maps program.code.maps
        by None is f = cc
        by (Some p) is f = subst (λ (view : ProgramView). AreMaps maps view.code.maps) (same_some f) (knows id p (prog_there (state_of b) id p is))

    prog_tells : (o : Option ProgramView) → ((program : ProgramView) → o ≡ Some program → AreMaps maps program.code.maps) → TellsOf maps (told.Prog o)
    prog_tells None h = tt
    prog_tells (Some program) h = h program refl

    fetch_tells : (id index : ℕ) → TellsOf maps (fetched b id index)
    unfolding ask
    fetch_tells id index = by (live_map (state_of b) id)
      where
        by_kind : (m : HostMap) (holds : Bool) → TellsOf maps (fetch_told (cond holds (reply.Fetched (named (live_prog (state_of b)) (id_in m.attr m.contents (key_of_index index)))) (reply.Refused EINVAL)))
        by_kind m true = prog_tells (named (live_prog (state_of b)) (id_in m.attr m.contents (key_of_index index))) (named_knows (id_in m.attr m.contents (key_of_index index)))
        by_kind m false = tt

        by : (o : Option HostMap) → TellsOf maps (fetch_told (if_found (λ (m : HostMap). cond (holds_progs m.attr.kind) (reply.Fetched (named (live_prog (state_of b)) (id_in m.attr m.contents (key_of_index index)))) (reply.Refused EINVAL)) o))
        by None = tt
        by (Some m) = by_kind m (holds_progs m.attr.kind)

    picked : (ifindex : ℕ) (o : Option ProgramView) → ((program : ProgramView) → o ≡ Some program → AreMaps maps program.code.maps) → AnswerKnows maps (Started (Ok (option_map (λ (program : ProgramView). (program, ifindex)) o)))
    picked ifindex None h = tt
    picked ifindex (Some program) h = h program refl

    start_tells : (device : List ℕ) → AnswerKnows maps (Started (started b device))
    unfolding ask
    start_tells device = by (device_named (state_of b).devices device)
      where
        by : (o : Option (ℕ × Option ℕ)) → AnswerKnows maps (Started (start_told (if_found (λ (d : ℕ × Option ℕ). reply.Started (option_map (λ (program : ProgramView). (program, d.0)) (named (live_prog (state_of b)) d.1))) o)))
        by None = tt
        by (Some d) = picked d.0 (named (live_prog (state_of b)) d.1) (named_knows d.1)

    -- ---- an event
    access_tells : (prog : ℕ) (it : Access) → TellsOf maps (served b prog it).1
    access_tells prog (access.Load id key offset size) =
        unless_tells (load_fault (asked b (question.Attr id))) (load_read key offset size (asked b (question.Map id (ToLookup key))))
        (load_barred (asked b (question.Attr id))) (load_reads key offset size (asked b (question.Map id (ToLookup key))))
    access_tells prog (access.Store id key offset bytes) = change_tells pointer_refusal pointer_refused (recorded b (operation prog id (op.Store key offset bytes)) None).1
    access_tells prog (access.Atomic id key offset size it operand) = change_tells pointer_refusal pointer_refused (recorded b (operation prog id (op.Atomic key offset size it operand)) None).1
    access_tells prog (access.Lookup id key outer) =
        unless_tells (lookup_fault (asked b (question.Attr id))) (lookup_read b (asked b (question.Map id (ToLookup key))))
        (lookup_barred (asked b (question.Attr id))) (lookup_reads (asked b (question.Map id (ToLookup key))))
    access_tells prog (access.Update id key value flag) = change_tells (helper_refusal (is_live_at b id)) (helper_refused (is_live_at b id)) (recorded b (operation prog id (op.Update key value flag)) None).1
    access_tells prog (access.Delete id key) = change_tells (helper_refusal (is_live_at b id)) (helper_refused (is_live_at b id)) (recorded b (operation prog id (op.Delete key)) None).1
    access_tells prog (access.Push id value flag) = change_tells (helper_refusal (is_live_at b id)) (helper_refused (is_live_at b id)) (recorded b (operation prog id (op.Push value flag)) None).1
    access_tells prog (access.Pop id size) = change_tells (helper_refusal (is_live_at b id)) (helper_refused (is_live_at b id)) (recorded b (operation prog id op.Pop) None).1
    access_tells prog (access.Peek id size) = peek_tells (is_live_at b id) (asked b (question.Map id ToPeek))
    access_tells prog (access.Fetch id index) = fetch_tells id index

    pub step_tells : (refused : Bool) (event : PlainEvent) → AnswerKnows maps (bookstep refused b event).1
    step_tells true (Start device) = tt
    step_tells false (Start device) = start_tells device
    step_tells true (Serve prog it) = want_tells it
    step_tells false (Serve prog it) = access_tells prog it
    step_tells refused _ = tt
