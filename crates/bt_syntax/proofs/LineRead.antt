-- A line: what is spelled is read, what is read is spelled, and where it goes wrong.
use Rattle.std.proofs.Common.{◌≡◌, ℕ, ◌+◌, ◌-◌, List, [], ◌∷◌, ◌++◌, take, refl, sym, ◌∙◌, ap, subst, arith, suc, Option, Some, None, IsSome, Result, Ok, Err}
use Rattle.std.specs.Prelude.{codes, IfOk, IfSome, IsNone, ◌↔◌}
use Rattle.std.specs.Option.{option_map}
use Rattle.console_operand.specs.Word.{spelled_by}
use Rattle.console_operand.specs.Automaton.{read, outcome}
use Rattle.console_map_syntax.specs.MapSteps.{map_step, map_finish}
use Rattle.bt_syntax.specs.ProgSteps.{prog_step, prog_finish}
use Rattle.bt_syntax.specs.NetSteps.{net_step, net_finish}
use Rattle.bt_syntax.specs.BatchSteps.{batch_step, batch_finish}
use Rattle.bt_syntax.specs.UnpinSteps.{unpin_step, unpin_finish}
use Rattle.bt_syntax.specs.FrameSteps.{frame_step, frame_finish}
use Rattle.bt_syntax.specs.RunSteps.{run_step, run_finish}
use Rattle.bt_syntax.specs.JournalSteps.{journal_step, journal_finish}
use Rattle.bt_syntax.specs.Grammar.{Spells, map, prog, net, batch, unpin, frame, run, journal, Begins, IsFault, IfAt}
use Rattle.bt_syntax.specs.Steps.{family_word, families, after_family, step, finish, told, words_read, Answers}
use Rattle.console_map_syntax.specs.declared.state.MapState.{MapState}
use Rattle.console_map_syntax.specs.declared.state.MapState.TheVariants as m
use Rattle.bt_syntax.specs.declared.prog.state.ProgState.{ProgState}
use Rattle.bt_syntax.specs.declared.prog.state.ProgState.TheVariants as p
use Rattle.bt_syntax.specs.declared.net.state.NetState.{NetState}
use Rattle.bt_syntax.specs.declared.net.state.NetState.TheVariants as n
use Rattle.bt_syntax.specs.declared.batch.BatchState.{BatchState}
use Rattle.bt_syntax.specs.declared.batch.BatchState.TheVariants as b
use Rattle.bt_syntax.specs.declared.unpin.UnpinState.{UnpinState}
use Rattle.bt_syntax.specs.declared.unpin.UnpinState.TheVariants as u
use Rattle.bt_syntax.specs.declared.frame.FrameState.{FrameState}
use Rattle.bt_syntax.specs.declared.frame.FrameState.TheVariants as f
use Rattle.bt_syntax.specs.declared.run.RunState.{RunState}
use Rattle.bt_syntax.specs.declared.run.RunState.TheVariants as r
use Rattle.bt_syntax.specs.declared.journal.JournalState.{JournalState}
use Rattle.bt_syntax.specs.declared.journal.JournalState.TheVariants as j
use Rattle.bt_syntax.specs.declared.command.Command.{Command}
use Rattle.bt_syntax.specs.declared.command.Command.TheVariants as c
use Rattle.bt_syntax.specs.declared.command.Family.{Family}
use Rattle.bt_syntax.specs.declared.command.Family.TheVariants as family
use Rattle.bt_syntax.specs.declared.command.State.{State}
use Rattle.bt_syntax.specs.declared.command.State.TheVariants as s
use Rattle.bt_syntax.specs.declared.fault.SyntaxFault.{SyntaxFault}
use Rattle.bt_syntax.specs.declared.fault.SyntaxFault.TheVariants as fault
use Rattle.console_operand.proofs.Reading.{spelled_is, gone_on_by, map_some, some_map, read_within}
use Rattle.bt_syntax.proofs.Least.{Refuses, refuses, found, nothing}
use Rattle.console_map_syntax.proofs.MapRead.{map_read, map_spelled, map_end, map_ends}
use Rattle.bt_syntax.proofs.ProgRead.{prog_read, prog_spelled, prog_end, prog_ends}
use Rattle.bt_syntax.proofs.NetRead.{net_read, net_spelled, net_end, net_ends}
use Rattle.bt_syntax.proofs.BatchRead.{batch_spelled, batch_end, batch_ends}
use Rattle.bt_syntax.proofs.UnpinRead.{unpin_spelled, unpin_end, unpin_ends}
use Rattle.bt_syntax.proofs.FrameRead.{frame_read, frame_spelled, frame_end, frame_ends}
use Rattle.bt_syntax.proofs.RunRead.{run_read, run_spelled, run_end, run_ends}
use Rattle.bt_syntax.proofs.JournalRead.{journal_read, journal_spelled, journal_end, journal_ends}

abbrev reads : State → List (List ℕ) → Option Command
reads state words = read step finish state words

pub of_map : (state : MapState) (words : List (List ℕ)) → reads (s.Map state) words ≡ option_map c.Map (read map_step map_finish state words)
of_map state words = read_within map_step map_finish step finish s.Map c.Map (λ x w. refl) (λ x. refl) state words

of_prog : (state : ProgState) (words : List (List ℕ)) → reads (s.Prog state) words ≡ option_map c.Prog (read prog_step prog_finish state words)
of_prog state words = read_within prog_step prog_finish step finish s.Prog c.Prog (λ x w. refl) (λ x. refl) state words

of_net : (state : NetState) (words : List (List ℕ)) → reads (s.Net state) words ≡ option_map c.Net (read net_step net_finish state words)
of_net state words = read_within net_step net_finish step finish s.Net c.Net (λ x w. refl) (λ x. refl) state words

of_batch : (state : BatchState) (words : List (List ℕ)) → reads (s.Batch state) words ≡ option_map c.Batch (read batch_step batch_finish state words)
of_batch state words = read_within batch_step batch_finish step finish s.Batch c.Batch (λ x w. refl) (λ x. refl) state words

of_unpin : (state : UnpinState) (words : List (List ℕ)) → reads (s.Unpin state) words ≡ option_map c.Unpin (read unpin_step unpin_finish state words)
of_unpin state words = read_within unpin_step unpin_finish step finish s.Unpin c.Unpin (λ x w. refl) (λ x. refl) state words

of_frame : (state : FrameState) (words : List (List ℕ)) → reads (s.Frame state) words ≡ option_map c.Frame (read frame_step frame_finish state words)
of_frame state words = read_within frame_step frame_finish step finish s.Frame c.Frame (λ x w. refl) (λ x. refl) state words

of_run : (state : RunState) (words : List (List ℕ)) → reads (s.Run state) words ≡ option_map c.Run (read run_step run_finish state words)
of_run state words = read_within run_step run_finish step finish s.Run c.Run (λ x w. refl) (λ x. refl) state words

of_journal : (state : JournalState) (words : List (List ℕ)) → reads (s.Journal state) words ≡ option_map c.Journal (read journal_step journal_finish state words)
of_journal state words = read_within journal_step journal_finish step finish s.Journal c.Journal (λ x w. refl) (λ x. refl) state words

-- what is spelled is read
pub spelled_is_read : {words : List (List ℕ)} {command : Command} → Spells words command → reads s.Start words ≡ Some command
spelled_is_read (map {words} it) = of_map m.Verb words ∙ ap (option_map c.Map) (map_read it)
spelled_is_read (prog {words} it) = of_prog p.Verb words ∙ ap (option_map c.Prog) (prog_read it)
spelled_is_read (net {words} it) = of_net n.Verb words ∙ ap (option_map c.Net) (net_read it)
spelled_is_read batch = refl
spelled_is_read unpin = refl
spelled_is_read (frame {words} it) = of_frame f.Dev words ∙ ap (option_map c.Frame) (frame_read it)
spelled_is_read (run {words} it) = of_run r.Verb words ∙ ap (option_map c.Run) (run_read it)
spelled_is_read (journal {words} it) = of_journal j.Verb words ∙ ap (option_map c.Journal) (journal_read it)

family_spelled : (f : Family) (words : List (List ℕ)) (command : Command) → reads (after_family f) words ≡ Some command → Spells (family_word f ∷ words) command
family_spelled family.Map words command h =
    map_some (read map_step map_finish m.Verb words) c.Map command (λ x e is. subst (Spells (codes "map" ∷ words)) is (map (map_spelled words x e))) (sym (of_map m.Verb words) ∙ h)
family_spelled family.Prog words command h =
    map_some (read prog_step prog_finish p.Verb words) c.Prog command (λ x e is. subst (Spells (codes "prog" ∷ words)) is (prog (prog_spelled words x e))) (sym (of_prog p.Verb words) ∙ h)
family_spelled family.Net words command h =
    map_some (read net_step net_finish n.Verb words) c.Net command (λ x e is. subst (Spells (codes "net" ∷ words)) is (net (net_spelled words x e))) (sym (of_net n.Verb words) ∙ h)
family_spelled family.Batch words command h =
    map_some (read batch_step batch_finish b.File words) c.Batch command (λ path e is.
    subst (λ all. Spells (codes "batch" ∷ all) command) (sym (batch_spelled words path e)) (subst (Spells (codes "batch" ∷ codes "file" ∷ path ∷ [])) is batch)) (sym (of_batch b.File words) ∙ h)
family_spelled family.Unpin words command h =
    map_some (read unpin_step unpin_finish u.Path words) c.Unpin command (λ path e is.
    subst (λ all. Spells (codes "unpin" ∷ all) command) (sym (unpin_spelled words path e)) (subst (Spells (codes "unpin" ∷ path ∷ [])) is unpin)) (sym (of_unpin u.Path words) ∙ h)
family_spelled family.Frame words command h =
    map_some (read frame_step frame_finish f.Dev words) c.Frame command (λ x e is. subst (Spells (codes "frame" ∷ words)) is (frame (frame_spelled words x e))) (sym (of_frame f.Dev words) ∙ h)
family_spelled family.Run words command h =
    map_some (read run_step run_finish r.Verb words) c.Run command (λ x e is. subst (Spells (codes "run" ∷ words)) is (run (run_spelled words x e))) (sym (of_run r.Verb words) ∙ h)
family_spelled family.Journal words command h =
    map_some (read journal_step journal_finish j.Verb words) c.Journal command (λ x e is. subst (Spells (codes "journal" ∷ words)) is (journal (journal_spelled words x e))) (sym (of_journal j.Verb words) ∙ h)

-- what is read is spelled
pub read_is_spelled : (words : List (List ℕ)) (command : Command) → reads s.Start words ≡ Some command → Spells words command
read_is_spelled [] command h = cc
read_is_spelled (word ∷ words) command h =
    gone_on_by (spelled_by family_word families word) after_family (λ next. reads next words) command (λ f at e.
    subst (λ first. Spells (first ∷ words) command) (sym (spelled_is family_word families word f at)) (family_spelled f words command e)) h

abbrev end_of : State → List (List ℕ)
end_of s.Start = codes "journal" ∷ codes "undo" ∷ []
end_of (s.Map state) = map_end state
end_of (s.Prog state) = prog_end state
end_of (s.Net state) = net_end state
end_of (s.Batch state) = batch_end state
end_of (s.Unpin state) = unpin_end state
end_of (s.Frame state) = frame_end state
end_of (s.Run state) = run_end state
end_of (s.Journal state) = journal_end state

-- the law: each state has words after it that are accepted
ends : (state : State) → IsSome (reads state (end_of state))
ends s.Start = refl
ends (s.Map state) = subst (λ o. IsSome o) (sym (of_map state (map_end state))) (some_map c.Map (read map_step map_finish state (map_end state)) (map_ends state))
ends (s.Prog state) = subst (λ o. IsSome o) (sym (of_prog state (prog_end state))) (some_map c.Prog (read prog_step prog_finish state (prog_end state)) (prog_ends state))
ends (s.Net state) = subst (λ o. IsSome o) (sym (of_net state (net_end state))) (some_map c.Net (read net_step net_finish state (net_end state)) (net_ends state))
ends (s.Batch state) = subst (λ o. IsSome o) (sym (of_batch state (batch_end state))) (some_map c.Batch (read batch_step batch_finish state (batch_end state)) (batch_ends state))
ends (s.Unpin state) = subst (λ o. IsSome o) (sym (of_unpin state (unpin_end state))) (some_map c.Unpin (read unpin_step unpin_finish state (unpin_end state)) (unpin_ends state))
ends (s.Frame state) = subst (λ o. IsSome o) (sym (of_frame state (frame_end state))) (some_map c.Frame (read frame_step frame_finish state (frame_end state)) (frame_ends state))
ends (s.Run state) = subst (λ o. IsSome o) (sym (of_run state (run_end state))) (some_map c.Run (read run_step run_finish state (run_end state)) (run_ends state))
ends (s.Journal state) = subst (λ o. IsSome o) (sym (of_journal state (journal_end state))) (some_map c.Journal (read journal_step journal_finish state (journal_end state)) (journal_ends state))

is_some : (o : Option Command) → IsSome o → (command : Command) × (o ≡ Some command)
is_some None h = cc
is_some (Some command) h = (command, refl)

fault_at : (words : List (List ℕ)) (n : ℕ) → Refuses step finish s.Start words n → IsFault words (suc n)
fault_at words n it =
    let there = is_some (reads s.Start (take n words ++ it.before.0)) it.before.1 in
    let same : n ≡ suc n - 1 = omega arith in
    record {
      some = omega arith;
      within = omega (arith, it.within);
      before = subst (λ k. Begins (take k words)) same (it.before.0, there.0, read_is_spelled (take n words ++ it.before.0) there.0 there.1);
      none = λ below begins.
          let dead = it.stops (omega arith) begins.0 in
          let alive = spelled_is_read begins.2 in
          cc;
      refused = λ command line. let alive = spelled_is_read line in let dead = it.refused in cc;
    }

-- what is refused is not read
pub refused_at : (words : List (List ℕ)) (k : ℕ) → outcome step finish s.Start 0 words ≡ Err k → reads s.Start words ≡ None
refused_at words k h = let it : Refuses step finish s.Start words _ = (refuses step finish end_of ends s.Start 0 words k h).2 in it.refused

-- what words come to
is_told : (o : Result (Option Command) ℕ) (r : Result (Option Command) SyntaxFault) → Answers r (told o) → (x : Option Command) → r ≡ Ok x → o ≡ Ok x
is_told (Ok y) (Ok z) h x e = cc
is_told (Ok y) (Err f) h x e = cc
is_told (Err k) (Ok z) h x e = cc
is_told (Err k) (Err f) h x e = cc

pub told_command : (r : Result (Option Command) SyntaxFault) (words : List (List ℕ)) → Answers r (words_read words) → IfOk r (λ x. IfSome x (Spells words))
told_command (Ok None) words h = tt
told_command (Ok (Some command)) words h =
    read_is_spelled words command (found step finish s.Start 0 words command (is_told (outcome step finish s.Start 0 words) (Ok (Some command)) h (Some command) refl))
told_command (Err e) words h = tt

pub told_empty : (r : Result (Option Command) SyntaxFault) (words : List (List ℕ)) → Answers r (words_read words) → IfOk r (λ x. IsNone x ↔ (words ≡ []))
told_empty (Ok None) words h = (λ _. (nothing step finish s.Start 0 words (is_told (outcome step finish s.Start 0 words) (Ok None) h None refl)).1, λ _. refl)
told_empty (Ok (Some command)) words h = (λ none. cc, λ e. let nothing_there : Ok (Some command) ≡ words_read [] = subst (λ w. Ok (Some command) ≡ words_read w) e h in cc)
told_empty (Err e) words h = tt

pub told_fault : (r : Result (Option Command) SyntaxFault) (words : List (List ℕ)) → Answers r (words_read words) → IfAt r (IsFault words)
told_fault (Ok x) words h = tt
told_fault (Err fault.NoMemory) words h = tt
told_fault (Err fault.TooLong) words h = tt
told_fault (Err (fault.At k)) words h =
    let it = refuses step finish end_of ends s.Start 0 words k (at (outcome step finish s.Start 0 words) h) in
    subst (IsFault words) (sym (it.1 ∙ zero_plus (suc it.0))) (fault_at words it.0 it.2)
  where
    at : (o : Result (Option Command) ℕ) → Err (fault.At k) ≡ told o → o ≡ Err k
    at (Ok x) e = cc
    at (Err other) e = cc

    zero_plus : (n : ℕ) → 0 + n ≡ n
    zero_plus n = omega arith

pub told_only : (r : Result (Option Command) SyntaxFault) (words : List (List ℕ)) → Answers r (words_read words) → (command : Command) → Spells words command → Answers r (Ok (Some command))
told_only (Ok None) words h command line =
    let none = (told_empty (Ok None) words h).0 refl in
    let no : reads s.Start [] ≡ Some command = subst (λ w. reads s.Start w ≡ Some command) none (spelled_is_read line) in
    cc
told_only (Ok (Some other)) words h command line =
    let is = found step finish s.Start 0 words other (is_told (outcome step finish s.Start 0 words) (Ok (Some other)) h (Some other) refl) in
    ap Ok (sym is ∙ spelled_is_read line)
told_only (Err fault.NoMemory) words h command line = tt
told_only (Err fault.TooLong) words h command line = absurd (not_told (outcome step finish s.Start 0 words) h)
  where
    not_told : (o : Result (Option Command) ℕ) → Err fault.TooLong ≡ told o → ⊥
    not_told (Ok x) e = cc
    not_told (Err k) e = cc
told_only (Err (fault.At k)) words h command line = let it = told_fault (Err (fault.At k)) words h in absurd (it.refused command line)
