-- Steps of a script and of its batches, one after the other.
use Rattle.std.proofs.Common.{arith, ◌≡◌, ◌==◌, ◌≤◌, ℕ, true, false, inl, inr, List, [], ◌∷◌, ◌++◌, length, refl, sym, ◌∙◌, ap, subst, append_assoc, Option, Some, None, Result, Ok, Err}
use Rattle.std.specs.Prelude.{IfOk}
use Rattle.std.specs.Option.{option_map}
use Rattle.std.specs.Io.KnownBytes.{Appends}
use Rattle.std.proofs.lemmas.Bool.{eqb-true, le-ltb}
use Rattle.bt_mapkind.specs.declared.attr.MapAttr.{MapAttr}
use Rattle.bt_mapkind.specs.Seen.{Seen}
use Rattle.journal_model.specs.Book.{PlainBook}
use Rattle.console_operand.specs.Line.{lines_of}
use Rattle.console_operand.specs.Word.{words}
use Rattle.bt_syntax.specs.Files.{file_at, batch_in}
use Rattle.bt_syntax.specs.Steps.{line_read}
use Rattle.bt_syntax.specs.declared.files.FileText.{FileText}
use Rattle.console_text.specs.Written.{WritesFront, Writes}
use Rattle.console_answer.specs.declared.answer.Answer.{Answer}
use Rattle.console_answer.specs.declared.answer.Answer.TheVariants.{Refused, Processed}
use Rattle.console_answer.specs.declared.fault.Fault.TheVariants.{NoFile}
use Rattle.console_answer.specs.Mishaps.{mishap_of, later, mishap_behind}
use Rattle.console_answer.specs.declared.mishap.Mishap.{Mishap}
use Rattle.console_script.specs.declared.summary.Summary.{Summary}
use Rattle.console_script.specs.declared.tally.Tally.{Tally}
use Rattle.console_script.specs.Tallies.{tallied, mishap_in}
use Rattle.console_script.specs.NoBox.{NoBox}
use Rattle.console_script.specs.Frames.{Console}
use Rattle.console_script.specs.Running.{StepRuns, LeadsOn, StopsAt, LeadsTo}
use Rattle.console_script.specs.Lines.{line_text}
use Rattle.console_script.specs.Supply.{LineRuns}
use Rattle.console_script.specs.Supplied.{AreSupplied}
use Rattle.console_script.specs.Transcript.{counted, lines_behind, accepted_behind, batch_behind, batch_of, Session, session_of, begun, place_of, gone_on, Step, script_line_done, batch_line_done, step_done, after_steps, transcript, AreRight, RanAll, RanTo}
use Rattle.console_script.proofs.Commanded.{course_of}
use Rattle.console_script.proofs.ReadLines.{line_of_nothing}
use Rattle.console_text.proofs.Writing.{append_nil, Appends-then, Appends-nil}

-- ---- the end of a text
pub at_end : (text : List ℕ) → (length text == 0) ≡ true → text ≡ []
at_end [] e = refl
at_end (byte ∷ text) e = let none : length (byte ∷ text) ≡ 0 = eqb-true (length (byte ∷ text)) 0 e in absurd (omega arith)

-- ---- a line without words
pub no_words_read : (line : List ℕ) → length line ≤ 131072 → words line ≡ [] → line_read line ≡ Ok None
no_words_read line short none = rw (le-ltb 131072 (length line) short, none) refl

-- ---- what went wrong last
later_none : (it : Option Mishap) → later None it ≡ it
later_none None = refl
later_none (Some it) = refl

later_assoc : (a b c : Option Mishap) → later a (later b c) ≡ later (later a b) c
later_assoc a b None = refl
later_assoc a b (Some it) = refl

one_later : (before : Option Mishap) (answer : Option Answer) → mishap_behind before answer ≡ later before (mishap_behind None answer)
one_later before None = refl
one_later before (Some it) = ap (later before) (sym (later_none (mishap_of it)))

-- ---- steps after steps
module _ (files : List FileText) where
  pub after-then : (s : Session) (run more : List Step) → after_steps files s (run ++ more) ≡ after_steps files (after_steps files s run) more
  after-then s [] more = refl
  after-then s (it ∷ run) more = after-then (step_done files s it).0 run more

  pub transcript-then : (s : Session) (run more : List Step) → transcript files s (run ++ more) ≡ transcript files s run ++ transcript files (after_steps files s run) more
  transcript-then s [] more = refl
  transcript-then s (it ∷ run) more =
      ap (λ text. line_text (step_done files s it).1 ++ text) (transcript-then (step_done files s it).0 run more)
      ∙ sym (append_assoc (line_text (step_done files s it).1) (transcript files (step_done files s it).0 run) (transcript files (after_steps files (step_done files s it).0 run) more))

  mishap-then : (s : Session) (run more : List Step) → mishap_in files s (run ++ more) ≡ later (mishap_in files s run) (mishap_in files (after_steps files s run) more)
  mishap-then s [] more = sym (later_none (mishap_in files s more))
  mishap-then s (it ∷ run) more =
      ap (later (mishap_behind None (step_done files s it).1)) (mishap-then (step_done files s it).0 run more)
      ∙ later_assoc (mishap_behind None (step_done files s it).1) (mishap_in files (step_done files s it).0 run) (mishap_in files (after_steps files (step_done files s it).0 run) more)

  right-then : (s : Session) (run more : List Step) → AreRight files s run → AreRight files (after_steps files s run) more → AreRight files s (run ++ more)
  right-then s [] more before here = here
  right-then s (it ∷ run) more before here = (before.0, right-then (step_done files s it).0 run more before.1 here)

steps_assoc : (run more : List Step) (last : Step) → run ++ (more ++ last ∷ []) ≡ (run ++ more) ++ last ∷ []
steps_assoc [] more last = refl
steps_assoc (it ∷ run) more last = ap (λ steps. it ∷ steps) (steps_assoc run more last)

text_assoc : (a b c d : List ℕ) → a ++ (b ++ (c ++ d)) ≡ (a ++ b) ++ (c ++ d)
text_assoc a b c d = sym (append_assoc a b (c ++ d))

module _ {S K : Type 0} (gives : S → MapAttr → Result K NoBox → S → Type 0) (seen : K → Seen) where
  supplied-then : (from mid to : S) (run more : List Step) → AreSupplied gives seen from run mid → AreSupplied gives seen mid more to → AreSupplied gives seen from (run ++ more) to
  supplied-then from mid to [] more before here = subst (λ (s : S). AreSupplied gives seen s more to) before here
  supplied-then from mid to (it ∷ run) more before here = (before.0, before.1, supplied-then before.0 mid to run more before.2 here)

  module _ (files : List FileText) where
    pub leads_none : (from : S) (s : Session) (old : Option (List ℕ)) → LeadsOn gives seen files from s old from s old None
    leads_none from s old = record { run = []; boxes = refl; right = tt; wrote = Appends-nil old; is = refl; wrong = refl }

    pub leads_one : (from to : S) (s end : Session) (answer : Option Answer) (old new : Option (List ℕ)) → StepRuns gives seen files from s (end, answer) to → Appends old new (line_text answer) →
        LeadsOn gives seen files from s old to end new (mishap_behind None answer)
    leads_one from to s end answer old new it wrote = record {
      run = it.it ∷ [];
      boxes = (to, it.box, refl);
      right = (it.right, tt);
      wrote = subst (Appends old new) (ap (λ (done : Session × Option Answer). line_text done.1) it.is ∙ sym (append_nil (line_text (step_done files s it.it).1))) wrote;
      is = ap (λ (done : Session × Option Answer). done.0) it.is;
      wrong = ap (λ (done : Session × Option Answer). mishap_behind None done.1) it.is;
    }

    pub stops_one : (from to : S) (s end : Session) (answer : Option Answer) (old new : Option (List ℕ)) → StepRuns gives seen files from s (end, answer) to → WritesFront old new (line_text answer) →
        StopsAt gives seen files from s old to end.console.book new
    stops_one from to s end answer old new it h = record {
      run = [];
      last = it.it;
      boxes = (to, it.box, refl);
      right = (it.right, tt);
      front = h.written;
      unwritten = h.unwritten;
      cut = append_nil (line_text (step_done files s it.it).1) ∙ sym (ap (λ (done : Session × Option Answer). line_text done.1) it.is) ∙ h.cut;
      some_left = h.some_left;
      wrote = h.appends;
      book = ap (λ (done : Session × Option Answer). done.0.console.book) it.is;
    }

    pub leads_then : {a b : Option Mishap} (from mid to : S) (s m end : Session) (old now new : Option (List ℕ)) → LeadsOn gives seen files from s old mid m now a → LeadsOn gives seen files mid m now to end new b →
        LeadsOn gives seen files from s old to end new (later a b)
    leads_then {a} {b} from mid to s m end old now new first second =
        let behind = subst (λ (x : Session). LeadsOn gives seen files mid x now to end new b) first.is second in
        record {
          run = first.run ++ behind.run;
          boxes = supplied-then from mid to first.run behind.run first.boxes behind.boxes;
          right = right-then files s first.run behind.run first.right behind.right;
          wrote = subst (Appends old new) (sym (transcript-then files s first.run behind.run))
              (Appends-then old now new (transcript files s first.run) (transcript files (after_steps files s first.run) behind.run) first.wrote behind.wrote);
          is = behind.is ∙ sym (after-then files s first.run behind.run);
          wrong = ap (λ x. later x b) first.wrong ∙ ap (later (mishap_in files s first.run)) behind.wrong ∙ sym (mishap-then files s first.run behind.run);
        }

    pub stops_then : {a : Option Mishap} (from mid to : S) (s m : Session) (left : PlainBook) (old now new : Option (List ℕ)) → LeadsOn gives seen files from s old mid m now a → StopsAt gives seen files mid m now to left new →
        StopsAt gives seen files from s old to left new
    stops_then from mid to s m left old now new first second =
        let behind = subst (λ (x : Session). StopsAt gives seen files mid x now to left new) first.is second in
        let here : Session = after_steps files s first.run in
        let all = steps_assoc first.run behind.run behind.last in
        record {
          run = first.run ++ behind.run;
          last = behind.last;
          boxes = subst (λ steps. AreSupplied gives seen from steps to) all (supplied-then from mid to first.run (behind.run ++ behind.last ∷ []) first.boxes behind.boxes);
          right = subst (AreRight files s) all (right-then files s first.run (behind.run ++ behind.last ∷ []) first.right behind.right);
          front = behind.front;
          unwritten = behind.unwritten;
          cut = ap (transcript files s) (sym all)
              ∙ transcript-then files s first.run (behind.run ++ behind.last ∷ [])
              ∙ ap (λ text. transcript files s first.run ++ text) behind.cut
              ∙ text_assoc (transcript files s first.run) (transcript files here behind.run) behind.front behind.unwritten
              ∙ ap (λ text. text ++ (behind.front ++ behind.unwritten)) (sym (transcript-then files s first.run behind.run));
          some_left = behind.some_left;
          wrote = subst (λ text. Appends old new (text ++ behind.front)) (sym (transcript-then files s first.run behind.run))
              (subst (Appends old new) (sym (append_assoc (transcript files s first.run) (transcript files here behind.run) behind.front))
              (Appends-then old now new (transcript files s first.run) (transcript files here behind.run ++ behind.front) first.wrote behind.wrote));
          book = behind.book ∙ ap (λ (x : Session). x.console.book) (sym (after-then files s first.run (behind.run ++ behind.last ∷ []))) ∙ ap (λ steps. (after_steps files s steps).console.book) all;
        }

    -- ---- up to where no batch is open
    module _ {E : Type 0} where
      pub leads_to_then : (from mid to : S) (s m : Session) (old now new : Option (List ℕ)) (c : Console) (left : List (List ℕ)) (result : Result Tally E) → LeadsOn gives seen files from s old mid m now None →
          LeadsTo gives seen files mid m now to c left new result → LeadsTo gives seen files from s old to c left new result
      leads_to_then from mid to s m old now new c left (Ok tally) first second =
          subst (LeadsOn gives seen files from s old to (session_of c tally.summary left None) new) (later_none tally.mishap)
          (leads_then from mid to s m (session_of c tally.summary left None) old now new first second)
      leads_to_then from mid to s m old now new c left (Err fault) first second = stops_then from mid to s m c.book old now new first second

      -- one step
      pub step_to : (from to : S) (s : Session) (old new : Option (List ℕ)) (c : Console) (left : List (List ℕ)) (tally : Tally) (answer : Option Answer) (result : Result Tally E) →
          StepRuns gives seen files from s (session_of c tally.summary left None, answer) to → tally.mishap ≡ mishap_behind None answer → Writes old new result (line_text answer) → IfOk result (λ told. told ≡ tally) →
          LeadsTo gives seen files from s old to c left new result
      step_to from to s old new c left tally answer (Ok told) it wrong wrote tallied_is =
          subst (λ (x : Tally). LeadsOn gives seen files from s old to (session_of c x.summary left None) new x.mishap) (sym tallied_is)
          (subst (LeadsOn gives seen files from s old to (session_of c tally.summary left None) new) (sym wrong) (leads_one from to s (session_of c tally.summary left None) answer old new it wrote))
      step_to from to s old new c left tally answer (Err fault) it wrong wrote tallied_is = stops_one from to s (session_of c tally.summary left None) answer old new it wrote

    -- ---- the steps
    module _ (from : S) (c : Console) (summary : Summary) (left : List (List ℕ)) where
      -- the end of a batch
      pub batch_ended : (accepted : ℕ) → StepRuns gives seen files from (session_of c summary left (Some (record { left = []; accepted = accepted }))) (session_of c summary left None, Some (Processed accepted)) from
      batch_ended accepted = record {
        it = record { line = None; course = course_of false; blank = None };
        box = inl (record { none = refl; same = refl });
        right = record { next = refl; right = tt };
        is = refl;
      }

      -- a step that takes no memory and no box
      abbrev pub plain : List ℕ → Step
      plain line = record { line = Some line; course = course_of true; blank = None }

      -- a line of the script whose batch is not at hand
      pub batch_missing : (line path : List ℕ) → Some path ≡ batch_in (line_read line) → None ≡ file_at files path →
          StepRuns gives seen files from (session_of c summary (line ∷ left) None) (session_of c (counted summary (Some (Refused NoFile))) left None, Some (Refused NoFile)) from
      batch_missing line path is none = record {
        it = plain line;
        box = inr (record { refused = refl; box = record { none = refl; same = refl } });
        right = record { next = refl; right = tt };
        is = ap (script_line_done files (session_of c summary (line ∷ left) None) (plain line) line left) (ap Some none ∙ ap (option_map (file_at files)) is);
      }

      -- one whose batch begins
      pub batch_begins : (line path text : List ℕ) → Some path ≡ batch_in (line_read line) → Some text ≡ file_at files path →
          StepRuns gives seen files from (session_of c summary (line ∷ left) None) (session_of c summary left (Some (batch_of (lines_of text))), None) from
      batch_begins line path text is some = record {
        it = plain line;
        box = inr (record { refused = refl; box = record { none = refl; same = refl } });
        right = record { next = refl; right = tt };
        is = ap (script_line_done files (session_of c summary (line ∷ left) None) (plain line) line left) (ap Some some ∙ ap (option_map (file_at files)) is);
      }

      module _ (to : S) (line : List ℕ) (then_c : Console) (answer : Option Answer) (it : LineRuns gives seen files c from line (then_c, answer) to) where
        abbrev given : Step
        given = record { line = Some line; course = it.course; blank = it.blank }

        -- a line of the script that runs no batch
        pub script_line : None ≡ batch_in (line_read line) →
            StepRuns gives seen files from (session_of c summary (line ∷ left) None) (session_of then_c (counted summary answer) left None, answer) to
        script_line none =
            let at : Session = session_of c summary (line ∷ left) None in
            record {
              it = given;
              box = it.box;
              right = record { next = refl; right = it.holds };
              is = ap (gone_on at (place_of left None)) it.is ∙ ap (script_line_done files at given line left) (ap (option_map (file_at files)) none);
            }

        -- a line of a batch
        pub batch_line : (lines : List (List ℕ)) (accepted : ℕ) →
            StepRuns gives seen files from (session_of c summary left (Some (record { left = line ∷ lines; accepted = accepted })))
            (session_of then_c (counted summary answer) left (Some (batch_behind lines accepted answer)), answer) to
        batch_line lines accepted = record {
          it = given;
          box = it.box;
          right = record { next = refl; right = it.holds };
          is = ap (batch_line_done (session_of c summary left (Some (record { left = line ∷ lines; accepted = accepted }))) left lines accepted) it.is;
        }

      -- a line of the script without words
      pub wordless_line : (line : List ℕ) → line_read line ≡ Ok None → StepRuns gives seen files from (session_of c summary (line ∷ left) None) (session_of c summary left None, None) from
      wordless_line line read = script_line from line c None (line_of_nothing gives seen c from from files line read) (ap batch_in (sym read))

  -- ---- a batch
  -- after some steps, a batch is open in which these lines are left
  module _ (files : List FileText) (from now to : S) (start : Session) (old mid new : Option (List ℕ)) (c : Console) (tally : Tally) (left : List (List ℕ)) (rest : List ℕ) (accepted : ℕ)
      (so : LeadsOn gives seen files from start old now (session_of c tally.summary left (Some (record { left = lines_of rest; accepted = accepted }))) mid tally.mishap) where
    -- a line of it
    module _ (line after : List ℕ) (then_c : Console) (answer : Option Answer) (first : lines_of rest ≡ line ∷ lines_of after) (it : LineRuns gives seen files c now line (then_c, answer) to) where
      its_step : StepRuns gives seen files now (session_of c tally.summary left (Some (record { left = lines_of rest; accepted = accepted })))
          (session_of then_c (counted tally.summary answer) left (Some (batch_behind (lines_of after) accepted answer)), answer) to
      its_step =
          subst (λ lines. StepRuns gives seen files now (session_of c tally.summary left (Some (record { left = lines; accepted = accepted })))
          (session_of then_c (counted tally.summary answer) left (Some (batch_behind (lines_of after) accepted answer)), answer) to) (sym first)
          (batch_line files now c tally.summary left to line then_c answer it (lines_of after) accepted)

      pub batch_more : (behind : List ℕ) (n : ℕ) (next : Tally) → lines_of behind ≡ lines_behind (lines_of after) answer → n ≡ accepted_behind accepted answer → next ≡ tallied tally answer →
          Appends mid new (line_text answer) → LeadsOn gives seen files from start old to (session_of then_c next.summary left (Some (record { left = lines_of behind; accepted = n }))) new next.mishap
      batch_more behind n next lines_are n_is next_is wrote =
          let open_batch : Session = session_of c tally.summary left (Some (record { left = lines_of rest; accepted = accepted })) in
          let end : Session = session_of then_c (counted tally.summary answer) left (Some (batch_behind (lines_of after) accepted answer)) in
          subst (λ (x : Tally). LeadsOn gives seen files from start old to (session_of then_c x.summary left (Some (record { left = lines_of behind; accepted = n }))) new x.mishap) (sym next_is)
          (subst (λ (x : ℕ). LeadsOn gives seen files from start old to (session_of then_c (counted tally.summary answer) left (Some (record { left = lines_of behind; accepted = x }))) new (mishap_behind tally.mishap answer)) (sym n_is)
          (subst (λ (x : List (List ℕ)). LeadsOn gives seen files from start old to (session_of then_c (counted tally.summary answer) left (Some (record { left = x; accepted = accepted_behind accepted answer }))) new (mishap_behind tally.mishap answer)) (sym lines_are)
          (subst (LeadsOn gives seen files from start old to end new) (sym (one_later tally.mishap answer))
          (leads_then files from now to start open_batch end old mid new so (leads_one files now to open_batch end answer mid new its_step wrote)))))

      pub batch_failed : WritesFront mid new (line_text answer) → StopsAt gives seen files from start old to then_c.book new
      batch_failed wrote =
          let open_batch : Session = session_of c tally.summary left (Some (record { left = lines_of rest; accepted = accepted })) in
          let end : Session = session_of then_c (counted tally.summary answer) left (Some (batch_behind (lines_of after) accepted answer)) in
          stops_then files from now to start open_batch then_c.book old mid new so (stops_one files now to open_batch end answer mid new its_step wrote)

    -- and its end
    over : rest ≡ [] → LeadsOn gives seen files from start old now (session_of c tally.summary left (Some (record { left = []; accepted = accepted }))) mid tally.mishap
    over end = subst (λ text. LeadsOn gives seen files from start old now (session_of c tally.summary left (Some (record { left = lines_of text; accepted = accepted }))) mid tally.mishap) end so

    pub batch_over : {E : Type 0} (result : Result Tally E) → rest ≡ [] → Writes mid new result (line_text (Some (Processed accepted))) → IfOk result (λ told. told ≡ tallied tally (Some (Processed accepted))) →
        LeadsTo gives seen files from start old now c left new result
    batch_over (Ok told) end wrote told_is =
        let empty : Session = session_of c tally.summary left (Some (record { left = []; accepted = accepted })) in
        let closed : Session = session_of c tally.summary left None in
        subst (λ (x : Tally). LeadsOn gives seen files from start old now (session_of c x.summary left None) new x.mishap) (sym told_is)
        (leads_then files from now now start empty closed old mid new (over end)
        (leads_one files now now empty closed (Some (Processed accepted)) mid new (batch_ended files now c tally.summary left accepted) wrote))
    batch_over (Err fault) end wrote told_is =
        let empty : Session = session_of c tally.summary left (Some (record { left = []; accepted = accepted })) in
        let closed : Session = session_of c tally.summary left None in
        stops_then files from now now start empty c.book old mid new (over end)
        (stops_one files now now empty closed (Some (Processed accepted)) mid new (batch_ended files now c tally.summary left accepted) wrote)

  -- ---- a script
  -- after some steps, these lines of the script are left and no batch is open
  module _ (files : List FileText) {a : Option Mishap} (from now to : S) (start : Session) (old mid new : Option (List ℕ)) (c then_c : Console) (summary : Summary) (rest line after : List ℕ)
      (so : LeadsOn gives seen files from start old now (session_of c summary (lines_of rest) None) mid a) (first : lines_of rest ≡ line ∷ lines_of after) where
    so_far : LeadsOn gives seen files from start old now (session_of c summary (line ∷ lines_of after) None) mid a
    so_far = subst (λ lines. LeadsOn gives seen files from start old now (session_of c summary lines None) mid a) first so

    pub script_more : {b : Option Mishap} (counts : Summary) → LeadsOn gives seen files now (session_of c summary (line ∷ lines_of after) None) mid to (session_of then_c counts (lines_of after) None) new b →
        LeadsOn gives seen files from start old to (session_of then_c counts (lines_of after) None) new (later a b)
    script_more counts it = leads_then files from now to start (session_of c summary (line ∷ lines_of after) None) (session_of then_c counts (lines_of after) None) old mid new so_far it

    pub script_failed : StopsAt gives seen files now (session_of c summary (line ∷ lines_of after) None) mid to then_c.book new → StopsAt gives seen files from start old to then_c.book new
    script_failed it = stops_then files from now to start (session_of c summary (line ∷ lines_of after) None) then_c.book old mid new so_far it

  module _ (files : List FileText) (from to : S) (old new : Option (List ℕ)) (b : PlainBook) (script : List ℕ) where
    -- all lines are run
    pub ran_all : {a : Option Mishap} (rest : List ℕ) (left : Console) (summary : Summary) → LeadsOn gives seen files from (begun b (lines_of script)) old to (session_of left summary (lines_of rest) None) new a → rest ≡ [] →
        RanAll old new b (λ run. AreSupplied gives seen from run to) files script left.book summary
    ran_all rest left summary it end = record {
      run = it.run;
      boxes = it.boxes;
      right = it.right;
      all = ap (λ (s : Session). s.place) (sym it.is) ∙ ap (λ text. place_of (lines_of text) None) end;
      written = it.wrote;
      book = ap (λ (s : Session). s.console.book) it.is;
      counts = ap (λ (s : Session). s.summary) it.is;
    }

    pub ran_to : (left : PlainBook) → StopsAt gives seen files from (begun b (lines_of script)) old to left new → RanTo old new b (λ run. AreSupplied gives seen from run to) files script left
    ran_to left it = record {
      run = it.run;
      last = it.last;
      boxes = it.boxes;
      right = it.right;
      front = it.front;
      unwritten = it.unwritten;
      cut = it.cut;
      some_left = it.some_left;
      written = it.wrote;
      book = it.book;
    }
