-- Where lines on a kept book stand: what is on the disk and written, and what is held back.
use Rattle.std.proofs.Common.{◌≡◌, ◌⊎◌, inl, inr, ℕ, List, [], ◌∷◌, ◌++◌, Option, Some, None, Result, refl, sym, ap, subst, ◌∙◌}
use Rattle.std.specs.Io.KnownBytes.{Appends, Keeps}
use Rattle.std.proofs.KnownBytes.{Appends-kept}
use Rattle.bt_mapkind.specs.declared.attr.MapAttr.{MapAttr}
use Rattle.bt_mapkind.specs.Seen.{Seen}
use Rattle.sqlite.specs.State.{State, HasCleanDisk}
use Rattle.journal_model.specs.Book.{PlainBook}
use Rattle.console_operand.specs.Line.{lines_of}
use Rattle.bt_syntax.specs.declared.files.FileText.{FileText}
use Rattle.console_answer.specs.declared.mishap.Mishap.{Mishap}
use Rattle.console_answer.specs.Mishaps.{later}
use Rattle.console_text.specs.Written.{WritesFront}
use Rattle.console_script.specs.NoBox.{NoBox}
use Rattle.console_script.specs.Frames.{Console}
use Rattle.console_script.specs.declared.summary.Summary.{Summary}
use Rattle.console_script.specs.Running.{LeadsOn}
use Rattle.console_script.specs.Transcript.{Session, session_of, after_steps, transcript, AreRight}
use Rattle.console_script.proofs.StepRuns.{leads_none, leads_then}
use Rattle.kept_event.specs.declared.event.KeptEvent.{KeptEvent}
use Rattle.kept_book.specs.Leading.{LeadTo}
use Rattle.kept_book.proofs.LeadLemmas.{lead_on}
use Rattle.kept_ledger.specs.TermsView.{PlainTerms}
use Rattle.kept_file.specs.declared.fault.KeepFault.{KeepFault}
use Rattle.kept_lines.specs.declared.fault.LinesFault.{LinesFault}
use Rattle.kept_lines.specs.declared.fault.LinesFault.TheVariants.{CannotKeep, Write}
use Rattle.kept_lines.specs.Noting.{LeadsFurther}
use Rattle.kept_lines.specs.Kept.{IsOnDisk, IsCut, IsFlushed, IsHeld, IsLost, Stops}

-- nothing more was written after it
pub flushed_kept : (old new : State) (out_old mid out_new : Option (List ℕ)) (events left : List KeptEvent) (text text_left : List ℕ) → IsFlushed old new out_old mid events left text text_left → Keeps mid out_new
    → IsFlushed old new out_old out_new events left text text_left
flushed_kept old new out_old mid out_new events left text text_left it kept = record {
  clean = it.clean;
  kept = it.kept;
  written = Appends-kept out_old mid out_new text it.written kept;
  no_events = it.no_events;
  no_text = it.no_text;
}

-- some steps are on the disk and answered; of those after them the events and the texts are held back
pub record Standing {S K : Type 0} (gives : S → MapAttr → Result K NoBox → S → Type 0) (seen : K → Seen) (files : List FileText) (from : S) (opening : Session) (old : Option (List ℕ)) (start : State)
    (now : Option (List ℕ)) (events : List KeptEvent) (text : List ℕ) (to : S) (end : Session) (cur : State) : Type 0 where
  pub mid : S
  pub s : Session
  pub a : Option Mishap
  pub m : Option Mishap
  pub front : LeadsOn gives seen files from opening old mid s now a
  pub group : LeadsOn gives seen files mid s (Some []) to end (Some text) m
  pub leads : LeadTo s.console.book events end.console.book
  pub clean : HasCleanDisk cur → HasCleanDisk start
  pub disk : HasCleanDisk cur → (t : PlainTerms) → IsOnDisk t start opening.console.book → IsOnDisk t cur s.console.book

module _ {S K : Type 0} (gives : S → MapAttr → Result K NoBox → S → Type 0) (seen : K → Seen) (files : List FileText) (from : S) (opening : Session) (old : Option (List ℕ)) (start : State) where
  pub begins : (events : List KeptEvent) (text : List ℕ) → events ≡ [] → text ≡ [] → Standing gives seen files from opening old start old events text from opening start
  begins events text none nothing = record {
    mid = from;
    s = opening;
    a = None;
    m = None;
    front = leads_none gives seen files from opening old;
    group = subst (λ t. LeadsOn gives seen files from opening (Some []) from opening (Some t) None) (sym nothing) (leads_none gives seen files from opening (Some []));
    leads = subst (λ es. LeadTo opening.console.book es opening.console.book) (sym none) refl;
    clean = λ clean. clean;
    disk = λ clean t is. is;
  }

  module _ (now : Option (List ℕ)) (events : List KeptEvent) (text : List ℕ) (at : S) (end : Session) (cur : State) (was : Standing gives seen files from opening old start now events text at end cur) where
    -- more steps, whose events and texts are held back as well
    pub stands_more : {n : Option Mishap} (to : S) (further : Session) (more_events : List KeptEvent) (more_text : List ℕ) → LeadsOn gives seen files at end (Some text) to further (Some more_text) n
        → LeadsFurther end.console.book events further.console.book more_events → Standing gives seen files from opening old start now more_events more_text to further cur
    stands_more to further more_events more_text it noted = record {
      mid = was.mid;
      s = was.s;
      a = was.a;
      m = _;
      front = was.front;
      group = leads_then gives seen files was.mid at to was.s end further (Some []) (Some text) (Some more_text) was.group it;
      leads = subst (λ es. LeadTo was.s.console.book es further.console.book) (sym noted.1) (lead_on was.s.console.book end.console.book further.console.book events noted.0 was.leads noted.2);
      clean = was.clean;
      disk = was.disk;
    }

    -- the steps that were held back, as they are written
    module _ (next : Option (List ℕ)) (cur2 : State) (left : List KeptEvent) (text_left : List ℕ) (flushed : IsFlushed cur cur2 now next events left text text_left) where
      group_written : LeadsOn gives seen files was.mid was.s now at end next was.m
      group_written = record {
        run = was.group.run;
        boxes = was.group.boxes;
        right = was.group.right;
        wrote = subst (Appends now next) was.group.wrote flushed.written;
        is = was.group.is;
        wrong = was.group.wrong;
      }

      pub all_written : LeadsOn gives seen files from opening old at end next (later was.a was.m)
      all_written = leads_then gives seen files from was.mid at opening was.s end old now next was.front group_written

      pub all_clean : HasCleanDisk cur2 → HasCleanDisk start
      all_clean clean = was.clean (flushed.clean clean)

      pub all_kept : HasCleanDisk cur2 → (t : PlainTerms) → IsOnDisk t start opening.console.book → IsOnDisk t cur2 end.console.book
      all_kept clean t is = flushed.kept clean t was.s.console.book end.console.book (was.disk (flushed.clean clean) t is) was.leads

      pub stands_flushed : Standing gives seen files from opening old start next left text_left at end cur2
      stands_flushed = record {
        mid = at;
        s = end;
        a = later was.a was.m;
        m = None;
        front = all_written;
        group = subst (λ t. LeadsOn gives seen files at end (Some []) at end (Some t) None) (sym flushed.no_text) (leads_none gives seen files at end (Some []));
        leads = subst (λ es. LeadTo end.console.book es end.console.book) (sym flushed.no_events) refl;
        clean = all_clean;
        disk = all_kept;
      }

    pub stands_held : (next : Option (List ℕ)) (cur2 : State) (left : List KeptEvent) (text_left : List ℕ)
        → IsHeld cur cur2 now next events left text text_left ⊎ IsFlushed cur cur2 now next events left text text_left → Standing gives seen files from opening old start next left text_left at end cur2
    stands_held next cur2 left text_left (inl h) = record {
      mid = was.mid;
      s = was.s;
      a = was.a;
      m = was.m;
      front = subst (λ x. LeadsOn gives seen files from opening old was.mid was.s x was.a) (sym h.out_is) was.front;
      group = subst (λ x. LeadsOn gives seen files was.mid was.s (Some []) at end (Some x) was.m) (sym h.text_is) was.group;
      leads = subst (λ es. LeadTo was.s.console.book es end.console.book) (sym h.events_are) was.leads;
      clean = λ clean. was.clean (h.clean clean);
      disk = λ clean t is. h.stays t was.s.console.book (was.disk (h.clean clean) t is);
    }
    stands_held next cur2 left text_left (inr h) = stands_flushed next cur2 left text_left h

    -- ---- where it ends before its end
    front_book : was.s.console.book ≡ (after_steps files opening was.front.run).console.book
    front_book = ap (λ (x : Session). x.console.book) was.front.is

    group_right : AreRight files (after_steps files opening was.front.run) was.group.run
    group_right = subst (λ x. AreRight files x was.group.run) was.front.is was.group.right

    group_book : end.console.book ≡ (after_steps files (after_steps files opening was.front.run) was.group.run).console.book
    group_book = ap (λ (x : Session). x.console.book) (was.group.is ∙ ap (λ x. after_steps files x was.group.run) was.front.is)

    -- nothing more was asked of the disk
    pub stops_here : (why : KeepFault) → Stops files opening (λ t. IsOnDisk t start opening.console.book) cur old now (CannotKeep why)
    stops_here why = record {
      run = was.front.run;
      right = was.front.right;
      more = [];
      further = tt;
      written = was.front.wrote;
      disk = λ clean t is.
          let on : IsOnDisk t cur (after_steps files opening was.front.run).console.book = subst (IsOnDisk t cur) front_book (was.disk clean t is) in
          record { keeps = λ is_open. on.keeps; leaves = λ db may. inl (on.leaves db may) };
    }

    pub lost_clean : (next : Option (List ℕ)) (cur2 : State) (fault : LinesFault) → IsLost cur cur2 now next events text fault → HasCleanDisk cur2 → HasCleanDisk start
    lost_clean next cur2 (CannotKeep why) h clean = was.clean (h.0 clean)
    lost_clean next cur2 Write h clean = was.clean (h.0 clean)

    pub stops_lost : (next : Option (List ℕ)) (cur2 : State) (fault : LinesFault) → IsLost cur cur2 now next events text fault → Stops files opening (λ t. IsOnDisk t start opening.console.book) cur2 old next fault
    stops_lost next cur2 (CannotKeep why) h = record {
      run = was.front.run;
      right = was.front.right;
      more = was.group.run;
      further = group_right;
      written = subst (λ x. Appends old x (transcript files opening was.front.run)) (sym h.2) was.front.wrote;
      disk = λ clean t is.
          subst (λ x. IsCut t cur2 x (after_steps files (after_steps files opening was.front.run) was.group.run).console.book) front_book
          (subst (λ x. IsCut t cur2 was.s.console.book x) group_book (h.1 clean t was.s.console.book end.console.book (was.disk (h.0 clean) t is) was.leads));
    }
    stops_lost next cur2 Write h = record {
      run = was.front.run;
      right = was.front.right;
      more = was.group.run;
      further = group_right;
      so_far = now;
      written = was.front.wrote;
      front = subst (WritesFront now next) (was.group.wrote ∙ ap (λ x. transcript files x was.group.run) was.front.is) h.2;
      disk = λ clean t is. subst (IsOnDisk t cur2) group_book (h.1 clean t was.s.console.book end.console.book (was.disk (h.0 clean) t is) was.leads);
    }

  -- one line, before it is kept
  pub stands_one : {n : Option Mishap} (to : S) (further : Session) (events more_events : List KeptEvent) (text more_text : List ℕ) → events ≡ [] → text ≡ []
      → LeadsOn gives seen files from opening (Some text) to further (Some more_text) n → LeadsFurther opening.console.book events further.console.book more_events
      → Standing gives seen files from opening old start old more_events more_text to further start
  stands_one to further events more_events text more_text none nothing it noted = stands_more old events text from opening start (begins events text none nothing) to further more_events more_text it noted

  -- and after what it answered was written
  pub line_written : {n : Option Mishap} (to : S) (further : Session) (text more_text : List ℕ) (next : Option (List ℕ)) → text ≡ [] → LeadsOn gives seen files from opening (Some text) to further (Some more_text) n → Appends old next more_text
      → LeadsOn gives seen files from opening old to further next n
  line_written to further text more_text next nothing it wrote = record {
    run = it.run;
    boxes = it.boxes;
    right = it.right;
    wrote = subst (Appends old next) (it.wrote ∙ ap (λ t. t ++ transcript files opening it.run) nothing) wrote;
    is = it.is;
    wrong = it.wrong;
  }

  -- a line of the script more
  pub stands_line : {n : Option Mishap} (now : Option (List ℕ)) (events : List KeptEvent) (text : List ℕ) (at : S) (c : Console) (summary : Summary) (rest : List ℕ) (cur : State)
      → Standing gives seen files from opening old start now events text at (session_of c summary (lines_of rest) None) cur
      → (line after : List ℕ) → lines_of rest ≡ line ∷ lines_of after → (given : List FileText) → given ≡ files → (to : S) (then_c : Console) (counts : Summary) (more_events : List KeptEvent) (more_text : List ℕ)
      → LeadsOn gives seen given at (session_of c summary (line ∷ lines_of after) None) (Some text) to (session_of then_c counts (lines_of after) None) (Some more_text) n → LeadsFurther c.book events then_c.book more_events
      → Standing gives seen files from opening old start now more_events more_text to (session_of then_c counts (lines_of after) None) cur
  stands_line {n} now events text at c summary rest cur was line after first given same to then_c counts more_events more_text it noted =
      let here : Session = session_of c summary (line ∷ lines_of after) None in
      let so : Standing gives seen files from opening old start now events text at here cur = subst (λ lines. Standing gives seen files from opening old start now events text at (session_of c summary lines None) cur) first was in
      stands_more now events text at here cur so to (session_of then_c counts (lines_of after) None) more_events more_text
      (subst (λ f. LeadsOn gives seen f at here (Some text) to (session_of then_c counts (lines_of after) None) (Some more_text) n) same it) noted
