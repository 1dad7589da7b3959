use Rattle.std.proofs.Common.{◌≡◌, ◌+◌, ◌-◌, ◌<◌, ◌++◌, true, false, length, sym, ◌∙◌, ap, subst, arith, Ok, Err}
use Rattle.std.proofs.lemmas.List.{append-nil, nil_from_length}
use Rattle.journal_model.proofs.Others.{Absent}
use Rattle.journal_model.specs.Plain.{newest_force}
use Rattle.journal_model.specs.Replay.{replay}
use Rattle.journal_model.specs.Well.{IsInOrder}
use Rattle.journal_model.specs.Book.{within_window}
use Rattle.journal_model.specs.Without.{with_taken_out}
use Rattle.bt_journal.specs.Staged.{TurnsBack, DoesNext, GoesOn}
use Rattle.bt_journal.specs.AgainFault.TheVariants.{Differs}
use Rattle.journal_model.specs.declared.faults.WithoutFault.TheVariants.{DependsOn, NoMemory}
use Rattle.host_state.proofs.CallLemmas.{within_none}
use Rattle.bt_journal.specs.BookView.{BookView}
use Rattle.bt_without.proofs.CallLemmas.{more_turned, more_to_restore, again_begins, again_more, again_kept, again_refused, calls_alone, calls_unwound, one_at_most, alone_at_most}
use Rattle.bt_without.proofs.TakesOutLemmas.{some_in_place, was_in_force, absent_more, whole_back, others, replay_next, whole_next, taken_ok, taken_err, refused}
use Rattle.bt_without.proofs.AloneLemmas.{not_alone, alone_begins, alone_left}
use Rattle.bt_without.proofs.taken_out.Goals as goal

pub returns-in-Err-clause-taken : goal.returns-in-Err-clause-taken
returns-in-Err-clause-taken g c =
    (refused c.args.book.plain c.in-Err.book.plain c.args.serial c.in-Err.fault (ap (λ (v : BookView). v.plain) c.in-Err.ensures.0) c.in-Err.ensures.1, tt)

pub returns-in-Err-clause-work : goal.returns-in-Err-clause-work
returns-in-Err-clause-work g c = within_none _ _ _ (ap (λ (v : BookView). v.work) c.in-Err.ensures.0)

pub returns-then-alone-clause-taken : goal.returns-then-alone-clause-taken
returns-then-alone-clause-taken g c =
    let begins = c.in-Ok.ensures in
    let t = c.exchange.ensures.takes_out in
    let k = c.keep-book.ensures in
    let e = c.exchange.ensures in
    let new = c.exchange.new.self.staged in
    let made = c.keep-book.result in
    let b = c.args.book.plain in
    let force = newest_force b.line.moments in
    let order : IsInOrder b.last_serial force = subst (IsInOrder b.last_serial) begins.5 begins.9 in
    let state : replay b.line.base new.in_place ≡ Ok new.state = ap (λ p. replay p.base new.in_place) (sym (t.same.pasts ∙ begins.3)) ∙ t.state in (
      (
        false,
        taken_ok b made.0.plain c.args.serial new.serial made.1.serial new.in_place new.left new.state begins.0 (t.same.serial ∙ begins.4)
            (alone_left b.last_serial c.args.serial c.in-Ok.stage.staged new force t begins.4 begins.5 order) t.left state
            (k.book ∙ ap (λ x. within_window (with_taken_out x new.serial new.in_place new.state)) (e.book ∙ begins.1)) (k.serial ∙ ap (λ x. x.last_serial + 1) (e.book ∙ begins.1)),
      ),
      k.work ∙ ap (λ n. made.0.work - n) (e.begun ∙ begins.2),
    )

pub returns-then-alone-clause-alone : goal.returns-then-alone-clause-alone
returns-then-alone-clause-alone g c alone =
    let made = c.keep-book.result in
    one_at_most c.args.book.work made.0.work made.1.work (c.keep-book.ensures.work ∙ ap (λ n. made.0.work - n) (c.exchange.ensures.begun ∙ c.in-Ok.ensures.2))
    (alone_at_most c.args.book.work c.in-Ok.stage.staged.line.work c.exchange.new.self.staged.line.work made.0.work c.in-Ok.ensures.11 c.keep-book.ensures.no_call c.exchange.ensures.work)

pub returns-then-alone-clause-work : goal.returns-then-alone-clause-work
returns-then-alone-clause-work g c =
    let made = c.keep-book.result in
    calls_alone (Ok made.1) c.args.serial c.args.book.plain.line.base (newest_force c.args.book.plain.line.moments) c.args.book.work made.0.work
    (alone_begins c.args.book.plain c.args.serial c.in-Ok.stage c.in-Ok.ensures.4 c.in-Ok.ensures.3 c.in-Ok.ensures.5 (sym c.alone.ensures ∙ c.if-alone.true))
    (alone_at_most c.args.book.work c.in-Ok.stage.staged.line.work c.exchange.new.self.staged.line.work made.0.work c.in-Ok.ensures.11 c.keep-book.ensures.no_call c.exchange.ensures.work)

pub back-requires-clause-any : goal.back-requires-clause-any
back-requires-clause-any g c κs within =
    some_in_place c.args.serial _ _ _ c.turning.invariant.whole c.turning.invariant.absent (was_in_force c.args.book.plain c.args.serial c.in-Ok.ensures.0)

pub turning-init : goal.turning-init
turning-init g c =
    let begins = c.in-Ok.ensures in
    let st = c.in-Ok.stage.staged in
    record {
      book = begins.1;
      begun = begins.2;
      pasts = begins.3;
      serial = begins.4;
      not_out = begins.7;
      whole = ap (λ xs. st.in_place ++ xs) begins.6 ∙ append-nil st.in_place ∙ begins.5;
      absent = subst (Absent c.args.serial) (sym begins.6) tt;
      work = within_none _ _ _ begins.11;
      to_restore = begins.12 ∙ sym (ap length begins.6);
    }

pub turning-preserved : goal.turning-preserved
turning-preserved g c =
    let v = c.turning.invariant in
    let e = c.turning-test.ensures in
    let old = c.turning.stage.staged in
    let new = c.back.new.self.staged in
    let t : TurnsBack old false new = e.turns in
    record {
      book = e.book ∙ v.book;
      begun = e.begun ∙ v.begun;
      pasts = t.same.pasts ∙ v.pasts;
      serial = t.same.serial ∙ v.serial;
      not_out = t.out;
      whole = whole_back old new t ∙ v.whole;
      absent = absent_more old new c.args.serial t v.serial v.absent;
      work = more_turned c.args.book.work old new t e.work v.work;
      to_restore = more_to_restore old new t e.work v.to_restore;
    }

pub redoing-init : goal.redoing-init
redoing-init g c =
    let begins = c.in-Ok.ensures in
    let v = c.turning.invariant in
    let e = c.turning-test.ensures in
    let old = c.turning.stage.staged in
    let new = c.back.new.self.staged in
    let t : TurnsBack old true new = e.turns in
    let last = c.args.book.plain.last_serial in
    let base = c.args.book.plain.line.base in
    let force = newest_force c.args.book.plain.line.moments in
    let order : IsInOrder last force = subst (IsInOrder last) begins.5 begins.9 in
    let state : replay base new.in_place ≡ Ok new.state = ap (λ p. replay p.base new.in_place) (sym (t.same.pasts ∙ v.pasts)) ∙ t.state in
    record {
      book = e.book ∙ v.book;
      begun = e.begun ∙ v.begun;
      pasts = t.same.pasts ∙ v.pasts;
      serial = t.same.serial ∙ v.serial;
      out = t.out;
      whole = others last c.args.serial old new force t v.serial v.whole v.absent order;
      state = state;
      work = again_begins last c.args.serial base old new force c.args.book.work t e.work v.serial v.whole order state v.work v.to_restore;
    }

pub redoing-preserved : goal.redoing-preserved
redoing-preserved g c =
    let v = c.redoing.invariant in
    let e = c.in-Ok-again.ensures in
    let old = c.redoing.stage.staged in
    let new = c.again.new.self.staged in
    let t : DoesNext old new = e.goes_on in
    record {
      book = e.book ∙ v.book;
      begun = e.begun ∙ v.begun;
      pasts = t.same.pasts ∙ v.pasts;
      serial = t.same.serial ∙ v.serial;
      out = t.out ∙ v.out;
      whole = whole_next old new t ∙ v.whole;
      state = replay_next c.args.book.plain.line.base old new t v.state;
      work = again_more c.args.book.plain.line.base c.args.serial (newest_force c.args.book.plain.line.moments) old new _ c.args.book.work t e.work v.work;
    }

pub returns-in-Err-Differs-clause-taken : goal.returns-in-Err-Differs-clause-taken
returns-in-Err-Differs-clause-taken g c =
    let v = c.redoing.invariant in
    let e = c.in-Err-Differs.ensures in
    let st = c.redoing.stage.staged in
    let new = c.again.new.self.staged in
    let a : GoesOn st (Err (Differs c.in-Err-Differs.first)) new = subst (λ fault. GoesOn st (Err fault) new) c.in-Err-Differs.field-0-is e.goes_on in (
      (
        false,
        taken_err c.args.book.plain c.restore.result.plain c.args.serial c.in-Err-Differs.first st.in_place st.left st.state a.0.0 a.0.1 c.in-Ok.ensures.0 v.whole v.state a.0.2 a.0.3 (c.restore.ensures.plain ∙ e.book ∙ v.book),
      ),
      tt,
    )

pub returns-in-Err-Differs-clause-work : goal.returns-in-Err-Differs-clause-work
returns-in-Err-Differs-clause-work g c =
    let st = c.redoing.stage.staged in
    let some : 0 < length st.left = omega (arith, c.left.ensures, c.redoing-test.true) in
    calls_unwound (Err (DependsOn c.in-Err-Differs.first)) c.args.serial c.args.book.plain.line.base (newest_force c.args.book.plain.line.moments) c.args.book.work c.restore.result.work
    (not_alone c.args.book.plain c.args.serial c.in-Ok.stage c.in-Ok.ensures.4 c.in-Ok.ensures.3 c.in-Ok.ensures.5 (sym c.alone.ensures ∙ c.if-alone.false))
    (again_refused c.args.book.plain.line.base c.args.serial (newest_force c.args.book.plain.line.moments) st c.again.new.self.staged _ (DependsOn c.in-Err-Differs.first) c.args.book.work c.restore.result.work some c.in-Err-Differs.ensures.work c.restore.ensures.work c.redoing.invariant.work)

pub returns-in-Err-NoMemory-clause-work : goal.returns-in-Err-NoMemory-clause-work
returns-in-Err-NoMemory-clause-work g c =
    let st = c.redoing.stage.staged in
    let some : 0 < length st.left = omega (arith, c.left.ensures, c.redoing-test.true) in
    calls_unwound (Err NoMemory) c.args.serial c.args.book.plain.line.base (newest_force c.args.book.plain.line.moments) c.args.book.work c.restore-in-Err-NoMemory.result.work
    (not_alone c.args.book.plain c.args.serial c.in-Ok.stage c.in-Ok.ensures.4 c.in-Ok.ensures.3 c.in-Ok.ensures.5 (sym c.alone.ensures ∙ c.if-alone.false))
    (again_refused c.args.book.plain.line.base c.args.serial (newest_force c.args.book.plain.line.moments) st c.again.new.self.staged _ NoMemory c.args.book.work c.restore-in-Err-NoMemory.result.work some c.in-Err-NoMemory.ensures.work c.restore-in-Err-NoMemory.ensures.work c.redoing.invariant.work)

pub returns-clause-work : goal.returns-clause-work
returns-clause-work g c =
    calls_unwound (Ok c.keep-book-2.result.1) c.args.serial c.args.book.plain.line.base (newest_force c.args.book.plain.line.moments) c.args.book.work c.keep-book-2.result.0.work
    (not_alone c.args.book.plain c.args.serial c.in-Ok.stage c.in-Ok.ensures.4 c.in-Ok.ensures.3 c.in-Ok.ensures.5 (sym c.alone.ensures ∙ c.if-alone.false))
    (again_kept c.args.book.plain.line.base c.args.serial (newest_force c.args.book.plain.line.moments) c.redoing.stage.staged c.keep-book-2.result.1 c.args.book.work c.keep-book-2.result.0.work c.keep-book-2.ensures.no_call c.redoing.invariant.work)

pub returns-clause-taken : goal.returns-clause-taken
returns-clause-taken g c =
    let v = c.redoing.invariant in
    let st = c.redoing.stage.staged in
    let k = c.keep-book-2.ensures in
    let made = c.keep-book-2.result in
    let none = nil_from_length st.left (omega (arith, c.left.ensures, c.redoing-test.false)) in (
      (
        false,
        taken_ok c.args.book.plain made.0.plain c.args.serial st.serial made.1.serial st.in_place st.left st.state c.in-Ok.ensures.0 v.serial v.whole none v.state
            (k.book ∙ ap (λ b. within_window (with_taken_out b st.serial st.in_place st.state)) v.book) (k.serial ∙ ap (λ b. b.last_serial + 1) v.book),
      ),
      k.work ∙ ap (λ n. made.0.work - n) v.begun,
    )

pub returns-clause-alone : goal.returns-clause-alone
returns-clause-alone g c alone =
    let no : true ≡ false = sym alone ∙ not_alone c.args.book.plain c.args.serial c.in-Ok.stage c.in-Ok.ensures.4 c.in-Ok.ensures.3 c.in-Ok.ensures.5 (sym c.alone.ensures ∙ c.if-alone.false) in
    absurd (cc no)
