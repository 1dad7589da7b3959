-- What the plain book says of a change that makes a map.
use Rattle.std.proofs.Common.{◌≡◌, ℕ, ◌+◌, true, false, List, Option, Some, Result, Ok, Err, refl, sym, ◌∙◌, ap, cond, eq-eqb}
use Rattle.std.specs.Cmp.{nat_cmp_total, unsigned_tied}
use Rattle.std.specs.FinMap as map
use Rattle.bt_objects.specs.Ids.{is_among}
use Rattle.bt_objects.specs.declared.make.Make.{Make}
use Rattle.host_state.specs.declared.change.Change.{Change}
use Rattle.host_state.specs.declared.change.Change.TheVariants.{Create}
use Rattle.host_state.specs.declared.reply.Reply.{Reply}
use Rattle.host_state.specs.declared.reply.Refusal.{Refusal}
use Rattle.host_state.specs.declared.reply.Refusal.TheVariants.{Errno, NoMemory, WrongBlank, JournalFull, BudgetFull, SerialsSpent, IdsSpent}
use Rattle.bt_objects.specs.ById.{ById}
use Rattle.host_state.specs.State.{State}
use Rattle.host_state.specs.Act.{act}
use Rattle.journal_model.specs.Plain.{Pasts, now, appended}
use Rattle.journal_model.specs.Blank.{Blank}
use Rattle.journal_model.specs.Book.{PlainBook, resolved, with_prog_id, noted_as, given_up_by, last_map_after, last_prog_after, OrNoMemory}
use Rattle.bt_mapkind.specs.declared.attr.MapAttr.{MapAttr}
use Rattle.journal_keeping.specs.View.{LineView}
use Rattle.journal_keeping.specs.Steps.{HasBox, IsWhy}
use Rattle.bt_journal.specs.Recording.{Makes}
use Rattle.journal_keeping.specs.declared.ids.LastIds.{LastIds}
use Rattle.journal_model.proofs.Growing.{kept_by_insert}
use Rattle.journal_keeping.proofs.BoxesLemmas.{kept_is}
use Rattle.bt_journal.proofs.RecordLemmas.{IsNew, Kept, free_box, entry_at}

pub resolved_new : (change : Change) (new : ℕ) (blank : Blank) → Makes blank.make.attr change → IsNew new blank.make (resolved new (Some blank) change)
resolved_new (Create id attr charge name path template) new blank m = (refl, ap (λ a. let k : Make = record { attr = a; charge = blank.make.charge } in k) m)
resolved_new _ new blank m = m

last_is : (change : Change) (new last : ℕ) (make : Make) → IsNew new make change → new ≡ last_map_after change last
last_is (Create id attr charge name path template) new last make n = sym n.0
last_is _ new last make n = absurd n

-- a create is as it was handed in, but for what it gets of its box; it gives no program id
pub with_prog_new : (change : Change) (new : ℕ) (attr : MapAttr) → Makes attr change → with_prog_id new change ≡ change
with_prog_new (Create id attr charge name path template) new made m = refl
with_prog_new _ new made m = absurd m

last_prog_is : (change : Change) (new last : ℕ) (make : Make) → IsNew new make change → last ≡ last_prog_after change last
last_prog_is (Create id attr charge name path template) new last make n = refl
last_prog_is _ new last make n = absurd n

-- ---- the change is refused, and the box dropped
pub dropped : (old : LineView) (ls : List LastIds) (maps progs : List ℕ) (before : LastIds) (make : Make) → Kept old ls maps progs before → map.retain_keys (map.insert old.makes (before.map_id + 1) make) (is_among maps) ≡ old.makes
dropped old ls maps progs before make h =
    kept_is (map.insert old.makes (before.map_id + 1) make) old.makes maps (λ q k e. kept_by_insert old.makes (before.map_id + 1) make q k (free_box old ls maps progs before h) e) h.boxes.ids

-- ---- the plain book says the same
pub book_is : (b : PlainBook) (change : Change) (t : State) (reply : Reply) (line : Pasts) (gave : Option ℕ) (id : ℕ) (make : Make) → IsNew id make change → line ≡ appended b.line (entry_at (b.last_serial + 1) change reply) t → gave ≡ given_up_by (b.last_serial + 1) b.line.undone b.gave_up → act (now b.line) change ≡ Ok (t, reply)
    → ◌≡◌ {A = PlainBook × Result (ℕ × Reply) Refusal} (record b { line = line; gave_up = gave; last_serial = b.last_serial + 1; last_map = id }, Ok (b.last_serial + 1, reply)) (noted_as b change (act (now b.line) change))
book_is b change t reply line gave id make n l g a =
    ap (λ x. let r : PlainBook × Result (ℕ × Reply) Refusal = (record b { line = x; gave_up = gave; last_serial = b.last_serial + 1; last_map = id }, Ok (b.last_serial + 1, reply)) in r) l
    ∙ ap (λ x. let r : PlainBook × Result (ℕ × Reply) Refusal = (record b { line = appended b.line (entry_at (b.last_serial + 1) change reply) t; gave_up = x; last_serial = b.last_serial + 1; last_map = id }, Ok (b.last_serial + 1, reply)) in r) g
    ∙ ap (λ x. let r : PlainBook × Result (ℕ × Reply) Refusal = (record b { line = appended b.line (entry_at (b.last_serial + 1) change reply) t; gave_up = given_up_by (b.last_serial + 1) b.line.undone b.gave_up; last_serial = b.last_serial + 1; last_map = x }, Ok (b.last_serial + 1, reply)) in r) (last_is change id b.last_map make n)
    ∙ ap (λ x. let r : PlainBook × Result (ℕ × Reply) Refusal = (record b { line = appended b.line (entry_at (b.last_serial + 1) change reply) t; gave_up = given_up_by (b.last_serial + 1) b.line.undone b.gave_up; last_serial = b.last_serial + 1; last_map = last_map_after change b.last_map; last_prog = x }, Ok (b.last_serial + 1, reply)) in r) (last_prog_is change id b.last_prog make n)
    ∙ ap (noted_as b change) (sym a)

has_box_new : (placed : LineView) (old : ById Make) (change : Change) (new : ℕ) (make : Make) → IsNew new make change → placed.makes ≡ map.insert old new make → HasBox placed change
has_box_new placed old (Create id attr charge name path template) new make n m =
    ap (λ (o : ById Make). map.get o id) m ∙ ap (map.get (map.insert old new make)) n.0 ∙ map.get-insert nat_cmp_total old new make new
    ∙ ap (λ b. cond b (Some make) (map.get old new)) (unsigned_tied new new ∙ eq-eqb new new refl) ∙ ap Some n.1
has_box_new placed old _ new make n m = absurd n

refused_why : (b : PlainBook) (placed : LineView) (change : Change) (refusal : Refusal) (now_is : PlainBook) → now_is ≡ b → placed.pasts ≡ b.line → HasBox placed change → IsWhy placed change refusal → OrNoMemory b NoMemory (noted_as b change (act (now b.line) change)) (now_is, Err refusal)
refused_why b placed change (Errno errno) now_is e p has h =
    (false, ap (λ x. let r : PlainBook × Result (ℕ × Reply) Refusal = (x, Err (Errno errno)) in r) e ∙ ap (noted_as b change) (sym (ap (λ q. act (now q) change) (sym p) ∙ h.1)))
refused_why b placed change NoMemory now_is e p has h = (true, ap (λ x. let r : PlainBook × Result (ℕ × Reply) Refusal = (x, Err NoMemory) in r) e)
refused_why b placed change WrongBlank now_is e p has h = absurd (h has)
refused_why b placed change JournalFull now_is e p has h = absurd h
refused_why b placed change BudgetFull now_is e p has h = absurd h
refused_why b placed change SerialsSpent now_is e p has h = absurd h
refused_why b placed change IdsSpent now_is e p has h = absurd h

pub refused_new : (b : PlainBook) (placed : LineView) (old : ById Make) (change : Change) (make : Make) (new : ℕ) (refusal : Refusal) (now_is : PlainBook) → now_is ≡ b → placed.pasts ≡ b.line → IsNew new make change → placed.makes ≡ map.insert old new make → IsWhy placed change refusal → OrNoMemory b NoMemory (noted_as b change (act (now b.line) change)) (now_is, Err refusal)
refused_new b placed old change make new refusal now_is e p n m h = refused_why b placed change refusal now_is e p (has_box_new placed old change new make n m) h
