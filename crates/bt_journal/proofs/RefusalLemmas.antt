-- What refuses a change, test by test.
use Rattle.std.proofs.Common.{◌≡◌, ◌∙◌, ℕ, Bool, true, false, not, ◌&&◌, List, Option, Some, None, refl, sym, ap, cond}
use Rattle.std.specs.Prelude.{nat_le}
use Rattle.host_words.specs.Spelling.{is_name}
use Rattle.bt_mapkind.specs.declared.attr.MapAttr.{MapAttr}
use Rattle.bt_mapkind.specs.declared.errno.Errno.TheVariants.{EINVAL}
use Rattle.bt_mapkind.specs.Attributes.{good}
use Rattle.bt_mapkind.specs.Seen.{Seen}
use Rattle.host_state.specs.declared.change.Change.{Change}
use Rattle.host_state.specs.declared.change.Change.TheVariants.{Create, Load}
use Rattle.host_state.specs.declared.reply.Refusal.{Refusal}
use Rattle.host_state.specs.declared.reply.Refusal.TheVariants.{Errno, JournalFull, SerialsSpent, IdsSpent}
use Rattle.journal_model.specs.Blank.{Blank, IsBlankOf}
use Rattle.journal_model.specs.Book.{PlainBook, is_full, refusal_of, blank_refusal, recorded, recorded_as, recorded_unless, done_as, with_prog_id}
use Rattle.journal_model.specs.Plain.{now}
use Rattle.journal_model.specs.Window.{can_fold}
use Rattle.host_state.specs.Act.{act}
use Rattle.bt_journal.specs.Recording.{AreBlanks, MakesNone}

if_false : {X : Type 0} (b : Bool) (x y : X) → b ≡ false → y ≡ cond b x y
if_false b x y e = sym (ap (λ t. cond t x y) e)

-- with room for a serial, a moment and an id, and good attributes, it is the box that may refuse a create
pub refusal_create : (b : PlainBook) (r : Option Refusal) (id : ℕ) (attr : MapAttr) (charge : ℕ) (name path : List ℕ) (template : Option ℕ) (blank : Option Blank)
    → nat_le b.limits.last_serial b.last_serial ≡ false → (is_full b && not (can_fold b.line)) ≡ false → nat_le b.limits.last_id b.last_map ≡ false → (good attr && is_name name) ≡ true
    → r ≡ blank_refusal b attr blank → r ≡ refusal_of b (Create id attr charge name path template) blank
refusal_create b r id attr charge name path template blank s j i g e =
    e
    ∙ if_false (not (good attr && is_name name)) (Some (Errno EINVAL)) (blank_refusal b attr blank) (ap not g)
    ∙ if_false (nat_le b.limits.last_id b.last_map) (Some IdsSpent) _ i
    ∙ if_false (is_full b && not (can_fold b.line)) (Some JournalFull) _ j
    ∙ if_false (nat_le b.limits.last_serial b.last_serial) (Some SerialsSpent) _ s

pub some_blank : {K : Type 0} (seen : K → Seen) (kind : K) (r : Option Refusal) (f : Option Blank → Option Refusal) → ((blank : Blank) → IsBlankOf (seen kind) blank → r ≡ f (Some blank)) → (plain : Option Blank) → AreBlanks seen (Some kind) plain → r ≡ f plain
some_blank seen kind r f h None a = absurd a
some_blank seen kind r f h (Some blank) a = h blank a

-- what nothing refuses is done
pub recorded_free : (b : PlainBook) (change : Change) (plain : Option Blank) (r : Option Refusal) → r ≡ None → r ≡ refusal_of b change plain
    → recorded b change plain ≡ recorded_as b (done_as b change plain) (act (now b.line) (done_as b change plain))
recorded_free b change plain r n e = ap (λ o. recorded_unless o b (done_as b change plain)) (sym e ∙ n)

pub with_blank : {K : Type 0} (seen : K → Seen) (kind : K) (P : Option Blank → Type 0) → ((blank : Blank) → IsBlankOf (seen kind) blank → P (Some blank)) → (plain : Option Blank) → AreBlanks seen (Some kind) plain → P plain
with_blank seen kind P h None a = absurd a
with_blank seen kind P h (Some blank) a = h blank a

-- a change that makes neither a map nor a program gets no id
pub with_prog_known : (change : Change) (new : ℕ) → MakesNone change → with_prog_id new change ≡ change
with_prog_known (Create id attr charge name path template) new n = absurd n
with_prog_known (Load id code name path) new n = absurd n
with_prog_known _ new n = refl

pub with_none : {K : Type 0} (seen : K → Seen) (P : Option Blank → Type 0) → P None → (plain : Option Blank) → AreBlanks seen None plain → P plain
with_none seen P h None a = h
with_none seen P h (Some blank) a = absurd a
