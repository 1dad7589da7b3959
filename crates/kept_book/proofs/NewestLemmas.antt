-- A change that is recorded is the newest in force, and the only one above the serials that were given before.
use Rattle.std.proofs.Common.{◌≡◌, ℕ, ◌+◌, ◌≤◌, true, List, [], ◌∷◌, ◌++◌, length, map as each, drop, option_map, option_to_list, Option, refl, sym, ◌∙◌, ap, subst, arith}
use Rattle.std.proofs.lemmas.List.{append_assoc, append-nil}
use Rattle.std.proofs.Math.Seq.{drop-append_seam}
use Rattle.host_state.specs.declared.change.Change.{Change}
use Rattle.host_state.specs.declared.reply.Reply.{Reply}
use Rattle.host_state.specs.State.{State}
use Rattle.journal_model.specs.Replay.{Entry}
use Rattle.journal_model.specs.Plain.{newest_force}
use Rattle.journal_model.specs.Window.{kept_line, can_fold}
use Rattle.journal_model.specs.Book.{PlainBook, force_of, folded, within_window, with_moment}
use Rattle.journal_model.specs.Well.{Each, IsWellBook}
use Rattle.journal_model.proofs.Cases.{HasRoom, new_moment}
use Rattle.journal_model.proofs.Lists.{Each-map, Each-rest}
use Rattle.journal_invariant.proofs.Advanced.{taken_in}
use Rattle.journal_invariant.proofs.Forgetting.{keeps_what_is_later}
use Rattle.journal_invariant.proofs.Windowed.{has_first, kept_none, moment_grows, window_cases, was_full}
use Rattle.journal_invariant.proofs.Kept.{kept_book, kept_well}
use Rattle.journal_laws.proofs.Grown.{advanced_over}
use Rattle.bt_journal.proofs.WellLemmas.{force_in_order}
use Rattle.bt_journal.specs.Serials.{change_in}
use Rattle.kept_event.specs.declared.event.KeptEvent.{KeptEvent}
use Rattle.kept_event.specs.declared.event.KeptEvent.TheVariants as kept
use Rattle.kept_book.specs.Noted.{kept_of, changes_since}
use Rattle.kept_book.proofs.SinceLemmas.{above, none_above, one_above, next_above}

-- no serial in force is above the last that was given
pub all_given : (b : PlainBook) → IsWellBook b → Each (λ (e : Entry). e.serial ≤ b.last_serial) (force_of b)
all_given b w = (force_in_order b w).1

pub none_since : (b : PlainBook) → IsWellBook b → changes_since b.last_serial b ≡ []
none_since b w = ap (each kept_of) (none_above b.last_serial (force_of b) (all_given b w))

abbrev pub new_entry : PlainBook → Change → Reply → Entry
new_entry b change reply = record { serial = b.last_serial + 1; change = change; reply = reply }

-- the changes in force but for the first, which joined the base, and after them the new one
pub record IsNewest (b : PlainBook) (e : Entry) (c : PlainBook) : Type 0 where
  pub joined : List Entry
  pub before : List Entry
  pub whole : force_of b ≡ joined ++ before
  pub force : force_of c ≡ before ++ e ∷ []

pub is_newest : (b : PlainBook) → IsWellBook b → (change : Change) (s : State) (reply : Reply) → HasRoom b → IsNewest b (new_entry b change reply) (within_window (with_moment b change (s, reply)))
is_newest b w change s reply room =
    window_cases (IsNewest b (new_entry b change reply)) (with_moment b change (s, reply))
    (λ short. record { joined = []; before = force_of b; whole = refl; force = refl })
    (λ long. behind (room (was_full b (with_moment b change (s, reply)) (new_moment b change s reply) (moment_grows b change s reply room) long)))
  where
    behind : can_fold b.line ≡ true → IsNewest b (new_entry b change reply) (folded (with_moment b change (s, reply)))
    behind fold =
        let e : Entry = new_entry b change reply in
        let front : List Entry = taken_in 1 (kept_line b.line) in
        let r : PlainBook = folded (kept_book b) in
        let whole : force_of b ≡ front ++ force_of r = (keeps_what_is_later (kept_book b) (kept_well b w) 1 (kept_none b.line fold)).force in
        let left : force_of b ++ e ∷ [] ≡ front ++ (force_of r ++ e ∷ []) = ap (λ es. es ++ e ∷ []) whole ∙ append_assoc front (force_of r) (e ∷ []) in
        record {
          joined = front;
          before = force_of r;
          whole = whole;
          force = ap newest_force (advanced_over b.line (new_moment b change s reply) (has_first b.line fold)) ∙ ap (drop (length front)) left ∙ drop-append_seam front (force_of r ++ e ∷ []);
        }

pub one_since : (b : PlainBook) → IsWellBook b → (change : Change) (s : State) (reply : Reply) → HasRoom b → changes_since b.last_serial (within_window (with_moment b change (s, reply))) ≡ kept.Changed (b.last_serial + 1) change ∷ []
one_since b w change s reply room =
    let n : IsNewest b (new_entry b change reply) (within_window (with_moment b change (s, reply))) = is_newest b w change s reply room in
    let given : Each (λ (x : Entry). x.serial ≤ b.last_serial) n.before =
    Each-rest (λ (x : Entry). x.serial ≤ b.last_serial) n.joined n.before (subst (Each (λ (x : Entry). x.serial ≤ b.last_serial)) n.whole (all_given b w)) in
    ap (λ es. each kept_of (above b.last_serial es)) n.force
    ∙ ap (each kept_of) (one_above b.last_serial n.before (new_entry b change reply) given (omega arith))

-- ---- one serial after the other
-- with the change of the next serial, if one has it, what is above it is left
pub more_noted : (b : PlainBook) → IsWellBook b → (k : ℕ) (o : Option Change) (xs ys : List KeptEvent) → o ≡ change_in (k + 1) (force_of b) → ys ≡ xs ++ option_to_list (option_map (λ (change : Change). kept.Changed (k + 1) change) o)
    → ys ++ changes_since (k + 1) b ≡ xs ++ changes_since k b
more_noted b w k o xs ys told more =
    ap (λ zs. zs ++ changes_since (k + 1) b) more
    ∙ append_assoc xs (option_to_list (option_map (λ (change : Change). kept.Changed (k + 1) change) o)) (changes_since (k + 1) b)
    ∙ ap (λ p. xs ++ (option_to_list (option_map (λ (change : Change). kept.Changed (k + 1) change) p) ++ changes_since (k + 1) b)) told
    ∙ sym (ap (λ zs. xs ++ zs) (next_above k (force_of b) (force_in_order b w).0))

-- and above the last nothing is
pub all_noted : (b : PlainBook) → IsWellBook b → (k : ℕ) (xs : List KeptEvent) → b.last_serial ≤ k → xs ≡ xs ++ changes_since k b
all_noted b w k xs above_all =
    sym (append-nil xs)
    ∙ ap (λ zs. xs ++ zs) (sym (ap (each kept_of) (none_above k (force_of b) (Each-map (λ (e : Entry). e.serial ≤ b.last_serial) (λ (e : Entry). e.serial ≤ k) (force_of b) (λ e low. omega (arith, low, above_all)) (all_given b w)))))
