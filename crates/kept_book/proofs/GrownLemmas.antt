-- Changes that are noted after several events.
use Rattle.std.proofs.Common.{◌≡◌, ℕ, ◌+◌, ◌<◌, Bool, false, cond, List, [], ◌∷◌, ◌++◌, length, map as each, option_to_list, None, refl, sym, ◌∙◌, ap, subst, arith, append-nil, append_assoc, length-append}
use Rattle.std.proofs.lemmas.List.{map-append, length-map, nil_from_length}
use Rattle.host_state.specs.declared.change.Change.{Change}
use Rattle.host_state.specs.declared.reply.Reply.{Reply}
use Rattle.host_state.specs.State.{State}
use Rattle.journal_model.specs.Replay.{Entry}
use Rattle.journal_model.specs.Book.{PlainBook, force_of, within_window, with_moment}
use Rattle.journal_model.specs.Run.{PlainEvent, PlainAnswer, Given, bookstep, book_after}
use Rattle.journal_model.specs.Well.{Each, IsWellBook}
use Rattle.journal_model.proofs.Cases.{HasRoom, step_cases}
use Rattle.journal_model.proofs.Lists.{Each-map, Each-append}
use Rattle.journal_invariant.proofs.Events.{step_stays}
use Rattle.journal_invariant.proofs.Windowed.{same_serial}
use Rattle.kept_event.specs.declared.event.KeptEvent.{KeptEvent}
use Rattle.kept_book.specs.Leading.{LeadTo}
use Rattle.kept_book.specs.Noted.{kept_of, changes_since, accepts_move, move_as, noted, noted_in}
use Rattle.kept_book.specs.Laws.{NoneMoves, ChangesLead}
use Rattle.kept_book.proofs.SinceLemmas.{above, none_above, all_above, above-append}
use Rattle.kept_book.proofs.NewestLemmas.{all_given, none_since, one_since, new_entry, IsNewest, is_newest}
use Rattle.kept_book.proofs.NotedLemmas.{notes_lead}

-- these changes came after those in force, of which the first joined the base
record Grew (b : PlainBook) (events : List KeptEvent) (c : PlainBook) : Type 0 where
  new : List Entry
  kept_is : events ≡ each kept_of new
  joined : List Entry
  force : force_of b ++ new ≡ joined ++ force_of c
  count : b.last_serial + length new ≡ c.last_serial
  later : Each (λ (e : Entry). b.last_serial < e.serial) new

grew_none : (b : PlainBook) (events : List KeptEvent) → events ≡ [] → Grew b events b
grew_none b events none = record { new = []; kept_is = none; joined = []; force = append-nil (force_of b); count = omega arith; later = tt }

grew_one : (b : PlainBook) → IsWellBook b → (change : Change) (s : State) (reply : Reply) → HasRoom b → let c : PlainBook = within_window (with_moment b change (s, reply)) in Grew b (changes_since b.last_serial c) c
grew_one b w change s reply room =
    let e : Entry = new_entry b change reply in
    let c : PlainBook = within_window (with_moment b change (s, reply)) in
    let n : IsNewest b e c = is_newest b w change s reply room in
    record {
      new = e ∷ [];
      kept_is = one_since b w change s reply room;
      joined = n.joined;
      force = ap (λ es. es ++ e ∷ []) n.whole ∙ append_assoc n.joined n.before (e ∷ []) ∙ ap (λ es. n.joined ++ es) (sym n.force);
      count = sym (same_serial (with_moment b change (s, reply)));
      later = (omega arith, tt);
    }

-- an event that is no accepted move
grew_step : (refused : Bool) (b : PlainBook) (event : PlainEvent) → IsWellBook b → accepts_move (bookstep refused b event).1 ≡ false → Grew b (changes_since b.last_serial (bookstep refused b event).0) (bookstep refused b event).0
grew_step refused b event w =
    let P : PlainBook × PlainAnswer → Type 0 = λ p. accepts_move p.1 ≡ false → Grew b (changes_since b.last_serial p.0) p.0 in
    step_cases P refused b event (record {
      stays = λ answer s i p e. grew_none b (changes_since b.last_serial b) (none_since b w);
      records = λ change s reply n acts room e. grew_one b w change s reply room;
      serves = λ change s reply n acts maps progs room e. grew_one b w change s reply room;
      marks = λ name is none e. let no : ⊥ = cc in absurd no;
      undoes = λ count e. let no : ⊥ = cc in absurd no;
      undoes_last = λ any e. let no : ⊥ = cc in absurd no;
      redoes = λ any e. let no : ⊥ = cc in absurd no;
      takes_out = λ serial s there replayed room e. let no : ⊥ = cc in absurd no;
      forgets = λ name count is found none e. let no : ⊥ = cc in absurd no;
    })

grew_on : (b m c : PlainBook) (es fs : List KeptEvent) → Grew b es m → Grew m fs c → Grew b (es ++ fs) c
grew_on b m c es fs g h = record {
  new = g.new ++ h.new;
  kept_is = (λ i. g.kept_is i ++ h.kept_is i) ∙ sym (map-append kept_of g.new h.new);
  joined = g.joined ++ h.joined;
  force = sym (append_assoc (force_of b) g.new h.new)
      ∙ ap (λ xs. xs ++ h.new) g.force
      ∙ append_assoc g.joined (force_of m) h.new
      ∙ ap (λ xs. g.joined ++ xs) h.force
      ∙ sym (append_assoc g.joined h.joined (force_of c));
  count = omega (arith, g.count, h.count, length-append g.new h.new);
  later = Each-append (λ (e : Entry). b.last_serial < e.serial) g.new h.new g.later
      (Each-map (λ (e : Entry). m.last_serial < e.serial) (λ (e : Entry). b.last_serial < e.serial) h.new (λ e above_m. omega (arith, above_m, g.count)) h.later);
}

grew_run : (b : PlainBook) (events : List Given) → IsWellBook b → NoneMoves b events → Grew b (noted_in b events) (book_after b events)
grew_run b [] w none = grew_none b [] refl
grew_run b (given ∷ rest) w none =
    let made : PlainBook × PlainAnswer = bookstep given.0 b given.1 in
    let changes : List KeptEvent = changes_since b.last_serial made.0 in
    let no_move : changes ≡ noted b given.1 made = sym (ap (λ t. option_to_list (cond t (move_as given.1 made.1) None) ++ changes) none.0) in
    grew_on b made.0 (book_after made.0 rest) (noted b given.1 made) (noted_in made.0 rest)
    (subst (λ es. Grew b es made.0) no_move (grew_step given.0 b given.1 w none.0))
    (grew_run made.0 rest (step_stays given.0 b given.1 w) none.1)

-- if as many are noted as serials were given, none has joined the base
pub changes_lead : (b : PlainBook) (events : List Given) → ChangesLead b events
changes_lead b events w none count =
    let c : PlainBook = book_after b events in
    let k : ℕ = b.last_serial in
    let g : Grew b (noted_in b events) c = grew_run b events w none in
    let split : g.new ≡ above k g.joined ++ above k (force_of c) =
    sym (all_above k g.new g.later)
    ∙ ap (λ xs. xs ++ above k g.new) (sym (none_above k (force_of b) (all_given b w)))
    ∙ sym (above-append k (force_of b) g.new)
    ∙ ap (above k) g.force
    ∙ above-append k g.joined (force_of c) in
    let long : length g.new ≡ length (above k g.joined) + length (above k (force_of c)) = ap length split ∙ length-append (above k g.joined) (above k (force_of c)) in
    let many : length (changes_since k c) ≡ length (above k (force_of c)) = length-map (above k (force_of c)) kept_of in
    let kept_all : above k g.joined ≡ [] = nil_from_length (above k g.joined) (omega (arith, g.count, count, long, many)) in
    let same : g.new ≡ above k (force_of c) = split ∙ ap (λ xs. xs ++ above k (force_of c)) kept_all in
    subst (λ es. LeadTo b es c) (g.kept_is ∙ ap (each kept_of) same) (notes_lead b events w)
