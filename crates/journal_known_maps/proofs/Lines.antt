-- What holds of the base of a book, and of each change in force at some moment, through what events make of its moments.
use Rattle.std.proofs.Common.{◌≡◌, ℕ, ◌+◌, ◌==◌, not, List, [], ◌∷◌, ◌++◌, length, take, drop, reverse, refl, sym, subst}
use Rattle.std.specs.Prelude.{Ok}
use Rattle.std.proofs.lemmas.List.{take-append-drop}
use Rattle.host_state.specs.declared.change.Change.{Change}
use Rattle.host_state.specs.declared.reply.Reply.{Reply}
use Rattle.host_state.specs.State.{State}
use Rattle.host_state.specs.Act.{act}
use Rattle.journal_model.specs.Replay.{Entry, replay, as_before}
use Rattle.journal_model.specs.Force.{without}
use Rattle.journal_model.specs.Plain.{Past, Pasts, newest_state, newest_force, now, one_forth, cut}
use Rattle.journal_model.specs.Rebase.{without_retired, advanced}
use Rattle.journal_model.specs.Without.{with_taken_out}
use Rattle.journal_model.specs.Book.{PlainBook, state_of, within_window, with_moment}
use Rattle.journal_model.specs.Well.{Each, all_moments, IsWellMoment, IsWellBook}
use Rattle.journal_model.proofs.Lists.{Each-map, Each-append, Each-front, Each-rest, Each-filter, Each-each}
use Rattle.journal_model.proofs.Replaying.{same_state, answers, went_on, replay_push}
use Rattle.journal_model.proofs.Cases.{new_moment, taking_out}
use Rattle.journal_invariant.proofs.Advanced.{earlier, later, new_base, taken_in, on_base, parts, all_advanced}
use Rattle.journal_invariant.proofs.Staying.{moved_all, brought_all}
use Rattle.journal_invariant.proofs.Windowed.{grown, window_cases}

-- it holds of each change in force
abbrev pub ForceHas : (Change → Type 0) → Past → Type 0
ForceHas C m = Each (λ (e : Entry). C e.change) m.force

-- one thing holds of the base, and another of each change in force at some moment, undone or not
pub record Holds (P : State → Type 0) (C : Change → Type 0) (p : Pasts) : Type 0 where
  pub base : P p.base
  pub moments : Each (ForceHas C) (all_moments p)

-- a moment is the replay of its changes in force
abbrev pub IsReplay : State → Past → Type 0
IsReplay base m = replay base m.force ≡ Ok m.state

pub replays : (b : PlainBook) → IsWellBook b → Each (IsReplay b.line.base) (all_moments b.line)
replays b w = Each-map (IsWellMoment b) (IsReplay b.line.base) (all_moments b.line) (λ m well. well.replayed) w.moments

newest_replay : (base : State) (ms : List Past) → Each (IsReplay base) ms → replay base (newest_force ms) ≡ Ok (newest_state base ms)
newest_replay base [] h = refl
newest_replay base (m ∷ ms) h = h.0

newest_has : (C : Change → Type 0) (ms : List Past) → Each (ForceHas C) ms → Each (λ (e : Entry). C e.change) (newest_force ms)
newest_has C [] h = tt
newest_has C (m ∷ ms) h = h.0

Each-drop : {X : Type 0} (P : X → Type 0) (n : ℕ) (xs : List X) → Each P xs → Each P (drop n xs)
Each-drop P n xs h = Each-rest P (take n xs) (drop n xs) (subst (Each P) (sym (take-append-drop n xs)) h)

-- the moments in force are among all
in_force : (R : Past → Type 0) (p : Pasts) → Each R (all_moments p) → Each R p.moments
in_force R p h = Each-rest R (reverse p.undone) p.moments h

module _ (P : State → Type 0) (C : Change → Type 0) (acts : (s t : State) (change : Change) (reply : Reply) → act s change ≡ Ok (t, reply) → P s → C change → P t) where
  replay_holds : (es : List Entry) (s t : State) → replay s es ≡ Ok t → P s → Each (λ (e : Entry). C e.change) es → P t
  replay_holds [] s t e h k = subst P (same_state s t e) h
  replay_holds (x ∷ es) s t e h k =
      let w = went_on (as_before x (act s x.change)) (λ u. replay u es) t e in
      replay_holds es w.0 t w.2 (acts s w.0 x.change x.reply (answers s w.0 x w.1) h k.0) k.1

  pub newest_holds : (base : State) (ms : List Past) → P base → Each (IsReplay base) ms → Each (ForceHas C) ms → P (newest_state base ms)
  newest_holds base ms h r k = replay_holds (newest_force ms) base (newest_state base ms) (newest_replay base ms r) h (newest_has C ms k)

  -- it holds of the state as it is now
  pub now_holds : (b : PlainBook) → IsWellBook b → Holds P C b.line → P (state_of b)
  now_holds b w h = newest_holds b.line.base b.line.moments h.base (in_force (IsReplay b.line.base) b.line (replays b w)) (in_force (ForceHas C) b.line h.moments)

  -- ---- undo and redo
  pub cut_holds : (count : ℕ) (p : Pasts) → Holds P C p → Holds P C (cut count p)
  cut_holds count p h = record { base = h.base; moments = subst (Each (ForceHas C)) (sym (moved_all count p)) h.moments }

  pub forth_holds : (p : Pasts) → Holds P C p → Holds P C (one_forth p)
  forth_holds p h = record { base = h.base; moments = subst (Each (ForceHas C)) (sym (brought_all p)) h.moments }

  module _ (drops : (base s : State) → P s → P (without_retired base s)) where
    -- ---- the first moments join the base
    pub advanced_holds : (count : ℕ) (p : Pasts) → Each (IsReplay p.base) (all_moments p) → Holds P C p → Holds P C (advanced count p)
    advanced_holds count p r h =
        let replayed : Each (IsReplay p.base) (later count p ++ earlier count p) = subst (Each (IsReplay p.base)) (parts count p) r in
        let forces : Each (ForceHas C) (later count p ++ earlier count p) = subst (Each (ForceHas C)) (parts count p) h.moments in
        record {
          base = drops (new_base count p) (new_base count p)
              (newest_holds p.base (earlier count p) h.base (Each-rest (IsReplay p.base) (later count p) (earlier count p) replayed) (Each-rest (ForceHas C) (later count p) (earlier count p) forces));
          moments = subst (Each (ForceHas C)) (sym (all_advanced count p)) (
              Each-each (ForceHas C) (on_base count p) (later count p) (
              Each-map (ForceHas C) (λ m. ForceHas C (on_base count p m)) (later count p) (λ m k. Each-drop (λ (e : Entry). C e.change) (length (taken_in count p)) m.force k)
              (Each-front (ForceHas C) (later count p) (earlier count p) forces)
              )
              );
        }

    -- ---- one moment more, within the window
    grown_holds : (b c : PlainBook) (m : Past) → IsWellBook b → c.line ≡ grown b.line m → IsReplay b.line.base m → ForceHas C m → Holds P C b.line → Holds P C (within_window c).line
    grown_holds b c m w is replayed has h =
        let line : Pasts = grown b.line m in
        let r : Each (IsReplay b.line.base) (all_moments line) = (replayed, in_force (IsReplay b.line.base) b.line (replays b w)) in
        let k : Holds P C line = record { base = h.base; moments = (has, in_force (ForceHas C) b.line h.moments) } in
        window_cases (λ (d : PlainBook). Holds P C d.line) c (λ short. subst (Holds P C) (sym is) k) (λ long. subst (λ (p : Pasts). Holds P C (advanced 1 p)) (sym is) (advanced_holds 1 line r k))

    pub moment_holds : (b : PlainBook) → IsWellBook b → Holds P C b.line → (change : Change) (s : State) (reply : Reply) → act (now b.line) change ≡ Ok (s, reply) → C change → Holds P C (within_window (with_moment b change (s, reply))).line
    moment_holds b w h change s reply e k =
        let entry : Entry = record { serial = b.last_serial + 1; change = change; reply = reply } in
        let force : List Entry = newest_force b.line.moments in
        let replayed : replay b.line.base force ≡ Ok (now b.line) = newest_replay b.line.base b.line.moments (in_force (IsReplay b.line.base) b.line (replays b w)) in
        let has : Each (λ (x : Entry). C x.change) force = newest_has C b.line.moments (in_force (ForceHas C) b.line h.moments) in
        grown_holds b (with_moment b change (s, reply)) (new_moment b change s reply) w refl (replay_push b.line.base (now b.line) s force entry replayed e)
        (Each-append (λ (x : Entry). C x.change) force (entry ∷ []) has (k, tt)) h

    pub taken_holds : (b : PlainBook) → IsWellBook b → Holds P C b.line → (serial : ℕ) (s : State) → replay b.line.base (without serial (newest_force b.line.moments)) ≡ Ok s
        → Holds P C (within_window (with_taken_out b serial (without serial (newest_force b.line.moments)) s)).line
    taken_holds b w h serial s e =
        let force : List Entry = newest_force b.line.moments in
        let has : Each (λ (x : Entry). C x.change) force = newest_has C b.line.moments (in_force (ForceHas C) b.line h.moments) in
        grown_holds b (with_taken_out b serial (without serial force) s) (taking_out b serial s) w refl e
        (Each-filter (λ (x : Entry). C x.change) (λ (x : Entry). not (x.serial == serial)) force has) h
