-- A timeline is as sound once what has retired in its base is dropped.
use Rattle.std.proofs.Common.{◌≡◌, ℕ, List, length, map as each, reverse, refl, sym, ◌∙◌, ap, ap₂, subst, arith}
use Rattle.host_state.specs.State.{State}
use Rattle.host_state.specs.World.{ListsLive, kept_state}
use Rattle.host_undoing.specs.Exchange.{JoinsWithout}
use Rattle.journal_model.specs.Plain.{Pasts}
use Rattle.journal_moments.specs.Line.{entries, Leads, Down, Up, pasts_down, pasts_up}
use Rattle.journal_moments.specs.Held.{Held, base_of, pasts_of, Sound}
use Rattle.journal_moments.specs.Rebased.{ListsLeft, ListsAllLeft, kept_past, kept_pasts}
use Rattle.journal_moments.proofs.HeldLemmas.{line, pasts_is, line_from, sound_from}
use Rattle.journal_moments.proofs.LeftLemmas.{live_left, lasts_standing, newest_left, down_left, up_left, leads_left}
use Rattle.journal_model.proofs.Retiring.{Lasts, lasts_itself}

-- what is listed, of the base, the moments and the undone ones in order
listed : (maps progs : List ℕ) (a : Held) → ListsAllLeft maps progs (pasts_of a) → ListsAllLeft maps progs (line (base_of a) (entries a.records) (reverse a.moments) a.undone)
listed maps progs a l = subst (ListsAllLeft maps progs) (pasts_is a) l

top_left : (maps progs : List ℕ) (a : Held) → Sound a → ListsAllLeft maps progs (pasts_of a) → ListsLeft maps progs (base_of a) a.world.state
top_left maps progs a s l =
    let p : ListsAllLeft maps progs (line (base_of a) (entries a.records) (reverse a.moments) a.undone) = listed maps progs a l in
    subst (ListsLeft maps progs (base_of a)) (sym s.leads.top) (newest_left maps progs a.world.ready (base_of a) a.records a.room (reverse a.moments) p.in_base p.in_moments s.down)

-- each live object of the state as it is now is listed
pub now_left : (maps progs : List ℕ) (a : Held) → Sound a → ListsAllLeft maps progs (pasts_of a) → ListsLive maps progs a.world.state
now_left maps progs a s l =
    let base : State = base_of a in
    live_left maps progs base a.world.state
    (subst (Lasts base) (sym s.leads.top) (lasts_standing a.world.ready base base a.records s.leads.standing (lasts_itself base)))
    (top_left maps progs a s l)

-- b is a without what is not listed
pub record DropsRetired (maps progs : List ℕ) (a b : Held) : Type 0 where
  pub state : b.world.state ≡ kept_state maps progs a.world.state
  pub joins : JoinsWithout maps progs a.world.ready b.world.ready
  pub records : b.records ≡ a.records
  pub moments : b.moments ≡ a.moments
  pub undone : b.undone ≡ a.undone
  pub room : b.room ≡ a.room
  pub standing : b.standing ≡ a.standing

-- what is left of it: the records in place, the moments, and the undone ones
record Left (maps progs : List ℕ) (a b : Held) : Type 0 where
  leads : Leads b.world.ready (kept_state maps progs (base_of a)) b.world.state b.records
  down : Down b.world.ready (kept_state maps progs (base_of a)) a.records a.room (reverse a.moments)
  up : Up b.world.ready (kept_state maps progs (base_of a)) a.records a.room a.undone
  downs : pasts_down (kept_state maps progs (base_of a)) (entries a.records) (reverse a.moments) ≡ each (kept_past maps progs) (pasts_down (base_of a) (entries a.records) (reverse a.moments))
  ups : pasts_up (kept_state maps progs (base_of a)) (entries a.records) a.undone ≡ each (kept_past maps progs) (pasts_up (base_of a) (entries a.records) a.undone)

left : (maps progs : List ℕ) (a b : Held) → Sound a → ListsAllLeft maps progs (pasts_of a) → DropsRetired maps progs a b → Left maps progs a b
left maps progs a b s l g =
    let base : State = base_of a in
    let p : ListsAllLeft maps progs (line base (entries a.records) (reverse a.moments) a.undone) = listed maps progs a l in
    let down = down_left maps progs a.world.ready b.world.ready base g.joins a.records a.room (reverse a.moments) s.leads.standing p.in_base p.in_moments s.down in
    let up = up_left maps progs a.world.ready b.world.ready base g.joins a.records a.room a.undone s.leads.standing p.in_undone s.up in
    record {
      leads =
          subst (Leads b.world.ready (kept_state maps progs base) b.world.state) (sym g.records)
          (subst (λ w. Leads b.world.ready (kept_state maps progs base) w a.records) (sym g.state)
          (leads_left maps progs a.world.ready b.world.ready base g.joins a.world.state a.records s.leads (top_left maps progs a s l)));
      down = down.0;
      up = up.0;
      downs = down.1;
      ups = up.1;
    }

pub Sound-left : (maps progs : List ℕ) (a b : Held) → Sound a → ListsAllLeft maps progs (pasts_of a) → DropsRetired maps progs a b → Sound b
Sound-left maps progs a b s l g =
    let x : Left maps progs a b = left maps progs a b s l g in
    let base : State = kept_state maps progs (base_of a) in
    sound_from b.world.ready b base a.records (reverse a.moments) a.undone refl x.leads g.records (ap reverse g.moments) g.undone
    (subst (λ n. Down b.world.ready base a.records n (reverse a.moments)) (sym g.room) x.down)
    (subst (λ n. Up b.world.ready base a.records n a.undone) (sym g.room) x.up)
    (omega (arith, s.room_records, ap length g.records, g.room))
    (ap length g.moments ∙ s.counts ∙ sym g.standing)

pub pasts_of-left : (maps progs : List ℕ) (a b : Held) → Sound a → ListsAllLeft maps progs (pasts_of a) → DropsRetired maps progs a b → pasts_of b ≡ kept_pasts maps progs (pasts_of a)
pasts_of-left maps progs a b s l g =
    let x : Left maps progs a b = left maps progs a b s l g in
    let base : State = kept_state maps progs (base_of a) in
    line_from b.world.ready b base a.records (reverse a.moments) a.undone x.leads g.records (ap reverse g.moments) g.undone
    ∙ ap₂ (λ ms us. let p : Pasts = record { base = base; moments = ms; undone = us } in p) x.downs x.ups
    ∙ ap (kept_pasts maps progs) (sym (pasts_is a))
