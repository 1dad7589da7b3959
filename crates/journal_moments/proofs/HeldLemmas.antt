-- What is seen of a timeline, and when it is sound.
use Rattle.std.proofs.Common.{◌≡◌, ◌≤◌, List, length, reverse, refl, sym, ◌∙◌, ap, subst, arith}
use Rattle.host_state.specs.State.{State}
use Rattle.host_state.specs.World.{Ready, WorldView}
use Rattle.journal_model.specs.Replay.{Entry}
use Rattle.journal_model.specs.Plain.{Pasts}
use Rattle.journal_record.specs.Recorded.{Recorded}
use Rattle.journal_moments.specs.Line.{entries, Leads, Down, Up, pasts_down, pasts_up}
use Rattle.journal_moments.specs.Held.{Held, base_of, pasts_of, Sound}
use Rattle.journal_moments.specs.MomentView.{MomentView}
use Rattle.journal_record.proofs.LineLemmas.{foot_of}
use Rattle.journal_moments.proofs.SwapLemmas.{Down-room, Up-room}

abbrev pub line : State → List Entry → List MomentView → List MomentView → Pasts
line base es ms us = record { base = base; moments = pasts_down base es ms; undone = pasts_up base es us }

pub pasts_is : (a : Held) → pasts_of a ≡ line (base_of a) (entries a.records) (reverse a.moments) a.undone
unfolding pasts_of
pasts_is a = refl

-- what b has once it leads up from base as its lists say
pub line_from : (ready : Ready) (b : Held) (base : State) (rs : List Recorded) (ms us : List MomentView) → Leads ready base b.world.state b.records → b.records ≡ rs → reverse b.moments ≡ ms → b.undone ≡ us → pasts_of b ≡ line base (entries rs) ms us
line_from ready b base rs ms us h r m u =
    pasts_is b
    ∙ ap (λ s. line s (entries b.records) (reverse b.moments) b.undone) (foot_of ready base b.world.state b.records h)
    ∙ ap (λ xs. line base (entries xs) (reverse b.moments) b.undone) r
    ∙ ap (λ xs. line base (entries rs) xs b.undone) m
    ∙ ap (λ xs. line base (entries rs) ms xs) u

pub sound_from : (ready : Ready) (b : Held) (base : State) (rs : List Recorded) (ms us : List MomentView) → b.world.ready ≡ ready → Leads ready base b.world.state b.records → b.records ≡ rs → reverse b.moments ≡ ms → b.undone ≡ us →
    Down ready base rs b.room ms → Up ready base rs b.room us → length b.records ≤ b.room → length b.moments ≡ b.standing → Sound b
sound_from ready b base rs ms us q h r m u d p z x =
    let e : base_of b ≡ base = foot_of ready base b.world.state b.records h in
    record {
      leads = subst (λ v. Leads v (base_of b) b.world.state b.records) (sym q) (subst (λ s. Leads ready s b.world.state b.records) (sym e) h);
      down = subst (λ v. Down v (base_of b) b.records b.room (reverse b.moments)) (sym q)
          (subst (λ s. Down ready s b.records b.room (reverse b.moments)) (sym e) (subst (λ xs. Down ready base xs b.room (reverse b.moments)) (sym r) (subst (λ xs. Down ready base rs b.room xs) (sym m) d)));
      up = subst (λ v. Up v (base_of b) b.records b.room b.undone) (sym q)
          (subst (λ s. Up ready s b.records b.room b.undone) (sym e) (subst (λ xs. Up ready base xs b.room b.undone) (sym r) (subst (λ xs. Up ready base rs b.room xs) (sym u) p)));
      room_records = z;
      counts = x;
    }

-- b is a with more room for records
pub record SameLine (a b : Held) : Type 0 where
  pub state : b.world.state ≡ a.world.state
  pub ready : b.world.ready ≡ a.world.ready
  pub records : b.records ≡ a.records
  pub moments : b.moments ≡ a.moments
  pub undone : b.undone ≡ a.undone
  pub records_room : a.room ≤ b.room
  pub standing : b.standing ≡ a.standing

same_leads : (a b : Held) → Sound a → SameLine a b → Leads a.world.ready (base_of a) b.world.state b.records
same_leads a b s h = subst (λ w. Leads a.world.ready (base_of a) w b.records) (sym h.state) (subst (λ xs. Leads a.world.ready (base_of a) a.world.state xs) (sym h.records) s.leads)

pub Sound-same : (a b : Held) → Sound a → SameLine a b → Sound b
Sound-same a b s h =
    sound_from a.world.ready b (base_of a) a.records (reverse a.moments) a.undone h.ready (same_leads a b s h) h.records (ap reverse h.moments) h.undone
    (Down-room a.world.ready _ _ _ _ _ h.records_room s.down) (Up-room a.world.ready _ _ _ _ _ h.records_room s.up)
    (omega (arith, s.room_records, h.records_room, ap length h.records))
    (ap length h.moments ∙ s.counts ∙ sym h.standing)

pub pasts_of-same : (a b : Held) → Sound a → SameLine a b → pasts_of b ≡ pasts_of a
pasts_of-same a b s h =
    line_from a.world.ready b (base_of a) a.records (reverse a.moments) a.undone (same_leads a b s h) h.records (ap reverse h.moments) h.undone
    ∙ sym (pasts_is a)

-- the same with a world of the same state and boxes
pub same_world : (a : Held) (w : WorldView) → w.state ≡ a.world.state → w.ready ≡ a.world.ready → SameLine a (record a { world = w })
same_world a w s r = record { state = s; ready = r; records = refl; moments = refl; undone = refl; records_room = omega arith; standing = refl }
