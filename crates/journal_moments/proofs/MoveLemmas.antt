-- A moment is undone, or done again.
use Rattle.std.proofs.Common.{◌≡◌, ℕ, ◌≤◌, List, [], ◌∷◌, ◌++◌, length, reverse, refl, sym, ◌∙◌, ap, subst}
use Rattle.std.proofs.lemmas.List.{reverse-append}
use Rattle.host_state.specs.State.{State}
use Rattle.journal_model.specs.Replay.{Entry}
use Rattle.journal_model.specs.Plain.{Past, Pasts, one_back, one_forth}
use Rattle.journal_record.specs.After.{state_after}
use Rattle.journal_record.specs.Recorded.{Recorded}
use Rattle.journal_moments.specs.Line.{entries, AllStanding, Leads, swapped, CanSwap, Exchanged, Down, Up, other_force, past, pasts_down, pasts_up}
use Rattle.journal_moments.specs.Held.{Held, base_of, pasts_of, Sound}
use Rattle.journal_moments.specs.MomentView.{MomentView}
use Rattle.journal_moments.specs.Swaps.{Exchanges}
use Rattle.journal_moments.proofs.SwapLemmas.{AllStanding-swapped, entries-swapped, swapped-again, other_force-again, CanSwap-again, Down-room, Up-room}
use Rattle.journal_moments.proofs.HeldLemmas.{line, pasts_is, line_from, sound_from}

-- a moment was exchanged in a, giving b
pub record Swaps (a b : Held) (m n : MomentView) : Type 0 where
  pub fits : length b.records ≤ b.room
  pub room : a.room ≤ b.room
  pub exchanges : Exchanges a.world a.records m b.world b.records n

swaps_leads : (a b : Held) (room : ℕ) (m n : MomentView) → Sound a → CanSwap a.world.ready (base_of a) a.records room m → Swaps a b m n → Leads a.world.ready (base_of a) b.world.state b.records
swaps_leads a b room m n s k w =
    let base : State = base_of a in
    record {
      standing = subst (AllStanding a.world.ready base) (sym w.exchanges.records) (AllStanding-swapped a.world.ready base a.world.state a.records room m s.leads k);
      top = w.exchanges.state;
    }

past_same : (base : State) (es : List Entry) (rs : List Recorded) (m n : MomentView) → Exchanged base rs m n → past base es n ≡ past base es m
past_same base es rs m n x =
    ap (λ i. let p : Past = record { serial = i; out = n.out; force = es; state = state_after base es } in p) x.serial_same
    ∙ ap (λ o. let p : Past = record { serial = m.serial; out = o; force = es; state = state_after base es } in p) x.out_same

pub moment_push : (ms rest : List MomentView) (m : MomentView) → ms ≡ rest ++ m ∷ [] → reverse ms ≡ m ∷ reverse rest
moment_push ms rest m e = ap reverse e ∙ reverse-append rest (m ∷ [])

-- the newest moment goes to the undone ones
pub record GoesBack (a b : Held) (m n : MomentView) : Type 0 where
  pub swaps : Swaps a b m n
  pub moments : a.moments ≡ b.moments ++ m ∷ []
  pub undone : b.undone ≡ n ∷ a.undone
  pub counts : length b.moments ≡ b.standing

down_top : (a : Held) (m : MomentView) (ms : List MomentView) → Sound a → a.moments ≡ ms ++ m ∷ [] → Down a.world.ready (base_of a) a.records a.room (m ∷ reverse ms)
down_top a m ms s e = subst (Down a.world.ready (base_of a) a.records a.room) (moment_push a.moments ms m e) s.down

up_top : (a : Held) (m : MomentView) (us : List MomentView) → Sound a → a.undone ≡ m ∷ us → Up a.world.ready (base_of a) a.records a.room (m ∷ us)
up_top a m us s e = subst (Up a.world.ready (base_of a) a.records a.room) e s.up

pub can_back : (a : Held) (m : MomentView) (ms : List MomentView) → Sound a → a.moments ≡ ms ++ m ∷ [] → CanSwap a.world.ready (base_of a) a.records a.room m
can_back a m ms s e = (down_top a m ms s e).0

pub can_forth : (a : Held) (m : MomentView) (us : List MomentView) → Sound a → a.undone ≡ m ∷ us → CanSwap a.world.ready (base_of a) a.records a.room m
can_forth a m us s e = (up_top a m us s e).0

pub Sound-back : (a b : Held) (m n : MomentView) → Sound a → GoesBack a b m n → Sound b
Sound-back a b m n s g =
    let base : State = base_of a in
    let rs : List Recorded = a.records in
    let top : Down a.world.ready base rs a.room (m ∷ reverse b.moments) = down_top a m b.moments s g.moments in
    let again : CanSwap a.world.ready base (swapped base rs m) a.room n = CanSwap-again a.world.ready base a.world.state rs a.room m n s.leads top.0 g.swaps.exchanges.moment s.room_records in
    sound_from a.world.ready b base (swapped base rs m) (reverse b.moments) (n ∷ a.undone) g.swaps.exchanges.ready (swaps_leads a b _ m n s top.0 g.swaps) g.swaps.exchanges.records refl g.undone
    (Down-room a.world.ready _ _ _ _ _ g.swaps.room top.1)
    (Up-room a.world.ready base (swapped base rs m) _ _ (n ∷ a.undone) g.swaps.room (again, subst (λ xs. Up a.world.ready base xs a.room a.undone) (sym (swapped-again a.world.ready base a.world.state rs _ m n s.leads top.0 g.swaps.exchanges.moment)) s.up))
    g.swaps.fits
    g.counts

pub pasts_of-back : (a b : Held) (m n : MomentView) → Sound a → GoesBack a b m n → pasts_of b ≡ one_back (pasts_of a)
pasts_of-back a b m n s g =
    let base : State = base_of a in
    let rs : List Recorded = a.records in
    let ms : List MomentView = reverse b.moments in
    let us : List MomentView = a.undone in
    let es : List Entry = entries rs in
    let k : CanSwap a.world.ready base rs a.room m = can_back a m b.moments s g.moments in
    line_from a.world.ready b base (swapped base rs m) ms (n ∷ us) (swaps_leads a b _ m n s k g.swaps) g.swaps.exchanges.records refl g.undone
    ∙ ap (λ fs. line base fs ms (n ∷ us)) (entries-swapped base rs m)
    ∙ ap (λ fs. let p : Pasts = record { base = base; moments = pasts_down base (other_force es m) ms; undone = past base fs n ∷ pasts_up base fs us } in p) (other_force-again a.world.ready base a.world.state rs _ m n s.leads k g.swaps.exchanges.moment)
    ∙ ap (λ q. let p : Pasts = record { base = base; moments = pasts_down base (other_force es m) ms; undone = q ∷ pasts_up base es us } in p) (past_same base es rs m n g.swaps.exchanges.moment)
    ∙ ap (λ xs. one_back (line base es xs us)) (sym (moment_push a.moments b.moments m g.moments))
    ∙ ap one_back (sym (pasts_is a))

-- the first undone moment comes back
pub record GoesForth (a b : Held) (m n : MomentView) : Type 0 where
  pub swaps : Swaps a b m n
  pub undone : a.undone ≡ m ∷ b.undone
  pub moments : b.moments ≡ a.moments ++ n ∷ []
  pub counts : length b.moments ≡ b.standing

pub Sound-forth : (a b : Held) (m n : MomentView) → Sound a → GoesForth a b m n → Sound b
Sound-forth a b m n s g =
    let base : State = base_of a in
    let rs : List Recorded = a.records in
    let top : Up a.world.ready base rs a.room (m ∷ b.undone) = up_top a m b.undone s g.undone in
    let again : CanSwap a.world.ready base (swapped base rs m) a.room n = CanSwap-again a.world.ready base a.world.state rs a.room m n s.leads top.0 g.swaps.exchanges.moment s.room_records in
    sound_from a.world.ready b base (swapped base rs m) (n ∷ reverse a.moments) b.undone g.swaps.exchanges.ready (swaps_leads a b _ m n s top.0 g.swaps) g.swaps.exchanges.records (moment_push b.moments a.moments n g.moments) refl
    (Down-room a.world.ready base (swapped base rs m) _ _ (n ∷ reverse a.moments) g.swaps.room (again, subst (λ xs. Down a.world.ready base xs a.room (reverse a.moments)) (sym (swapped-again a.world.ready base a.world.state rs _ m n s.leads top.0 g.swaps.exchanges.moment)) s.down))
    (Up-room a.world.ready _ _ _ _ _ g.swaps.room top.1)
    g.swaps.fits
    g.counts

pub pasts_of-forth : (a b : Held) (m n : MomentView) → Sound a → GoesForth a b m n → pasts_of b ≡ one_forth (pasts_of a)
pasts_of-forth a b m n s g =
    let base : State = base_of a in
    let rs : List Recorded = a.records in
    let us : List MomentView = b.undone in
    let ms : List MomentView = reverse a.moments in
    let es : List Entry = entries rs in
    let k : CanSwap a.world.ready base rs a.room m = can_forth a m b.undone s g.undone in
    line_from a.world.ready b base (swapped base rs m) (n ∷ ms) us (swaps_leads a b _ m n s k g.swaps) g.swaps.exchanges.records (moment_push b.moments a.moments n g.moments) refl
    ∙ ap (λ fs. line base fs (n ∷ ms) us) (entries-swapped base rs m)
    ∙ ap (λ fs. let p : Pasts = record { base = base; moments = past base (other_force es m) n ∷ pasts_down base fs ms; undone = pasts_up base (other_force es m) us } in p) (other_force-again a.world.ready base a.world.state rs _ m n s.leads k g.swaps.exchanges.moment)
    ∙ ap (λ q. let p : Pasts = record { base = base; moments = q ∷ pasts_down base es ms; undone = pasts_up base (other_force es m) us } in p) (past_same base (other_force es m) rs m n g.swaps.exchanges.moment)
    ∙ ap (λ xs. one_forth (line base es ms xs)) (sym g.undone)
    ∙ ap one_forth (sym (pasts_is a))
