-- A moment is appended.
use Rattle.std.proofs.Common.{◌≡◌, ◌≤◌, List, [], ◌∷◌, ◌++◌, length, take, reverse, sym, ◌∙◌, ap, subst, arith, Ok, None}
use Rattle.std.proofs.lemmas.List.{append-nil, take_at, length-append}
use Rattle.host_state.specs.State.{State}
use Rattle.host_state.specs.World.{Ready}
use Rattle.host_state.specs.Act.{act, Outcome}
use Rattle.host_undoing.specs.Exchange.{back_of, Joins}
use Rattle.host_undoing.specs.Answers.{IsOwn}
use Rattle.host_apart.specs.Alike.{HasByteKey}
use Rattle.journal_model.specs.Replay.{Entry}
use Rattle.journal_model.specs.Plain.{Past, Pasts, appended}
use Rattle.journal_moments.specs.After.{after, state_or, state_after}
use Rattle.journal_moments.specs.Recorded.{Recorded}
use Rattle.journal_moments.specs.Line.{entries, RetiresJust, retired_by, IsStanding, AllStanding, AllLying, stood, foot, Leads, swapped, CanSwap, Down, other_force, past, pasts_down}
use Rattle.journal_moments.specs.Held.{Held, base_of, pasts_of, Sound}
use Rattle.journal_moments.specs.MomentView.{MomentView}
use Rattle.journal_moments.proofs.LineLemmas.{AllStanding-append, entries-append, state_after-append}
use Rattle.journal_moments.proofs.SwapLemmas.{entries-swapped, Down-room, swapped-alone, stands_none}
use Rattle.journal_moments.proofs.HeldLemmas.{line, pasts_is, line_from, sound_from}
use Rattle.journal_moments.proofs.MoveLemmas.{moment_push}
use Rattle.journal_moments.proofs.NewestLemmas.{force_down}

-- a change was done in a, giving b
pub record AppendsTo (a b : Held) (r : Recorded) (m : MomentView) : Type 0 where
  pub acts : act a.world.state r.entry.change ≡ Ok (b.world.state, r.entry.reply)
  pub own : IsOwn a.world.state r.entry.change r.undoing.part
  pub bytes : HasByteKey r.undoing.part
  pub joins : Joins a.world.ready a.world.state b.world.state r.undoing (back_of b.world.state r.undoing)
  pub retires : RetiresJust a.world.state b.world.state (retired_by r)
  pub ready : b.world.ready ≡ a.world.ready
  pub fits : length b.records ≤ b.room
  pub records : b.records ≡ a.records ++ r ∷ []
  pub moments : b.moments ≡ a.moments ++ m ∷ []
  pub undone : b.undone ≡ []
  pub at : m.at ≡ length a.records
  pub stays : m.stays ≡ 0
  pub serial : m.serial ≡ r.entry.serial
  pub out : m.out ≡ None
  pub other : m.other ≡ []
  pub spare_room : 1 ≤ m.room
  pub room : a.room ≤ b.room
  pub counts : length b.moments ≡ b.standing

pub IsStanding-done : (ready : Ready) (s w : State) (r : Recorded) → act s r.entry.change ≡ Ok (w, r.entry.reply) → IsOwn s r.entry.change r.undoing.part → HasByteKey r.undoing.part → Joins ready s w r.undoing (back_of w r.undoing) → RetiresJust s w (retired_by r)
    → (w ≡ after s r.entry) × IsStanding ready s r
IsStanding-done ready s w r d own bytes j g =
    let e : w ≡ after s r.entry = sym (ap (state_or s) d) in (
      e,
      record {
        acts = d ∙ ap (λ v. let p : Outcome = Ok (v, r.entry.reply) in p) e;
        own = own;
        bytes = bytes;
        joins = subst (λ v. Joins ready s v r.undoing (back_of v r.undoing)) e j;
        retires = subst (λ v. RetiresJust s v (retired_by r)) e g;
      },
    )

-- one record more in place
pub leads_push : (ready : Ready) (base w v : State) (rs : List Recorded) (r : Recorded) → Leads ready base w rs → act w r.entry.change ≡ Ok (v, r.entry.reply) → IsOwn w r.entry.change r.undoing.part → HasByteKey r.undoing.part → Joins ready w v r.undoing (back_of v r.undoing) → RetiresJust w v (retired_by r)
    → Leads ready base v (rs ++ r ∷ [])
leads_push ready base w v rs r h d own bytes j g =
    let t : (v ≡ after w r.entry) × IsStanding ready w r = IsStanding-done ready w v r d own bytes j g in
    record {
      standing = AllStanding-append ready base rs (r ∷ []) h.standing (subst (λ u. AllStanding ready u (r ∷ [])) h.top (t.1, tt));
      top = t.0 ∙ ap (λ u. after u r.entry) h.top ∙ sym (ap (state_after base) (entries-append rs (r ∷ [])) ∙ state_after-append base (entries rs) (r.entry ∷ []));
    }

append_leads : (a b : Held) (r : Recorded) (m : MomentView) → Sound a → AppendsTo a b r m → Leads a.world.ready (base_of a) b.world.state b.records
append_leads a b r m s g = subst (Leads a.world.ready (base_of a) b.world.state) (sym g.records) (leads_push a.world.ready (base_of a) a.world.state b.world.state a.records r s.leads g.acts g.own g.bytes g.joins g.retires)

-- the new moment, exchanged, leaves what stood before
append_swapped : (base : State) (rs : List Recorded) (r : Recorded) (m : MomentView) → m.at ≡ length rs → m.stays ≡ 0 → m.other ≡ [] → swapped base (rs ++ r ∷ []) m ≡ rs
append_swapped base rs r m e none o =
    swapped-alone base (rs ++ r ∷ []) m none
    ∙ ap (λ xs. take m.at (rs ++ r ∷ []) ++ stood (state_after base (entries (take m.at (rs ++ r ∷ [])))) (reverse xs)) o
    ∙ append-nil (take m.at (rs ++ r ∷ []))
    ∙ take_at rs (r ∷ []) m.at (sym e)

append_can : (a b : Held) (r : Recorded) (m : MomentView) → Sound a → AppendsTo a b r m → CanSwap a.world.ready (base_of a) (a.records ++ r ∷ []) b.room m
append_can a b r m s g = record {
  within = omega (arith, length-append a.records (r ∷ []), g.at, g.stays);
  lying = subst (λ xs. AllLying a.world.ready (state_after (base_of a) (entries (take m.at (a.records ++ r ∷ [])))) (reverse xs)) (sym g.other) tt;
  standing = stands_none a.world.ready _ m.stays (a.records ++ r ∷ []) g.stays;
  one = λ some. absurd (omega (arith, some, g.stays));
  room_back = omega (arith, length-append a.records (r ∷ []), g.at, g.spare_room);
  room_forth = omega (arith, ap length g.other, ap length g.records, length-append a.records (r ∷ []), g.at, g.stays, g.fits);
}

pub Sound-append : (a b : Held) (r : Recorded) (m : MomentView) → Sound a → AppendsTo a b r m → Sound b
Sound-append a b r m s g =
    let base : State = base_of a in
    let rs : List Recorded = a.records in
    sound_from a.world.ready b base (rs ++ r ∷ []) (m ∷ reverse a.moments) [] g.ready (append_leads a b r m s g) g.records (moment_push b.moments a.moments m g.moments) g.undone
    (append_can a b r m s g, subst (λ xs. Down a.world.ready base xs b.room (reverse a.moments)) (sym (append_swapped base rs r m g.at g.stays g.other)) (Down-room a.world.ready _ _ _ _ _ g.room s.down))
    tt
    g.fits
    g.counts

pub pasts_of-append : (a b : Held) (r : Recorded) (m : MomentView) → Sound a → AppendsTo a b r m → pasts_of b ≡ appended (pasts_of a) r.entry b.world.state
pasts_of-append a b r m s g =
    let base : State = base_of a in
    let rs : List Recorded = a.records in
    let ms : List MomentView = reverse a.moments in
    let es : List Entry = entries rs ++ r.entry ∷ [] in
    let h : Leads a.world.ready base b.world.state b.records = append_leads a b r m s g in
    let es_is : entries (rs ++ r ∷ []) ≡ es = entries-append rs (r ∷ []) in
    let top : state_after base es ≡ b.world.state = ap (state_after base) (sym es_is ∙ ap entries (sym g.records)) ∙ sym h.top in
    let below : other_force es m ≡ entries rs =
    ap (λ xs. other_force xs m) (sym es_is) ∙ sym (entries-swapped base (rs ++ r ∷ []) m) ∙ ap entries (append_swapped base rs r m g.at g.stays g.other) in
    line_from a.world.ready b base (rs ++ r ∷ []) (m ∷ ms) [] h g.records (moment_push b.moments a.moments m g.moments) g.undone
    ∙ ap (λ fs. line base fs (m ∷ ms) []) es_is
    ∙ ap (λ fs. let p : Pasts = record { base = base; moments = past base es m ∷ pasts_down base fs ms; undone = [] } in p) below
    ∙ ap (λ q. let p : Pasts = record { base = base; moments = q ∷ pasts_down base (entries rs) ms; undone = [] } in p)
    (ap (λ i. let p : Past = record { serial = i; out = m.out; force = es; state = state_after base es } in p) g.serial
    ∙ ap (λ o. let p : Past = record { serial = r.entry.serial; out = o; force = es; state = state_after base es } in p) g.out
    ∙ ap (λ v. let p : Past = record { serial = r.entry.serial; out = None; force = es; state = v } in p) top
    ∙ ap (λ fs. let p : Past = record { serial = r.entry.serial; out = None; force = fs ++ r.entry ∷ []; state = b.world.state } in p) (sym (force_down a.world.ready base rs a.room ms s.down)))
    ∙ ap (λ p. appended p r.entry b.world.state) (sym (pasts_is a))

pub pasts_of-new : (a : Held) → a.records ≡ [] → a.moments ≡ [] → a.undone ≡ [] → pasts_of a ≡ record { base = a.world.state; moments = []; undone = [] }
pasts_of-new a r m u =
    pasts_is a
    ∙ ap (λ xs. line (foot a.world.state xs) (entries xs) (reverse a.moments) a.undone) r
    ∙ ap (λ xs. line a.world.state [] (reverse xs) a.undone) m
    ∙ ap (λ xs. line a.world.state [] [] xs) u
