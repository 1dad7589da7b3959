-- A record that is exchanged below others, which it spares: it is turned at the top as it is in its place.
use Rattle.std.proofs.Common.{◌≡◌, true, List, [], ◌∷◌, Ok, refl, sym, ◌∙◌, ap, subst}
use Rattle.host_state.specs.State.{State}
use Rattle.host_state.specs.Settled.{IsSettled}
use Rattle.host_state.specs.World.{Ready, makes_in}
use Rattle.host_state.specs.Act.{Outcome}
use Rattle.host_undoing.specs.declared.undoing.Undoing.{Undoing}
use Rattle.host_undoing.specs.Exchange.{turned, back_of, Fits, Joins}
use Rattle.host_apart.specs.Alike.{IsAsLeft, IsFirst, DoesAlike}
use Rattle.host_apart.specs.Laws.{AreWell, RetiresJust}
use Rattle.host_apart.specs.Refilled.{refilled, exchanged_by}
use Rattle.host_apart.proofs.RefilledLemmas.{turned_refilled, makes_refilled}
use Rattle.host_apart.specs.Spots.{back_of_part, is_keyed_back}
use Rattle.host_apart.proofs.AlikeLemmas.{does_alike}
use Rattle.host_apart.proofs.FirstLemmas.{leaves_first}
use Rattle.host_apart.proofs.TurnedLemmas.{TurnsAgain, turns_again, keyed_turned, apart_turned}
use Rattle.host_apart.proofs.WellLemmas.{turned_well}
use Rattle.journal_model.specs.Well.{Each}
use Rattle.journal_record.specs.After.{after, state_or, state_after}
use Rattle.journal_record.specs.Recorded.{Recorded}
use Rattle.journal_record.specs.Records.{entries, retired_by, stand, IsStanding, IsLying, AllStanding, IsSpared}
use Rattle.journal_record.proofs.LineLemmas.{IsStanding-stand, settled_after}

-- ---- states below and above records in place hold what they can hold, and are settled
pub well_below : (ready : Ready) (s : State) (rs : List Recorded) → AllStanding ready s rs → AreWell (state_after s (entries rs)) → AreWell s
well_below ready s [] h w = w
well_below ready s (r ∷ rs) h w =
    subst AreWell h.0.joins.back_state (turned_well ready (after s r.entry) r.undoing (well_below ready (after s r.entry) rs h.1 w) h.0.joins.back_fits)

well_after : (ready : Ready) (s : State) (r : Recorded) → IsStanding ready s r → AreWell s → AreWell (after s r.entry)
well_after ready s r h w = subst AreWell h.joins.forth_state (turned_well ready s (back_of (after s r.entry) r.undoing) w h.joins.forth_fits)

well_above : (ready : Ready) (s : State) (rs : List Recorded) → AllStanding ready s rs → AreWell s → AreWell (state_after s (entries rs))
well_above ready s [] h w = w
well_above ready s (r ∷ rs) h w = well_above ready (after s r.entry) rs h.1 (well_after ready s r h.0 w)

settled_above : (ready : Ready) (s : State) (rs : List Recorded) → AllStanding ready s rs → IsSettled s → IsSettled (state_after s (entries rs))
settled_above ready s [] h w = w
settled_above ready s (r ∷ rs) h w = settled_above ready (after s r.entry) rs h.1 (settled_after ready s (after s r.entry) _ _ h.0.joins)

-- ---- one that stands, below others that it spares
module _ (ready : Ready) (s : State) (one : Recorded) (keyed : is_keyed_back (back_of_part one.undoing.part) ≡ true) (h : IsStanding ready s one) (well : AreWell s) where
  first : IsFirst (after s one.entry) one.entry.change one.undoing
  first = leaves_first s (after s one.entry) one.entry.change one.entry.reply one.undoing well (subst IsSettled h.joins.back_state h.joins.back_fits.settled) h.acts h.own keyed h.retires

  -- the others stand without it, too, and it can be turned above them
  record Carries (x : State) (rs : List Recorded) : Type 0 where
    left : IsAsLeft ready (state_after x (entries rs)) one.undoing (back_of (after s one.entry) one.undoing)
    standing : AllStanding ready (turned x one.undoing) rs
    end : state_after (turned x one.undoing) (entries rs) ≡ turned (state_after x (entries rs)) one.undoing

  carries_one : (x : State) (r : Recorded) → IsStanding ready x r → AreWell x → IsAsLeft ready x one.undoing (back_of (after s one.entry) one.undoing) → IsSpared one r
      → DoesAlike ready x (after x r.entry) one.undoing (back_of (after s one.entry) one.undoing) r.entry.change r.entry.reply r.undoing
  carries_one x r stands w left spared =
      does_alike ready x (after x r.entry) one.entry.change one.undoing (back_of (after s one.entry) one.undoing) r.entry.change r.entry.reply r.undoing (record {
        well = w;
        one = first.one;
        bytes = (h.bytes, stands.bytes);
        as_left = left;
        acts = stands.acts;
        joins = stands.joins;
        own = stands.own;
        apart = spared.apart;
        puts = first.puts;
      })

  stands_without : (x : State) (r : Recorded) → IsStanding ready x r → DoesAlike ready x (after x r.entry) one.undoing (back_of (after s one.entry) one.undoing) r.entry.change r.entry.reply r.undoing
      → (after (turned x one.undoing) r.entry ≡ turned (after x r.entry) one.undoing) × IsStanding ready (turned x one.undoing) r
  stands_without x r stands d =
      let y : State = turned x one.undoing in
      let is : after y r.entry ≡ turned (after x r.entry) one.undoing = ap (state_or y) d.acts in (
        is,
        record {
          acts = d.acts ∙ ap (λ v. let p : Outcome = Ok (v, r.entry.reply) in p) (sym is);
          own = d.own;
          bytes = stands.bytes;
          joins = subst (λ v. Joins ready y v r.undoing (back_of v r.undoing)) (sym is) d.joins;
          retires = subst (λ v. RetiresJust y v (retired_by r)) (sym is) (d.retires (retired_by r) stands.retires);
        },
      )

  carries_from : (x : State) (rs : List Recorded) → AllStanding ready x rs → AreWell x → IsAsLeft ready x one.undoing (back_of (after s one.entry) one.undoing) → Each (IsSpared one) rs → Carries x rs
  carries_from x [] stands w left spared = record { left = left; standing = tt; end = refl }
  carries_from x (r ∷ rs) stands w left spared =
      let d : DoesAlike ready x (after x r.entry) one.undoing (back_of (after s one.entry) one.undoing) r.entry.change r.entry.reply r.undoing = carries_one x r stands.0 w left spared.0 in
      let rest : Carries (after x r.entry) rs = carries_from (after x r.entry) rs stands.1 (well_after ready x r stands.0 w) d.as_left spared.1 in
      let here : (after (turned x one.undoing) r.entry ≡ turned (after x r.entry) one.undoing) × IsStanding ready (turned x one.undoing) r = stands_without x r stands.0 d in
      record {
        left = rest.left;
        standing = (here.1, subst (λ v. AllStanding ready v rs) (sym here.0) rest.standing);
        end = ap (λ v. state_after v (entries rs)) here.0 ∙ rest.end;
      }

  -- what turning it above them leaves, and what it then is
  pub record Goes (rs : List Recorded) : Type 0 where
    pub fits : Fits ready (state_after (after s one.entry) (entries rs)) one.undoing
    pub state : turned (state_after (after s one.entry) (entries rs)) one.undoing ≡ state_after s (entries rs)
    pub face : back_of (state_after (after s one.entry) (entries rs)) one.undoing ≡ back_of (after s one.entry) one.undoing
    pub standing : AllStanding ready s rs

  pub goes : (rs : List Recorded) → AllStanding ready (after s one.entry) rs → Each (IsSpared one) rs → Goes rs
  goes rs stands spared =
      let c : Carries (after s one.entry) rs = carries_from (after s one.entry) rs stands (well_after ready s one h well) (record { fits = h.joins.back_fits; face = refl }) spared in
      record {
        fits = c.left.fits;
        state = sym c.end ∙ ap (λ v. state_after v (entries rs)) h.joins.back_state;
        face = c.left.face;
        standing = subst (λ v. AllStanding ready v rs) h.joins.back_state c.standing;
      }

  -- no object comes or goes by it
  pub same_objects : (w : State) → (makes_in (turned w one.undoing) ≡ makes_in w) × ((turned w one.undoing).progs ≡ w.progs)
  same_objects w =
      let is : turned w one.undoing ≡ refilled w first.one.id (exchanged_by first.one.kept.back) = turned_refilled w one.undoing first.one.id first.one.kept first.one.part_is first.one.none in
      (ap makes_in is ∙ makes_refilled w first.one.id (exchanged_by first.one.kept.back), ap (λ (x : State). x.progs) is)

  -- and that it can be turned again there
  goes_again : (rs : List Recorded) → AllStanding ready (after s one.entry) rs → Each (IsSpared one) rs → TurnsAgain ready (state_after (after s one.entry) (entries rs)) one.undoing
  goes_again rs stands spared =
      turns_again ready (state_after (after s one.entry) (entries rs)) one.undoing first.one.id first.one.kept first.one.part_is first.one.none
      (well_above ready (after s one.entry) rs stands (well_after ready s one h well))
      (settled_above ready (after s one.entry) rs stands (settled_after ready s (after s one.entry) _ _ h.joins))
      (goes rs stands spared).fits

-- ---- one that lies below them
-- what turning it above them leaves, and what it then is
pub record Comes (ready : Ready) (s : State) (one : Recorded) (rs : List Recorded) : Type 0 where
  pub fits : Fits ready (state_after s (entries rs)) one.undoing
  pub state : turned (state_after s (entries rs)) one.undoing ≡ state_after (after s one.entry) (entries rs)
  pub face : back_of (state_after s (entries rs)) one.undoing ≡ back_of s one.undoing

spared_stood : (s : State) (one : Recorded) (rs : List Recorded) → is_keyed_back (back_of_part one.undoing.part) ≡ true → Each (IsSpared one) rs → Each (IsSpared (stand s one)) rs
unfolding stand
spared_stood s one [] keyed h = tt
spared_stood s one (r ∷ rs) keyed h = (
  record {
    apart = apart_turned s one.entry.change r.entry.change one.undoing r.undoing.part keyed ∙ h.0.apart;
    serials = h.0.serials;
  },
  spared_stood s one rs keyed h.1,
)

pub comes : (ready : Ready) (s : State) (one : Recorded) (rs : List Recorded) → is_keyed_back (back_of_part one.undoing.part) ≡ true → IsLying ready s one → AreWell s → AllStanding ready (after s one.entry) rs → Each (IsSpared one) rs → Comes ready s one rs
unfolding stand
comes ready s one rs keyed h well stands spared =
    let back : Recorded = stand s one in
    let up : IsStanding ready s back = IsStanding-stand ready s one h in
    let key : is_keyed_back (back_of_part back.undoing.part) ≡ true = keyed_turned s one.undoing keyed in
    let all : Each (IsSpared back) rs = spared_stood s one rs keyed spared in
    let l : Goes ready s back key up well rs = goes ready s back key up well rs stands all in
    let a : TurnsAgain ready (state_after (after s one.entry) (entries rs)) (back_of s one.undoing) = goes_again ready s back key up well rs stands all in
    let face : back_of (state_after (after s one.entry) (entries rs)) (back_of s one.undoing) ≡ one.undoing = l.face ∙ h.joins.back_face in
    record {
      fits = subst (λ (p : State × Undoing). Fits ready p.0 p.1) (λ i. (l.state i, face i)) a.fits;
      state = (λ i. turned (sym l.state i) (sym face i)) ∙ a.state;
      face = (λ i. back_of (sym l.state i) (sym face i)) ∙ a.face;
    }
