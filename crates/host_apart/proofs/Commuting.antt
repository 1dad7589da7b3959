-- An undoing that commutes with what makes the contents of a map others joins the same two states then.
use Rattle.std.proofs.Common.{◌≡◌, ℕ, ◌||◌, not, IsTrue, sym, ap, subst, ◌∙◌}
use Rattle.bt_mapkind.specs.Contents.{Contents as Held}
use Rattle.bt_roots.specs.declared.target.Target.{Target}
use Rattle.host_state.specs.State.{State}
use Rattle.host_state.specs.Settled.{is_live_in, revived, IsSettled}
use Rattle.host_state.specs.World.{Ready}
use Rattle.host_undoing.specs.declared.undoing.Part.{Part}
use Rattle.host_undoing.specs.declared.undoing.Undoing.{Undoing}
use Rattle.host_undoing.specs.Exchange.{part_turned, part_back, turned, back_of, FitsPlace, Fits, Joins}
use Rattle.host_apart.specs.Refilled.{KeepsIds, refilled}
use Rattle.host_apart.proofs.RefilledLemmas.{live_refilled, revived_refilled, settled_refilled}

-- an exchange of a part leaves, gives and needs the same when the contents of a map are made others
pub record Commutes (ready : Ready) (s : State) (id : ℕ) (f : Held → Held) (part : Part) : Type 0 where
  pub turns : part_turned (refilled s id f) part ≡ refilled (part_turned s part) id f
  pub back : part_back (refilled s id f) part ≡ part_back s part
  pub place : FitsPlace ready (refilled s id f) part

module _ (ready : Ready) (id : ℕ) (f : Held → Held) where
  pub turned_by : (s : State) (v : Undoing) → Commutes ready s id f v.part → turned (refilled s id f) v ≡ refilled (turned s v) id f
  unfolding turned
  turned_by s v c = ap (λ x. revived x v.retired.targets v.retired.live) c.turns ∙ revived_refilled id f (part_turned s v.part) v.retired.targets v.retired.live

  pub back_of_by : (s : State) (v : Undoing) → Commutes ready s id f v.part → back_of (refilled s id f) v ≡ back_of s v
  unfolding back_of
  back_of_by s v c = λ i. record { part = c.back i; retired = record v.retired { live = not v.retired.live } }

  pub fits_by : (s : State) (v : Undoing) → KeepsIds f → IsSettled (turned s v) → Commutes ready s id f v.part → Fits ready (refilled s id f) v
  fits_by s v keeps settled c = record { place = c.place; settled = subst IsSettled (sym (turned_by s v c)) (settled_refilled id f keeps (turned s v) settled) }

  same_lives : (s t : State) (x : Target) → IsTrue (is_live_in s x || is_live_in t x) → IsTrue (is_live_in (refilled s id f) x || is_live_in (refilled t id f) x)
  same_lives s t x lives = (λ i. live_refilled id f s x i || live_refilled id f t x i) ∙ lives

pub joins_by : (ready : Ready) (s t : State) (id : ℕ) (f : Held → Held) (v forth : Undoing) → KeepsIds f → Joins ready s t v forth → Commutes ready t id f v.part → Commutes ready s id f forth.part
    → Joins ready (refilled s id f) (refilled t id f) v forth
joins_by ready s t id f v forth keeps j c d = record {
  back_fits = fits_by ready id f t v keeps j.back_fits.settled c;
  back_state = turned_by ready id f t v c ∙ ap (λ x. refilled x id f) j.back_state;
  back_face = back_of_by ready id f t v c ∙ j.back_face;
  forth_fits = fits_by ready id f s forth keeps j.forth_fits.settled d;
  forth_state = turned_by ready id f s forth d ∙ ap (λ x. refilled x id f) j.forth_state;
  forth_face = back_of_by ready id f s forth d ∙ j.forth_face;
  touches = record {
    part = λ x is. same_lives ready id f s t x (j.touches.part x is);
    retired = λ x listed. same_lives ready id f s t x (j.touches.retired x listed);
  };
}
