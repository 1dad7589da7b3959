-- A timeline whose world has more that stands ready is as sound as before.
use Rattle.std.proofs.Common.{◌≡◌, ℕ, List, [], ◌∷◌, refl, ◌∙◌, ap}
use Rattle.std.specs.FinMap as map
use Rattle.host_state.specs.State.{State}
use Rattle.host_state.specs.World.{Ready, SameBoxes}
use Rattle.host_state.proofs.Growth.{Grows}
use Rattle.journal_record.specs.After.{after}
use Rattle.journal_record.specs.Recorded.{Recorded}
use Rattle.journal_moments.specs.Line.{AllStanding, AllLying, swapped, CanSwap, Down, Up}
use Rattle.journal_moments.specs.Held.{Held, pasts_of, Sound}
use Rattle.journal_moments.specs.MomentView.{MomentView}
use Rattle.host_undoing.proofs.JoinsLemmas.{joins_grow}

pub same_grows : (old new : Ready) → SameBoxes old new → Grows old new
same_grows old new h = record {
  makes = λ id make e. ap (λ (m : map.FinMap _ _). map.get m id) h.makes ∙ e;
  progs = h.progs;
  room = h.room;
}

pub AllStanding-grow : (old new : Ready) (s : State) (rs : List Recorded) → Grows old new → AllStanding old s rs → AllStanding new s rs
AllStanding-grow old new s [] g h = tt
AllStanding-grow old new s (r ∷ rs) g h = (record { acts = h.0.acts; own = h.0.own; bytes = h.0.bytes; joins = joins_grow old new _ _ _ _ g h.0.joins; retires = h.0.retires }, AllStanding-grow old new (after s r.entry) rs g h.1)

pub AllLying-grow : (old new : Ready) (s : State) (rs : List Recorded) → Grows old new → AllLying old s rs → AllLying new s rs
AllLying-grow old new s [] g h = tt
AllLying-grow old new s (r ∷ rs) g h = (record { acts = h.0.acts; own = h.0.own; bytes = h.0.bytes; joins = joins_grow old new _ _ _ _ g h.0.joins; retires = h.0.retires }, AllLying-grow old new (after s r.entry) rs g h.1)

pub CanSwap-grow : (old new : Ready) (base : State) (rs : List Recorded) (room : ℕ) (m : MomentView) → Grows old new → CanSwap old base rs room m → CanSwap new base rs room m
CanSwap-grow old new base rs room m g k = record {
  within = k.within;
  lying = AllLying-grow old new _ _ g k.lying;
  standing = AllStanding-grow old new _ _ g k.standing;
  one = k.one;
  room_back = k.room_back;
  room_forth = k.room_forth;
}

pub Down-grow : (old new : Ready) (base : State) (rs : List Recorded) (room : ℕ) (ms : List MomentView) → Grows old new → Down old base rs room ms → Down new base rs room ms
Down-grow old new base rs room [] g h = h
Down-grow old new base rs room (m ∷ ms) g h = (CanSwap-grow old new base rs room m g h.0, Down-grow old new base (swapped base rs m) room ms g h.1)

pub Up-grow : (old new : Ready) (base : State) (rs : List Recorded) (room : ℕ) (ms : List MomentView) → Grows old new → Up old base rs room ms → Up new base rs room ms
Up-grow old new base rs room [] g h = tt
Up-grow old new base rs room (m ∷ ms) g h = (CanSwap-grow old new base rs room m g h.0, Up-grow old new base (swapped base rs m) room ms g h.1)

-- the same with this standing ready
abbrev pub with_ready : Held → Ready → Held
with_ready a ready = record a { world = record a.world { ready = ready } }

pub pasts_of-ready : (a : Held) (ready : Ready) → pasts_of (with_ready a ready) ≡ pasts_of a
unfolding pasts_of
pasts_of-ready a ready = refl

pub Sound-grow : (a : Held) (ready : Ready) → Grows a.world.ready ready → Sound a → Sound (with_ready a ready)
Sound-grow a ready g s = record {
  leads = record { standing = AllStanding-grow a.world.ready ready _ _ g s.leads.standing; top = s.leads.top };
  down = Down-grow a.world.ready ready _ _ _ _ g s.down;
  up = Up-grow a.world.ready ready _ _ _ _ g s.up;
  room_records = s.room_records;
  counts = s.counts;
}
