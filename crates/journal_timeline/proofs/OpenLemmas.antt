-- A timeline with no moments.
use Rattle.std.proofs.Common.{◌≡◌, [], reverse}
use Rattle.journal_moments.specs.Held.{Held, pasts_of}
use Rattle.journal_moments.specs.Line.{entries, foot, pasts_down, pasts_up}

pub pasts_of-new : (a : Held) → a.records ≡ [] → a.moments ≡ [] → a.undone ≡ [] → pasts_of a ≡ record { base = a.world.state; moments = []; undone = [] }
unfolding pasts_of
pasts_of-new a r m u = λ i. record {
  base = foot a.world.state (r i);
  moments = pasts_down (foot a.world.state (r i)) (entries (r i)) (reverse (m i));
  undone = pasts_up (foot a.world.state (r i)) (entries (r i)) (u i);
}
