-- Moments past the first records, which are gone: an exchange begins so many records earlier.
use Rattle.std.specs.Prelude.{◌≡◌, ⊤, ℕ, ◌+◌, ◌-◌, ◌≤◌, List, [], ◌∷◌, length, take}
use Rattle.journal_moments.specs.MomentView.{MomentView}

-- of the records that a moment holds, those are left out that would stand among the first so many
abbrev pub lowered : ℕ → MomentView → MomentView
lowered count m = record {
  serial = m.serial;
  out = m.out;
  at = m.at - count;
  stays = m.stays;
  other = take (length m.other - (count - m.at)) m.other;
  room = m.room;
}

-- its position counts so many records more
abbrev pub raised : ℕ → MomentView → MomentView
raised count m = record {
  serial = m.serial;
  out = m.out;
  at = count + m.at;
  stays = m.stays;
  other = m.other;
  room = m.room;
}

-- the same with more room
pub record IsLowered (count : ℕ) (old new : MomentView) : Type 0 where
  pub at : new.at ≡ old.at - count
  pub other : new.other ≡ take (length old.other - (count - old.at)) old.other
  pub serial : new.serial ≡ old.serial
  pub out : new.out ≡ old.out
  pub stays : new.stays ≡ old.stays
  pub room : old.room ≤ new.room

-- one moment after the other
abbrev pub AllLowered : ℕ → List MomentView → List MomentView → Type 0
AllLowered count [] [] = ⊤
AllLowered count [] (n ∷ ns) = ⊥
AllLowered count (m ∷ ms) [] = ⊥
AllLowered count (m ∷ ms) (n ∷ ns) = IsLowered count m n × AllLowered count ms ns
