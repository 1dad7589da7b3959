-- Small facts of what is apart, each worked out by hand beforehand.
use Rattle.std.proofs.Common.{◌≡◌, ℕ, true, false, List, [], ◌∷◌, Some, None, refl}
use Rattle.bt_mapkind.specs.declared.exchange.Back.TheVariants.{Key, Ends}
use Rattle.bt_mapkind.specs.declared.request.MapOp.TheVariants.{Update, Delete, Push}
use Rattle.bt_roots.specs.declared.back.RootBack.TheVariants.{Pin as PinBack}
use Rattle.bt_roots.specs.declared.target.Target.TheVariants.{Map}
use Rattle.host_state.specs.declared.change.Change.{Change}
use Rattle.host_state.specs.declared.change.Change.TheVariants.{Operate, Freeze, Pin}
use Rattle.host_state.specs.declared.change.Origin.{Origin}
use Rattle.host_state.specs.declared.change.Origin.TheVariants.{Console, Prog}
use Rattle.host_undoing.specs.declared.undoing.Part.{Part}
use Rattle.host_undoing.specs.declared.undoing.Part.TheVariants.{Contents, Frozen, Pinned}
use Rattle.host_apart.specs.Spots.{are_apart}

one : List ℕ
one = 1 ∷ []

two : List ℕ
two = 2 ∷ []

put : Origin → ℕ → List ℕ → Change
put origin id key = Operate origin id (Update key (7 ∷ []) 0)

delete : ℕ → List ℕ → Change
delete id key = Operate Console id (Delete key)

push : ℕ → Change
push id = Operate Console id (Push (7 ∷ []) 0)

-- what takes them back: the key is put back, or goes
back : ℕ → List ℕ → Part
back id key = Contents id (record { back = Key key (Some (8 ∷ [])); room = 2 })

away : ℕ → List ℕ → Part
away id key = Contents id (record { back = Key key None; room = 2 })

item : ℕ → Part
item id = Contents id (record { back = Ends false true None None; room = 2 })

pin : Change
pin = Pin (Map 1) one

unpinned : Part
unpinned = Pinned (PinBack one None)

-- ---- one map
other_key : are_apart (put Console 1 one) (back 1 one) (put Console 1 two) (back 1 two) ≡ true
unfolding one two put back
other_key = refl

same_key : are_apart (put Console 1 one) (back 1 one) (put Console 1 one) (back 1 one) ≡ false
unfolding one put back
same_key = refl

other_map : are_apart (put Console 1 one) (back 1 one) (put Console 2 one) (back 2 one) ≡ true
unfolding one put back
other_map = refl

-- a delete writes how many keys there are, which a delete and a new key look at
two_deletes : are_apart (delete 1 one) (back 1 one) (delete 1 two) (back 1 two) ≡ false
unfolding one two delete back
two_deletes = refl

new_after_delete : are_apart (delete 1 one) (back 1 one) (put Console 1 two) (away 1 two) ≡ false
unfolding one two delete put back away
new_after_delete = refl

old_after_delete : are_apart (delete 1 one) (back 1 one) (put Console 1 two) (back 1 two) ≡ true
unfolding one two delete put back
old_after_delete = refl

delete_after_new : are_apart (put Console 1 one) (away 1 one) (delete 1 two) (back 1 two) ≡ true
unfolding one two delete put back away
delete_after_new = refl

two_new : are_apart (put Console 1 one) (away 1 one) (put Console 1 two) (away 1 two) ≡ true
unfolding one two put away
two_new = refl

two_pushes : are_apart (push 1) (item 1) (push 1) (item 1) ≡ false
unfolding push item
two_pushes = refl

-- ---- a freeze stops the console alone
frozen_after : are_apart (put Console 1 one) (back 1 one) (Freeze 1) (Frozen 1 false) ≡ true
unfolding one put back
frozen_after = refl

console_after_freeze : are_apart (Freeze 1) (Frozen 1 false) (put Console 1 one) (back 1 one) ≡ false
unfolding one put back
console_after_freeze = refl

program_after_freeze : are_apart (Freeze 1) (Frozen 1 false) (put (Prog 3) 1 one) (back 1 one) ≡ true
unfolding one put back
program_after_freeze = refl

-- ---- links
pin_after : are_apart (put Console 1 one) (back 1 one) pin unpinned ≡ true
unfolding one put back pin unpinned
pin_after = refl

after_pin : are_apart pin unpinned (put Console 1 one) (back 1 one) ≡ false
unfolding one put back pin unpinned
after_pin = refl
