-- The commands on devices and the programs attached to them (bpftool-net(8)), as their words spell them.
use Rattle.std.specs.Prelude.{ℕ, true, false, List, [], ◌∷◌, ◌++◌, Some, None, codes}
use Rattle.console_operand.specs.Reference.{IsReference}
use Rattle.console_operand.specs.declared.reference.Reference.{Reference}
use Rattle.bt_syntax.specs.declared.net.command.NetCommand.{NetCommand}
use Rattle.bt_syntax.specs.declared.net.command.NetCommand.TheVariants.{Show, Attach, Detach}

-- the words after `net` spell this command
pub data SpellsNet : List (List ℕ) → NetCommand → Type 0 where
  show_all : SpellsNet (codes "show" ∷ []) (Show None)
  list_all : SpellsNet (codes "list" ∷ []) (Show None)
  show : {device : List ℕ} → SpellsNet (codes "show" ∷ codes "dev" ∷ device ∷ []) (Show (Some device))
  list : {device : List ℕ} → SpellsNet (codes "list" ∷ codes "dev" ∷ device ∷ []) (Show (Some device))
  attach : {name : List (List ℕ)} {prog : Reference (List ℕ)} {device : List ℕ} → IsReference name prog →
      SpellsNet (codes "attach" ∷ codes "xdp" ∷ (name ++ codes "dev" ∷ device ∷ [])) (Attach prog device false)
  overwrite : {name : List (List ℕ)} {prog : Reference (List ℕ)} {device : List ℕ} → IsReference name prog →
      SpellsNet (codes "attach" ∷ codes "xdp" ∷ (name ++ codes "dev" ∷ device ∷ codes "overwrite" ∷ [])) (Attach prog device true)
  detach : {device : List ℕ} → SpellsNet (codes "detach" ∷ codes "xdp" ∷ codes "dev" ∷ device ∷ []) (Detach device)
