-- `net attach`: what is spelled is read, what is read is spelled, and each state can be gone on with.
use Rattle.std.proofs.Common.{◌≡◌, ℕ, true, false, List, [], ◌∷◌, ◌++◌, refl, sym, ◌∙◌, ap, subst, Option, Some, IsSome}
use Rattle.std.specs.Prelude.{codes}
use Rattle.console_operand.specs.Automaton.{read}
use Rattle.console_operand.specs.Reference.{IsReference}
use Rattle.bt_syntax.specs.NetGrammar.{SpellsNet, attach, overwrite}
use Rattle.bt_syntax.specs.AttachSteps.{named_attach, attach_step, attach_finish}
use Rattle.console_operand.specs.declared.reference.Reference.{Reference}
use Rattle.console_operand.specs.declared.reference.Form.TheVariants as form
use Rattle.console_operand.specs.declared.reference.Naming.TheVariants as n
use Rattle.bt_syntax.specs.declared.net.command.NetCommand.{NetCommand}
use Rattle.bt_syntax.specs.declared.net.command.NetCommand.TheVariants.{Attach}
use Rattle.bt_syntax.specs.declared.net.attach.AttachState.{AttachState}
use Rattle.bt_syntax.specs.declared.net.attach.AttachState.TheVariants as a
use Rattle.console_operand.proofs.WordsRead.{first_literal, literal, any_word, no_word}
use Rattle.console_operand.proofs.ReferenceRead.{reference_read, reference_spelled, naming_end}

abbrev reads : AttachState → List (List ℕ) → Option NetCommand
reads state words = read attach_step attach_finish state words

pub attach_read : {name : List (List ℕ)} {prog : Reference (List ℕ)} → IsReference name prog → (device : List ℕ) →
    reads a.Xdp (codes "xdp" ∷ (name ++ codes "dev" ∷ device ∷ [])) ≡ Some (Attach prog device false)
attach_read it device = reference_read attach_step attach_finish named_attach (λ naming w. refl) it (codes "dev" ∷ device ∷ [])

pub overwrite_read : {name : List (List ℕ)} {prog : Reference (List ℕ)} → IsReference name prog → (device : List ℕ) →
    reads a.Xdp (codes "xdp" ∷ (name ++ codes "dev" ∷ device ∷ codes "overwrite" ∷ [])) ≡ Some (Attach prog device true)
overwrite_read it device = reference_read attach_step attach_finish named_attach (λ naming w. refl) it (codes "dev" ∷ device ∷ codes "overwrite" ∷ [])

abbrev SpellsAttach : List (List ℕ) → NetCommand → Type 0
SpellsAttach words command = SpellsNet (codes "attach" ∷ words) command

-- what comes after the device
behind_device : (name rest : List (List ℕ)) (prog : Reference (List ℕ)) (device : List ℕ) (command : NetCommand) → IsReference name prog → reads (a.Device prog device) rest ≡ Some command →
    SpellsAttach (codes "xdp" ∷ (name ++ codes "dev" ∷ device ∷ rest)) command
behind_device name [] prog device command it h =
    let is : Attach prog device false ≡ command = cc in
    subst (SpellsAttach (codes "xdp" ∷ (name ++ codes "dev" ∷ device ∷ []))) is (attach it)
behind_device name (word ∷ words) prog device command it h =
    first_literal attach_step attach_finish (a.Device prog device) (a.Overwrite prog device) (codes "overwrite") word words command (λ w. refl) (λ same more.
    let (none, is) = no_word attach_step attach_finish (a.Overwrite prog device) (Attach prog device true) words command (λ w. refl) refl more in
    let all : word ∷ words ≡ codes "overwrite" ∷ [] = ap (λ w. w ∷ words) same ∙ ap (λ ws. codes "overwrite" ∷ ws) none in
    subst (λ ws. SpellsAttach (codes "xdp" ∷ (name ++ codes "dev" ∷ device ∷ ws)) command) (sym all)
    (subst (SpellsAttach (codes "xdp" ∷ (name ++ codes "dev" ∷ device ∷ codes "overwrite" ∷ []))) is (overwrite it))) h

pub attach_spelled : (words : List (List ℕ)) (command : NetCommand) → reads a.Xdp words ≡ Some command → SpellsNet (codes "attach" ∷ words) command
attach_spelled words command h =
    literal attach_step attach_finish a.Xdp (a.Prog n.Form) (codes "xdp") words command (λ w. refl) refl (λ rest cut more.
    let it = reference_spelled attach_step attach_finish named_attach (λ naming w. refl) (λ naming. refl) rest command more in
    literal attach_step attach_finish (a.Given it.map) (a.Name it.map) (codes "dev") it.rest command (λ w. refl) refl (λ named there on.
    any_word attach_step attach_finish (a.Name it.map) (a.Device it.map) named command (λ w. refl) refl (λ device last found ended.
    let all : words ≡ codes "xdp" ∷ (it.name ++ codes "dev" ∷ device ∷ last) =
    cut ∙ ap (λ ws. codes "xdp" ∷ ws) (it.cut ∙ ap (λ ws. it.name ++ ws) (there ∙ ap (λ ws. codes "dev" ∷ ws) found)) in
    subst (λ ws. SpellsAttach ws command) (sym all) (behind_device it.name last it.map device command it.is ended)) on) it.behind) h

abbrev pub attach_end : AttachState → List (List ℕ)
attach_end a.Xdp = codes "xdp" ∷ codes "id" ∷ codes "1" ∷ codes "dev" ∷ codes "x" ∷ []
attach_end (a.Prog naming) = naming_end naming ++ codes "dev" ∷ codes "x" ∷ []
attach_end (a.Given prog) = codes "dev" ∷ codes "x" ∷ []
attach_end (a.Name prog) = codes "x" ∷ []
attach_end (a.Device prog device) = []
attach_end (a.Overwrite prog device) = []

pub attach_ends : (state : AttachState) → IsSome (reads state (attach_end state))
attach_ends a.Xdp = refl
attach_ends (a.Prog n.Form) = refl
attach_ends (a.Prog (n.Object form.Id)) = refl
attach_ends (a.Prog (n.Object form.Pinned)) = refl
attach_ends (a.Prog (n.Object form.Name)) = refl
attach_ends (a.Given prog) = refl
attach_ends (a.Name prog) = refl
attach_ends (a.Device prog device) = refl
attach_ends (a.Overwrite prog device) = refl
