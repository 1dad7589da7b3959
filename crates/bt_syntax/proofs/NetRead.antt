-- The commands on devices: what is spelled is read, what is read is spelled, and each state can be gone on with.
use Rattle.std.proofs.Common.{◌≡◌, ℕ, List, [], ◌∷◌, ◌++◌, refl, sym, ◌∙◌, ap, subst, Option, Some, None, IsSome}
use Rattle.std.specs.Prelude.{codes}
use Rattle.std.specs.Option.{option_map}
use Rattle.console_operand.specs.Word.{spelled_by}
use Rattle.console_operand.specs.Automaton.{read}
use Rattle.bt_syntax.specs.DeviceSteps.{device_step, device_finish}
use Rattle.bt_syntax.specs.NetGrammar.{SpellsNet}
use Rattle.bt_syntax.specs.NetGrammar as g
use Rattle.bt_syntax.specs.AttachSteps.{attach_step, attach_finish}
use Rattle.bt_syntax.specs.NetSteps.{verb_word, verbs, after_verb, of_device, net_step, net_finish}
use Rattle.bt_syntax.specs.declared.device.DeviceState.{DeviceState}
use Rattle.bt_syntax.specs.declared.device.DeviceState.TheVariants as d
use Rattle.bt_syntax.specs.declared.net.command.NetCommand.{NetCommand}
use Rattle.bt_syntax.specs.declared.net.command.NetCommand.TheVariants as command
use Rattle.bt_syntax.specs.declared.net.attach.AttachState.{AttachState}
use Rattle.bt_syntax.specs.declared.net.attach.AttachState.TheVariants as a
use Rattle.bt_syntax.specs.declared.net.state.NetVerb.{NetVerb}
use Rattle.bt_syntax.specs.declared.net.state.NetVerb.TheVariants as verb
use Rattle.bt_syntax.specs.declared.net.state.DeviceVerb.{DeviceVerb}
use Rattle.bt_syntax.specs.declared.net.state.DeviceVerb.TheVariants as v
use Rattle.bt_syntax.specs.declared.net.state.NetState.{NetState}
use Rattle.bt_syntax.specs.declared.net.state.NetState.TheVariants as n
use Rattle.console_operand.proofs.Reading.{spelled_is, gone_on_by, map_some, some_map, read_within, read_part}
use Rattle.console_operand.proofs.WordsRead.{literal}
use Rattle.bt_syntax.proofs.DeviceRead.{device_spelled, device_end, device_ends}
use Rattle.bt_syntax.proofs.AttachRead.{attach_read, overwrite_read, attach_spelled, attach_end, attach_ends}

abbrev reads : NetState → List (List ℕ) → Option NetCommand
reads state words = read net_step net_finish state words

of_attach : (state : AttachState) (words : List (List ℕ)) → reads (n.Attach state) words ≡ read attach_step attach_finish state words
of_attach state words = read_part attach_step attach_finish net_step net_finish n.Attach (λ s w. refl) (λ s. refl) state words

on_device : (it : DeviceVerb) (state : DeviceState) (words : List (List ℕ)) → reads (n.Device it state) words ≡ option_map (of_device it) (read device_step device_finish state words)
on_device it state words = read_within device_step device_finish net_step net_finish (n.Device it) (of_device it) (λ s w. refl) (λ s. refl) state words

pub net_read : {words : List (List ℕ)} {command : NetCommand} → SpellsNet words command → reads n.Verb words ≡ Some command
net_read g.show_all = refl
net_read g.list_all = refl
net_read g.show = refl
net_read g.list = refl
net_read (g.attach {name} {prog} {device} it) = of_attach a.Xdp (codes "xdp" ∷ (name ++ codes "dev" ∷ device ∷ [])) ∙ attach_read it device
net_read (g.overwrite {name} {prog} {device} it) = of_attach a.Xdp (codes "xdp" ∷ (name ++ codes "dev" ∷ device ∷ codes "overwrite" ∷ [])) ∙ overwrite_read it device
net_read g.detach = refl

-- what is read of a device is its name after `dev`
device_named : (it : DeviceVerb) (words : List (List ℕ)) (command : NetCommand) → reads (n.Device it d.Dev) words ≡ Some command →
    (name : List ℕ) × (words ≡ codes "dev" ∷ name ∷ []) × (of_device it name ≡ command)
device_named it words command h =
    map_some (read device_step device_finish d.Dev words) (of_device it) command (λ name e is. (name, device_spelled words name e, is)) (sym (on_device it d.Dev words) ∙ h)

shown_spelled : (verb : List ℕ) → SpellsNet (verb ∷ []) (command.Show None) → ((name : List ℕ) → SpellsNet (verb ∷ codes "dev" ∷ name ∷ []) (command.Show (Some name))) →
    (words : List (List ℕ)) (shown : NetCommand) → reads n.Show words ≡ Some shown → SpellsNet (verb ∷ words) shown
shown_spelled verb bare given [] shown h = let is : command.Show None ≡ shown = cc in subst (SpellsNet (verb ∷ [])) is bare
shown_spelled verb bare given (word ∷ words) shown h =
    let (name, all, is) = device_named v.Show (word ∷ words) shown h in
    subst (λ ws. SpellsNet (verb ∷ ws) shown) (sym all) (subst (SpellsNet (verb ∷ codes "dev" ∷ name ∷ [])) is (given name))

detached_spelled : (words : List (List ℕ)) (detached : NetCommand) → reads n.Detach words ≡ Some detached → SpellsNet (codes "detach" ∷ words) detached
detached_spelled words detached h =
    literal net_step net_finish n.Detach (n.Device v.Detach d.Dev) (codes "xdp") words detached (λ w. refl) refl (λ rest cut more.
    let (name, all, is) = device_named v.Detach rest detached more in
    subst (λ ws. SpellsNet (codes "detach" ∷ ws) detached) (sym (cut ∙ ap (λ ws. codes "xdp" ∷ ws) all))
    (subst (SpellsNet (codes "detach" ∷ codes "xdp" ∷ codes "dev" ∷ name ∷ [])) is g.detach)) h

verb_spelled : (it : NetVerb) (words : List (List ℕ)) (command : NetCommand) → reads (after_verb it) words ≡ Some command → SpellsNet (verb_word it ∷ words) command
verb_spelled verb.Show words command h = shown_spelled (codes "show") g.show_all (λ name. g.show) words command h
verb_spelled verb.List words command h = shown_spelled (codes "list") g.list_all (λ name. g.list) words command h
verb_spelled verb.Attach words command h = attach_spelled words command (sym (of_attach a.Xdp words) ∙ h)
verb_spelled verb.Detach words command h = detached_spelled words command h

pub net_spelled : (words : List (List ℕ)) (command : NetCommand) → reads n.Verb words ≡ Some command → SpellsNet words command
net_spelled [] command h = cc
net_spelled (word ∷ words) command h =
    gone_on_by (spelled_by verb_word verbs word) after_verb (λ next. reads next words) command (λ it at e.
    subst (λ first. SpellsNet (first ∷ words) command) (sym (spelled_is verb_word verbs word it at)) (verb_spelled it words command e)) h

abbrev pub net_end : NetState → List (List ℕ)
net_end n.Verb = codes "show" ∷ []
net_end n.Show = []
net_end n.Detach = codes "xdp" ∷ codes "dev" ∷ codes "x" ∷ []
net_end (n.Device it state) = device_end state
net_end (n.Attach state) = attach_end state

pub net_ends : (state : NetState) → IsSome (reads state (net_end state))
net_ends n.Verb = refl
net_ends n.Show = refl
net_ends n.Detach = refl
net_ends (n.Device it state) =
    subst (λ o. IsSome o) (sym (on_device it state (device_end state))) (some_map (of_device it) (read device_step device_finish state (device_end state)) (device_ends state))
net_ends (n.Attach state) = subst (λ o. IsSome o) (sym (of_attach state (attach_end state))) (attach_ends state)
