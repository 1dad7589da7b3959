use Rattle.std.proofs.Common.{sym}
use Rattle.bt_verify.proofs.Members.{in_found, found_is_in, none_is_in}
use Rattle.bt_verify.proofs.lookup.find_map.Goals as goal

pub returns-in-Some-clause-value : goal.returns-in-Some-clause-value
returns-in-Some-clause-value c = sym (in_found c.args.maps.now c.args.id c.in-Some.attr c.requires c.in-Some.ensures.found)

pub returns-in-None-clause-found : goal.returns-in-None-clause-found
returns-in-None-clause-found c = found_is_in c.args.maps.now c.args.id c.find_in_turn.result c.find_in_turn.ensures

pub returns-in-None-clause-none : goal.returns-in-None-clause-none
returns-in-None-clause-none c = none_is_in c.args.maps.now c.args.id c.find_in_turn.result c.requires c.find_in_turn.ensures
