use Rattle.std.proofs.Common.{sym, ◌∙◌, ap, subst, map as each}
use Rattle.bt_verify.specs.Maps.{AreDistinct}
use Rattle.console_reference.specs.Programs.{pair_of, pairs_in}
use Rattle.console_reference.proofs.Judging.{live_distinct}
use Rattle.console_reference.proofs.judge.find_maps.Goals as goal

pub new-requires : goal.new-requires
new-requires g c =
    subst AreDistinct
    (sym (c.in_ok-pairs_of-in-Maps.ensures ∙ ap (each pair_of) c.as_slice.ensures ∙ ap pairs_in (sym c.in-Maps.is ∙ c.in_ok-rows.ensures.answer)))
    (live_distinct c.args.book.now.plain)
