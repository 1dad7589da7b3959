use Rattle.std.proofs.Common.{[], refl, ap, ◌∙◌}
use Rattle.host_state.specs.World.{WorldView}
use Rattle.journal_keeping.specs.MarksView.{MarksView}
use Rattle.journal_keeping.proofs.OpenLemmas.{new_boxes, new_lasts}
use Rattle.journal_model.specs.Book.{fresh_book}
use Rattle.journal_invariant.proofs.Staying.{fresh_is_well}
use Rattle.bt_journal.proofs.WellLemmas.{well_marks}
use Rattle.bt_journal.proofs.book.Book.new.Goals as goal

pub invariant_of-result : goal.invariant_of-result
invariant_of-result g c =
    let ids = c.new-in-Ok-3.result in (
      new_boxes c.new-in-Ok.result.makes c.new-in-Ok.result.pasts c.args.devices.items ids.base ids.lasts.items ids.maps.items ids.progs.items
          (c.new-in-Ok.ensures.boxes ∙ ap (λ (w : WorldView). w.ready.makes) c.in-Ok.ensures)
          (c.new-in-Ok.ensures.pasts ∙ ap (λ (w : WorldView). record { base = w.state; moments = []; undone = [] }) c.in-Ok.ensures)
          c.new-in-Ok-3.ensures.base c.new-in-Ok-3.ensures.lasts c.new-in-Ok-3.ensures.maps c.new-in-Ok-3.ensures.progs,
      new_lasts (record { map_id = 0; prog_id = 0 }) ids.base ids.lasts.items refl c.new-in-Ok-3.ensures.base c.new-in-Ok-3.ensures.lasts,
      well_marks (fresh_book c.args.devices.items c.args.limits) _ c.new-in-Ok-2.result _ (c.new-in-Ok.ensures.pasts ∙ ap (λ (w : WorldView). record { base = w.state; moments = []; undone = [] }) c.in-Ok.ensures) (ap (λ (v : MarksView). v.gone) c.new-in-Ok-2.ensures) (ap (λ (v : MarksView). v.standing) c.new-in-Ok-2.ensures) (ap (λ (v : MarksView). v.forgotten) c.new-in-Ok-2.ensures) (fresh_is_well c.args.devices.items c.args.limits),
    )
