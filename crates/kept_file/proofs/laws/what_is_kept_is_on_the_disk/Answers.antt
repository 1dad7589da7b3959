use Rattle.std.proofs.Common.{◌≡◌, sym, ap, subst, ◌∙◌}
use Rattle.sqlite.specs.Effect.{Database}
use Rattle.sqlite.specs.Held.{state}
use Rattle.kept_ledger.specs.Ledger.{HoldEntries}
use Rattle.kept_file.proofs.laws.what_is_kept_is_on_the_disk.Goals as goal

pub returns : goal.returns
returns g c conn t b is_open keeps db may =
    let s = state g.S.Store conn in
    let ledger = keeps.ledger.ledger in
    let same : db ≡ s.now.trees = g.met.S.Store.settled conn.store db is_open may ∙ ap (λ (d : Database). d.trees) ledger.committed in
    record {
      events = keeps.events;
      holds = record { entries = keeps.ledger.entries; are = keeps.ledger.are; held = subst (HoldEntries t keeps.ledger.entries) (sym same) ledger.held };
      leads = keeps.leads;
    }
