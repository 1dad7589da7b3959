use Rattle.kept_event.proofs.MapsRead.{first_found}
use Rattle.kept_event.proofs.maps.first_map.Goals as goal

pub returns-clause-map : goal.returns-clause-map
returns-clause-map c =
    first_found c.args.bytes.now c.index_of-2.result c.index_of.result c.index_of-3.result c.index_of-4.result c.index_of-5.result c.index_of-6.result c.in_ok-kind.kind c.if-bytes-lt24.false
    c.index_of-2.ensures c.index_of.ensures c.in_ok-kind.ensures c.index_of-3.ensures c.index_of-4.ensures c.index_of-5.ensures c.index_of-6.ensures
