use Rattle.std.proofs.Common.{◌≡◌, take, map, filter_map}
use Rattle.serde_json.specs.View.{view}
use Rattle.bods_read.specs.Details.{identifier_in}
use Rattle.bods_read.proofs.identifiers.kept.Given as goal

abbrev pub invariant-loop-item : goal.invariant-loop-item
invariant-loop-item l = l.kept.items ≡ filter_map identifier_in (map view (take l.item-index l.items))
