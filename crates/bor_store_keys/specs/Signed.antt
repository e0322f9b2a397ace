-- Which records have had a sign.
use Rattle.std.specs.Prelude.{ℕ, List, filter, ◌&&◌, Option, option_map, slice_get, if◌then◌else◌}
use Rattle.std.specs.List.{list_any}
use Rattle.bor_terms.specs.Texts.{is_same}
use Rattle.bor_records.specs.declared.links.node.Node.{Node}
use Rattle.bor_records.specs.declared.links.sign.Sign.{Sign}
use Rattle.bor_register.specs.declared.member.Member.{Member}
use Rattle.bor_register.specs.Register.{Register}
use Rattle.bor_store_sql.specs.declared.rows.places.At.{At}
use Rattle.bor_store_sql.specs.declared.rows.typed.Placed.{Placed}
use Rattle.bor_store_sql.specs.Rows.Placed.{identifiers_listed, placed}
use Rattle.bor_store_sql.specs.Selected.{in_record, placed_of, standing_at}
use Rattle.bor_store_keys.specs.Recorded.{placed_record}

-- the record of the live statement at a place
abbrev pub record_standing : List Member → At → Option Node
record_standing ms at = option_map placed_record (slice_get (standing_at at ms) 0)

-- of these statements those with this identifier of the scheme
abbrev pub with_identifier : List ℕ → List ℕ → List Placed → List Placed
with_identifier scheme id ps =
    filter (λ p. list_any (λ i. is_same i.scheme scheme && is_same i.id id)
    (identifiers_listed p.statement.details)) ps

-- the live statements that have a sign: those of an agent's record, or those with an identifier
abbrev pub with_sign : Sign → Register → List Placed
with_sign k r =
    if k.of_record then in_record k.name (placed_of k.group r)
    else with_identifier k.group k.name (placed r.members)
