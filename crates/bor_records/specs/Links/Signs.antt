-- By what two entities may be alike.
use Rattle.std.specs.Prelude.{true, false, [], ◌∷◌, List, map, Contains, IsTrue, Option, None, Some}
use Rattle.std.specs.Ordering.{ordering_then, bool_cmp}
use Rattle.std.specs.declared.cmp.Ordering.{Ordering}
use Rattle.bods_read.specs.declared.details.Identifier.{Identifier}
use Rattle.bor_records.specs.declared.links.node.Node.{Node}
use Rattle.bor_records.specs.declared.links.node.OpenNode.{OpenNode}
use Rattle.bor_records.specs.declared.links.sign.Sign.{Sign}
use Rattle.bor_records.specs.Links.Nodes.{text_cmp}
use Rattle.bor_records.specs.Links.Shown.{Shown, identifiers_in, is_entity}

-- by record or identifier, then agent or scheme, then kind
abbrev pub sign_cmp : Sign → Sign → Ordering
sign_cmp a b =
    ordering_then (text_cmp a.name b.name)
    (ordering_then (text_cmp a.group b.group) (bool_cmp a.of_record b.of_record))

abbrev pub by_record : Node → Sign
by_record n = record { of_record = true; group = n.agent; name = n.rec }

abbrev pub by_identifier : Identifier → Sign
by_identifier i = record { of_record = false; group = i.scheme; name = i.id }

-- the agent with the record, and each identifier
abbrev pub signs_with : Node → List Identifier → List Sign
signs_with n identifiers = by_record n ∷ map by_identifier identifiers

abbrev pub signs : OpenNode → List Sign
signs x = signs_with x.node x.identifiers

-- an entity has the sign
abbrev pub HasSign : OpenNode → Sign → Type 0
HasSign x k = IsTrue (is_entity x.info) × Contains (signs x) k

-- ---- for clauses of private functions alone

abbrev pub signs_given : Node → Option (List Identifier) → List Sign
signs_given n None = []
signs_given n (Some identifiers) = signs_with n identifiers

-- the signs of the node, where it is an open entity; no other has any
abbrev pub signs_in : Shown → Node → List Sign
signs_in s n = signs_given n (identifiers_in s.nodes n)
