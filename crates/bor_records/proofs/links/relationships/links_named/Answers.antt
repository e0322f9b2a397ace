use Rattle.std.proofs.Common.{◌∙◌, ◌<◌, List, [], ◌∷◌, ap, arith, length}
use Rattle.std.specs.List.{IsDistinct, filter_map}
use Rattle.bor_records.specs.declared.links.node.Node.{Node}
use Rattle.bor_records.specs.Links.Nodes.{same_node}
use Rattle.bor_records.specs.Links.Relationships.{link_of}
use Rattle.bor_records.proofs.OnLinks.ByRecord.{links_told, naming_once}
use Rattle.bor_records.proofs.ReadingLaws.{read_as}
use Rattle.bor_records.proofs.links.relationships.links_named.Goals as goal

one_at_most : (nodes : List Node) → length nodes < 2 → IsDistinct same_node nodes
unfolding IsDistinct
one_at_most [] h = tt
one_at_most (n ∷ []) h = (tt, tt)
one_at_most (n ∷ m ∷ rest) h = absurd (omega arith)

pub returns-then-naming-lt2 : goal.returns-then-naming-lt2
returns-then-naming-lt2 g c = read_as c.links_of.ensures
    (λ m links is entity have. links_told (g.R.Records.shown m) (g.met.R.Relationships.of_rows m) c.args.subject.now c.args.naming.now links.items (is entity) have (one_at_most c.args.naming.now c.if-naming-lt2.true))

pub returns : goal.returns
returns g c =
    let candidates = c.in_ok-candidates.candidates.items in
    read_as c.links_of-2.ensures
    (λ m links is entity have. links_told (g.R.Records.shown m) (g.met.R.Relationships.of_rows m) c.args.subject.now candidates links.items
    (is entity ∙ ap (filter_map (link_of (g.R.Records.shown m) c.args.subject.now)) c.deref.ensures.value)
    (naming_once (g.R.Records.shown m) c.args.subject.now c.args.naming.now c.in_ok-copied.field-0.items candidates c.in_ok-copied.ensures c.in_ok-candidates.ensures.same have)
    c.in_ok-candidates.ensures.distinct)
