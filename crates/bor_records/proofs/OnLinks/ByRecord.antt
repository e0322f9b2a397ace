-- Links of some rows, read record by record.
use Rattle.std.proofs.Common.{◌≡◌, ◌↔◌, ◌&&◌, ℤ, Bool, true, false, cond, Option, Some, None, is_some, option_and_then, option_map, List, [], map, Contains, sym, refl, ap, ◌∙◌, subst, arith}
use Rattle.std.specs.List.{filter_map, IsDistinct}
use Rattle.std.proofs.lemmas.Bool.{and_from, and_parts}
use Rattle.std.proofs.lemmas.Option.{option_and_then_some}
use Rattle.bor_terms.proofs.Texts.{same_refl}
use Rattle.bods_read.specs.declared.details.Identifier.{Identifier}
use Rattle.bor_records.specs.declared.row.Row.{Row}
use Rattle.bor_records.specs.OpenRows.{open_rows}
use Rattle.bor_records.specs.declared.links.node.Node.{Node}
use Rattle.bor_records.specs.declared.links.node.OpenNode.{OpenNode}
use Rattle.bor_records.specs.declared.links.node.Link.{Link}
use Rattle.bor_records.specs.Links.Nodes.{same_node, link_record}
use Rattle.bor_records.specs.Links.Orders.{node_equiv}
use Rattle.bor_records.specs.Links.Series.{series_of, open_at}
use Rattle.bor_records.specs.Links.Shown.{Shown, identifiers_in, info_in, info_of}
use Rattle.bor_records.specs.Links.Rows.{is_entity_info, between_open, link_stated, link_in, links_of, nodes_of, shown_of}
use Rattle.bor_records.specs.Links.Answers.{AreLinksInto, only_into}
use Rattle.bor_records.specs.Links.Candidates.{is_into, stated_at}
use Rattle.bor_records.specs.Links.Relationships.{HaveNaming, IsOfRows, link_of, with_open_party}
use Rattle.bor_records.proofs.OnLinks.ByKey.{link_found, link_made, open_at_in, open_row_at}
use Rattle.bor_records.proofs.OnLinks.OfRows.{link_of_row, links_by_record, links_of_rows, links_once}
use Rattle.bor_records.proofs.OnLinks.Found.{finds, found, none, Contains-filter_map, Contains-from_filter_map}
use Rattle.bor_records.proofs.OnLinks.SameNode.{same_node_is}

-- ---- links

-- the link into the node that a row makes, were it the latest of its series
abbrev link_into : ℤ → List Row → Node → Row → Option Link
link_into day rows n r = only_into n (link_in day (nodes_of day rows) r)

-- the link into the node that a series makes
abbrev link_at : ℤ → List Row → Node → Node → Option Link
link_at day rows n k = option_and_then (link_into day rows n) (open_at day k rows)

-- what a link that a row makes is: its subject is beside the row, and an entity
record IsFrom (nodes : List OpenNode) (r : Row) (l : Link) : Type 0 where
  into : is_into l.subject r.agent r.statement ≡ true
  entity : is_entity_info (info_in nodes l.subject) ≡ true

from_row : (day : ℤ) (nodes : List OpenNode) (r : Row) (l : Link) → link_in day nodes r ≡ Some l → IsFrom nodes r l
from_row day nodes r l h = grind (arith, same_refl)

only : (n : Node) (o : Option Link) (l : Link) → only_into n o ≡ Some l → (o ≡ Some l) × (l.subject ≡ n)
only n o l h = grind (arith, λ (k : Link). same_node_is k.subject n)

only_made : (n : Node) (l : Link) → l.subject ≡ n → only_into n (Some l) ≡ Some l
only_made n l e = ap (λ (b : Bool). cond b (Some l) None) (ap (λ (m : Node). same_node m n) e ∙ node_equiv.refl n)

-- ---- the link that is listed of a record

same_option : {X : Type 0} (o p : Option X) → ((x : X) → o ≡ Some x → p ≡ Some x) → ((x : X) → p ≡ Some x → o ≡ Some x) → o ≡ p
same_option o p to from = grind arith

module _ (s : Shown) (n k : Node) where
  -- it is listed, into the node and of the record
  listed_of : (l : Link) → link_of s n k ≡ Some l → Contains s.links l × (l.subject ≡ n) × (k ≡ link_record l)
  listed_of l h =
      let f = found (λ l. same_node l.subject n && same_node (link_record l) k) s.links l h in
      let p = and_parts (same_node l.subject n) (same_node (link_record l) k) f.1 in
      (f.0, same_node_is l.subject n p.0, sym (same_node_is (link_record l) k p.1))

  -- and there is one where such a link is listed
  one_listed : (l : Link) → Contains s.links l → l.subject ≡ n → link_record l ≡ k → (j : Link) × (link_of s n k ≡ Some j)
  one_listed l h into of = finds (λ l. same_node l.subject n && same_node (link_record l) k) s.links l h
      (and_from (same_node l.subject n) (same_node (link_record l) k) (ap (λ (m : Node). same_node m n) into ∙ node_equiv.refl n) (ap (λ (m : Node). same_node m k) of ∙ node_equiv.refl k))

module _ (day : ℤ) (rows : List Row) (n : Node) where
  -- a link of rows is the one that is listed of its record
  own_link : (l : Link) → Contains (links_of day rows) l → l.subject ≡ n → link_of (shown_of day rows) n (link_record l) ≡ Some l
  own_link l h into =
      let f = one_listed (shown_of day rows) n (link_record l) l h into refl in
      let j = listed_of (shown_of day rows) n (link_record l) f.0 f.1 in
      f.1 ∙ ap (λ (z : Link). Some z) (links_by_record day rows f.0 l j.0 h (sym (j.2)))

  -- it is the one that the latest statement of the record makes
  latest_link : (k : Node) → link_at day rows n k ≡ link_of (shown_of day rows) n k
  latest_link k = same_option (link_at day rows n k) (link_of (shown_of day rows) n k) listed made_of
    where
      -- what its latest statement makes is listed of the record
      listed : (l : Link) → link_at day rows n k ≡ Some l → link_of (shown_of day rows) n k ≡ Some l
      listed l h = option_and_then_some (link_into day rows n) (open_at day k rows) l h
          (λ r is e.
          let m = only n (link_in day (nodes_of day rows) r) l e in
          let of : k ≡ link_record l = sym (open_at_in day k rows r is).1 ∙ link_of_row day (nodes_of day rows) r l m.0 in
          ap (λ (z : Node). link_of (shown_of day rows) n z) of ∙ own_link l (link_made day k rows r l is m.0) m.1)

      -- where a link is listed of the record, its latest statement makes that one
      made_of : (l : Link) → link_of (shown_of day rows) n k ≡ Some l → link_at day rows n k ≡ Some l
      made_of l h =
          let j = listed_of (shown_of day rows) n k l h in
          let r = links_of_rows day rows l j.0 in
          let is = open_row_at day rows r.row r.is_open in
          let key : series_of r.row ≡ k = r.of_record ∙ sym j.2 in
          ap (λ (m : Node). option_and_then (link_into day rows n) (open_at day m rows)) (sym key) ∙ ap (λ (o : Option Row). option_and_then (link_into day rows n) o) is ∙ ap (only_into n) r.made ∙ only_made n l j.1

  -- a link that a record states is the one that is listed of it, where its ends are open
  pub stated_is : (k : Node) (link : Option Link) → link ≡ stated_at day rows n k → is_entity_info (info_of (shown_of day rows) n) ≡ true → with_open_party (shown_of day rows) link ≡ link_of (shown_of day rows) n k
  stated_is k link is entity = ap (with_open_party (shown_of day rows)) is ∙ at (open_at day k rows) refl ∙ latest_link k
    where
      nodes : List OpenNode
      nodes = nodes_of day rows

      -- of a link into the node only the party is left to be open
      opened : (o : Option Link) → with_open_party (shown_of day rows) (only_into n o) ≡ only_into n (between_open nodes o)
      opened None = refl
      opened (Some l) = grind (arith, entity, same_node_is l.subject n)

      at : (o : Option Row) → open_at day k rows ≡ o → with_open_party (shown_of day rows) (only_into n (option_and_then (λ r. link_stated day k r.statement.details) o)) ≡ option_and_then (link_into day rows n) o
      at None e = refl
      at (Some r) e = grind (arith, opened (link_stated day k r.statement.details), open_at_in day k rows r e)

  -- the records of rows into a node are those of the links
  pub naming_is : (nodes : List Node) → ((r : Row) → Contains rows r → is_into n r.agent r.statement ≡ true → Contains nodes (series_of r)) → HaveNaming (shown_of day rows) n nodes
  naming_is nodes cover l h into =
      let f = link_found day rows l h in
      subst (λ (m : Node). Contains nodes m) (link_of_row day (nodes_of day rows) f.0 l f.3)
      (cover f.0 f.1 (subst (λ (m : Node). is_into m (f.0).agent (f.0).statement ≡ true) into (from_row day (nodes_of day rows) f.0 l f.3).into))

-- the links that candidates make are all into the node
pub links_told : (s : Shown) → IsOfRows s → (n : Node) (candidates : List Node) (links : List Link) → links ≡ filter_map (link_of s n) candidates → HaveNaming s n candidates → IsDistinct same_node candidates → AreLinksInto s n links
links_told s of n candidates links e cover once = record {
  each = λ l. (
    (λ h. let k = Contains-from_filter_map (link_of s n) candidates l (subst (λ (ls : List Link). Contains ls l) e h) in let j = listed_of s n k.0 l k.2 in (j.0, j.1)),
    (λ h. subst (λ (ls : List Link). Contains ls l) (sym e) (Contains-filter_map (link_of s n) candidates (link_record l) l (cover l h.0 h.1) (own l h.0 h.1))),
  );
  once = subst (λ (ls : List Link). IsDistinct same_node (map link_record ls)) (sym e) (links_once same_node (λ k. k) (link_of s n) (λ k j. refl) (λ k l h. (listed_of s n k l h).2) candidates once);
}
  where
    own : (l : Link) → Contains s.links l → l.subject ≡ n → link_of s n (link_record l) ≡ Some l
    own l = subst (λ (t : Shown). Contains t.links l → l.subject ≡ n → link_of t n (link_record l) ≡ Some l) (sym of.1) (own_link (of.0).day (of.0).rows n l)

-- there is none into a node that isn't an open entity
no_links : (day : ℤ) (rows : List Row) (n : Node) (links : List Link) → links ≡ [] → is_entity_info (info_in (nodes_of day rows) n) ≡ false → AreLinksInto (shown_of day rows) n links
unfolding IsDistinct
no_links day rows n links e gone = record {
  each = λ l. (
    (λ h. absurd (none l (subst (λ (ls : List Link). Contains ls l) e h))),
    (λ h.
        let m = Contains-from_filter_map (link_in day (nodes_of day rows)) (open_rows day rows) l h.0 in
        let is = subst (λ (k : Node). is_entity_info (info_in (nodes_of day rows) k) ≡ true) h.1 (from_row day (nodes_of day rows) m.0 l m.2).entity in
        absurd (let no : true ≡ false = sym is ∙ gone in cc)),
  );
  once = subst (λ (ls : List Link). IsDistinct same_node (map link_record ls)) (sym e) tt;
}

pub no_links_told : (s : Shown) → IsOfRows s → (n : Node) (links : List Link) → links ≡ [] → is_entity_info (info_of s n) ≡ false → AreLinksInto s n links
no_links_told s of n links e = subst (λ (t : Shown). is_entity_info (info_of t n) ≡ false → AreLinksInto t n links) (sym of.1) (no_links (of.0).day (of.0).rows n links e)

-- the same, of other nodes with the same elements
pub naming_once : (s : Shown) (n : Node) (naming nodes candidates : List Node) → nodes ≡ naming → ((k : Node) → Contains candidates k ↔ Contains nodes k) → HaveNaming s n naming → HaveNaming s n candidates
naming_once s n naming nodes candidates is same have l h into = (same (link_record l)).1 (subst (λ (ns : List Node). Contains ns (link_record l)) (sym is) (have l h into))

-- a node whose identifiers are told is an open entity, and no other
pub entity_told : {I : Type 0} (items : I → List Identifier) (s : Shown) (n : Node) (told : Option I) → option_map items told ≡ identifiers_in s.nodes n → is_entity_info (info_of s n) ≡ is_some told
entity_told items s n told e = grind arith
