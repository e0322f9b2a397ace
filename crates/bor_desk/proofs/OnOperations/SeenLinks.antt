-- Nodes and links are the same of rows with the numbers of their filings and without.
use Rattle.std.proofs.Common.{◌≡◌, ◌||◌, ◌&&◌, ℤ, Bool, Option, List, [], ◌∷◌, map, refl, ap, ◌∙◌, arith}
use Rattle.std.specs.List.{filter_map, cons_option, list_any}
use Rattle.bods_read.specs.declared.details.Details.{Details}
use Rattle.bor_records.specs.declared.row.Row.{Row}
use Rattle.bor_records.specs.Snapshot.{is_dated}
use Rattle.bor_records.specs.declared.links.node.Node.{Node}
use Rattle.bor_records.specs.declared.links.node.OpenNode.{OpenNode}
use Rattle.bor_records.specs.declared.links.node.Link.{Link}
use Rattle.bor_records.specs.OpenRows.{open_rows}
use Rattle.bor_records.specs.Links.Series.{series_of, is_of}
use Rattle.bor_records.specs.Links.Shown.{Shown}
use Rattle.bor_records.specs.Links.Rows.{node_in, nodes_of, link_with, link_in, links_of, shown_of}
use Rattle.bor_register.specs.Rows.{visible}
use Rattle.bor_desk.specs.Operations.Sight.{unnumbered}
use Rattle.bor_desk.specs.Operations.Laws.{NumbersMakeNoLinks}

later_seen : (day : ℤ) (n : Node) (rows : List Row) → list_any (λ x. is_of n x && is_dated day x) (map unnumbered rows) ≡ list_any (λ x. is_of n x && is_dated day x) rows
later_seen day n [] = refl
later_seen day n (r ∷ rows) = ap (λ (b : Bool). (is_of n r && is_dated day r) || b) (later_seen day n rows)

pub open_seen : (day : ℤ) (rows : List Row) → open_rows day (map unnumbered rows) ≡ map unnumbered (open_rows day rows)
open_seen day [] = refl
open_seen day (r ∷ rows) = grind (arith, later_seen day (series_of r) rows, open_seen day rows)

nodes_in : (rows : List Row) → filter_map node_in (map unnumbered rows) ≡ filter_map node_in rows
nodes_in [] = refl
nodes_in (r ∷ rows) = ap (λ (xs : List OpenNode). cons_option (node_in r) xs) (nodes_in rows)

nodes_seen : (day : ℤ) (rows : List Row) → nodes_of day (map unnumbered rows) ≡ nodes_of day rows
nodes_seen day rows = ap (λ (xs : List Row). filter_map node_in xs) (open_seen day rows) ∙ nodes_in (open_rows day rows)

link_seen : (day : ℤ) (nodes : List OpenNode) (r : Row) (d : Details) → link_with day nodes (unnumbered r) d ≡ link_with day nodes r d
link_seen day nodes r d = grind arith

links_in : (day : ℤ) (nodes : List OpenNode) (rows : List Row) → filter_map (link_in day nodes) (map unnumbered rows) ≡ filter_map (link_in day nodes) rows
links_in day nodes [] = refl
links_in day nodes (r ∷ rows) =
    ap (λ (o : Option Link). cons_option o (filter_map (link_in day nodes) (map unnumbered rows))) (link_seen day nodes r r.statement.details)
    ∙ ap (λ (xs : List Link). cons_option (link_in day nodes r) xs) (links_in day nodes rows)

links_seen : (day : ℤ) (rows : List Row) → links_of day (map unnumbered rows) ≡ links_of day rows
links_seen day rows =
    ap (λ (nodes : List OpenNode). filter_map (link_in day nodes) (open_rows day (map unnumbered rows))) (nodes_seen day rows)
    ∙ ap (λ (xs : List Row). filter_map (link_in day (nodes_of day rows)) xs) (open_seen day rows)
    ∙ links_in day (nodes_of day rows) (open_rows day rows)

shown-seen : (day : ℤ) (rows : List Row) → shown_of day (map unnumbered rows) ≡ shown_of day rows
shown-seen day rows =
    ap (λ (nodes : List OpenNode). let s : Shown = record { nodes = nodes; links = links_of day (map unnumbered rows) } in s) (nodes_seen day rows)
    ∙ ap (λ (links : List Link). let s : Shown = record { nodes = nodes_of day rows; links = links } in s) (links_seen day rows)

pub numbers_make_no_links : NumbersMakeNoLinks
numbers_make_no_links day viewer r = shown-seen day (visible viewer r.day r.members)
