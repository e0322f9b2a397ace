use Rattle.std.proofs.Common.{◌≡◌, ℕ, List, [], subst}
use Rattle.std.specs.BTreeMap.{get}
use Rattle.std.proofs.lemmas.Result.{IfOk-weaker}
use Rattle.bor_records.specs.declared.links.node.Node.{Node}
use Rattle.bor_records.specs.Links.Nodes.{node_cmp}
use Rattle.bor_records.specs.Links.Shown.{Shown}
use Rattle.bor_records.specs.Links.Answers.{AreLinksInto}
use Rattle.bor_chains.specs.Listing.{Listing}
use Rattle.bor_chains.specs.Tables.{items_at, links_at}
use Rattle.bor_chains.proofs.Beside.{into_told}
use Rattle.bor_chains.proofs.list_source.ListSource.links_to.Goals as goal

pub returns-in-Some : goal.returns-in-Some
returns-in-Some c =
    let s : Shown = record { nodes = c.self.inside.nodes.items; links = c.self.inside.links.items } in
    let n = c.args.node.now in
    let into : Node → List ℕ = λ m. items_at (λ v. v.items) c.self.inside.into.items (get node_cmp c.self.inside.places m) in
    let found : c.in-Some.places.now.items ≡ into n = rw (c.in-Some.is, c.deref.ensures.value) at c.list_at.ensures in
    IfOk-weaker c.links_at.result _ _
    (λ out e. subst (λ (x : Listing). AreLinksInto x.shown n out.items) c.self.view_is
    (rw (rw (c.deref-in-Some.ensures.value, c.deref-in-Some-2.ensures.value, found) at e) (into_told s n into c.self.invariant.4 c.self.invariant.2)))
    c.links_at.ensures

pub returns-in-None : goal.returns-in-None
returns-in-None c =
    let s : Shown = record { nodes = c.self.inside.nodes.items; links = c.self.inside.links.items } in
    let n = c.args.node.now in
    let into : Node → List ℕ = λ m. items_at (λ v. v.items) c.self.inside.into.items (get node_cmp c.self.inside.places m) in
    let found : [] ≡ into n = rw (c.in-None.is, c.deref.ensures.value) at c.list_at.ensures in
    subst (λ (x : Listing). AreLinksInto x.shown n c.new.result.items) c.self.view_is (rw c.new.ensures.items (rw (← found) at (into_told s n into c.self.invariant.4 c.self.invariant.2)))
