use Rattle.std.proofs.Common.{subst}
use Rattle.bor_records.specs.Links.Answers.{HaveSigned}
use Rattle.bor_records.specs.Links.Shown.{Shown}
use Rattle.bor_records.specs.Links.Signs.{sign_cmp}
use Rattle.bor_records.specs.Links.Values.{under}
use Rattle.bor_chains.specs.Listing.{Listing}
use Rattle.bor_chains.proofs.Beside.{under_all}
use Rattle.bor_chains.proofs.list_source.ListSource.nodes_signed.Goals as goal

pub returns : goal.returns
returns c =
    let s : Shown = record { nodes = c.self.inside.nodes.items; links = c.self.inside.links.items } in
    let k = c.args.sign.now in
    subst (λ (x : Listing). HaveSigned x.shown k c.under.result.now) c.self.view_is (rw c.under.ensures (under_all s (under sign_cmp c.self.inside.signed) k c.self.invariant.3))
