use Rattle.std.proofs.Common.{refl}
use Rattle.bor_records.specs.Links.Nodes.{node_cmp}
use Rattle.bor_records.specs.Links.Values.{under}
use Rattle.bor_records.proofs.OnLinks.Exact.{exact_node}
use Rattle.bor_register.proofs.OnMemory.Grown.{place_put}
use Rattle.bor_register.proofs.memory.index.put_record.Goals as goal

pub returns : goal.returns
returns c = λ n.
    place_put node_cmp exact_node c.args.node c.args.node n c.args.place (under node_cmp c.args.series.now) (under node_cmp c.put.new.map) refl (c.in_ok-put.ensures.each n)
