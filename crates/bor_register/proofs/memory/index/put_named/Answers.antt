use Rattle.bor_records.specs.Links.Values.{under}
use Rattle.bor_register.specs.Memory.Indexed.{key_cmp, key_of}
use Rattle.bor_register.proofs.OnMemory.Indexed.{exact_key}
use Rattle.bor_register.proofs.OnMemory.Grown.{place_put}
use Rattle.bor_register.proofs.memory.index.put_named.Goals as goal

pub returns : goal.returns
returns c = λ k.
    place_put key_cmp exact_key c.in_ok-key.key (key_of c.args.agent.now c.args.statement.now) k c.args.place (under key_cmp c.args.named.now) (under key_cmp c.put.new.map) c.in_ok-key.ensures (c.in_ok-put.ensures.each k)
