use Rattle.std.proofs.Common.{refl}
use Rattle.bor_store_keys.proofs.Holding.{seen_answer}
use Rattle.bor_store_keys.proofs.seen.SeenRelationships.is_open.Goals as goal

pub returns : goal.returns
returns g c = record {
  leads = (refl, refl, c.is_node.ensures.reads);
  lasts = c.is_node.ensures.up;
  answer = seen_answer _ c.is_node.ensures (λ r stored found is. is);
}
