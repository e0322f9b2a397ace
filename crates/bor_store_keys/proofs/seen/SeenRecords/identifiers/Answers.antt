use Rattle.std.proofs.Common.{refl}
use Rattle.bor_store_keys.proofs.Holding.{seen_answer}
use Rattle.bor_store_keys.proofs.seen.SeenRecords.identifiers.Goals as goal

pub returns : goal.returns
returns g c = record {
  leads = (refl, refl, c.identifiers_in.ensures.reads);
  lasts = c.identifiers_in.ensures.up;
  answer = seen_answer _ c.identifiers_in.ensures (λ r stored found is. is);
}
