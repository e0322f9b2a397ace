use Rattle.std.proofs.Common.{List, Contains, subst, sym}
use Rattle.bor_records.specs.declared.links.sign.Sign.{Sign}
use Rattle.bor_records.proofs.OnLinks.Exact.{exact_sign}
use Rattle.bor_chains.proofs.alike.put_entity.Goals as goal

pub returns-clause-stays : goal.returns-clause-stays
returns-clause-stays c = (c.in_ok-note.ensures exact_sign).stays

pub returns-clause-under : goal.returns-clause-under
returns-clause-under c = λ k h. (c.in_ok-note.ensures exact_sign).there k (subst (λ (ks : List Sign). Contains ks k) (sym c.in_ok-keys.ensures) h.1)
