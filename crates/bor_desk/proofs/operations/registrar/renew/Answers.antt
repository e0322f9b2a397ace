use Rattle.std.proofs.Common.{sym, ap, ◌∙◌, is_some, Option}
use Rattle.bor_register.specs.declared.caller.Caller.{Caller}
use Rattle.bor_register.proofs.Callers.{taken-caller}
use Rattle.bor_desk.proofs.OnOperations.Renewals.{renewed-legal}
use Rattle.bor_desk.proofs.operations.registrar.renew.Goals as goal

pub returns-in_ok-set_token-in-None-clause-legal : goal.returns-in_ok-set_token-in-None-clause-legal
returns-in_ok-set_token-in-None-clause-legal g c = λ r is clean3 legal.
    let clean2 = c.in_ok-set_token-in-None.ensures.leaves.began clean3 in
    let clean1 = c.in_ok-who.ensures.reads.kept.began clean2 in
    let is1 = (c.in_ok-has_agent.ensures.kept.same clean1 r).0 is in
    let is2 = (c.in_ok-who.ensures.reads.kept.same clean2 r).0 is1 in
    let nobody = sym (c.in_ok-who.ensures.reads.answer r is1 clean2) ∙ c.in-None.is in (
      _,
      c.in_ok-set_token-in-None.ensures.changed r is2 clean3,
      renewed-legal r c.args.name c.args.token legal (taken-caller c.args.token r ∙ ap (λ (o : Option Caller). is_some o) nobody),
    )
