-- Facts that follow from an operation's outcome.
use Rattle.std.proofs.Common.{◌≡◌, Result, Ok, Err, sym, subst}
use Rattle.std.specs.Prelude.{Option, Some, None}
use Rattle.bor_register.specs.declared.fault.StoreFault.{StoreFault}
use Rattle.bor_register.specs.Register.{Register}
use Rattle.bor_desk.specs.Operations.Sight.{Outcome}
use Rattle.bor_desk.specs.Operations.Outcomes.{ByStore, IsOutcome}
use Rattle.bor_desk.specs.Operations.Legality.{IsLegal}

-- ---- a fault, by whether it is the store's

pub by_store : (of : Option StoreFault) (P Q : Type 0) (R S : StoreFault → Type 0) → (P → Q) → ((f : StoreFault) → R f → S f) → ByStore of P R → ByStore of Q S
by_store None P Q R S refusal fault h = refusal h
by_store (Some f) P Q R S refusal fault h = fault f h

pub unless_store : (of : Option StoreFault) (P Q : Type 0) → (P → Q) → ByStore of P (λ f. Unit {0}) → ByStore of Q (λ f. Unit {0})
unless_store of P Q refusal h = by_store of P Q (λ f. Unit {0}) (λ f. Unit {0}) refusal (λ f x. x) h

-- ---- outcomes

-- a refusal that the step gives, and that leaves the register
pub refused : {A E : Type 0} (store : E → Option StoreFault) (fault : E) (shown : Register → Type 0) (r : Register) (o : Outcome (Result A E)) →
    ByStore (store fault) ((o.answer ≡ Err fault) × (o.register ≡ r)) (λ f. Unit {0}) → shown r → IsOutcome store (Err fault) shown r o
refused store fault shown r o h is =
    by_store (store fault) _ _ (λ f. Unit {0}) (λ f. shown r) (λ both. (both.0, subst shown (sym both.1) is)) (λ f x. is) h

-- where the step leaves a legal register legal, what is left is legal
pub left_by : (of : Option StoreFault) (shown : Register → Type 0) (r after : Register) → ByStore of (shown after) (λ f. shown r) → IsLegal r → IsLegal after → (left : Register) × shown left × IsLegal left
left_by None shown r after h was is = (after, h, is)
left_by (Some f) shown r after h was is = (r, h, was)

pub left_legal : {A E : Type 0} (store : E → Option StoreFault) (result : Result A E) (shown : Register → Type 0) (r : Register) (o : Outcome (Result A E)) →
    IsOutcome store result shown r o → IsLegal r → IsLegal o.register → (left : Register) × shown left × IsLegal left
left_legal store (Ok answer) shown r o h was is = (o.register, h.1, is)
left_legal store (Err fault) shown r o h was is = left_by (store fault) shown r o.register (by_store (store fault) _ _ (λ f. shown r) (λ f. shown r) (λ both. both.1) (λ f kept. kept) h) was is
