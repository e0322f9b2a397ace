-- The answer of an operation over a keep, and the register that it leaves.
use Rattle.std.specs.Prelude.{◌≡◌, ◌≢◌, ◌⊎◌, IfErr, ℕ, Option, Some, None, Result, Ok, Err}
use Rattle.bor_records.specs.Promises.{Meaning, Promised, StaysClean}
use Rattle.bor_register.specs.declared.fault.StoreFault.{StoreFault}
use Rattle.bor_register.specs.declared.fault.StoreFault.TheVariants.{Memory}
use Rattle.bor_register.specs.Register.{Register}
use Rattle.bor_desk.specs.declared.operations.fault.LodgeFault.{LodgeFault}
use Rattle.bor_desk.specs.declared.operations.fault.LodgeFault.TheVariants as lodges
use Rattle.bor_desk.specs.declared.operations.fault.WithdrawFault.{WithdrawFault}
use Rattle.bor_desk.specs.declared.operations.fault.WithdrawFault.TheVariants as withdraws
use Rattle.bor_desk.specs.declared.operations.fault.AdvanceFault.{AdvanceFault}
use Rattle.bor_desk.specs.declared.operations.fault.AdvanceFault.TheVariants as advances
use Rattle.bor_desk.specs.declared.operations.fault.EnrolFault.{EnrolFault}
use Rattle.bor_desk.specs.declared.operations.fault.EnrolFault.TheVariants as enrols
use Rattle.bor_desk.specs.declared.operations.fault.RenewFault.{RenewFault}
use Rattle.bor_desk.specs.declared.operations.fault.RenewFault.TheVariants as renews
use Rattle.bor_desk.specs.Operations.Sight.{Outcome}

-- ---- which faults are the store's

abbrev pub of_lodging : LodgeFault → Option StoreFault
of_lodging (lodges.Store fault) = Some fault
of_lodging refusal = None

abbrev pub of_withdrawal : WithdrawFault → Option StoreFault
of_withdrawal (withdraws.Store fault) = Some fault
of_withdrawal refusal = None

abbrev pub of_advance : AdvanceFault → Option StoreFault
of_advance (advances.Store fault) = Some fault
of_advance refusal = None

abbrev pub of_enrolment : EnrolFault → Option StoreFault
of_enrolment (enrols.Store fault) = Some fault
of_enrolment refusal = None

abbrev pub of_renewal : RenewFault → Option StoreFault
of_renewal (renews.Store fault) = Some fault
of_renewal refusal = None

-- ---- the answer, and the register that is left

-- P where there is no fault of the store, as of an answer or a refusal; Q of the fault
abbrev pub ByStore : Option StoreFault → Type 0 → (StoreFault → Type 0) → Type 0
ByStore None P Q = P
ByStore (Some fault) P Q = Q fault

-- The answer, a refusal too, is the step's, and so is the register left; want of memory or a failed
-- store leaves the register as it was.
abbrev pub IsOutcome : {A E : Type 0} → (E → Option StoreFault) → Result A E → (Register → Type 0)
    → Register → Outcome (Result A E) → Type 0
IsOutcome store (Ok answer) shown r o = (o.answer ≡ Ok answer) × shown o.register
IsOutcome store (Err fault) shown r o =
    ByStore (store fault) ((o.answer ≡ Err fault) × shown o.register) (λ f. shown r)

-- A fault of the store is want of memory where the keep's count of faults hasn't moved. Which one
-- it may be where it has, `IsTellable` says.
abbrev pub IsFaultOf : ℕ → ℕ → StoreFault → Type 0
IsFaultOf before after fault = ((fault ≡ Memory) × (after ≡ before)) ⊎ (after ≢ before)

-- A fault of the store is want of memory where the keep's count of faults hasn't moved, and one
-- that the keep may return where it has.
abbrev pub IsTellable : (StoreFault → Type 0) → ℕ → ℕ → StoreFault → Type 0
IsTellable may_tell before after fault =
    ((fault ≡ Memory) × (after ≡ before)) ⊎ (may_tell fault × (after ≢ before))

-- the fault of the store that a call has answered; none where it gave its answer or a refusal
abbrev pub store_fault : {A E : Type 0} → (E → Option StoreFault) → Result A E → Option StoreFault
store_fault store (Ok answer) = None
store_fault store (Err fault) = store fault

-- The account of an operation for the faults of its keep, by the fault of the store that it has
-- answered. With none, the keep's count of faults hasn't moved, and a clean keep stays clean. One
-- is want of memory where the count hasn't moved, and one that the keep may answer where it has.
pub record Accounts {S V W : Type 0} (meaning : Meaning S V W StoreFault) (old new : S)
    (fault : Option StoreFault) : Type 0 where
  pub counted : ByStore fault (meaning.fault_count new ≡ meaning.fault_count old)
      (IsFaultOf (meaning.fault_count old) (meaning.fault_count new))
  pub told : Promised meaning old new (λ v. ByStore fault (Unit {0})
      (IsTellable meaning.may_tell (meaning.fault_count old) (meaning.fault_count new)))
  pub lasts : ByStore fault (StaysClean meaning old new) (λ f. Unit {0})

-- ---- parts of an operation, for clauses of private functions alone

-- an error says what the definition gives, but for a fault of the store
abbrev pub Refuses : {B E : Type 0} → (E → Option StoreFault) → E → Result B E → Type 0
Refuses store fault told = ByStore (store fault) (told ≡ Err fault) (λ f. Unit {0})

-- a call answers what the definition gives, but for a fault of the store
abbrev pub IsDone : {A B E : Type 0} → (E → Option StoreFault) → (A → B) → Result A E
    → Result B E → Type 0
IsDone store view (Ok x) told = told ≡ Ok (view x)
IsDone store view (Err fault) told = Refuses store fault told

-- a call that asks no keep answers what the definition gives: its one fault of the store is want of
-- memory
pub record IsMadeAlone {A B : Type 0} (view : A → B) (made : Result A LodgeFault)
    (told : Result B LodgeFault) : Type 0 where
  pub done : IsDone of_lodging view made told
  pub err : IfErr made (λ fault. ByStore (of_lodging fault) (Unit {0}) (λ f. f ≡ Memory))
