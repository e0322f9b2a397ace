-- The parts of a refusal: its name, the place of a statement, and the member that it is about.
use Rattle.std.specs.Prelude.{◌≡◌, ℕ, List, Option, Some, None, codes}
use Rattle.bods_read.specs.declared.fault.Field.{Field}
use Rattle.bods_read.specs.Faults.{file_fault_word, file_fault_place, file_fault_field}
use Rattle.bor_records.specs.Words.{fault_name}
use Rattle.bor_register.specs.declared.fault.StoreFault.{StoreFault}
use Rattle.bor_register.specs.declared.fault.StoreFault.TheVariants as stores
use Rattle.bor_desk.specs.declared.operations.fault.LodgeFault.{LodgeFault}
use Rattle.bor_desk.specs.declared.operations.fault.LodgeFault.TheVariants as lodges
use Rattle.bor_desk.specs.declared.operations.fault.WithdrawFault.{WithdrawFault}
use Rattle.bor_desk.specs.declared.operations.fault.WithdrawFault.TheVariants as withdraws
use Rattle.bor_desk.specs.declared.operations.fault.AdvanceFault.{AdvanceFault}
use Rattle.bor_desk.specs.declared.operations.fault.AdvanceFault.TheVariants as advances
use Rattle.bor_desk.specs.declared.operations.fault.EnrolFault.{EnrolFault}
use Rattle.bor_desk.specs.declared.operations.fault.EnrolFault.TheVariants as enrols
use Rattle.bor_desk.specs.declared.operations.fault.RenewFault.{RenewFault}
use Rattle.bor_desk.specs.declared.operations.fault.RenewFault.TheVariants as renews
use Rattle.bor_chains.specs.declared.fault.ChainFault.{ChainFault}
use Rattle.bor_chains.specs.declared.fault.ChainFault.TheVariants as chains
use Rattle.bor_desk.specs.declared.refusal.Refusal.{Refusal}
use Rattle.bor_desk.specs.declared.refusal.Refusal.TheVariants.{NoAgent, NotRegistrar, NotAgent}
use Rattle.bor_desk.specs.declared.refusal.Refusal.TheVariants.{KeyReused, FilingsFull, DuePast}
use Rattle.bor_desk.specs.declared.refusal.Refusal.TheVariants.{Read, StatementTwice, Record}
use Rattle.bor_desk.specs.declared.refusal.Refusal.TheVariants.{NoSuchFiling, Published}
use Rattle.bor_desk.specs.declared.refusal.Refusal.TheVariants.{HasSuccessor, NoEntity, DayBack}
use Rattle.bor_desk.specs.declared.refusal.Refusal.TheVariants.{NameTaken, TokenTaken, NoSuchAgent}
use Rattle.bor_desk.specs.declared.refusal.DeskFault.{DeskFault}
use Rattle.bor_desk.specs.declared.refusal.DeskFault.TheVariants.{Refused, Failed}

-- ---- how a refusal is shown

unfoldable pub refusal_name : Refusal → List ℕ
refusal_name NoAgent = codes "NoAgent"
refusal_name NotRegistrar = codes "NotRegistrar"
refusal_name NotAgent = codes "NotAgent"
refusal_name KeyReused = codes "KeyReused"
refusal_name FilingsFull = codes "FilingsFull"
refusal_name DuePast = codes "DuePast"
refusal_name (Read fault) = file_fault_word fault
refusal_name (StatementTwice place) = codes "StatementTwice"
refusal_name (Record place fault) = fault_name fault
refusal_name NoSuchFiling = codes "NoSuchFiling"
refusal_name Published = codes "Published"
refusal_name HasSuccessor = codes "HasSuccessor"
refusal_name NoEntity = codes "NoEntity"
refusal_name DayBack = codes "DayBack"
refusal_name NameTaken = codes "NameTaken"
refusal_name TokenTaken = codes "TokenTaken"
refusal_name NoSuchAgent = codes "NoSuchAgent"

-- the place of the statement that is refused, from 1
abbrev pub refusal_place : Refusal → Option ℕ
refusal_place (Read fault) = file_fault_place fault
refusal_place (StatementTwice place) = Some place
refusal_place (Record place fault) = Some place
refusal_place refusal = None

-- the member of the file that it is about
abbrev pub refusal_field : Refusal → Option Field
refusal_field (Read fault) = file_fault_field fault
refusal_field refusal = None

-- ---- the refusals of the operations' faults

abbrev pub of_lodging : LodgeFault → DeskFault
of_lodging lodges.KeyReused = Refused KeyReused
of_lodging lodges.FilingsFull = Refused FilingsFull
of_lodging lodges.DuePast = Refused DuePast
of_lodging (lodges.Read fault) = Refused (Read fault)
of_lodging (lodges.StatementTwice place) = Refused (StatementTwice place)
of_lodging (lodges.Record place fault) = Refused (Record place fault)
of_lodging (lodges.Store fault) = Failed fault

abbrev pub of_withdrawal : WithdrawFault → DeskFault
of_withdrawal withdraws.NoSuchFiling = Refused NoSuchFiling
of_withdrawal withdraws.Published = Refused Published
of_withdrawal withdraws.HasSuccessor = Refused HasSuccessor
of_withdrawal (withdraws.Store fault) = Failed fault

abbrev pub of_advance : AdvanceFault → DeskFault
of_advance advances.DayBack = Refused DayBack
of_advance (advances.Store fault) = Failed fault

abbrev pub of_enrolment : EnrolFault → DeskFault
of_enrolment enrols.NameTaken = Refused NameTaken
of_enrolment enrols.TokenTaken = Refused TokenTaken
of_enrolment (enrols.Store fault) = Failed fault

abbrev pub of_renewal : RenewFault → DeskFault
of_renewal renews.NoSuchAgent = Refused NoSuchAgent
of_renewal renews.TokenTaken = Refused TokenTaken
of_renewal (renews.Store fault) = Failed fault

-- the refusal of a report on chains; a fault of the source becomes the store's fault that it is
-- made into
abbrev pub IsOfChains : {F : Type 0} → (F → StoreFault → Type 0) → ChainFault F → DeskFault → Type 0
IsOfChains into chains.NoEntity given = given ≡ Refused NoEntity
IsOfChains into (chains.Source f) given =
    (fault : StoreFault) × into f fault × (given ≡ Failed fault)
IsOfChains into chains.Memory given = given ≡ Failed stores.Memory

-- ---- for a clause of a private function alone

-- which faults are the store's
abbrev pub failed : DeskFault → Option StoreFault
failed (Failed fault) = Some fault
failed (Refused why) = None
