-- The effects of one step of a client, for clauses of private functions alone.
use Rattle.bor_register.specs.declared.fault.StoreFault.{StoreFault}
use Rattle.bor_records.specs.Promises.{Meaning}
use Rattle.std.specs.Prelude.{◌≡◌, ℕ, List, [], ◌∷◌, ◌++◌, Bool, false, Option, ⊤}
use Rattle.bor_register.specs.Register.{Register}
use Rattle.bor_program.specs.declared.log.Note.{Note}
use Rattle.bor_program.specs.declared.connections.phase.Phase.{Phase}
use Rattle.bor_program.specs.declared.connections.phase.Phase.TheVariants as phase
use Rattle.bor_program.specs.declared.connections.phase.Step.{Step}
use Rattle.bor_program.specs.declared.connections.phase.Step.TheVariants as step
use Rattle.bor_program.specs.Connections.Serving.{GivenReply, Ended, IsServing, Tally, given_reply}
use Rattle.bor_program.specs.Connections.Serving.{has_failed, is_absent, told_on}
use Rattle.bor_program.specs.Connections.Streams.{EndedOn, IsDraining, IsReading, IsWriting}
use Rattle.bor_program.specs.Connections.Streams.{KeepsAll, Wire}

-- the answer that is being sent to a client
abbrev pub telling : {S : Type 0} → Phase S → List GivenReply
telling (phase.Reading reading) = []
telling (phase.Writing writing) = given_reply writing.request.value.items writing.reply ∷ []
telling (phase.Draining draining) = given_reply draining.request.value.items draining.reply ∷ []

-- the facts that are known of a client in its phase
abbrev pub IsHeld : {S : Type 0} → Wire S → Phase S → Type 0
IsHeld wire (phase.Reading reading) =
    IsReading wire.remaining reading.stream reading.received.items reading.progress
IsHeld wire (phase.Writing writing) =
    IsWriting wire writing.stream
    (given_reply writing.request.value.items writing.reply) writing.sent
IsHeld wire (phase.Draining draining) =
    IsDraining wire draining.stream
    (given_reply draining.request.value.items draining.reply) draining.left

-- a client whose request is still read has been so from the first, and nothing that was read of it
-- is forgotten
abbrev pub ReadsOn : {S : Type 0} → (S → Option (List ℕ)) → Phase S → Phase S → Type 0
ReadsOn remaining (phase.Reading old) (phase.Reading new) =
    KeepsAll remaining old.stream old.received.items new.stream new.received.items
ReadsOn remaining (phase.Writing old) (phase.Reading new) = ⊥
ReadsOn remaining (phase.Draining old) (phase.Reading new) = ⊥
ReadsOn remaining (phase.Reading old) (phase.Writing new) = ⊤
ReadsOn remaining (phase.Writing old) (phase.Writing new) = ⊤
ReadsOn remaining (phase.Draining old) (phase.Writing new) = ⊤
ReadsOn remaining (phase.Reading old) (phase.Draining new) = ⊤
ReadsOn remaining (phase.Writing old) (phase.Draining new) = ⊤
ReadsOn remaining (phase.Draining old) (phase.Draining new) = ⊤

-- the phase that a client has come to, in which it goes on or its connection ends
abbrev pub phase_of : {S : Type 0} → Step S → Phase S
phase_of (step.Goes at pace) = at
phase_of (step.Ends at) = at

-- a connection ended on which a client had come, and this answer was being sent, and failed or not
abbrev pub EndsAs : {S : Type 0} → Wire S → List GivenReply → Bool → Type 0
EndsAs wire told failed =
    (e : Ended) × EndedOn wire e × (told_on e ≡ told) × (failed ≡ has_failed e)
    × (is_absent e ≡ false)

-- where a client stands: the keep, the answer that is being sent to it, and the notes that were
-- made and are not told yet
pub record Stand (K : Type 0) : Type 0 where
  pub keep : K
  pub told : List GivenReply
  pub notes : List Note

abbrev pub stand_at : {K : Type 0} → K → List GivenReply → List Note → Stand K
stand_at keep told notes = record { keep = keep; told = told; notes = notes }

-- a client's step is one of the server, whatever it has done before and whichever other clients
-- there are: it stood here, and then there
abbrev pub IsStep : {K S Left : Type 0} → Meaning K Register Left StoreFault → Wire S
    → Stand K → Stand K → Type 0
IsStep {K} meaning wire this that =
    (start : K) (others : List GivenReply) (tally : Tally) (noted : List Note)
    → IsServing meaning (EndedOn wire) start this.keep (this.told ++ others)
    (record tally { notes = noted ++ this.notes })
    → IsServing meaning (EndedOn wire) start that.keep (that.told ++ others)
    (record tally { notes = noted ++ that.notes })
