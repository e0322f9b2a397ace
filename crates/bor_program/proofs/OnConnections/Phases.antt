-- Steps of clients are steps of the server.
use Rattle.bor_register.specs.declared.fault.StoreFault.{StoreFault}
use Rattle.std.proofs.Common.{◌≡◌, ◌≢◌, ◌<◌, ◌∙◌, ◌++◌, List, [], ◌∷◌, ℕ, Option, None, arith, refl, sym, subst}
use Rattle.std.specs.declared.time.Duration.{Duration}
use Rattle.bor_records.specs.Promises.{Meaning, Promised}
use Rattle.bor_register.specs.Register.{Register}
use Rattle.bor_wire.specs.Sent.{Sent}
use Rattle.bor_wire.specs.Answering.{Responds}
use Rattle.bor_program.specs.Connections.Serving.{GivenReply, IsServing, given_reply}
use Rattle.bor_program.specs.declared.log.Note.{Note}
use Rattle.bor_program.specs.Logging.{IsNoteOf, MayNote}
use Rattle.bor_program.specs.Connections.Streams.{EndedOn, Wire}
use Rattle.bor_program.specs.declared.connections.phase.Phase.{Phase}
use Rattle.bor_program.specs.declared.connections.phase.Phase.TheVariants.{Reading}
use Rattle.bor_program.specs.declared.connections.phase.Pace.{Pace}
use Rattle.bor_program.specs.declared.connections.phase.Pace.TheVariants.{Blocked, Turned}
use Rattle.bor_program.specs.declared.connections.phase.Step.TheVariants.{Goes}
use Rattle.bor_program.specs.Connections.Phases.{IsStep, ReadsOn, Stand, stand_at}
use Rattle.bor_program.specs.Connections.Times.{IsBegun, IsIdleSince, IsPaced, IsTurned, moves_of, turns_of}
use Rattle.bor_program.proofs.OnConnections.Servers.{answers}

-- nothing was answered
pub same_step : {K S Left : Type 0} (meaning : Meaning K Register Left StoreFault) (wire : Wire S) (keep : K) (this that : List GivenReply) (notes : List Note)
    → that ≡ this → IsStep meaning wire (stand_at keep this notes) (stand_at keep that notes)
same_step meaning wire keep this that notes same = λ start others tally noted before.
    subst (λ l. IsServing meaning (EndedOn wire) start keep (l ++ others) (record tally { notes = noted ++ notes })) (sym same) before

-- a reply in memory is an answer
pub answer_step : {K S Left : Type 0} (meaning : Meaning K Register Left StoreFault) (wire : Wire S) (old new : K) (request : List ℕ) (reply : Sent) (that : List GivenReply) (before after : List Note)
    → that ≡ given_reply request reply ∷ [] → Responds meaning old new request reply → MayNote (IsNoteOf (Promised meaning old new) request reply) before after
    → IsStep meaning wire (stand_at old [] before) (stand_at new that after)
answer_step meaning wire old new request reply that before after is responds notes = λ start others tally noted was.
    subst (λ l. IsServing meaning (EndedOn wire) start new (l ++ others) (record tally { notes = noted ++ after })) (sym is)
    (answers meaning (EndedOn wire) start old new others tally (given_reply request reply) noted before after was notes responds)

pub then_steps : {K S Left : Type 0} (meaning : Meaning K Register Left StoreFault) (wire : Wire S) (this between that : Stand K)
    → IsStep meaning wire this between → IsStep meaning wire between that → IsStep meaning wire this that
then_steps meaning wire this between that first second = λ start others tally noted before.
    second start others tally noted (first start others tally noted before)

-- ---- nothing that was read is forgotten

pub reads_same : {S : Type 0} (remaining : S → Option (List ℕ)) (p : Phase S) → ReadsOn remaining p p
reads_same remaining (Reading r) = λ came h. h
reads_same remaining p = tt

pub reads_then : {S : Type 0} (remaining : S → Option (List ℕ)) (p q r : Phase S) → ReadsOn remaining p q → ReadsOn remaining q r → ReadsOn remaining p r
reads_then remaining (Reading p) (Reading q) (Reading r) h k = λ came is. k came (h came is)
reads_then remaining p (Reading q) (Reading r) h k = absurd h
reads_then remaining p q (Reading r) h k = absurd k
reads_then remaining p q r h k = tt

-- ---- since when a client is idle

pub idle_still : (first old next : ℕ) (begun idle later now : Duration) → IsIdleSince first old begun now idle → next ≡ old → later ≡ idle → IsIdleSince first next begun now later
idle_still first old next begun idle later now h same is = record {
  on = omega (arith, h.on, same);
  idle = λ none. is ∙ h.idle (omega (arith, none, same));
  busy = λ some. is ∙ h.busy (omega (arith, some, same));
}

pub idle_moved : (first old next : ℕ) (begun idle later now : Duration) → IsIdleSince first old begun now idle → old < next → later ≡ now → IsIdleSince first next begun now later
idle_moved first old next begun idle later now h more is =
    record { on = omega (arith, h.on, more); idle = λ none. absurd (omega (arith, none, more, h.on)); busy = λ some. is }

pub idle_on : {S : Type 0} (first old next : Phase S) (pace : Pace) (begun idle later now : Duration) → IsIdleSince (moves_of first) (moves_of old) begun now idle → IsPaced old (Goes next pace)
    → (pace ≡ Blocked → later ≡ idle) → (pace ≢ Blocked → later ≡ now) → IsIdleSince (moves_of first) (moves_of next) begun now later
idle_on first old next Blocked begun idle later now h paced blocked other =
    idle_still (moves_of first) (moves_of old) (moves_of next) begun idle later now h paced (blocked refl)
idle_on first old next pace begun idle later now h paced blocked other =
    idle_moved (moves_of first) (moves_of old) (moves_of next) begun idle later now h paced (other (λ is. cc))

begun_still : (first old next : ℕ) (before since later : Option Duration) → IsBegun first old before since → next ≡ old → later ≡ since → IsBegun first next before later
begun_still first old next before since later h same is = record {
  on = omega (arith, h.on, same);
  same = λ none. is ∙ h.same (omega (arith, none, same));
  turned = λ some. is ∙ h.turned (omega (arith, some, same));
}

pub begun_on : {S : Type 0} (first old next : Phase S) (pace : Pace) (before since later : Option Duration) → IsBegun (turns_of first) (turns_of old) before since → IsTurned old (Goes next pace)
    → (pace ≡ Turned → later ≡ None) → (pace ≢ Turned → later ≡ since) → IsBegun (turns_of first) (turns_of next) before later
begun_on first old next Turned before since later h turns turned other =
    record { on = omega (arith, h.on, turns); same = λ none. absurd (omega (arith, none, turns, h.on)); turned = λ some. turned refl }
begun_on first old next pace before since later h turns turned other =
    begun_still (turns_of first) (turns_of old) (turns_of next) before since later h turns (other (λ is. cc))
