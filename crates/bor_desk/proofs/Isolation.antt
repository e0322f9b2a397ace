-- The answer to an agent follows from its own exchanges, the day, and what the others have published.
use Rattle.std.proofs.Common.{◌≡◌, ℕ, List, [], ◌∷◌, Bool, true, false, Option, Some, None, refl, ◌∙◌, sym, ap, subst, arith}
use Rattle.std.specs.Prelude.{if◌then◌else◌}
use Rattle.bor_terms.specs.Texts.{is_same}
use Rattle.bor_terms.proofs.Texts.{same_is, same_refl}
use Rattle.bor_register.specs.declared.caller.Caller.{Caller}
use Rattle.bor_register.specs.declared.caller.Caller.TheVariants.{Registrar, Agent}
use Rattle.bor_register.specs.declared.member.Member.{Member}
use Rattle.bor_register.specs.Register.{Register, caller_of, is_enrolled, filings_of, new_member, with_member}
use Rattle.bor_register.proofs.Callers.{caller_is_enrolled}
use Rattle.bor_register.proofs.Members.{filings_absent, filings_written, other_filings}
use Rattle.bor_desk.specs.Operations.Laws.{LeavesOthers}
use Rattle.bor_desk.specs.Operations.Legality.{IsLegal}
use Rattle.bor_desk.specs.Operations.Sight.{sight_of}
use Rattle.bor_desk.specs.Operations.Solo.{published_beside, with_outwards, member_with, alone}
use Rattle.bor_desk.proofs.OnOperations.Changes.{by_advance, by_enrolment}
use Rattle.bor_desk.proofs.OnOperations.Legality.{leaves-with_filings, advance-keeps_agents, enrolment-keeps_agents}
use Rattle.bor_desk.proofs.OnOperations.Renewals.{renewal-filings, renewal-renews_token}
use Rattle.bor_desk.proofs.OnOperations.Alone.{filings-with_member, sight-alone}
use Rattle.bor_desk.specs.declared.request.Request.{Request}
use Rattle.bor_desk.specs.declared.request.Request.TheVariants as of
use Rattle.bor_desk.specs.declared.request.RegistrarRequest.{RegistrarRequest}
use Rattle.bor_desk.specs.declared.request.RegistrarRequest.TheVariants as office
use Rattle.bor_desk.specs.Step.{own_after, agent_answer, registrar_step, step}
use Rattle.bor_desk.specs.Runs.{Asked, exchange, register_after, request_by, occasion_then, history, told_then, answers_to, solo}
use Rattle.bor_desk.specs.declared.reply.DeskReply.{DeskReply}
use Rattle.bor_desk.specs.Outcomes.{IsAnswered}
use Rattle.bor_desk.specs.Laws.{is_agent, IsLeftBy, OwnFilingsUntouched, IsAsAlone, IsToldAlone, OneExchangeAlone, IsolationOfHistories}
use Rattle.bor_desk.proofs.Steps.{step-stays_legal}

-- ---- the filings of the others

other-with_member : (new : Member) (ms : List Member) (name : List ℕ) → is_same new.name name ≡ false → filings_of name (with_member new ms) ≡ filings_of name ms
other-with_member new [] name other = rw other refl
other-with_member new (m ∷ ms) name other = grind (arith, other-with_member new ms name other)

-- a new agent brings no filings
enrolled-filings : (name token : List ℕ) (ms : List Member) (asked : List ℕ) → is_enrolled name ms ≡ false → filings_of asked (with_member (new_member name token) ms) ≡ filings_of asked ms
enrolled-filings name token ms asked fresh =
    grind (arith, same_is name asked, filings-with_member (new_member name token) ms, filings_absent name ms fresh, other-with_member (new_member name token) ms asked)

pub registrar-filings : (r : Register) (request : RegistrarRequest) (asked : List ℕ) → filings_of asked (registrar_step r request).register.members ≡ filings_of asked r.members
registrar-filings r (office.Day date) asked = by_advance r date (λ o. filings_of asked o.register.members ≡ filings_of asked r.members) refl (λ later. refl)
registrar-filings r (office.Enrol name token) asked =
    by_enrolment r name token (λ o. filings_of asked o.register.members ≡ filings_of asked r.members) (λ fault. refl) (λ fresh free. enrolled-filings name token r.members asked fresh)
registrar-filings r (office.Renew name token) asked = renewal-filings r name token asked
registrar-filings r office.Register asked = refl

others-filings : (r : Register) (caller : Option Caller) (request : Request) (name : List ℕ) → is_agent name caller ≡ false → filings_of name (step r caller request).register.members ≡ filings_of name r.members
others-filings r caller request name other = grind (arith, registrar-filings r, other_filings)

-- ---- the agents that were there

registrar-keeps : (r : Register) (request : Request) → IsLeftBy request r (step r (Some Registrar) request).register
registrar-keeps r (of.Registrar (office.Day date)) = advance-keeps_agents r date
registrar-keeps r (of.Registrar (office.Enrol name token)) = enrolment-keeps_agents r name token
registrar-keeps r (of.Registrar (office.Renew name token)) = renewal-renews_token r name token
registrar-keeps r request = record { registrar = refl; agents = λ m on. on }

agent-leaves : (r : Register) (name : List ℕ) (request : Request) → LeavesOthers name r (step r (Some (Agent name)) request).register
agent-leaves r name (of.Agent request) = leaves-with_filings r name (own_after (sight_of name r) request)
agent-leaves r name (of.Registrar request) = record { day = refl; registrar = refl; agents = refl; filings = λ other differs. refl }

pub own_filings : OwnFilingsUntouched
own_filings = record {
  by_others = others-filings;
  by_an_agent = agent-leaves;
  by_the_registrar = registrar-keeps;
  by_nobody = λ r request. refl;
}

-- ---- one exchange

enrolled-with_member : (new : Member) (ms : List Member) → is_enrolled new.name (with_member new ms) ≡ true
enrolled-with_member new [] = rw (same_refl new.name) refl
enrolled-with_member new (m ∷ ms) = grind (arith, same_refl new.name, enrolled-with_member new ms)

as_alone : (r : Register) (name : List ℕ) (request : Request) → IsLegal r → is_enrolled name r.members ≡ true → IsAsAlone r name request
as_alone r name (of.Registrar request) legal enrolled = record { answer = refl; filings = ap (λ s. s.own) (sight-alone r name legal enrolled) }
as_alone r name (of.Agent request) legal enrolled =
    let sight = sight-alone r name legal enrolled in
    let others = with_outwards (published_beside name r.day r.members) [] in
    record {
      answer = ap (λ s. agent_answer s request) sight;
      filings = filings_written name (own_after (sight_of name (alone name r)) request) (alone name r).members (enrolled-with_member (member_with name (filings_of name r.members)) others)
          ∙ ap (λ s. own_after s request) sight
          ∙ sym (filings_written name (own_after (sight_of name r) request) r.members enrolled);
    }

pub exchange_alone : OneExchangeAlone
exchange_alone r token name request legal is = as_alone r name request legal (caller_is_enrolled r token name is)

-- a reply that tells the step's answer to an agent tells the one that it would get alone
pub told_alone : (reply : DeskReply) (r : Register) (token : List ℕ) (caller : Option Caller) (request : Request) → caller_of token r ≡ caller → IsLegal r →
    IsAnswered reply (step r caller request).answer → IsToldAlone reply caller r request
told_alone reply r token None request is legal h = tt
told_alone reply r token (Some Registrar) request is legal h = tt
told_alone reply r token (Some (Agent name)) request is legal h = subst (IsAnswered reply) (sym (exchange_alone r token name request legal is).answer) h

-- ---- runs

-- one more exchange, whoever asks
Goes : (r : Register) (name : List ℕ) (rest : List Asked) → Type 0
Goes r name rest = answers_to name r rest ≡ solo name (filings_of name r.members) (history name r rest)

passed : (r after : Register) (name : List ℕ) (rest : List Asked) → filings_of name after.members ≡ filings_of name r.members → Goes after name rest →
    answers_to name after rest ≡ solo name (filings_of name r.members) (history name after rest)
unfolding Goes
passed r after name rest same goes = goes ∙ ap (λ own. solo name own (history name after rest)) same

-- after an exchange of the agent itself
ByItself : Register → List ℕ → Request → List Asked → List ℕ → Type 0
ByItself r asking request rest name =
    let after = step r (Some (Agent asking)) request in
    Goes after.register name rest →
    after.answer ∷ answers_to name after.register rest
    ≡ solo name (filings_of name r.members) (record { day = r.day; others = published_beside name r.day r.members; request = request } ∷ history name after.register rest)

by_itself : (r : Register) (name : List ℕ) (request : Request) (rest : List Asked) → IsLegal r → is_enrolled name r.members ≡ true → ByItself r name request rest name
unfolding Goes ByItself
by_itself r name request rest legal enrolled goes =
    let one = as_alone r name request legal enrolled in
    let after = step r (Some (Agent name)) request in
    let lone = step (alone name r) (Some (Agent name)) request in
    ap (λ a. a ∷ answers_to name after.register rest) (sym one.answer)
    ∙ ap (λ rest_told. lone.answer ∷ rest_told) (goes ∙ ap (λ fs. solo name fs (history name after.register rest)) (sym one.filings))

by_agent : (r : Register) (name asking : List ℕ) (request : Request) (rest : List Asked) (b : Bool) → is_same asking name ≡ b → IsLegal r → is_enrolled asking r.members ≡ true →
    let after = step r (Some (Agent asking)) request in
    Goes after.register name rest →
    told_then (if b then Some request else None) after.answer (answers_to name after.register rest)
    ≡ solo name (filings_of name r.members) (occasion_then name r (if b then Some request else None) (history name after.register rest))
unfolding Goes ByItself
by_agent r name asking request rest true same legal enrolled goes =
    subst (λ n. ByItself r asking request rest n) (same_is asking name same) (by_itself r asking request rest legal enrolled) goes
by_agent r name asking request rest false other legal enrolled goes =
    passed r (step r (Some (Agent asking)) request).register name rest (others-filings r (Some (Agent asking)) request name other) goes

by_caller : (r : Register) (token name : List ℕ) (request : Request) (rest : List Asked) (caller : Option Caller) → caller_of token r ≡ caller → IsLegal r →
    Goes (step r caller request).register name rest →
    told_then (request_by name caller request) (step r caller request).answer (answers_to name (step r caller request).register rest)
    ≡ solo name (filings_of name r.members) (occasion_then name r (request_by name caller request) (history name (step r caller request).register rest))
by_caller r token name request rest None is legal goes = passed r r name rest refl goes
by_caller r token name request rest (Some Registrar) is legal goes =
    passed r (step r (Some Registrar) request).register name rest (others-filings r (Some Registrar) request name refl) goes
by_caller r token name request rest (Some (Agent asking)) is legal goes =
    by_agent r name asking request rest (is_same asking name) refl legal (caller_is_enrolled r token asking is) goes

alone_each : (r : Register) (run : List Asked) (name : List ℕ) → IsLegal r → Goes r name run
unfolding Goes
alone_each r [] name legal = refl
alone_each r (a ∷ rest) name legal =
    by_caller r a.token name a.request rest (caller_of a.token r) refl legal
    (alone_each (exchange r a).register rest name (step-stays_legal r (caller_of a.token r) a.request legal))

legal_after : (r : Register) (run : List Asked) → IsLegal r → IsLegal (register_after r run)
legal_after r [] legal = legal
legal_after r (a ∷ rest) legal = legal_after (exchange r a).register rest (step-stays_legal r (caller_of a.token r) a.request legal)

pub isolated : IsolationOfHistories
unfolding Goes
isolated = record {
  stays_legal = legal_after;
  alone_each = alone_each;
  two_runs = λ r q run other name legal lawful own past.
      alone_each r run name legal ∙ ap (λ fs. solo name fs (history name r run)) own ∙ ap (solo name (filings_of name q.members)) past
      ∙ sym (alone_each q other name lawful);
}
