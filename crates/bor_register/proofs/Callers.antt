-- Who has a token of the register.
use Rattle.std.proofs.Common.{◌≡◌, ℕ, List, [], ◌∷◌, true, Some, refl, arith}
use Rattle.std.specs.Prelude.{is_some}
use Rattle.bor_terms.proofs.Texts.{same_refl}
use Rattle.bor_register.specs.declared.member.Member.{Member}
use Rattle.bor_register.specs.declared.caller.Caller.TheVariants.{Agent}
use Rattle.bor_register.specs.Register.{Register, agent_with, caller_of, is_agents_token, is_taken, is_enrolled}

agents_token : (token : List ℕ) (ms : List Member) → is_agents_token token ms ≡ is_some (agent_with token ms)
agents_token token [] = refl
agents_token token (m ∷ ms) = grind (arith, agents_token token ms)

-- a token is taken exactly where somebody has it
pub taken-caller : (token : List ℕ) (r : Register) → is_taken token r ≡ is_some (caller_of token r)
taken-caller token r = grind (arith, agents_token token r.members)

agent_is_enrolled : (token name : List ℕ) (ms : List Member) → agent_with token ms ≡ Some name → is_enrolled name ms ≡ true
agent_is_enrolled token name [] h = cc
agent_is_enrolled token name (m ∷ ms) h = grind (arith, same_refl name, agent_is_enrolled token name ms)

-- an agent that has a token is enrolled
pub caller_is_enrolled : (r : Register) (token name : List ℕ) → caller_of token r ≡ Some (Agent name) → is_enrolled name r.members ≡ true
caller_is_enrolled r token name h = grind (arith, agent_is_enrolled token name r.members)

pub ruleset callers = (taken-caller)
