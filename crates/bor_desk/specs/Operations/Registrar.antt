-- The registrar's operations: the day goes on, agents are enrolled, and their tokens renewed (this
-- register's own rules).
use Rattle.std.specs.Prelude.{ℕ, ℤ, int_lt, List, Option, Some, None, Result, Ok, Err}
use Rattle.std.specs.Prelude.{if◌then◌else◌}
use Rattle.bor_terms.specs.Texts.{is_same}
use Rattle.bor_register.specs.Additions.{with_renewal}
use Rattle.bor_register.specs.declared.caller.Caller.{Caller}
use Rattle.bor_register.specs.declared.caller.Caller.TheVariants.{Registrar, Agent}
use Rattle.bor_register.specs.Register.{Register, caller_of, is_enrolled, is_taken, new_member}
use Rattle.bor_register.specs.Register.{with_member}
use Rattle.bor_desk.specs.declared.operations.fault.AdvanceFault.{AdvanceFault}
use Rattle.bor_desk.specs.declared.operations.fault.AdvanceFault.TheVariants.{DayBack}
use Rattle.bor_desk.specs.declared.operations.fault.EnrolFault.{EnrolFault}
use Rattle.bor_desk.specs.declared.operations.fault.EnrolFault.TheVariants.{NameTaken, TokenTaken}
use Rattle.bor_desk.specs.declared.operations.fault.RenewFault.{RenewFault}
use Rattle.bor_desk.specs.declared.operations.fault.RenewFault.TheVariants as renews
use Rattle.bor_desk.specs.Operations.Sight.{Outcome}

-- The register's day becomes this one. It never goes back; the same day is accepted.
abbrev pub advance_step : Register → ℤ → Outcome (Result ℤ AdvanceFault)
advance_step r day =
    if int_lt day r.day then record { answer = Err DayBack; register = r }
    else record { answer = Ok day; register = record r { day = day } }

-- One more agent, whose name no agent has, and whose token neither an agent nor the registrar has.
abbrev pub enrol_step : Register → List ℕ → List ℕ → Outcome (Result (List ℕ) EnrolFault)
enrol_step r name token =
    if is_enrolled name r.members then record { answer = Err NameTaken; register = r }
    else (if is_taken token r then record { answer = Err TokenTaken; register = r }
    else record {
      answer = Ok name;
      register = record r
          { members = with_member (new_member name token) r.members };
    })

-- By who has the token so far: nobody's becomes the agent's, and its old one nobody's; with its own
-- all stays; any other is refused.
abbrev pub renewal : Register → List ℕ → List ℕ → Option Caller
    → Outcome (Result (List ℕ) RenewFault)
renewal r name token None = record { answer = Ok name; register = with_renewal name token r }
renewal r name token (Some Registrar) = record { answer = Err renews.TokenTaken; register = r }
renewal r name token (Some (Agent owner)) =
    if is_same owner name then record { answer = Ok name; register = r }
    else record { answer = Err renews.TokenTaken; register = r }

-- An agent's token becomes this one, which neither another agent nor the registrar has.
abbrev pub renew_step : Register → List ℕ → List ℕ → Outcome (Result (List ℕ) RenewFault)
renew_step r name token =
    if is_enrolled name r.members then renewal r name token (caller_of token r)
    else record { answer = Err renews.NoSuchAgent; register = r }
