-- The answer to the withdrawal of a filing, and the register after it, by what its agent can see
-- (this register's own rules).
use Rattle.std.specs.Prelude.{ℕ, int_le, List, Option, Some, None, Result, Ok, Err, if◌then◌else◌}
use Rattle.bor_register.specs.declared.filing.AcceptedFiling.{AcceptedFiling}
use Rattle.bor_register.specs.declared.filing.FilingLine.{FilingLine}
use Rattle.bor_register.specs.declared.filing.State.TheVariants.{Withdrawn}
use Rattle.bor_register.specs.Register.{Register, filing_keyed, with_filings}
use Rattle.bor_register.specs.Publication.{line_of}
use Rattle.bor_register.specs.Withdrawal.{has_successor, as_withdrawn, with_withdrawn}
use Rattle.bor_desk.specs.declared.operations.fault.WithdrawFault.{WithdrawFault}
use Rattle.bor_desk.specs.declared.operations.fault.WithdrawFault.TheVariants.{NoSuchFiling}
use Rattle.bor_desk.specs.declared.operations.fault.WithdrawFault.TheVariants.{Published}
use Rattle.bor_desk.specs.declared.operations.fault.WithdrawFault.TheVariants.{HasSuccessor}
use Rattle.bor_desk.specs.Operations.Sight.{Sight, sight_of, Outcome}

-- No filing under the key; a withdrawn one is answered as the first time; a published one stays; so
-- does one that a later live filing stands on; else the answer says that it is withdrawn.
abbrev pub withdrawal_at : Sight → Option AcceptedFiling → Result FilingLine WithdrawFault
withdrawal_at sight None = Err NoSuchFiling
withdrawal_at sight (Some f) =
    if f.withdrawn then Ok (line_of sight.day f)
    else (if int_le f.due sight.day then Err Published
    else (if has_successor f.number sight.own then Err HasSuccessor
    else Ok (line_of sight.day (as_withdrawn f))))

abbrev pub own_withdrawn_at : Sight → Option AcceptedFiling → List AcceptedFiling
own_withdrawn_at sight None = sight.own
own_withdrawn_at sight (Some f) =
    if f.withdrawn then sight.own
    else (if int_le f.due sight.day then sight.own
    else (if has_successor f.number sight.own then sight.own
    else with_withdrawn f.number sight.own))

-- the answer to the agent, by what it can see
abbrev pub withdrawal : Sight → List ℕ → Result FilingLine WithdrawFault
withdrawal sight key = withdrawal_at sight (filing_keyed key sight.own)

-- the agent's filings after it
abbrev pub own_withdrawn : Sight → List ℕ → List AcceptedFiling
own_withdrawn sight key = own_withdrawn_at sight (filing_keyed key sight.own)

-- the withdrawal of a filing by its agent
abbrev pub withdraw_step : Register → List ℕ → List ℕ → Outcome (Result FilingLine WithdrawFault)
withdraw_step r name key =
    let sight = sight_of name r in
    record {
      answer = withdrawal sight key;
      register = record r { members = with_filings name (own_withdrawn sight key) r.members };
    }

-- ---- for clauses of private functions alone

-- a filing's line once it is withdrawn
abbrev pub line_withdrawn : FilingLine → FilingLine
line_withdrawn line = record line { state = Withdrawn }
