-- The additions that a register takes, and the register after an addition, a withdrawal or the
-- renewal of a token.
use Rattle.std.specs.Prelude.{◌≡◌, ◌<◌, ◌++◌, ◌∷◌, [], ℕ, ℤ, List, None, length, true, false}
use Rattle.bods_read.specs.declared.statement.Statement.{Statement}
use Rattle.bor_register.specs.Limits.{filings_limit}
use Rattle.bor_register.specs.Live.{AreNew, accepted, live_of}
use Rattle.bor_register.specs.Register.{Register, filing_keyed, filings_of, is_enrolled, is_taken}
use Rattle.bor_register.specs.Register.{new_member, with_filings, with_member, with_token}
use Rattle.bor_register.specs.Withdrawal.{with_withdrawn}

-- The agent is enrolled and has so many filings, room for one more and none under the key, and its
-- live statements may have these beside them (`AreNew`).
pub record MayFile (agent : List ℕ) (count : ℕ) (key : List ℕ) (statements : List Statement)
    (r : Register) : Type 0 where
  pub enrolled : is_enrolled agent r.members ≡ true
  pub counted : count ≡ length (filings_of agent r.members)
  pub room : length (filings_of agent r.members) < filings_limit
  pub fresh : filing_keyed key (filings_of agent r.members) ≡ None
  pub statements_are : AreNew (live_of (filings_of agent r.members)) statements

-- The name and the token are new to the register.
pub record MayEnrol (agent token : List ℕ) (r : Register) : Type 0 where
  pub new_name : is_enrolled agent r.members ≡ false
  pub new_token : is_taken token r ≡ false

-- the register with one filing more
abbrev pub with_filing : List ℕ → List ℕ → ℤ → List ℕ → List Statement → Register → Register
with_filing agent key due bytes statements r =
    let own = filings_of agent r.members in
    record r
    { members = with_filings agent (own ++ accepted own key due bytes statements ∷ []) r.members }

-- the register with the filing withdrawn
abbrev pub with_withdrawal : List ℕ → ℕ → Register → Register
with_withdrawal agent number r =
    record r
    { members = with_filings agent (with_withdrawn number (filings_of agent r.members)) r.members }

-- the register with one agent more
abbrev pub with_agent : List ℕ → List ℕ → Register → Register
with_agent agent token r = record r { members = with_member (new_member agent token) r.members }

-- the register once the agent's token is this one
abbrev pub with_renewal : List ℕ → List ℕ → Register → Register
with_renewal agent token r = record r { members = with_token agent token r.members }
