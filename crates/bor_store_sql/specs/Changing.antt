-- The tables after the changes.
use Rattle.std.specs.Prelude.{◌≡◌, ◌≤◌, ◌<◌, ◌+◌, ℕ, ℤ, pos, Bool, true, false, not, cond, List, []}
use Rattle.std.specs.Prelude.{◌∷◌, ◌++◌, All, map, filter, length}
use Rattle.std.specs.List.{list_all, flat_map}
use Rattle.sqlite.specs.declared.types.Value.TheVariants.{Null, Int, Text, Blob}
use Rattle.sqlite.specs.Order.{Row, column}
use Rattle.sqlite.specs.Term.{Term, holds}
use Rattle.sqlite.specs.Cast.{cast_all}
use Rattle.bor_store_sql.specs.Texts.Tables.{register_table, agent_table, filing_table}
use Rattle.bor_store_sql.specs.Texts.Queries.{equals}
use Rattle.bor_store_sql.specs.Texts.Changes.{equals_number}
use Rattle.bods_read.specs.Forms.{IsFormedStatement}
use Rattle.bor_register.specs.Limits.{filings_limit}
use Rattle.bor_register.specs.Register.{Register, with_filings, filings_of, new_member, with_member}
use Rattle.bor_register.specs.Register.{is_enrolled}
use Rattle.bor_register.specs.Live.{accepted}
use Rattle.bor_register.specs.Withdrawal.{with_withdrawn}
use Rattle.bods_read.specs.declared.statement.Statement.{Statement}
use Rattle.bor_register.specs.declared.filing.AcceptedFiling.{AcceptedFiling}
use Rattle.bor_register.specs.declared.member.Member.{Member}
use Rattle.bor_store_sql.specs.declared.rows.typed.Placed.{Placed}
use Rattle.bor_store_sql.specs.declared.rows.typed.StatementRow.{StatementRow}
use Rattle.bor_store_sql.specs.declared.rows.typed.InterestRow.{InterestRow}
use Rattle.bor_store_sql.specs.declared.rows.typed.IdentifierRow.{IdentifierRow}
use Rattle.bor_store_sql.specs.declared.rows.typed.PeriodRow.{PeriodRow}
use Rattle.bor_store_sql.specs.Rows.Placed.{bare, interest_rows, identifier_rows, period_rows}
use Rattle.bor_store_sql.specs.Rows.Placed.{placed, placed_from}
use Rattle.bor_store_sql.specs.Rows.Encoding.{Contents, filing_columns, statement_columns}
use Rattle.bor_store_sql.specs.Rows.Encoding.{interest_columns, identifier_columns, period_columns}

-- The agent is enrolled, has room for one more filing, and the number is that of its next; the
-- statements have their form.
pub record MayAdd (agent : List ℕ) (number : ℕ) (statements : List Statement) (r : Register)
    : Type 0 where
  pub enrolled : is_enrolled agent r.members ≡ true
  pub room : length (filings_of agent r.members) < filings_limit
  pub next : number ≡ length (filings_of agent r.members) + 1
  pub formed : All IsFormedStatement statements

-- the register once the agent's filing with this number is withdrawn
abbrev pub withdrawn : List ℕ → ℕ → Register → Register
withdrawn agent number r =
    record r
    { members = with_filings agent (with_withdrawn number (filings_of agent r.members)) r.members }

-- the register once the agent's filing is added
abbrev pub added : List ℕ → List ℕ → ℤ → List ℕ → List Statement → Register → Register
added agent key due bytes statements r =
    let own = filings_of agent r.members in
    record r
    { members = with_filings agent (own ++ accepted own key due bytes statements ∷ []) r.members }

-- the register once the agent is added
abbrev pub enrolled : List ℕ → List ℕ → Register → Register
enrolled agent token r = record r { members = with_member (new_member agent token) r.members }

-- ---- the rows of the table period for a register, statement by statement

abbrev pub all_periods : List Member → List PeriodRow
all_periods ms = flat_map (λ p. flat_map period_rows (interest_rows p)) (placed ms)

-- ---- rows of a withdrawn filing, for clauses of private functions alone

abbrev pub Any : Contents → Type 0
Any t = Unit {0}

-- the columns pass these tests
abbrev pub row_passes : List Term → Row → Row → Bool
row_passes tests params x = list_all (holds (params ∷ (Null ∷ x) ∷ [])) tests

-- the first two columns are the agent and the filing's number
abbrev pub is_of_filing : List ℕ → ℕ → Row → Bool
is_of_filing agent number =
    row_passes (equals 1 0 ∷ equals 2 1 ∷ []) (Text agent ∷ Int (pos number) ∷ [])

-- a row of the table filing, marked as withdrawn
abbrev pub marked : Row → Row
marked x =
    cast_all filing_table.columns
    (column x 0 ∷ column x 1 ∷ column x 2 ∷ column x 3 ∷ Int (pos 1) ∷ column x 5 ∷ [])

abbrev pub with_mark : List ℕ → ℕ → Contents → Contents
with_mark agent number t =
    record t { filings = map (λ x. cond (is_of_filing agent number x) (marked x) x) t.filings }

-- at most one filing has the number
abbrev pub IsOnce : List ℕ → ℕ → Contents → Type 0
IsOnce agent number t = length (filter (is_of_filing agent number) t.filings) ≤ 1

abbrev pub others : List ℕ → ℕ → List Row → List Row
others agent number rows = filter (λ x. not (is_of_filing agent number x)) rows

abbrev pub without_identifiers : List ℕ → ℕ → Contents → Contents
without_identifiers agent number t = record t { identifiers = others agent number t.identifiers }

abbrev pub without_interests : List ℕ → ℕ → Contents → Contents
without_interests agent number t = record t { interests = others agent number t.interests }

abbrev pub without_statements : List ℕ → ℕ → Contents → Contents
without_statements agent number t = record t { statements = others agent number t.statements }

abbrev pub without_periods : List ℕ → ℕ → Contents → Contents
without_periods agent number t = record t { periods = others agent number t.periods }

-- the filing is marked, and the rows of its statements are gone
abbrev pub withdrawn_in : List ℕ → ℕ → Contents → Contents
withdrawn_in agent number t =
    without_statements agent number (without_interests agent number
    (without_identifiers agent number (without_periods agent number (with_mark agent number t))))

-- ---- rows that are added, for clauses of private functions alone

-- a filing that isn't withdrawn
abbrev pub live_filing : ℕ → List ℕ → ℤ → List ℕ → List Statement → AcceptedFiling
live_filing number key due bytes statements =
    record {
      number = number;
      key = key;
      due = due;
      withdrawn = false;
      bytes = bytes;
      statements = statements;
    }

-- the parameters of the INSERT of a filing: its columns but `withdrawn`
abbrev pub given_filing : List ℕ → ℕ → List ℕ → ℤ → List ℕ → Row
given_filing agent number key due bytes =
    Text agent ∷ Int (pos number) ∷ Text key ∷ Int due ∷ Blob bytes ∷ []

abbrev pub with_agent_row : Row → Contents → Contents
with_agent_row x t = record t { agents = t.agents ++ x ∷ [] }

abbrev pub with_filing_row : List ℕ → AcceptedFiling → Contents → Contents
with_filing_row agent f t = record t { filings = t.filings ++ filing_columns agent f ∷ [] }

abbrev pub with_statement_row : StatementRow → Contents → Contents
with_statement_row s t = record t { statements = t.statements ++ statement_columns s ∷ [] }

abbrev pub with_interest_rows : List InterestRow → Contents → Contents
with_interest_rows is t = record t { interests = t.interests ++ map interest_columns is }

abbrev pub with_identifier_rows : List IdentifierRow → Contents → Contents
with_identifier_rows is t = record t { identifiers = t.identifiers ++ map identifier_columns is }

-- the row of the days of an interest, where it has one
abbrev pub days_of : InterestRow → List Row
days_of i = map period_columns (period_rows i)

abbrev pub with_period_row : PeriodRow → Contents → Contents
with_period_row p t = record t { periods = t.periods ++ period_columns p ∷ [] }

abbrev pub with_period_rows : List InterestRow → Contents → Contents
with_period_rows is t = record t { periods = t.periods ++ flat_map days_of is }

-- an interest's row and that of its days
abbrev pub with_interest : InterestRow → Contents → Contents
with_interest i t = with_period_rows (i ∷ []) (with_interest_rows (i ∷ []) t)

-- a statement's row and those of its lists
abbrev pub with_one_placed : Placed → Contents → Contents
with_one_placed p t =
    with_period_rows (interest_rows p) (with_interest_rows (interest_rows p)
    (with_identifier_rows (identifier_rows p) (with_statement_row (bare p) t)))

-- the changes that elements make, one after the other, each with its number from a number on
abbrev pub in_turn : {X : Type 0} → (ℕ → X → Contents → Contents) → ℕ → List X → Contents
    → Contents
in_turn change n [] t = t
in_turn change n (x ∷ xs) t = in_turn change (n + 1) xs (change n x t)

-- the rows of all these statements
abbrev pub with_placed : List Placed → Contents → Contents
with_placed ps t = record t {
  statements = t.statements ++ map (λ p. statement_columns (bare p)) ps;
  interests = t.interests ++ flat_map (λ p. map interest_columns (interest_rows p)) ps;
  identifiers = t.identifiers ++ flat_map (λ p. map identifier_columns (identifier_rows p)) ps;
  periods = t.periods ++ flat_map (λ p. flat_map days_of (interest_rows p)) ps;
}

-- a filing's row and those of its statements
abbrev pub with_live_filing : List ℕ → ℕ → List ℕ → ℤ → List ℕ → List Statement
    → Contents → Contents
with_live_filing agent number key due bytes statements t =
    with_placed (placed_from agent number 1 statements)
    (with_filing_row agent (live_filing number key due bytes []) t)

-- ---- the row with the day, for clauses of private functions alone

-- the first column is 1
abbrev pub is_the_one : ℤ → Row → Bool
is_the_one day = row_passes (equals_number 1 1 ∷ []) (Int day ∷ [])

-- a row of the table register, of this day
abbrev pub dated : ℤ → Row → Row
dated day x = cast_all register_table.columns (column x 0 ∷ column x 1 ∷ Int day ∷ column x 3 ∷ [])

abbrev pub with_day : ℤ → Contents → Contents
with_day day t =
    record t { register = map (λ x. cond (is_the_one day x) (dated day x) x) t.register }

-- the table register has at most one such row
abbrev pub IsOneRegister : ℤ → Contents → Type 0
IsOneRegister day t = length (filter (is_the_one day) t.register) ≤ 1

-- ---- the row with an agent's token, for clauses of private functions alone

-- the first column is the agent
abbrev pub is_of_agent : List ℕ → Row → Bool
is_of_agent agent = row_passes (equals 1 0 ∷ []) (Text agent ∷ [])

-- a row of the table agent, with this token
abbrev pub renewed : List ℕ → Row → Row
renewed token x = cast_all agent_table.columns (column x 0 ∷ Text token ∷ [])

abbrev pub with_token_row : List ℕ → List ℕ → Contents → Contents
with_token_row agent token t =
    record t { agents = map (λ x. cond (is_of_agent agent x) (renewed token x) x) t.agents }

-- the table agent has at most one such row
abbrev pub IsOneAgent : List ℕ → Contents → Type 0
IsOneAgent agent t = length (filter (is_of_agent agent) t.agents) ≤ 1
