-- The rows of statements that a viewer sees: of its own live filings, and of all published ones.
use Rattle.std.specs.Prelude.{ℕ, ◌+◌, ℤ, List, [], ◌∷◌, ◌++◌, filter, Option, None, Some, Bool}
use Rattle.std.specs.Prelude.{true, not, if◌then◌else◌}
use Rattle.bor_terms.specs.Texts.{is_same}
use Rattle.bods_read.specs.declared.statement.Statement.{Statement}
use Rattle.bor_records.specs.declared.row.Row.{Row}
use Rattle.bor_records.specs.Admission.{stated_status}
use Rattle.bor_register.specs.declared.filing.AcceptedFiling.{AcceptedFiling}
use Rattle.bor_register.specs.declared.member.Member.{Member}
use Rattle.bor_register.specs.Publication.{is_published}

-- the viewer sees a filing of the agent: its own where it is live, another's where it is published
abbrev pub is_visible : List ℕ → ℤ → List ℕ → AcceptedFiling → Bool
is_visible viewer day name f = if is_same viewer name then not f.withdrawn else is_published day f

-- the row of a statement of a filing
abbrev pub row_of : List ℕ → ℕ → ℕ → Statement → Row
row_of name number place s =
    record { agent = name; filing = number; place = place; status = stated_status s; statement = s }

-- the rows of a filing's statements, counted from this place
abbrev pub rows_from : List ℕ → ℕ → ℕ → List Statement → List Row
rows_from name number place [] = []
rows_from name number place (s ∷ ss) =
    row_of name number place s ∷ rows_from name number (place + 1) ss

-- of these rows those of a declaration
abbrev pub of_declaration : List ℕ → List Row → List Row
of_declaration declaration rows = filter (λ row. is_same row.statement.declaration declaration) rows

-- the rows of an agent's filings, in order of acceptance and of place
abbrev pub rows_in : List ℕ → List AcceptedFiling → List Row
rows_in name [] = []
rows_in name (f ∷ fs) = rows_from name f.number 1 f.statements ++ rows_in name fs

-- the rows of an agent's filings that the viewer sees
abbrev pub visible_in : List ℕ → ℤ → List ℕ → List AcceptedFiling → List Row
visible_in viewer day name filings = rows_in name (filter (is_visible viewer day name) filings)

-- of these the rows of one declaration
abbrev pub rows_of : List ℕ → ℤ → List ℕ → List ℕ → List AcceptedFiling → List Row
rows_of viewer day name declaration filings =
    of_declaration declaration (visible_in viewer day name filings)

-- the rows of all agents' filings that the viewer sees, by agent
abbrev pub visible : List ℕ → ℤ → List Member → List Row
visible viewer day [] = []
visible viewer day (m ∷ ms) = visible_in viewer day m.name m.filings ++ visible viewer day ms

-- ---- for clauses of private functions alone

-- whether a statement is asked for: those of the declaration are, or all where none is named
abbrev pub is_asked : Option (List ℕ) → Statement → Bool
is_asked None s = true
is_asked (Some declaration) s = is_same s.declaration declaration

-- of these rows those that are asked for
abbrev pub asked_rows : Option (List ℕ) → List Row → List Row
asked_rows declaration rows = filter (λ row. is_asked declaration row.statement) rows
