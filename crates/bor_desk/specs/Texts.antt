-- The lines that are printed of a register.
use Rattle.std.specs.Prelude.{ℕ, ◌+◌, List, [], ◌∷◌, ◌++◌, Option, Some, None, codes, true, false}
use Rattle.std.specs.Fmt.{decimal}
use Rattle.bods_read.specs.declared.statement.Statement.{Statement}
use Rattle.bods_read.specs.declared.statement.Status.{Status}
use Rattle.bods_read.specs.declared.fault.Field.{Field}
use Rattle.bods_read.specs.Words.{type_word, type_of, status_word, field_word}
use Rattle.bor_register.specs.declared.filing.Outward.{Outward}
use Rattle.bor_desk.specs.declared.operations.lodging.Lodged.{Lodged}
use Rattle.bor_desk.specs.declared.text.Text.{Text}
use Rattle.bor_desk.specs.declared.refusal.Refusal.{Refusal}
use Rattle.bor_desk.specs.Refusals.{refusal_name, refusal_place, refusal_field}
use Rattle.bor_register.specs.Publication.{state_word}

-- a text that is no refusal
abbrev pub answering : List ℕ → Text
answering bytes = record { bytes = bytes; refused = false }

-- a refusal
abbrev pub refusing : List ℕ → Text
refusing bytes = record { bytes = bytes; refused = true }

-- parts joined by tabs, and a line feed
abbrev pub tabbed : List ℕ → List (List ℕ) → List ℕ
tabbed part [] = part ++ 10 ∷ []
tabbed part (next ∷ parts) = part ++ 9 ∷ [] ++ tabbed next parts

-- ---- the published filings

-- the word of a settled status
abbrev pub settled_word : Option Status → List ℕ
settled_word None = []
settled_word (Some status) = status_word status

-- of a statement its place, type, settled status, declaration and record
abbrev pub statement_line : ℕ → Statement → List ℕ
statement_line place s =
    tabbed (decimal place)
    (type_word (type_of s.details) ∷ settled_word s.status ∷ s.declaration ∷ s.rec ∷ [])

-- the statements of a filing, counted from this place
abbrev pub filing_statement_lines : ℕ → List Statement → List ℕ
filing_statement_lines place [] = []
filing_statement_lines place (s ∷ ss) =
    statement_line place s ++ filing_statement_lines (place + 1) ss

-- the statements of each published filing, counted from 1 in each
abbrev pub outward_lines : List Outward → List ℕ
outward_lines [] = []
outward_lines (o ∷ os) = filing_statement_lines 1 o.statements ++ outward_lines os

-- ---- the answer to a lodging

-- a filing that was accepted: its number and its state
abbrev pub accepted_line : Lodged → List ℕ
accepted_line lodged =
    codes "filing " ++ decimal lodged.number ++ 32 ∷ [] ++ state_word lodged.state ++ 10 ∷ []

abbrev pub place_part : Option ℕ → List ℕ
place_part None = []
place_part (Some place) = codes " at " ++ decimal place

abbrev pub field_part : Option Field → List ℕ
field_part None = []
field_part (Some field) = codes " in " ++ field_word field

-- a refusal by its name, with its place and its field where it has them
abbrev pub refusal_line : List ℕ → Option ℕ → Option Field → List ℕ
refusal_line name place field =
    codes "refused " ++ name ++ place_part place ++ field_part field ++ 10 ∷ []

abbrev pub refused_text : Refusal → Text
refused_text why =
    refusing (refusal_line (refusal_name why) (refusal_place why) (refusal_field why))
