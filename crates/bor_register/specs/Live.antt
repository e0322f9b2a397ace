-- An agent's live statements, and the filing that the register adds to an agent's.
use Rattle.std.specs.Prelude.{◌≡◌, ℕ, ◌+◌, ℤ, List, [], ◌∷◌, ◌++◌, length, map, All, IsSome, false}
use Rattle.std.specs.List.{IsDistinct}
use Rattle.bor_terms.specs.Texts.{is_same}
use Rattle.bods_read.specs.declared.statement.Statement.{Statement}
use Rattle.bor_records.specs.Admission.{Live}
use Rattle.bor_records.specs.Settling.{as_live, has_id}
use Rattle.bor_register.specs.declared.filing.AcceptedFiling.{AcceptedFiling}

-- the live statements of an agent's filings, drafts and published ones, each with its filing's due
-- day; a withdrawn filing has none
abbrev pub live_of : List AcceptedFiling → List Live
live_of [] = []
live_of (f ∷ fs) = map (as_live f.due) f.statements ++ live_of fs

-- the filing that is added to the agent's filings: live, with the next number
abbrev pub accepted : List AcceptedFiling → List ℕ → ℤ → List ℕ → List Statement → AcceptedFiling
accepted own key due bytes statements =
    record {
      number = length own
          + 1;
      key = key;
      due = due;
      withdrawn = false;
      bytes = bytes;
      statements = statements;
    }

-- Statements that an agent may add to its live ones: each has a status, no identifier comes
-- twice, and none is a live statement's.
pub record AreNew (live : List Live) (statements : List Statement) : Type 0 where
  pub settled : All (λ s. IsSome s.status) statements
  pub distinct : IsDistinct is_same (map (λ s. s.id) statements)
  pub free : All (λ s. has_id s.id live ≡ false) statements
