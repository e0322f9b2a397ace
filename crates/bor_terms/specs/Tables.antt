-- Tables of refusals: of the lines that hold, the first is the answer.
use Rattle.std.specs.Prelude.{List, [], ◌∷◌, ◌++◌, Result, Ok, Err}

-- the first of the refusals, or the value where there is none
abbrev pub outcome : {F X : Type 0} → List F → X → Result X F
outcome [] x = Ok x
outcome (refusal ∷ more) x = Err refusal

-- the refusals of a table, one line after the other, each looked at whatever the others say
abbrev pub table : {F : Type 0} → List (List F) → List F
table [] = []
table (lines ∷ more) = lines ++ table more
