-- A file's statements one by one: the laws that a loop over them needs.
use Rattle.std.proofs.Common.{◌≡◌, ℕ, ℤ, Bool, List, ◌++◌, Option, None, option_map, Result, Ok, Err, ap, ◌∙◌, if◌then◌else◌, arith}
use Rattle.std.specs.List.{filter, last_or}
use Rattle.std.specs.Prelude.{◌||◌}
use Rattle.std.specs.Option.{option_or}
use Rattle.std.proofs.lemmas.List.Elements.{filter-append}
use Rattle.std.proofs.lemmas.List.Folds.{list_any-append}
use Rattle.bods_read.specs.declared.statement.Statement.{Statement}
use Rattle.bods_read.specs.declared.statement.Status.{Status}
use Rattle.bor_records.specs.declared.fault.RecordFault.{RecordFault}
use Rattle.bor_records.specs.Admission.{Live, is_of, known_of, last_of, admitted}
use Rattle.bor_records.specs.Settling.{Refusal, statement_twice, by_record, has_id, verdict}
use Rattle.bor_records.proofs.Lists.{last_or-append}

-- ---- one live statement more

-- the last of a record is among the later statements, if one of them is of the record
pub last_of-append : (declaration rec : List ℕ) (earlier later : List Live) → last_of declaration rec (earlier ++ later) ≡ option_or (last_of declaration rec later) (last_of declaration rec earlier)
last_of-append declaration rec earlier later =
    ap (λ ls. option_map known_of (last_or None ls)) (filter-append of earlier later)
    ∙ ap (option_map known_of) (last_or-append None (filter of earlier) (filter of later))
    ∙ mapped (last_or None (filter of later)) (last_or None (filter of earlier))
  where
    of : Live → Bool
    of l = is_of declaration rec l.statement

    mapped : (o p : Option Live) → option_map known_of (option_or o p) ≡ option_or (option_map known_of o) (option_map known_of p)
    mapped o p = grind arith

pub has_id-append : (id : List ℕ) (earlier later : List Live) → has_id id (earlier ++ later) ≡ (has_id id earlier || has_id id later)
has_id-append id earlier later = list_any-append _ earlier later

-- ---- the verdict on one statement

-- the verdict of the record rules
abbrev pub of_rules : Result Status RecordFault → Result Status Refusal
of_rules (Ok status) = Ok status
of_rules (Err fault) = Err (by_record fault)

pub verdict_is : (live : List Live) (s : Statement) (due : ℤ) → verdict live s due ≡ if has_id s.id live then Err statement_twice else of_rules (admitted live s due)
verdict_is live s due = grind arith
