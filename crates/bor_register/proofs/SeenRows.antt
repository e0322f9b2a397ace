-- The rows of a filing's statements, one after the other, and what is seen of one agent after the other.
use Rattle.std.proofs.Common.{◌≡◌, ℕ, ℤ, ◌+◌, ◌<◌, List, [], ◌∷◌, ◌++◌, length, drop, get_or, Option, None, refl, ◌∙◌, sym, ap, append_assoc, true, false, Bool}
use Rattle.std.specs.Prelude.{if◌then◌else◌}
use Rattle.std.proofs.lemmas.List.{drop_more}
use Rattle.bods_read.specs.declared.statement.Statement.{Statement}
use Rattle.bor_records.specs.declared.row.Row.{Row}
use Rattle.bor_register.specs.declared.filing.Outward.{Outward}
use Rattle.bor_register.specs.declared.member.Member.{Member}
use Rattle.bor_register.specs.Publication.{outwards_of, published}
use Rattle.bor_register.specs.Rows.{is_asked, asked_rows, row_of, rows_from, visible_in, visible}

-- the rows that are asked for, from the i-th statement on
abbrev pub rows_left : Option (List ℕ) → List ℕ → ℕ → List Statement → ℕ → List Row
rows_left declaration name number ss i = asked_rows declaration (rows_from name number (i + 1) (drop i ss))

rows_left-more : (declaration : Option (List ℕ)) (name : List ℕ) (number i : ℕ) (ss : List Statement) (s : Statement) (b : Bool) → i < length ss → s ≡ get_or ss i s → is_asked declaration s ≡ b →
    rows_left declaration name number ss i ≡ (if b then row_of name number (i + 1) s ∷ rows_left declaration name number ss (i + 1) else rows_left declaration name number ss (i + 1))
rows_left-more declaration name number i ss s b lt is of =
    ap (λ ys. asked_rows declaration (rows_from name number (i + 1) ys)) (drop_more ss i s lt ∙ ap (λ x. x ∷ drop (i + 1) ss) (sym is)) ∙ rw of refl

pub row_added : (declaration : Option (List ℕ)) (name : List ℕ) (number i : ℕ) (ss : List Statement) (s : Statement) (front whole : List Row) → i < length ss → s ≡ get_or ss i s → is_asked declaration s ≡ true →
    front ++ rows_left declaration name number ss i ≡ whole → (front ++ row_of name number (i + 1) s ∷ []) ++ rows_left declaration name number ss (i + 1) ≡ whole
row_added declaration name number i ss s front whole lt is of h =
    append_assoc front (row_of name number (i + 1) s ∷ []) (rows_left declaration name number ss (i + 1))
    ∙ ap (λ ys. front ++ ys) (sym (rows_left-more declaration name number i ss s true lt is of)) ∙ h

pub row_passed : (declaration : Option (List ℕ)) (name : List ℕ) (number i : ℕ) (ss : List Statement) (s : Statement) (front whole : List Row) → i < length ss → s ≡ get_or ss i s → is_asked declaration s ≡ false →
    front ++ rows_left declaration name number ss i ≡ whole → front ++ rows_left declaration name number ss (i + 1) ≡ whole
row_passed declaration name number i ss s front whole lt is of h =
    ap (λ ys. front ++ ys) (sym (rows_left-more declaration name number i ss s false lt is of)) ∙ h

pub ruleset more_rows = (row_added, row_passed)

-- ---- one agent after the other

-- where no declaration is named, all are asked for
asked_rows-none : (rows : List Row) → asked_rows None rows ≡ rows
asked_rows-none [] = refl
asked_rows-none (row ∷ rows) = ap (λ rest. row ∷ rest) (asked_rows-none rows)

pub agent_added : (viewer : List ℕ) (day : ℤ) (ms : List Member) (i : ℕ) (m : Member) (front whole : List Row) → i < length ms → m ≡ get_or ms i m →
    front ++ visible viewer day (drop i ms) ≡ whole → (front ++ asked_rows None (visible_in viewer day m.name m.filings)) ++ visible viewer day (drop (i + 1) ms) ≡ whole
agent_added viewer day ms i m front whole lt is h =
    let more = drop_more ms i m lt ∙ ap (λ n. n ∷ drop (i + 1) ms) (sym is) in
    ap (λ rows. (front ++ rows) ++ visible viewer day (drop (i + 1) ms)) (asked_rows-none (visible_in viewer day m.name m.filings))
    ∙ append_assoc front (visible_in viewer day m.name m.filings) (visible viewer day (drop (i + 1) ms)) ∙ (rw more at h)

pub published_added : (day : ℤ) (ms : List Member) (i : ℕ) (m : Member) (front whole : List Outward) → i < length ms → m ≡ get_or ms i m →
    front ++ published day (drop i ms) ≡ whole → (front ++ outwards_of day m.name m.filings) ++ published day (drop (i + 1) ms) ≡ whole
published_added day ms i m front whole lt is h =
    let more = drop_more ms i m lt ∙ ap (λ n. n ∷ drop (i + 1) ms) (sym is) in
    append_assoc front (outwards_of day m.name m.filings) (published day (drop (i + 1) ms)) ∙ (rw more at h)
