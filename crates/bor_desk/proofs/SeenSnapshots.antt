-- The snapshot of an agent's declaration is the same from the rows that the keep tells of it and from all that the viewer sees.
use Rattle.std.proofs.Common.{◌≡◌, ℕ, ℤ, ◌+◌, arith, Bool, true, false, List, [], ◌∷◌, ◌++◌, map, Option, None, option_map, option_and_then, refl, sym, ap, ◌∙◌, cond}
use Rattle.std.specs.Prelude.{unwrap_or}
use Rattle.std.specs.List.{filter, filter_map, last_or, cons_option}
use Rattle.std.proofs.lemmas.Bool.{and_parts}
use Rattle.std.proofs.lemmas.List.{append-nil}
use Rattle.std.proofs.lemmas.List.Elements.{filter-append}
use Rattle.bor_terms.specs.Texts.{is_same}
use Rattle.bor_terms.proofs.Texts.{same_is, same_sym, below_differs}
use Rattle.bods_read.specs.declared.statement.Statement.{Statement}
use Rattle.bor_records.specs.declared.row.Row.{Row}
use Rattle.bor_records.specs.declared.row.Entry.{Entry}
use Rattle.bor_records.specs.Admission.{is_of}
use Rattle.bor_records.specs.Snapshot.{is_dated, latest, record_rows, unless_closed, open_row, entry_of, records, snapshot}
use Rattle.bor_records.specs.Links.ByKey.{rows_by}
use Rattle.bor_register.specs.declared.filing.AcceptedFiling.{AcceptedFiling}
use Rattle.bor_register.specs.declared.member.Member.{Member}
use Rattle.bor_register.specs.Register.{Register, filings_of, AllAbove, IsOrdered}
use Rattle.bor_register.specs.Rows.{is_visible, rows_from, rows_in, of_declaration, visible_in, rows_of, visible}
use Rattle.bor_register.proofs.OnMemory.Lists.{filter-map, last_map}
use Rattle.bor_desk.specs.Operations.Sight.{unnumbered, seen_by}
use Rattle.bor_desk.specs.declared.reply.DeskReply.TheVariants as tell

-- ---- lists

-- of those that pass a wider test the same pass
pub filter-wider : {X : Type 0} (p q : X → Bool) → ((x : X) → p x ≡ true → q x ≡ true) → (xs : List X) → filter p (filter q xs) ≡ filter p xs
filter-wider p q wide [] = refl
filter-wider p q wide (x ∷ xs) = grind (arith, wide x, filter-wider p q wide xs)

same_given : (f g : List ℕ → Option Row) → ((k : List ℕ) → f k ≡ g k) → (ks : List (List ℕ)) → filter_map f ks ≡ filter_map g ks
same_given f g same [] = refl
same_given f g same (k ∷ ks) = ap (λ o. cons_option o (filter_map f ks)) (same k) ∙ ap (cons_option (g k)) (same_given f g same ks)

-- ---- the rows of one agent

abbrev by : List ℕ → Row → Bool
by agent row = is_same row.agent agent

-- these rows, or none
abbrev where_is : Bool → List Row → List Row
where_is b rows = cond b rows []

by-rows_from : (agent name : List ℕ) (number place : ℕ) (ss : List Statement) (b : Bool) → is_same name agent ≡ b → rows_by agent (rows_from name number place ss) ≡ where_is b (rows_from name number place ss)
by-rows_from agent name number place [] b e = grind arith
by-rows_from agent name number place (s ∷ ss) b e = grind (arith, by-rows_from agent name number (place + 1) ss b e)

by-rows_in : (agent name : List ℕ) (fs : List AcceptedFiling) (b : Bool) → is_same name agent ≡ b → rows_by agent (rows_in name fs) ≡ where_is b (rows_in name fs)
by-rows_in agent name [] b e = grind arith
by-rows_in agent name (f ∷ fs) b e =
    let apart = filter-append (by agent) (rows_from name f.number 1 f.statements) (rows_in name fs) in
    grind (arith, apart, by-rows_from agent name f.number 1 f.statements b e, by-rows_in agent name fs b e)

-- none of the agents above has rows of this one
by-above : (viewer : List ℕ) (day : ℤ) (agent : List ℕ) (ms : List Member) → AllAbove agent ms → rows_by agent (visible viewer day ms) ≡ []
by-above viewer day agent [] h = refl
by-above viewer day agent (m ∷ ms) h =
    filter-append (by agent) (visible_in viewer day m.name m.filings) (visible viewer day ms)
    ∙ ap (λ rows. rows ++ rows_by agent (visible viewer day ms)) (by-rows_in agent m.name (filter (is_visible viewer day m.name) m.filings) false (same_sym m.name agent ∙ below_differs agent m.name h.0))
    ∙ by-above viewer day agent ms h.1

-- of the rows of all agents those of one
by-visible : (viewer : List ℕ) (day : ℤ) (agent : List ℕ) (ms : List Member) → IsOrdered ms → rows_by agent (visible viewer day ms) ≡ visible_in viewer day agent (filings_of agent ms)
by-visible viewer day agent [] h = refl
by-visible viewer day agent (m ∷ ms) h =
    let apart = filter-append (by agent) (visible_in viewer day m.name m.filings) (visible viewer day ms) in
    let here = by-rows_in agent m.name (filter (is_visible viewer day m.name) m.filings) (is_same m.name agent) refl in
    grind (arith, apart, here, same_is m.name agent, by-above viewer day m.name ms h.0, append-nil (visible_in viewer day m.name m.filings), by-visible viewer day agent ms h.1)

-- ---- the rows of one declaration

series-of : (declaration rec : List ℕ) (rows : List Row) → record_rows declaration rec (of_declaration declaration rows) ≡ record_rows declaration rec rows
series-of declaration rec rows =
    filter-wider (λ r. is_of declaration rec r.statement) (λ row. is_same row.statement.declaration declaration)
    (λ r h. (and_parts (is_same r.statement.declaration declaration) (is_same r.statement.rec rec) h).0) rows

records-of : (declaration : List ℕ) (rows : List Row) → records declaration (of_declaration declaration rows) ≡ records declaration rows
records-of declaration [] = refl
records-of declaration (r ∷ rows) = grind (arith, records-of declaration rows)

-- a snapshot looks at the rows of its declaration alone
snapshot-of : (declaration : List ℕ) (day : ℤ) (rows : List Row) → snapshot declaration day (of_declaration declaration rows) ≡ snapshot declaration day rows
snapshot-of declaration day rows =
    ap (map entry_of)
    (same_given (open_row declaration day (of_declaration declaration rows)) (open_row declaration day rows)
    (λ rec. ap (λ rs. option_and_then unless_closed (latest day rs)) (series-of declaration rec rows)) (records declaration (of_declaration declaration rows))
    ∙ ap (filter_map (open_row declaration day rows)) (records-of declaration rows))

-- ---- numbers of filings

unless_closed-unnumbered : (o : Option Row) → option_and_then unless_closed (option_map unnumbered o) ≡ option_map unnumbered (option_and_then unless_closed o)
unless_closed-unnumbered o = grind arith

open-unnumbered : (declaration : List ℕ) (day : ℤ) (rows : List Row) (rec : List ℕ) → open_row declaration day (map unnumbered rows) rec ≡ option_map unnumbered (open_row declaration day rows rec)
open-unnumbered declaration day rows rec =
    ap (λ rs. option_and_then unless_closed (latest day rs)) (filter-map (λ (r : Row). is_of declaration rec r.statement) unnumbered rows)
    ∙ ap (λ rs. option_and_then unless_closed (last_or None rs)) (filter-map (is_dated day) unnumbered (record_rows declaration rec rows))
    ∙ ap (option_and_then unless_closed) (last_map unnumbered None (filter (is_dated day) (record_rows declaration rec rows)))
    ∙ unless_closed-unnumbered (latest day (record_rows declaration rec rows))

records-unnumbered : (declaration : List ℕ) (rows : List Row) → records declaration (map unnumbered rows) ≡ records declaration rows
records-unnumbered declaration [] = refl
records-unnumbered declaration (r ∷ rows) = grind (arith, records-unnumbered declaration rows)

entries-unnumbered : (g : List ℕ → Option Row) (ks : List (List ℕ)) → map entry_of (filter_map (λ k. option_map unnumbered (g k)) ks) ≡ map entry_of (filter_map g ks)
entries-unnumbered g [] = refl
entries-unnumbered g (k ∷ ks) = grind (arith, entries-unnumbered g ks)

-- a snapshot shows no number of a filing
snapshot-unnumbered : (declaration : List ℕ) (day : ℤ) (rows : List Row) → snapshot declaration day (map unnumbered rows) ≡ snapshot declaration day rows
snapshot-unnumbered declaration day rows =
    ap (map entry_of)
    (same_given (open_row declaration day (map unnumbered rows)) (λ rec. option_map unnumbered (open_row declaration day rows rec)) (open-unnumbered declaration day rows) (records declaration (map unnumbered rows))
    ∙ ap (filter_map (λ rec. option_map unnumbered (open_row declaration day rows rec))) (records-unnumbered declaration rows))
    ∙ entries-unnumbered (open_row declaration day rows) (records declaration rows)

-- ---- what the viewer sees

pub snapshot-seen : (r : Register) (viewer agent declaration : List ℕ) (day : ℤ) → IsOrdered r.members →
    snapshot declaration day (rows_of viewer r.day agent declaration (filings_of agent r.members)) ≡ snapshot declaration day (rows_by agent (seen_by viewer r))
snapshot-seen r viewer agent declaration day ordered =
    snapshot-of declaration day (visible_in viewer r.day agent (filings_of agent r.members))
    ∙ ap (snapshot declaration day) (sym (by-visible viewer r.day agent r.members ordered))
    ∙ sym (snapshot-unnumbered declaration day (rows_by agent (visible viewer r.day r.members)))
    ∙ ap (snapshot declaration day) (sym (filter-map (by agent) unnumbered (visible viewer r.day r.members)))

-- what is told from the rows of the keep
pub snapshot-told : (r : Register) (viewer agent declaration : List ℕ) (date : Option ℤ) (day : ℤ) (rows : List Row) (made entries : List Entry) → IsOrdered r.members → day ≡ unwrap_or date r.day →
    rows ≡ rows_of viewer r.day agent declaration (filings_of agent r.members) → made ≡ snapshot declaration day rows → entries ≡ made →
    tell.Snapshot day entries ≡ tell.Snapshot (unwrap_or date r.day) (snapshot declaration (unwrap_or date r.day) (rows_by agent (seen_by viewer r)))
snapshot-told r viewer agent declaration date day rows made entries ordered on of is listed =
    ap (tell.Snapshot day) (listed ∙ is ∙ ap (snapshot declaration day) of ∙ snapshot-seen r viewer agent declaration day ordered)
    ∙ ap (λ d. tell.Snapshot d (snapshot declaration d (rows_by agent (seen_by viewer r)))) on
