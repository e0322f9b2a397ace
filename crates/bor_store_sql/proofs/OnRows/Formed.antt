-- The rows of a stored register have their forms.
use Rattle.std.proofs.Common.{◌≡◌, ℕ, ◌+◌, ◌<◌, ◌≤◌, ◌^◌, List, [], ◌∷◌, map, length, true, arith, All, flat_map, rules}
use Rattle.std.proofs.lemmas.List.Elements.{All-from_recursion, All-nil, All-cons, All-head, All-tail, All-append, All-map, All-weaker}
use Rattle.bor_terms.specs.Texts.{is_agent_name}
use Rattle.bods_read.specs.Forms.{IsFormedStatement, IsFormedDetails, IsFormedInterest, IsFormedIdentifier}
use Rattle.bods_read.specs.declared.statement.Statement.{Statement}
use Rattle.bods_read.specs.declared.details.Details.{Details}
use Rattle.bods_read.specs.declared.details.Identifier.{Identifier}
use Rattle.bods_read.specs.declared.interest.Interest.{Interest}
use Rattle.bor_register.specs.Register.{Register}
use Rattle.bor_register.specs.Forms.{IsFormed, IsFormedMember, IsFormedFiling}
use Rattle.bor_register.specs.declared.filing.AcceptedFiling.{AcceptedFiling}
use Rattle.bor_register.specs.declared.member.Member.{Member}
use Rattle.bor_store_sql.specs.declared.rows.places.At.{At}
use Rattle.bor_store_sql.specs.declared.rows.typed.Placed.{Placed}
use Rattle.bor_store_sql.specs.Rows.Placed.{register_row, agent_row, filing_row, filing_lines, bare, interest_line, period_of, period_rows, interests_listed, identifiers_listed, interest_rows, identifier_rows, interests_from, identifiers_from, placed_from, placed_by, placed}
use Rattle.bor_store_sql.specs.Rows.RowForms.{IsFormedRegisterRow, IsFormedAgentRow, IsFormedFilingRow, IsFormedAt, IsFormedStatementRow, IsFormedInterestLine, IsFormedPeriodRow, IsFormedInterestRow, IsFormedIdentifierRow, IsFormedPlaced}
use Rattle.bor_store_sql.specs.declared.rows.typed.InterestRow.{InterestRow}
use Rattle.bor_store_sql.specs.Rows.Stored.{IsCounted, AreCounted, IsStored}
use Rattle.bor_store_sql.proofs.OnRows.Each.{all_said}

pub register_formed : (r : Register) → IsFormed r → IsFormedRegisterRow (register_row r)
register_formed r h = record { day = h.day; registrar = h.registrar }

pub agents_formed : (ms : List Member) → All IsFormedMember ms → All IsFormedAgentRow (map agent_row ms)
agents_formed ms h = All-map IsFormedAgentRow agent_row ms (All-weaker IsFormedMember (λ m. IsFormedAgentRow (agent_row m)) (λ m is. record { name = is.name; token = is.token }) ms h)

pub filing_formed : (agent : List ℕ) → is_agent_name agent ≡ true → (f : AcceptedFiling) → IsFormedFiling f → IsFormedFilingRow (filing_row agent f)
filing_formed agent is f h = record { agent = is; number = h.number; key = h.key; due = h.due }

pub filings_formed : (agent : List ℕ) → is_agent_name agent ≡ true → (fs : List AcceptedFiling) → All IsFormedFiling fs → All IsFormedFilingRow (map (filing_row agent) fs)
filings_formed agent is fs h = All-map IsFormedFilingRow (filing_row agent) fs (All-weaker IsFormedFiling (λ f. IsFormedFilingRow (filing_row agent f)) (filing_formed agent is) fs h)

pub lines_formed : (ms : List Member) → All IsFormedMember ms → All IsFormedFilingRow (filing_lines ms)
lines_formed [] h = All-nil IsFormedFilingRow
lines_formed (m ∷ ms) h =
    let here = All-head IsFormedMember m ms h in
    All-append IsFormedFilingRow (map (filing_row m.name) m.filings) (filing_lines ms) (filings_formed m.name here.name m.filings here.filings) (lines_formed ms (All-tail IsFormedMember m ms h))

-- ---- statements

module _ (agent : List ℕ) (is : is_agent_name agent ≡ true) (filing : ℕ) (low : filing < 2 ^ 32) where
  placed_from_formed : (place : ℕ) (ss : List Statement) → place + length ss ≤ 2 ^ 32 → All IsFormedStatement ss → All IsCounted ss → All IsFormedPlaced (placed_from agent filing place ss)
  placed_from_formed place [] room h few = All-nil IsFormedPlaced
  placed_from_formed place (s ∷ ss) room h few =
      All-cons IsFormedPlaced (record { at = record { agent = agent; filing = filing; place = place }; statement = s }) (placed_from agent filing (place + 1) ss)
      (record {
        at = record { agent = is; filing = low; place = omega (arith, room) };
        statement = All-head IsFormedStatement s ss h;
        counted = All-head IsCounted s ss few;
      })
      (placed_from_formed (place + 1) ss (omega (arith, room)) (All-tail IsFormedStatement s ss h) (All-tail IsCounted s ss few))

abbrev AllCounted : List AcceptedFiling → Type 0
AllCounted fs = All (λ (f : AcceptedFiling). AreCounted f.statements) fs

placed_by_formed : (agent : List ℕ) → is_agent_name agent ≡ true → (fs : List AcceptedFiling) → All IsFormedFiling fs → AllCounted fs → All IsFormedPlaced (placed_by agent fs)
placed_by_formed agent is [] h few = All-nil IsFormedPlaced
placed_by_formed agent is (f ∷ fs) h few =
    let here = All-head IsFormedFiling f fs h in
    let own = All-head (λ (g : AcceptedFiling). AreCounted g.statements) f fs few in
    let room = own.few in
    All-append IsFormedPlaced (placed_from agent f.number 1 f.statements) (placed_by agent fs)
    (placed_from_formed agent is f.number here.number 1 f.statements (omega (arith, room)) here.statements own.each)
    (placed_by_formed agent is fs (All-tail IsFormedFiling f fs h) (All-tail (λ (g : AcceptedFiling). AreCounted g.statements) f fs few))

placed_all_formed : (ms : List Member) → All IsFormedMember ms → All (λ (m : Member). AllCounted m.filings) ms → All IsFormedPlaced (placed ms)
placed_all_formed [] h few = All-nil IsFormedPlaced
placed_all_formed (m ∷ ms) h few =
    let here = All-head IsFormedMember m ms h in
    All-append IsFormedPlaced (placed_by m.name m.filings) (placed ms)
    (placed_by_formed m.name here.name m.filings here.filings (All-head (λ (n : Member). AllCounted n.filings) m ms few))
    (placed_all_formed ms (All-tail IsFormedMember m ms h) (All-tail (λ (n : Member). AllCounted n.filings) m ms few))

pub placed_formed : (r : Register) → IsStored r → All IsFormedPlaced (placed r.members)
placed_formed r h = placed_all_formed r.members h.formed.members h.counted

-- ---- the rows of a statement

interests_formed : (d : Details) → IsFormedDetails d → All IsFormedInterest (interests_listed d)
interests_formed d h = search rules

identifiers_formed : (d : Details) → IsFormedDetails d → All IsFormedIdentifier (identifiers_listed d)
identifiers_formed d h = search rules

pub bare_formed : (p : Placed) → IsFormedPlaced p → IsFormedStatementRow (bare p)
bare_formed p h = search rules

interests_from_formed : (at : At) → IsFormedAt at → (item : ℕ) (is : List Interest) → item + length is ≤ 2 ^ 32 → All IsFormedInterest is → All IsFormedInterestRow (interests_from at item is)
interests_from_formed at here item [] room h = All-nil IsFormedInterestRow
interests_from_formed at here item (i ∷ is) room h =
    All-cons IsFormedInterestRow (record { at = at; item = item; interest = i }) (interests_from at (item + 1) is)
    (record { at = here; item = omega (arith, room); interest = All-head IsFormedInterest i is h })
    (interests_from_formed at here (item + 1) is (omega (arith, room)) (All-tail IsFormedInterest i is h))

identifiers_from_formed : (at : At) → IsFormedAt at → (item : ℕ) (is : List Identifier) → item + length is ≤ 2 ^ 32 → All IsFormedIdentifier is → All IsFormedIdentifierRow (identifiers_from at item is)
identifiers_from_formed at here item [] room h = All-nil IsFormedIdentifierRow
identifiers_from_formed at here item (i ∷ is) room h =
    All-cons IsFormedIdentifierRow (record { at = at; item = item; identifier = i }) (identifiers_from at (item + 1) is)
    (record { at = here; item = omega (arith, room); identifier = All-head IsFormedIdentifier i is h })
    (identifiers_from_formed at here (item + 1) is (omega (arith, room)) (All-tail IsFormedIdentifier i is h))

pub interest_rows_formed : (p : Placed) → IsFormedPlaced p → All IsFormedInterestRow (interest_rows p)
interest_rows_formed p h =
    let few = h.counted.interests in
    interests_from_formed p.at h.at 1 (interests_listed p.statement.details) (omega (arith, few)) (interests_formed p.statement.details h.statement.details)

pub identifier_rows_formed : (p : Placed) → IsFormedPlaced p → All IsFormedIdentifierRow (identifier_rows p)
identifier_rows_formed p h =
    let few = h.counted.identifiers in
    identifiers_from_formed p.at h.at 1 (identifiers_listed p.statement.details) (omega (arith, few)) (identifiers_formed p.statement.details h.statement.details)

-- ---- the rows of many

pub all_bare_formed : (ps : List Placed) → All IsFormedPlaced ps → All IsFormedStatementRow (map bare ps)
all_bare_formed ps h = All-map IsFormedStatementRow bare ps (All-weaker IsFormedPlaced (λ p. IsFormedStatementRow (bare p)) bare_formed ps h)

-- what holds of each element of each list
all_listed : {X Y : Type 0} (P : X → Type 0) (Q : Y → Type 0) (rows : X → List Y) → ((x : X) → P x → All Q (rows x)) → (xs : List X) → All P xs → All Q (flat_map rows xs)
all_listed P Q rows so [] h = All-nil Q
all_listed P Q rows so (x ∷ xs) h = All-append Q (rows x) (flat_map rows xs) (so x (All-head P x xs h)) (all_listed P Q rows so xs (All-tail P x xs h))

pub all_interests_formed : (ps : List Placed) → All IsFormedPlaced ps → All IsFormedInterestRow (flat_map interest_rows ps)
all_interests_formed ps h = all_listed IsFormedPlaced IsFormedInterestRow interest_rows interest_rows_formed ps h

pub all_identifiers_formed : (ps : List Placed) → All IsFormedPlaced ps → All IsFormedIdentifierRow (flat_map identifier_rows ps)
all_identifiers_formed ps h = all_listed IsFormedPlaced IsFormedIdentifierRow identifier_rows identifier_rows_formed ps h

-- ---- interests and their days

pub line_formed : (i : InterestRow) → IsFormedInterestRow i → IsFormedInterestLine (interest_line i)
line_formed i h = record { at = h.at; item = h.item; share = h.interest.share }

period_formed : (i : InterestRow) → IsFormedInterestRow i → IsFormedPeriodRow (period_of i)
period_formed i h = record { at = h.at; item = h.item; starts = h.interest.starts; ends = h.interest.ends }

periods_formed : (i : InterestRow) → IsFormedInterestRow i → All IsFormedPeriodRow (period_rows i)
periods_formed i h = All-from_recursion IsFormedPeriodRow (period_rows i) (all_said IsFormedPeriodRow (period_of i) (period_formed i h) i.interest.starts i.interest.ends)

pub all_lines_formed : (is : List InterestRow) → All IsFormedInterestRow is → All IsFormedInterestLine (map interest_line is)
all_lines_formed is h = All-map IsFormedInterestLine interest_line is (All-weaker IsFormedInterestRow (λ i. IsFormedInterestLine (interest_line i)) line_formed is h)

pub all_periods_formed : (is : List InterestRow) → All IsFormedInterestRow is → All IsFormedPeriodRow (flat_map period_rows is)
all_periods_formed is h = all_listed IsFormedInterestRow IsFormedPeriodRow period_rows periods_formed is h
