-- Filings, members and the registrar's lines of agents from rows, one after the other.
use Rattle.std.proofs.Common.{◌≡◌, ℕ, ◌+◌, ◌<◌, ◌==◌, true, false, List, [], ◌∷◌, ◌++◌, map, append-nil, append_assoc, refl, sym, ap, ◌∙◌, arith, ℤ, filter, length, rules}
use Rattle.std.specs.List.{AllByRecursion}
use Rattle.sqlite_keyed.proofs.ListLemmas.{all-append, all-map}
use Rattle.bor_terms.specs.Texts.{is_same, is_below}
use Rattle.bor_terms.proofs.Texts.{same_refl, same_sym, below_differs}
use Rattle.bods_read.specs.declared.statement.Statement.{Statement}
use Rattle.bor_register.specs.Register.{AllAbove, IsOrdered}
use Rattle.bor_register.specs.declared.filing.AcceptedFiling.{AcceptedFiling}
use Rattle.bor_register.specs.declared.member.Member.{Member}
use Rattle.bor_store_sql.specs.declared.rows.typed.AgentRow.{AgentRow}
use Rattle.bor_store_sql.specs.declared.rows.typed.FilingRow.{FilingRow}
use Rattle.bor_store_sql.specs.declared.rows.typed.Placed.{Placed}
use Rattle.bor_store_sql.specs.Rows.Placed.{agent_row, filing_row, filing_lines, placed_from, placed_by, placed}
use Rattle.bor_register.specs.Bare.{without_file, member_without_files, without_files}
use Rattle.bor_store_sql.specs.Rows.Stored.{AreNumbered, AllNumbered}
use Rattle.bor_store_sql.proofs.OnRows.Numbers.{same_number, other_number}
use Rattle.bor_store_sql.proofs.OnRows.Each.{each_above, each_by, each_from, each_own}
use Rattle.bor_store_sql.proofs.OnRows.Lists.{Splits, no_values}
use Rattle.bor_register.specs.Publication.{agent_line, published_count}
use Rattle.bor_register.specs.declared.agents.AgentLine.{AgentLine}
use Rattle.bor_store_sql.specs.Rows.Seen.{is_line_published}

-- ---- the statements of a filing

pub statements_at : (agent : List ℕ) (number place : ℕ) (ss : List Statement) → AllByRecursion (λ (p : Placed). (p.at.filing == number) ≡ true) (placed_from agent number place ss)
statements_at agent number place ss = each_from (λ p. (p.at.filing == number) ≡ true) agent number place ss (λ k s low. same_number number)

pub later_statements : (agent : List ℕ) (number n : ℕ) (fs : List AcceptedFiling) → number < n → AreNumbered n fs → AllByRecursion (λ (p : Placed). (p.at.filing == number) ≡ false) (placed_by agent fs)
later_statements agent number n fs low numbered = each_by (λ p. (p.at.filing == number) ≡ false) agent n fs numbered (λ filing place s later. other_number number filing (omega (arith, later)))

pub statements_back : (agent : List ℕ) (number place : ℕ) (ss : List Statement) → map (λ (p : Placed). p.statement) (placed_from agent number place ss) ≡ ss
statements_back agent number place [] = refl
statements_back agent number place (s ∷ ss) = ap (λ l. s ∷ l) (statements_back agent number (place + 1) ss)

-- a filing of its row and its statements
abbrev pub filing_with : FilingRow → List Placed → AcceptedFiling
filing_with row own = record {
  number = row.number;
  key = row.key;
  due = row.due;
  withdrawn = row.withdrawn;
  bytes = [];
  statements = map (λ (p : Placed). p.statement) own;
}

-- some filings are made of all, and the rows are those of the others
pub record FilingsLeft (agent : List ℕ) (all out : List AcceptedFiling) (rows : List FilingRow) (statements : List Placed) : Type 0 where
  pub left : List AcceptedFiling
  pub from : ℕ
  pub numbered : AreNumbered from left
  pub whole : out ++ map without_file left ≡ map without_file all
  pub rows_are : rows ≡ map (filing_row agent) left
  pub statements_are : statements ≡ placed_by agent left

pub one_filing : (agent : List ℕ) (all out : List AcceptedFiling) (row : FilingRow) (rows : List FilingRow) (statements own rest : List Placed) (made : AcceptedFiling)
    → FilingsLeft agent all out (row ∷ rows) statements → Splits (λ (p : Placed). p.at.filing == row.number) statements own rest → made ≡ filing_with row own
    → FilingsLeft agent all (out ++ made ∷ []) rows rest
one_filing agent all out row rows statements own rest made l split made_is = go l.left l.from l.numbered l.whole l.rows_are l.statements_are
  where
    go : (left : List AcceptedFiling) (n : ℕ) → AreNumbered n left → out ++ map without_file left ≡ map without_file all → row ∷ rows ≡ map (filing_row agent) left → statements ≡ placed_by agent left
        → FilingsLeft agent all (out ++ made ∷ []) rows rest
    go [] n numbered whole e s = absurd cc
    go (f ∷ left) n numbered whole e s =
        let same : row ≡ filing_row agent f = cc in
        let more : rows ≡ map (filing_row agent) left = cc in
        let number : row.number ≡ f.number = ap (λ (r : FilingRow). r.number) same in
        let one = (rw number at split) (placed_from agent f.number 1 f.statements) (placed_by agent left) s (statements_at agent f.number 1 f.statements)
        (later_statements agent f.number (n + 1) left (let is = numbered.0 in omega (arith, is)) numbered.1) in
        let it : made ≡ without_file f = made_is ∙ rw (same, one.0, statements_back agent f.number 1 f.statements) refl in
        record {
          left = left;
          from = n + 1;
          numbered = numbered.1;
          whole = append_assoc out (made ∷ []) (map without_file left) ∙ ap (λ x. out ++ x ∷ map without_file left) it ∙ whole;
          rows_are = more;
          statements_are = one.1;
        }

pub all_filings : (agent : List ℕ) (all out : List AcceptedFiling) (statements : List Placed) → FilingsLeft agent all out [] statements → out ≡ map without_file all
all_filings agent all out statements l = sym (append-nil out) ∙ ap (λ fs. out ++ map without_file fs) (sym (no_values (filing_row agent) l.left (sym l.rows_are))) ∙ l.whole

-- ---- the rows of an agent

pub filings_at : (agent : List ℕ) (fs : List AcceptedFiling) → AllByRecursion (λ (row : FilingRow). is_same row.agent agent ≡ true) (map (filing_row agent) fs)
filings_at agent fs = all-map (λ (row : FilingRow). is_same row.agent agent ≡ true) (filing_row agent) (λ f. same_refl agent) fs

pub agent_by : (agent : List ℕ) (fs : List AcceptedFiling) → AllByRecursion (λ (p : Placed). is_same p.at.agent agent ≡ true) (placed_by agent fs)
agent_by agent fs = each_own (λ p. is_same p.at.agent agent ≡ true) agent fs (λ filing place s. same_refl agent)

pub differs : (agent other : List ℕ) → is_below agent other ≡ true → is_same other agent ≡ false
differs agent other h = same_sym other agent ∙ below_differs agent other h

pub above_filings : (agent : List ℕ) (ms : List Member) → AllAbove agent ms → AllByRecursion (λ (row : FilingRow). is_same row.agent agent ≡ false) (filing_lines ms)
above_filings agent [] h = tt
above_filings agent (m ∷ ms) h = search (rules, all-append, all-map, differs, above_filings agent ms)

pub above_statements : (agent : List ℕ) (ms : List Member) → AllAbove agent ms → AllByRecursion (λ (p : Placed). is_same p.at.agent agent ≡ false) (placed ms)
above_statements agent ms h = each_above (λ p. is_same p.at.agent agent ≡ false) agent ms h (λ other filing place s below. differs agent other below)

-- some members are made of all, and the rows are those of the others
pub record MembersLeft (all out : List Member) (rows : List AgentRow) (filings : List FilingRow) (statements : List Placed) : Type 0 where
  pub left : List Member
  pub ordered : IsOrdered left
  pub numbered : AllNumbered left
  pub whole : out ++ without_files left ≡ without_files all
  pub rows_are : rows ≡ map agent_row left
  pub filings_are : filings ≡ filing_lines left
  pub statements_are : statements ≡ placed left

pub one_member : (all out : List Member) (row : AgentRow) (rows : List AgentRow) (filings own_filings more_filings : List FilingRow) (statements own_statements more_statements : List Placed) (made : Member)
    → MembersLeft all out (row ∷ rows) filings statements → Splits (λ (r : FilingRow). is_same r.agent row.name) filings own_filings more_filings
    → Splits (λ (p : Placed). is_same p.at.agent row.name) statements own_statements more_statements
    → ((m : Member) → AreNumbered 1 m.filings → row ≡ agent_row m → own_filings ≡ map (filing_row m.name) m.filings → own_statements ≡ placed_by m.name m.filings → made ≡ member_without_files m)
    → MembersLeft all (out ++ made ∷ []) rows more_filings more_statements
one_member all out row rows filings own_filings more_filings statements own_statements more_statements made l split_f split_s made_is =
    go l.left l.ordered l.numbered l.whole l.rows_are l.filings_are l.statements_are
  where
    go : (left : List Member) → IsOrdered left → AllNumbered left → out ++ without_files left ≡ without_files all → row ∷ rows ≡ map agent_row left → filings ≡ filing_lines left → statements ≡ placed left
        → MembersLeft all (out ++ made ∷ []) rows more_filings more_statements
    go [] ordered numbered whole e f s = absurd cc
    go (m ∷ left) ordered numbered whole e f s =
        let same : row ≡ agent_row m = cc in
        let more : rows ≡ map agent_row left = cc in
        let name : row.name ≡ m.name = ap (λ (r : AgentRow). r.name) same in
        let one = (rw name at split_f) (map (filing_row m.name) m.filings) (filing_lines left) f (filings_at m.name m.filings) (above_filings m.name left ordered.0) in
        let two = (rw name at split_s) (placed_by m.name m.filings) (placed left) s (agent_by m.name m.filings) (above_statements m.name left ordered.0) in
        let it : made ≡ member_without_files m = made_is m numbered.0 same one.0 two.0 in
        record {
          left = left;
          ordered = ordered.1;
          numbered = numbered.1;
          whole = append_assoc out (made ∷ []) (without_files left) ∙ ap (λ x. out ++ x ∷ without_files left) it ∙ whole;
          rows_are = more;
          filings_are = one.1;
          statements_are = two.1;
        }

pub all_members : (all out : List Member) (filings : List FilingRow) (statements : List Placed) → MembersLeft all out [] filings statements → out ≡ without_files all
all_members all out filings statements l = sym (append-nil out) ∙ ap (λ ms. out ++ without_files ms) (sym (no_values agent_row l.left (sym l.rows_are))) ∙ l.whole

-- ---- the registrar's lines of agents

-- as many rows are published as filings
count_is : (day : ℤ) (agent : List ℕ) (fs : List AcceptedFiling) → length (filter (is_line_published day) (map (filing_row agent) fs)) ≡ published_count day fs
count_is day agent [] = refl
count_is day agent (f ∷ fs) = search (rules, count_is day agent fs)

-- the lines of some members are made, and the rows are those of the others
pub record LinesLeft (day : ℤ) (all : List Member) (out : List AgentLine) (rows : List AgentRow) (filings : List FilingRow) : Type 0 where
  pub left : List Member
  pub ordered : IsOrdered left
  pub whole : out ++ map (agent_line day) left ≡ map (agent_line day) all
  pub rows_are : rows ≡ map agent_row left
  pub filings_are : filings ≡ filing_lines left

module _ (day : ℤ) (all : List Member) (out : List AgentLine) where
  pub one_line : (row : AgentRow) (rows : List AgentRow) (filings own more : List FilingRow) (count : ℕ) → LinesLeft day all out (row ∷ rows) filings → Splits (λ (r : FilingRow). is_same r.agent row.name) filings own more
      → count ≡ length (filter (is_line_published day) own) → LinesLeft day all (out ++ record { agent = row.name; published = count } ∷ []) rows more
  one_line row rows filings own more count l split is = go l.left l.ordered l.whole l.rows_are l.filings_are
    where
      go : (left : List Member) → IsOrdered left → out ++ map (agent_line day) left ≡ map (agent_line day) all → row ∷ rows ≡ map agent_row left → filings ≡ filing_lines left
          → LinesLeft day all (out ++ record { agent = row.name; published = count } ∷ []) rows more
      go [] ordered whole e f = absurd cc
      go (m ∷ left) ordered whole e f =
          let same : row ≡ agent_row m = cc in
          let rest : rows ≡ map agent_row left = cc in
          let name : row.name ≡ m.name = ap (λ (r : AgentRow). r.name) same in
          let one = (rw name at split) (map (filing_row m.name) m.filings) (filing_lines left) f (filings_at m.name m.filings) (above_filings m.name left ordered.0) in
          let made : AgentLine = record { agent = row.name; published = count } in
          let it : made ≡ agent_line day m = rw (name, is, one.0, count_is day m.name m.filings) refl in
          record {
            left = left;
            ordered = ordered.1;
            whole = append_assoc out (made ∷ []) (map (agent_line day) left) ∙ ap (λ x. out ++ x ∷ map (agent_line day) left) it ∙ whole;
            rows_are = rest;
            filings_are = one.1;
          }

  pub all_lines : (filings : List FilingRow) → LinesLeft day all out [] filings → out ≡ map (agent_line day) all
  all_lines filings l = sym (append-nil out) ∙ ap (λ ms. out ++ map (agent_line day) ms) (sym (no_values agent_row l.left (sym l.rows_are))) ∙ l.whole
