-- Values are told by their rows: no two registers' members have the same rows.
use Rattle.std.proofs.Common.{◌≡◌, ◌+◌, ◌==◌, ℕ, ℤ, Bool, true, false, true≢false, Option, List, [], ◌∷◌, ◌++◌, map, refl, sym, ap, ap₂, subst, ◌∙◌, arith, rules}
use Rattle.std.specs.List.{AllByRecursion, flat_map}
use Rattle.sqlite_keyed.proofs.ListLemmas.{all-append, all-map}
use Rattle.bor_terms.specs.Texts.{is_same}
use Rattle.bor_terms.proofs.Texts.{same_refl}
use Rattle.bor_register.specs.Register.{AllAbove, IsOrdered}
use Rattle.bor_register.specs.declared.filing.AcceptedFiling.{AcceptedFiling}
use Rattle.bor_register.specs.declared.member.Member.{Member}
use Rattle.bor_store_sql.specs.declared.rows.typed.AgentRow.{AgentRow}
use Rattle.bor_store_sql.specs.declared.rows.typed.StatementRow.{StatementRow}
use Rattle.bor_store_sql.specs.declared.rows.typed.InterestRow.{InterestRow}
use Rattle.bor_store_sql.specs.declared.rows.typed.PeriodRow.{PeriodRow}
use Rattle.bor_store_sql.specs.declared.rows.typed.IdentifierRow.{IdentifierRow}
use Rattle.bor_store_sql.specs.declared.rows.typed.Placed.{Placed}
use Rattle.bor_store_sql.specs.Rows.Placed.{AreApart, AreSeveral, Misses, agent_row, bare, identifier_rows, identifiers_listed, if_said, interest_rows, interests_listed, interest_line, period_of, period_rows, placed, placed_by, placed_from, same_place, with_lists}
use Rattle.bor_store_sql.specs.Rows.Stored.{AllNumbered, AreNumbered}
use Rattle.bor_store_sql.proofs.OnRows.Decoded.{Filed, filed, without_statements}
use Rattle.bor_store_sql.proofs.OnRows.Joins.{back, identifiers_at, interests_at, no_identifiers_at, no_interests_at}
use Rattle.bor_store_sql.proofs.OnRows.Rebuilt.{above_statements, agent_by, differs, later_statements, statements_at, statements_back}
use Rattle.bor_store_sql.proofs.OnRows.Timings.{all_missed}

-- a list is split in one way into elements that pass a test and elements that fail it
split_once : {X : Type 0} (q : X → Bool) (mine more own rest : List X) → mine ++ more ≡ own ++ rest → AllByRecursion (λ x. q x ≡ true) mine → AllByRecursion (λ x. q x ≡ false) more
    → AllByRecursion (λ x. q x ≡ true) own → AllByRecursion (λ x. q x ≡ false) rest → (mine ≡ own) × (more ≡ rest)
split_once q [] more [] rest same all none all_too none_too = (refl, same)
split_once q [] more (y ∷ own) rest same all none all_too none_too = absurd (true≢false (sym all_too.0 ∙ (subst (AllByRecursion (λ x. q x ≡ false)) same none).0))
split_once q (x ∷ mine) more [] rest same all none all_too none_too = absurd (true≢false (sym all.0 ∙ (subst (AllByRecursion (λ x. q x ≡ false)) (sym same) none_too).0))
split_once q (x ∷ mine) more (y ∷ own) rest same all none all_too none_too = search (rules, split_once q mine more own rest)

-- ---- interests, from their rows in two tables

-- where lines are the same, so are days, and the rows of the other interests
same_days : (i j : InterestRow) (starts ends then till : Option ℤ) (more rest : List PeriodRow) → interest_line i ≡ interest_line j → Misses i more → Misses j rest
    → if_said (record (period_of i) { starts = starts; ends = ends }) starts ends ++ more ≡ if_said (record (period_of j) { starts = then; ends = till }) then till ++ rest → (starts ≡ then) × (ends ≡ till) × (more ≡ rest)
same_days i j starts ends then till more rest line b d same = search rules

pub same_timed : (is js : List InterestRow) → AreSeveral is → AreSeveral js → map interest_line is ≡ map interest_line js → flat_map period_rows is ≡ flat_map period_rows js → is ≡ js
same_timed [] [] a b lines periods = refl
same_timed [] (j ∷ js) a b lines periods = absurd cc
same_timed (i ∷ is) [] a b lines periods = absurd cc
same_timed (i ∷ is) (j ∷ js) a b lines periods = search (rules, same_days, all_missed, same_timed is js)

-- ---- statements, from their rows in four tables

pub same_joined : (ps qs : List Placed) → AreApart ps → AreApart qs → map bare ps ≡ map bare qs → flat_map interest_rows ps ≡ flat_map interest_rows qs → flat_map identifier_rows ps ≡ flat_map identifier_rows qs → ps ≡ qs
same_joined [] [] a b rows is ds = refl
same_joined [] (q ∷ qs) a b rows is ds = absurd cc
same_joined (p ∷ ps) [] a b rows is ds = absurd cc
same_joined (p ∷ ps) (q ∷ qs) a b rows is ds =
    let row : bare p ≡ bare q = cc in
    let others : map bare ps ≡ map bare qs = cc in
    let place : p.at ≡ q.at = ap (λ (r : StatementRow). r.at) row in
    let own = split_once (λ (x : InterestRow). same_place x.at p.at) (interest_rows p) (flat_map interest_rows ps) (interest_rows q) (flat_map interest_rows qs) is
    (interests_at p.at 1 (interests_listed p.statement.details)) (no_interests_at p.at ps a.0)
    (subst (λ at. AllByRecursion (λ (x : InterestRow). same_place x.at at ≡ true) (interest_rows q)) (sym place) (interests_at q.at 1 (interests_listed q.statement.details)))
    (subst (λ at. AllByRecursion (λ (x : InterestRow). same_place x.at at ≡ false) (flat_map interest_rows qs)) (sym place) (no_interests_at q.at qs b.0)) in
    let named = split_once (λ (x : IdentifierRow). same_place x.at p.at) (identifier_rows p) (flat_map identifier_rows ps) (identifier_rows q) (flat_map identifier_rows qs) ds
    (identifiers_at p.at 1 (identifiers_listed p.statement.details)) (no_identifiers_at p.at ps a.0)
    (subst (λ at. AllByRecursion (λ (x : IdentifierRow). same_place x.at at ≡ true) (identifier_rows q)) (sym place) (identifiers_at q.at 1 (identifiers_listed q.statement.details)))
    (subst (λ at. AllByRecursion (λ (x : IdentifierRow). same_place x.at at ≡ false) (flat_map identifier_rows qs)) (sym place) (no_identifiers_at q.at qs b.0)) in
    let one : p ≡ q = sym (back p) ∙ (λ k. with_lists (row k) (map (λ (x : InterestRow). x.interest) (own.0 k)) (map (λ (x : IdentifierRow). x.identifier) (named.0 k))) ∙ back q in
    ap₂ (λ x l. x ∷ l) one (same_joined ps qs a.1 b.1 others own.1 named.1)

-- ---- filings and members

same_filings : (agent : List ℕ) (n : ℕ) (fs gs : List AcceptedFiling) → AreNumbered n fs → AreNumbered n gs → map (filed agent) fs ≡ map (filed agent) gs → placed_by agent fs ≡ placed_by agent gs → fs ≡ gs
same_filings agent n [] [] a b rows ps = refl
same_filings agent n [] (g ∷ gs) a b rows ps = absurd cc
same_filings agent n (f ∷ fs) [] a b rows ps = absurd cc
same_filings agent n (f ∷ fs) (g ∷ gs) a b rows ps =
    let row : filed agent f ≡ filed agent g = cc in
    let others : map (filed agent) fs ≡ map (filed agent) gs = cc in
    let plain : without_statements f ≡ without_statements g = ap (λ (o : Filed). o.filing) row in
    let number : f.number ≡ g.number = ap (λ (x : AcceptedFiling). x.number) plain in
    let own = split_once (λ (p : Placed). p.at.filing == f.number) (placed_from agent f.number 1 f.statements) (placed_by agent fs) (placed_from agent g.number 1 g.statements) (placed_by agent gs) ps
    (statements_at agent f.number 1 f.statements) (later_statements agent f.number (n + 1) fs (let is = a.0 in omega (arith, is)) a.1)
    (subst (λ k. AllByRecursion (λ (p : Placed). (p.at.filing == k) ≡ true) (placed_from agent g.number 1 g.statements)) (sym number) (statements_at agent g.number 1 g.statements))
    (subst (λ k. AllByRecursion (λ (p : Placed). (p.at.filing == k) ≡ false) (placed_by agent gs)) (sym number) (later_statements agent g.number (n + 1) gs (let is = b.0 in omega (arith, is)) b.1)) in
    let said : f.statements ≡ g.statements = sym (statements_back agent f.number 1 f.statements) ∙ ap (map (λ (p : Placed). p.statement)) own.0 ∙ statements_back agent g.number 1 g.statements in
    let one : f ≡ g = (λ k. record (plain k) { statements = said k }) in
    ap₂ (λ x l. x ∷ l) one (same_filings agent (n + 1) fs gs a.1 b.1 others own.1)

-- all filings with their agents' names
abbrev pub all_filed : List Member → List Filed
all_filed [] = []
all_filed (m ∷ ms) = map (filed m.name) m.filings ++ all_filed ms

filed_at : (agent : List ℕ) (fs : List AcceptedFiling) → AllByRecursion (λ (o : Filed). is_same o.agent agent ≡ true) (map (filed agent) fs)
filed_at agent fs = all-map (λ (o : Filed). is_same o.agent agent ≡ true) (filed agent) (λ f. same_refl agent) fs

above_filed : (agent : List ℕ) (ms : List Member) → AllAbove agent ms → AllByRecursion (λ (o : Filed). is_same o.agent agent ≡ false) (all_filed ms)
above_filed agent [] h = tt
above_filed agent (m ∷ ms) h = search (rules, all-append, all-map, differs, above_filed agent ms)

pub same_members : (ms ns : List Member) → IsOrdered ms → IsOrdered ns → AllNumbered ms → AllNumbered ns → map agent_row ms ≡ map agent_row ns → all_filed ms ≡ all_filed ns → placed ms ≡ placed ns → ms ≡ ns
same_members [] [] up up_too a b rows fs ps = refl
same_members [] (n ∷ ns) up up_too a b rows fs ps = absurd cc
same_members (m ∷ ms) [] up up_too a b rows fs ps = absurd cc
same_members (m ∷ ms) (n ∷ ns) up up_too a b rows fs ps =
    let row : agent_row m ≡ agent_row n = cc in
    let others : map agent_row ms ≡ map agent_row ns = cc in
    let name : m.name ≡ n.name = ap (λ (r : AgentRow). r.name) row in
    let token : m.token ≡ n.token = ap (λ (r : AgentRow). r.token) row in
    let own = split_once (λ (o : Filed). is_same o.agent m.name) (map (filed m.name) m.filings) (all_filed ms) (map (filed n.name) n.filings) (all_filed ns) fs
    (filed_at m.name m.filings) (above_filed m.name ms up.0)
    (subst (λ a. AllByRecursion (λ (o : Filed). is_same o.agent a ≡ true) (map (filed n.name) n.filings)) (sym name) (filed_at n.name n.filings))
    (subst (λ a. AllByRecursion (λ (o : Filed). is_same o.agent a ≡ false) (all_filed ns)) (sym name) (above_filed n.name ns up_too.0)) in
    let stated = split_once (λ (p : Placed). is_same p.at.agent m.name) (placed_by m.name m.filings) (placed ms) (placed_by n.name n.filings) (placed ns) ps
    (agent_by m.name m.filings) (above_statements m.name ms up.0)
    (subst (λ a. AllByRecursion (λ (p : Placed). is_same p.at.agent a ≡ true) (placed_by n.name n.filings)) (sym name) (agent_by n.name n.filings))
    (subst (λ a. AllByRecursion (λ (p : Placed). is_same p.at.agent a ≡ false) (placed ns)) (sym name) (above_statements n.name ns up_too.0)) in
    let filings : m.filings ≡ n.filings = same_filings m.name 1 m.filings n.filings a.0 b.0 (own.0 ∙ ap (λ agent. map (filed agent) n.filings) (sym name)) (stated.0 ∙ ap (λ agent. placed_by agent n.filings) (sym name)) in
    let one : m ≡ n = (λ k. record { name = name k; token = token k; filings = filings k }) in
    ap₂ (λ x l. x ∷ l) one (same_members ms ns up.1 up_too.1 a.1 b.1 others own.1 stated.1)
