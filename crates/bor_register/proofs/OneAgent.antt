-- The rows of a series that a viewer sees are among those of its agent.
use Rattle.std.proofs.Common.{◌≡◌, ◌+◌, ℕ, ℤ, false, List, [], ◌∷◌, refl, ◌∙◌, subst, arith, true}
use Rattle.std.specs.Prelude.{filter}
use Rattle.std.proofs.lemmas.List.{append-nil}
use Rattle.std.proofs.lemmas.List.Elements.{filter-append}
use Rattle.bor_terms.specs.Texts.{is_same}
use Rattle.bor_terms.proofs.Texts.{same_is, same_sym, below_differs}
use Rattle.bods_read.specs.declared.statement.Statement.{Statement}
use Rattle.bor_register.specs.declared.filing.AcceptedFiling.{AcceptedFiling}
use Rattle.bor_register.specs.declared.member.Member.{Member}
use Rattle.bor_register.specs.Register.{AllAbove}
use Rattle.bor_register.specs.Rows.{is_visible, rows_from, rows_in, visible_in, visible}
use Rattle.bor_records.specs.declared.links.node.Node.{Node}
use Rattle.bor_records.specs.Links.Series.{series, is_of}
use Rattle.bor_register.specs.Seen.{SeriesIsOfOneAgent}

-- another agent's rows have none of the series
none_from : (n : Node) (name : List ℕ) (number place : ℕ) (ss : List Statement) → is_same name n.agent ≡ false → series n (rows_from name number place ss) ≡ []
none_from n name number place [] e = refl
none_from n name number place (s ∷ ss) e = grind (arith, e, none_from n name number (place + 1) ss e)

none_in : (n : Node) (name : List ℕ) (fs : List AcceptedFiling) → is_same name n.agent ≡ false → series n (rows_in name fs) ≡ []
none_in n name [] e = refl
none_in n name (f ∷ fs) e =
    grind (arith, filter-append (is_of n) (rows_from name f.number 1 f.statements) (rows_in name fs), none_from n name f.number 1 f.statements e, none_in n name fs e)

-- the names above an agent's are others'
none_above : (viewer : List ℕ) (day : ℤ) (n : Node) (ms : List Member) → AllAbove n.agent ms → series n (visible viewer day ms) ≡ []
none_above viewer day n [] h = refl
none_above viewer day n (m ∷ ms) h =
    let none = none_in n m.name (filter (is_visible viewer day m.name) m.filings) (same_sym m.name n.agent ∙ below_differs n.agent m.name h.0) in
    grind (arith, filter-append (is_of n) (visible_in viewer day m.name m.filings) (visible viewer day ms), none, none_above viewer day n ms h.1)

pub one_agent : SeriesIsOfOneAgent
one_agent viewer day n [] h = refl
one_agent viewer day n (m ∷ ms) h =
    let seen = visible_in viewer day m.name m.filings in
    let more = one_agent viewer day n ms h.1 in
    let alone = λ (e : is_same m.name n.agent ≡ true). none_above viewer day n ms (subst (λ (a : List ℕ). AllAbove a ms) (same_is m.name n.agent e) h.0) in
    let absent = none_in n m.name (filter (is_visible viewer day m.name) m.filings) in
    grind (arith, filter-append (is_of n) seen (visible viewer day ms), more, alone, absent, same_is m.name n.agent, append-nil (series n seen))
