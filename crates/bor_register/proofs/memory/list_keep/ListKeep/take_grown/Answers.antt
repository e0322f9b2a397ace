use Rattle.std.proofs.Common.{◌≡◌, ℕ, ◌++◌, ◌∷◌, [], ◌∙◌, List, true, length, ap, sym, subst}
use Rattle.bods_read.specs.declared.statement.Statement.{Statement}
use Rattle.bor_register.specs.declared.filing.AcceptedFiling.{AcceptedFiling}
use Rattle.bor_register.specs.declared.memory.index.Index.{Index}
use Rattle.bor_register.specs.declared.member.Member.{Member}
use Rattle.bor_register.specs.Memory.Holding.{Holding}
use Rattle.bor_register.specs.Memory.Indexed.{IsGrown, IsIndex}
use Rattle.bor_register.specs.Register.{filings_of, is_enrolled, with_filings}
use Rattle.bor_register.proofs.OnMemory.Indexed.{index_more}
use Rattle.bor_register.proofs.OnMemory.Told.{told_then}
use Rattle.bor_register.proofs.memory.list_keep.ListKeep.take_grown.Goals as goal

-- the maps are the register's once the filing is added
abbrev Grows : List ℕ → List Statement → List Member → Index → Type 0
Grows agent statements ms index = (f : AcceptedFiling) → f.statements ≡ statements → is_enrolled agent ms ≡ true → IsIndex (with_filings agent (filings_of agent ms ++ f ∷ []) ms) index

pub returns-clause-grown : goal.returns-clause-grown
returns-clause-grown c =
    let agent = c.args.agent.now in
    let statements = c.args.statements.now in
    let before : List Member = c.args.self.now.register.members in
    let own : c.find_filings-filing.result.now ≡ filings_of agent before = c.find_filings-filing.ensures ∙ ap (λ (ms : List Member). filings_of agent ms) (c.deref.ensures.value ∙ ap (λ (h : Holding). h.register.members) c.self.view_is) in
    let old : Index = c.in_ok-index.index in
    told_then c.with_filing.result _ (Grows agent statements before)
    (λ index g f same enrolled. index_more before agent f old index enrolled c.in_ok-index.ensures.maps
    (subst (λ (ss : List Statement). IsGrown agent (length (filings_of agent before)) 0 ss old index) (sym same)
    (subst (λ (fs : List AcceptedFiling). IsGrown agent (length fs) 0 statements old index) own g)))
    c.with_filing.ensures
