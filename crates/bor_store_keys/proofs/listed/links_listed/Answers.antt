use Rattle.std.proofs.Common.{subst}
use Rattle.sqlite.specs.Held.{state}
use Rattle.bor_store_sql.specs.Shown.{IsClean}
use Rattle.bor_store_keys.proofs.listed.links_listed.Goals as goal

pub put_lists-requires : goal.put_lists-requires
put_lists-requires g c = λ clean r shows. (c.links_into-told.ensures.reads.kept.same tt _).0 (c.requires clean r shows)

pub returns-clause-answer : goal.returns-clause-answer
returns-clause-answer g c = λ clean r shows.
    c.in_ok-told.ensures.reads.answer _ (c.requires (subst (λ l. IsClean (state g.S.Store l)) c.put_lists.ensures clean) r shows) tt
