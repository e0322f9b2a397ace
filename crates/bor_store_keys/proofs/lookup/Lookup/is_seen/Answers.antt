use Rattle.std.proofs.Common.{◌≡◌, ap, subst}
use Rattle.std.proofs.lemmas.Option.{IfSome_then}
use Rattle.sqlite.specs.Held.{state}
use Rattle.bor_register.specs.Register.{filings_of}
use Rattle.bor_store_reads.specs.Asking.{is_number_seen}
use Rattle.bor_store_keys.specs.declared.view.View.{View}
use Rattle.bor_store_keys.proofs.Holding.{of_found}
use Rattle.bor_store_keys.proofs.lookup.Lookup.is_seen.Goals as goal

pub returns-in-Some : goal.returns-in-Some
returns-in-Some g c =
    let of = of_found (ap (state g.S.Store) c.self.view_is) c.in-Some.is c.self.invariant in
    IfSome_then c.filing.result c.filing.ensures
    (λ seen h clean r shows. subst (λ (v : View). seen ≡ is_number_seen v.viewer v.today c.args.key.now.agent (filings_of c.args.key.now.agent r.members) c.args.key.now.number) (c.is.ensures c.if-is.true) (h r (of clean r shows)))
