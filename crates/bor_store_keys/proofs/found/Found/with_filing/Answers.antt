use Rattle.std.proofs.Common.{◌≡◌}
use Rattle.std.specs.BTreeMap.{get}
use Rattle.bor_register.specs.Register.{filings_of}
use Rattle.bor_store_reads.specs.Asking.{is_number_seen}
use Rattle.bor_store_keys.specs.Finding.{filing_cmp}
use Rattle.bor_store_keys.proofs.Holding.{exact_filing, one_more}
use Rattle.bor_store_keys.proofs.found.Found.with_filing.Goals as goal

pub returns-in-Ok : goal.returns-in-Ok
returns-in-Ok c = λ r of is. assumption (
  one_more filing_cmp exact_filing (λ k seen. seen ≡ is_number_seen c.args.self.view.viewer c.args.self.view.today k.agent (filings_of k.agent r.members) k.number)
      (get filing_cmp c.args.self.filings) (get filing_cmp c.insert.new.self) c.args.key c.args.seen c.in-Ok.ensures.updates.0 is of.filings,
  of,
)
