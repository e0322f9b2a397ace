use Rattle.std.proofs.Common.{◌∙◌}
use Rattle.bor_register.specs.Register.{filings_of}
use Rattle.bor_store_reads.proofs.Declared.{seen_is}
use Rattle.bor_store_reads.proofs.FoundFilings.{own_numbered}
use Rattle.bor_store_reads.proofs.Reading.{read_so}
use Rattle.bor_store_reads.proofs.known.is_number_seen.Goals as goal

pub returns : goal.returns
returns g c =
    let agent = c.args.agent.now in
    read_so c.in_ok-found.ensures
    (λ r stored is. c.is_found_visible.ensures ∙ seen_is c.args.viewer.now c.args.day agent c.args.number (filings_of agent r.members) (own_numbered agent r.members stored.numbered) c.in_ok-found.found is)
