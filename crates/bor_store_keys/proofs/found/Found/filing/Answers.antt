use Rattle.std.proofs.Common.{sym, ap, ◌∙◌, option_copied}
use Rattle.bor_store_keys.proofs.found.Found.filing.Goals as goal

pub returns-in-Some : goal.returns-in-Some
returns-in-Some c = λ r of. of.filings c.args.key.now c.in-Some.seen.now (sym c.get.ensures.value ∙ ap option_copied c.in-Some.is)
