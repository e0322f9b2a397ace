use Rattle.std.proofs.Common.{rules}
use Rattle.bor_words.proofs.Reporting.{unfit_exchange, unfit_init, unfit_report, unfit_serve}
use Rattle.bor_words.proofs.command.Command.of.Goals as goal

pub returns-in_err-read-clause-err : goal.returns-in_err-read-clause-err
returns-in_err-read-clause-err c = search (unfit_exchange, rules)

pub returns-in_err-read-2-clause-err : goal.returns-in_err-read-2-clause-err
returns-in_err-read-2-clause-err c = search (unfit_serve, rules)

pub returns-in_err-read-3-clause-err : goal.returns-in_err-read-3-clause-err
returns-in_err-read-3-clause-err c = search (unfit_report, rules)

pub returns-in_err-read-4-clause-err : goal.returns-in_err-read-4-clause-err
returns-in_err-read-4-clause-err c = search (unfit_init, rules)
