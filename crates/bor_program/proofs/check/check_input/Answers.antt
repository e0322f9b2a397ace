use Rattle.std.proofs.Common.{rules, []}
use Rattle.bor_program.proofs.Ends.{cut_of, cut_one}
use Rattle.bor_program.proofs.check.check_input.Goals as goal

pub returns-in_err-bytes-clause-known : goal.returns-in_err-bytes-clause-known
returns-in_err-bytes-clause-known g c =
    cut_of (g.I.Read.remaining c.args.input.now) (g.O.Write.contents c.args.output.now) c.from_residual.result (search rules)

pub returns-in_err-bytes-clause-report : goal.returns-in_err-bytes-clause-report
returns-in_err-bytes-clause-report g c =
    ([], cut_one [] (g.O.Write.contents c.args.output.now) c.from_residual.result (search rules))
