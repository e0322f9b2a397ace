use Rattle.std.proofs.Common.{inl}
use Rattle.bor_program.proofs.Ends.{of_opened}
use Rattle.bor_program.proofs.check.check_file.Goals as goal

pub returns-in-Ok-clause-of_file : goal.returns-in-Ok-clause-of_file
returns-in-Ok-clause-of_file g c =
    let read = of_opened (g.R.File.Read.remaining c.in-Ok.file) _ _ c.check_input.result c.check_input.ensures.known c.check_input.ensures.report in
    inl (read.0, (c.in-Ok.file, c.in-Ok.ensures, read.1), read.2)
