use Rattle.std.proofs.Common.{◌≡◌, ap, arith, refl, rules}
use Rattle.bor_program.specs.Program.{exit_code}
use Rattle.bor_program.specs.Inputs.{IsReadOf}
use Rattle.bor_program.specs.Streams.{part_limit}
use Rattle.bor_program.proofs.Ends.{cut_off, of_file_done, of_file_failed}
use Rattle.bor_program.proofs.check.check.Goals as goal

pub returns-in-Err-clause-done : goal.returns-in-Err-clause-done
returns-in-Err-clause-done g c =
    let three : exit_code c.tell.result ≡ 3 = ap exit_code c.tell.ensures.status in
    let Reads = IsReadOf (g.R.NamedFiles.opens c.args.rt.now) g.R.File.Read.remaining part_limit in
    record {
      report = cut_off _ _ _ _ _ c.in-Err.failure _ refl refl c.in-Err.is three c.check_source.ensures.report;
      known = search rules;
      of_file = of_file_failed Reads c.args.source _ _ c.check_source.result c.in-Err.failure _ c.in-Err.is three c.check_source.ensures.of_file;
      taken = λ none low. absurd (omega (arith, low, three));
      at_most = c.check_source.ensures.at_most;
      unread = c.check_source.ensures.unread;
      silent = λ low. absurd (omega (arith, low, three));
      line = λ _. (c.in-Err.failure, c.in-Err.ensures.err, c.tell.ensures.line);
    }

pub returns-in-Ok-clause-done : goal.returns-in-Ok-clause-done
returns-in-Ok-clause-done g c = record {
  report = search rules;
  known = search rules;
  of_file = of_file_done (IsReadOf (g.R.NamedFiles.opens c.args.rt.now) g.R.File.Read.remaining part_limit) c.args.source _ _ c.check_source.result c.in-Ok.status c.in-Ok.is c.check_source.ensures.of_file;
  taken = search rules;
  at_most = c.check_source.ensures.at_most;
  unread = c.check_source.ensures.unread;
  silent = search rules;
  line = search rules;
}
