use Rattle.std.proofs.Common.{◌≡◌, ap, arith, inl, inr, refl}
use Rattle.bor_program.specs.Performing.{migrated}
use Rattle.bor_program.specs.Program.{exit_code}
use Rattle.bor_program.specs.declared.failure.Failure.TheVariants.{Unwritable}
use Rattle.bor_program.proofs.Ends.{keeps_same, part_none, fails_to_open, met_opening}
use Rattle.bor_program.proofs.migrate.migrate.Goals as goal

pub returns-in-Ok-clause-done : goal.returns-in-Ok-clause-done
returns-in-Ok-clause-done g c = record {
  moved = inr c.in-Ok.ensures.ok;
  text = c.print_version.ensures.text;
  silent = c.print_version.ensures.silent;
  line = λ three. (Unwritable, record { cause = inr refl; output = tt }, c.print_version.ensures.told three);
}

pub returns-in-Err-clause-done : goal.returns-in-Err-clause-done
returns-in-Err-clause-done g c =
    let three : exit_code c.tell.result ≡ 3 = ap exit_code c.tell.ensures.status in
    record {
      moved = inl (fails_to_open _ _ _ _ three (keeps_same _) c.in-Err.ensures.err c.in-Err.ensures.cause c.tell.ensures.line);
      text = inr (record { text = part_none _ _ migrated.bytes (keeps_same _); told = three });
      silent = λ low. absurd (omega (arith, low, three));
      line = λ _. (c.in-Err.failure, met_opening c.args.asked.db _ _ c.in-Err.ensures.cause, c.tell.ensures.line);
    }
