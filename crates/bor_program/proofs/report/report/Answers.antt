use Rattle.std.proofs.Common.{◌≡◌, ◌∙◌, ap, arith, inl, inr, sym}
use Rattle.bor_program.specs.Program.{exit_code}
use Rattle.bor_program.proofs.Ends.{keeps_same, cut_text, fails_to_open, met_opened, met_opening, no_failure, no_text, tells_cut}
use Rattle.bor_program.proofs.report.report.Goals as goal

pub returns-in-Ok-told-clause-done : goal.returns-in-Ok-told-clause-done
returns-in-Ok-told-clause-done g c =
    let told = c.in-Ok-told.ensures.told in
    record {
      text = (told.0, inl told.2);
      opened = inr (
        c.in-Ok.register,
        c.report_on-told.new.register,
        record { between = c.open.new.self; comes = c.in-Ok.ensures.ok; closes = c.close.ensures },
        record {
          kept = c.in-Ok-told.ensures.kept;
          text = inl (told.0, told.1, inl told.2);
          line = λ three. absurd (no_failure told.0.refused (sym three ∙ told.2.told));
        },
      );
      silent = λ low. keeps_same _;
      line = λ three. absurd (no_failure told.0.refused (sym three ∙ told.2.told));
    }

pub returns-in-Err-told-clause-done : goal.returns-in-Err-told-clause-done
returns-in-Err-told-clause-done g c =
    let three : exit_code c.tell.result ≡ 3 = ap exit_code c.tell.ensures.status in
    record {
      text = cut_text _ _ _ three c.in-Err-told.ensures.told;
      opened = inr (
        c.in-Ok.register,
        c.report_on-told.new.register,
        record { between = c.open.new.self; comes = c.in-Ok.ensures.ok; closes = c.close.ensures },
        record {
          kept = c.report_on-told.ensures.kept;
          text = tells_cut _ _ _ three c.in-Err-told.ensures.told;
          line = λ _. (c.in-Err-told.failure, c.in-Err-told.ensures.err, c.tell.ensures.line);
        },
      );
      silent = λ low. absurd (omega (arith, low, three));
      line = λ _. (c.in-Err-told.failure, met_opened c.args.asked.now.db _ _ _ _ c.in-Err-told.ensures.err, c.tell.ensures.line);
    }

pub returns-in-Err-clause-done : goal.returns-in-Err-clause-done
returns-in-Err-clause-done g c =
    let three : exit_code c.tell-in-Err.result ≡ 3 = ap exit_code c.tell-in-Err.ensures.status in
    record {
      text = no_text _ _ _ three (keeps_same _);
      opened = inl (fails_to_open _ _ _ _ three (keeps_same _) c.in-Err.ensures.err c.in-Err.ensures.cause c.tell-in-Err.ensures.line);
      silent = λ low. absurd (omega (arith, low, three));
      line = λ _. (c.in-Err.failure, met_opening c.args.asked.now.db _ _ c.in-Err.ensures.cause, c.tell-in-Err.ensures.line);
    }
