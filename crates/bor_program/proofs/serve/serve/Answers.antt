use Rattle.std.proofs.Common.{◌≡◌, ap, inl, inr}
use Rattle.bor_program.specs.Program.{exit_code}
use Rattle.bor_program.proofs.Ends.{keeps_same, fails_to_open}
use Rattle.bor_program.proofs.serve.serve.Goals as goal

pub returns-in-Ok-served-clause-done : goal.returns-in-Ok-served-clause-done
returns-in-Ok-served-clause-done g c =
    let served = c.in-Ok-served.ensures in
    inr (
      c.in-Ok.register,
      c.listen-served.new.register,
      record { between = c.open_to_serve.new.self; comes = c.in-Ok.ensures.ok; closes = c.close.ensures },
      inr (record { hosted = served.hosted; served = served.ok.0; line = served.ok.1; silent = keeps_same _ }),
    )

pub returns-in-Err-served-clause-done : goal.returns-in-Err-served-clause-done
returns-in-Err-served-clause-done g c = inr (
  c.in-Ok.register,
  c.listen-served.new.register,
  record { between = c.open_to_serve.new.self; comes = c.in-Ok.ensures.ok; closes = c.close.ensures },
  inl (
    c.in-Err-served.ensures.unserved,
    record {
      status_is = ap exit_code c.tell.ensures.status;
      part = c.in-Err-served.ensures.part;
      line = (c.in-Err-served.failure, c.in-Err-served.ensures.err, c.tell.ensures.line);
    },
  ),
)

pub returns-in-Err-clause-done : goal.returns-in-Err-clause-done
returns-in-Err-clause-done g c =
    let three : exit_code c.tell-in-Err.result ≡ 3 = ap exit_code c.tell-in-Err.ensures.status in
    inl (fails_to_open _ _ _ _ three (keeps_same _) c.in-Err.ensures.err c.in-Err.ensures.cause c.tell-in-Err.ensures.line)
