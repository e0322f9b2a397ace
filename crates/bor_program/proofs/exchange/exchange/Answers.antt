use Rattle.std.proofs.Common.{inr, refl}
use Rattle.bor_program.proofs.exchange.exchange.Goals as goal

pub returns-in-Ok-clause-done : goal.returns-in-Ok-clause-done
returns-in-Ok-clause-done g c =
    inr (
      record {
        db = c.args.asked.db;
        registrar = c.in-Ok.registrar;
        day = c.args.asked.day;
        files = c.args.asked.files;
      },
      record {
        db = refl;
        registrar = c.in-Ok.ensures.ok;
        day = refl;
        files = refl;
      },
      c.exchange_told.ensures.done,
    )
