use Rattle.std.proofs.Common.{◌≡◌, [], ap, arith, inl, inr, refl}
use Rattle.bor_register.specs.Register.{empty_register}
use Rattle.bor_desk.proofs.OnOperations.Legality.{empty-legal}
use Rattle.bor_program.specs.Program.{exit_code}
use Rattle.bor_program.proofs.Ends.{keeps_same, part_none, fails_to_open}
use Rattle.bor_program.proofs.Replies.{sent_as, sent_some, whatever_left}
use Rattle.bor_program.proofs.Unread.{files_as}
use Rattle.bor_program.proofs.exchange.exchange_told.Goals as goal

pub returns-in-Ok-clause-done : goal.returns-in-Ok-clause-done
returns-in-Ok-clause-done g c =
    let ends = sent_as _ _ _ _ _ _ _ _ c.as_slice.ensures.value (λ inputs replies h. h) c.exchange_files-status.ensures.ends in
    let told = files_as _ _ _ _ _ _ c.as_slice.ensures.value c.exchange_files-status.ensures.told in
    record {
      sent = sent_some _ _ _ _ _ _ ends;
      answered = λ none. absurd (cc (c.in-Some.is, none));
      opened = rw c.in-Some.is (inr (
        c.in-Ok.field-0.register,
        c.in-Ok.field-0.origin,
        c.exchange_files-status.new.register,
        record { between = c.open_or_set_up.new.self; comes = c.in-Ok.ensures.ok; closes = c.close.ensures },
        record { answered = ends; unread = told },
      ));
      silent = c.exchange_files-status.ensures.silent;
    }

pub returns-in-Some-clause-done : goal.returns-in-Some-clause-done
returns-in-Some-clause-done g c =
    let three : exit_code c.tell.result ≡ 3 = ap exit_code c.tell.ensures.status in
    record {
      sent = ([], inr (part_none _ _ [] (keeps_same _), three));
      answered = λ none. absurd (cc (c.in-Some.is, none));
      opened = rw c.in-Some.is (inl (fails_to_open _ _ _ _ three (keeps_same _) c.in-Err.ensures.err c.in-Err.ensures.cause c.tell.ensures.line));
      silent = λ low. absurd (omega (arith, low, three));
    }

pub returns-clause-done : goal.returns-clause-done
returns-clause-done g c =
    let ends = sent_as _ _ _ _ _ _ _ _ c.as_slice-in-None.ensures.value (λ inputs replies h. h) c.exchange_files.ensures.ends in
    let told = files_as _ _ _ _ _ _ c.as_slice-in-None.ensures.value c.exchange_files.ensures.told in
    let first = empty_register c.args.asked.registrar c.args.asked.day in
    record {
      sent = sent_some _ _ _ _ _ _ ends;
      answered = λ none. (refl, sent_as _ _ _ _ _ _ _ _ refl (λ inputs replies h. whatever_left _ first inputs replies (empty-legal _ _) (h.answers first c.new-register.ensures.shown tt (empty-legal _ _))) ends, told);
      opened = rw c.in-None.is tt;
      silent = c.exchange_files.ensures.silent;
    }
