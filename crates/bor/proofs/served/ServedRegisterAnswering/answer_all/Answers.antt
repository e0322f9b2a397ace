use Rattle.std.proofs.lemmas.Result.{IfOk-weaker}
use Rattle.bor_program.proofs.Carried.{in_turn}
use Rattle.bor.proofs.served.ServedRegisterAnswering.answer_all.Goals as goal

pub returns-clause-in_turn : goal.returns-clause-in_turn
returns-clause-in_turn g c =
    IfOk-weaker c.replay.result _ _ (λ replies h. in_turn _ (λ k. record { keep = k }) c.args.self.now.keep c.replay.new.keep _ replies.items h) c.replay.ensures.in_turn
