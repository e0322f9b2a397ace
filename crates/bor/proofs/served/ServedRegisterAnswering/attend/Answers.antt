use Rattle.bor_program.proofs.Carried.{served, served_over}
use Rattle.bor.proofs.served.ServedRegisterAnswering.attend.Goals as goal

pub returns-clause-served : goal.returns-clause-served
returns-clause-served g c =
    served _ (λ k. record { keep = k }) _ c.args.self.now.keep c.serve_within.new.keep c.args.connections c.serve_within.result c.serve_within.ensures.served

pub returns-clause-streams : goal.returns-clause-streams
returns-clause-streams g c =
    served_over _ (λ k. record { keep = k }) _ _ _ c.args.self.now.keep c.serve_within.new.keep c.args.connections c.serve_within.result c.serve_within.ensures.streams
