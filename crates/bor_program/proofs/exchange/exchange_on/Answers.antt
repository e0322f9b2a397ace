use Rattle.std.proofs.Common.{rules, ◌≡◌, ◌∙◌, inl, inr, length, map, sym}
use Rattle.std.proofs.lemmas.List.{length-map}
use Rattle.bor_program.specs.Replying.{AreAnswers, sent}
use Rattle.bor_program.specs.Streams.{AppendsPart}
use Rattle.bor_program.proofs.Ends.{keeps_same}
use Rattle.bor_program.proofs.Replies.{all_answered, none_answered, sends_err}
use Rattle.bor_program.proofs.exchange.exchange_on.Goals as goal

pub returns-in_err-replies-clause-sent : goal.returns-in_err-replies-clause-sent
returns-in_err-replies-clause-sent g c =
    let none = none_answered g.K.OpenRegister.meaning c.args.register.now c.replay.new.self c.in_err-replies.ensures.err in
    sends_err (AreAnswers g.K.OpenRegister.meaning c.args.register.now c.replay.new.self) (map (λ v. v.items) c.args.inputs.now)
    (g.O.Write.contents c.args.output.now) (g.O.Write.contents c.args.output.now) c.from_residual.result (search rules) (inr (none, keeps_same _))

pub returns-in_err-send-clause-sent : goal.returns-in_err-send-clause-sent
returns-in_err-send-clause-sent g c =
    let told = c.in_ok-replies.ensures in
    let inputs = c.args.inputs.now in
    let replies = c.in_ok-replies.replies.items in
    let counted : length replies ≡ length (map (λ v. v.items) inputs) = told.count ∙ sym (length-map inputs (λ v. v.items)) in
    let are : AreAnswers g.K.OpenRegister.meaning c.args.register.now c.replay.new.self (map (λ v. v.items) inputs) replies =
    all_answered g.K.OpenRegister.meaning c.args.register.now c.replay.new.self _ replies c.replay.ensures.began counted told.spelled told.run told.in_turn in
    let part : AppendsPart (g.O.Write.contents c.args.output.now) (g.O.Write.contents c.send.new.output) (sent replies) = search rules in
    sends_err (AreAnswers g.K.OpenRegister.meaning c.args.register.now c.replay.new.self) (map (λ v. v.items) inputs)
    (g.O.Write.contents c.args.output.now) (g.O.Write.contents c.send.new.output) c.from_residual-in_err-send.result (search rules) (inl (replies, are, part))

pub returns-clause-sent : goal.returns-clause-sent
returns-clause-sent g c =
    let told = c.in_ok-replies.ensures in
    let inputs = c.args.inputs.now in
    let replies = c.in_ok-replies.replies.items in
    let counted : length replies ≡ length (map (λ v. v.items) inputs) = told.count ∙ sym (length-map inputs (λ v. v.items)) in (
      replies,
      all_answered g.K.OpenRegister.meaning c.args.register.now c.replay.new.self _ replies c.replay.ensures.began counted told.spelled told.run told.in_turn,
      search rules,
      search rules,
    )
