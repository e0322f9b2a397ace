use Rattle.bor_desk.proofs.OneReply.{one_reply}
use Rattle.bor_desk.proofs.laws.answer_is_determined.Goals as goal

pub returns : goal.returns
returns c = one_reply
