use Rattle.bor_http.proofs.OnIncoming.Laws.{message_unique}
use Rattle.bor_http.proofs.incoming.laws.an_input_is_one_request.Goals as goal

pub returns : goal.returns
returns c = message_unique
