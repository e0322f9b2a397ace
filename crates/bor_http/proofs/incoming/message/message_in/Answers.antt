use Rattle.bor_http.proofs.incoming.message.message_in.Goals as goal

pub message-requires : goal.message-requires
message-requires c = c.none.ensures.known c.args.input.now
