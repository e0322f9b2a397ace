use Rattle.bor_program.proofs.Replies.{read_whole}
use Rattle.bor_http.specs.Incoming.Message.{request_limit}
use Rattle.bor_program.proofs.inputs.read_request.Goals as goal

pub returns : goal.returns
returns g c =
    read_whole (g.I.Read.remaining c.args.input) request_limit _ _ c.new-bytes.ensures.items
    (rw (c.take.ensures.limit, c.take.ensures.inner) at c.in_ok-read_to_end.ensures.bytes)
