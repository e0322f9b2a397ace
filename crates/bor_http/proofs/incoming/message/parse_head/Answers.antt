use Rattle.std.proofs.Common.{refl}
use Rattle.bor_http.proofs.OnIncoming.PartsLemmas.{no_overflow}
use Rattle.bor_http.proofs.incoming.message.parse_head.Goals as goal

pub returns-in-Err-clause-parts : goal.returns-in-Err-clause-parts
returns-in-Err-clause-parts c = (refl, no_overflow 64 c.args.head.now c.requires c.in-Err.ensures.no_room)
