use Rattle.std.proofs.Common.{refl}
use Rattle.std.specs.Fmt.{digits}
use Rattle.json.specs.Print.{escape_byte}
use Rattle.bor_wire.specs.Rendering.Bodies.{refusal_text}
use Rattle.bor_wire.specs.Rendering.Heads.{phrase, status_line, field_line, own_line, head_bytes}
use Rattle.bor_wire.proofs.rendering.laws.unavailable_is_a_reply.Goals as goal

pub returns : goal.returns
unfolding head_bytes status_line field_line own_line phrase refusal_text escape_byte digits
returns c = record { reply = λ fault. refl; status = λ fault. refl }
