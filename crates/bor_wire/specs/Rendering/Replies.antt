-- The bytes of every reply.
use Rattle.std.specs.Prelude.{ℕ, List, ◌++◌, length, Option, Some, None}
use Rattle.bor_desk.specs.declared.reply.DeskReply.{DeskReply}
use Rattle.bor_http.specs.declared.incoming.fault.Path.{Path}
use Rattle.bor_http.specs.declared.incoming.fault.Refusal.{Refusal}
use Rattle.bor_http.specs.declared.incoming.fault.Refusal.TheVariants.{WrongMethod}
use Rattle.bor_wire.specs.Rendering.Bodies.{desk_body, wire_refusal_text}
use Rattle.bor_wire.specs.Rendering.Statuses.{wire_refusal_status, desk_status}
use Rattle.bor_wire.specs.Rendering.Heads.{head_bytes}

-- The answer to an input: that it spells no request, or the desk's reply.
pub data Said : Type 0 where
  refused : Refusal → Said
  answered : DeskReply → Said

abbrev pub status_of : Said → ℕ
status_of (refused why) = wire_refusal_status why
status_of (answered reply) = desk_status reply

-- the path whose methods were not asked for
abbrev pub wrong_method : Refusal → Option Path
wrong_method (WrongMethod path) = Some path
wrong_method why = None

abbrev pub path_replied : Said → Option Path
path_replied (refused why) = wrong_method why
path_replied (answered reply) = None

abbrev pub reply_body : Said → List ℕ
reply_body (refused why) = wire_refusal_text why
reply_body (answered reply) = desk_body reply

-- a body with its head
abbrev pub reply_bytes : ℕ → Option Path → List ℕ → List ℕ
reply_bytes status path body = head_bytes status path (length body) ++ body

-- the bytes of a reply
abbrev pub bytes_of : Said → List ℕ
bytes_of said = reply_bytes (status_of said) (path_replied said) (reply_body said)
