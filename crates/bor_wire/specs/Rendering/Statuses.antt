-- The status of each reply (RFC 9110, section 15).
use Rattle.std.specs.Prelude.{ℕ, if◌then◌else◌}
use Rattle.bor_desk.specs.declared.refusal.Refusal as desk
use Rattle.bor_desk.specs.declared.refusal.Refusal.TheVariants as refuse
use Rattle.bor_desk.specs.declared.reply.DeskReply.{DeskReply}
use Rattle.bor_desk.specs.declared.reply.DeskReply.TheVariants as tell
use Rattle.bor_http.specs.declared.incoming.fault.Refusal.{Refusal}
use Rattle.bor_http.specs.declared.incoming.fault.Refusal.TheVariants.{HeadTooLarge, CutShort}
use Rattle.bor_http.specs.declared.incoming.fault.Refusal.TheVariants.{BadHead, BadLength}
use Rattle.bor_http.specs.declared.incoming.fault.Refusal.TheVariants.{BodyTooLarge, NoPath}
use Rattle.bor_http.specs.declared.incoming.fault.Refusal.TheVariants.{WrongMethod, NoToken}
use Rattle.bor_http.specs.declared.incoming.fault.Refusal.TheVariants.{BadQuery}

-- bytes that spell no request
abbrev pub wire_refusal_status : Refusal → ℕ
wire_refusal_status HeadTooLarge = 431
wire_refusal_status CutShort = 400
wire_refusal_status BadHead = 400
wire_refusal_status BadLength = 400
wire_refusal_status BodyTooLarge = 413
wire_refusal_status NoPath = 404
wire_refusal_status (WrongMethod _) = 405
wire_refusal_status NoToken = 401
wire_refusal_status (BadQuery _) = 400

-- the statuses of the desk's refusals
abbrev pub desk_refusal_status : desk.Refusal → ℕ
desk_refusal_status refuse.NoAgent = 401
desk_refusal_status refuse.NotRegistrar = 403
desk_refusal_status refuse.NotAgent = 403
desk_refusal_status refuse.NoSuchFiling = 404
desk_refusal_status refuse.NoEntity = 404
desk_refusal_status refuse.NoSuchAgent = 404
desk_refusal_status refuse.KeyReused = 409
desk_refusal_status refuse.FilingsFull = 409
desk_refusal_status refuse.Published = 409
desk_refusal_status refuse.HasSuccessor = 409
desk_refusal_status refuse.DayBack = 409
desk_refusal_status refuse.NameTaken = 409
desk_refusal_status refuse.TokenTaken = 409
desk_refusal_status refuse.DuePast = 422
desk_refusal_status (refuse.Read fault) = 422
desk_refusal_status (refuse.StatementTwice place) = 422
desk_refusal_status (refuse.Record place fault) = 422

-- the statuses of the desk's replies: a filing is created by its first lodging, and not by a repeat
abbrev pub desk_status : DeskReply → ℕ
desk_status (tell.Lodged lodged) = if lodged.fresh then 201 else 200
desk_status (tell.Withdrawn line) = 200
desk_status (tell.Filings lines) = 200
desk_status (tell.File bytes) = 200
desk_status (tell.Published outwards) = 200
desk_status (tell.Snapshot date records) = 200
desk_status (tell.Chains entity date persons) = 200
desk_status (tell.Evidence entity date evidence) = 200
desk_status (tell.Entities identifier date records) = 200
desk_status (tell.Day day) = 200
desk_status (tell.Enrolled name) = 201
desk_status (tell.Renewed name) = 200
desk_status (tell.Register agents day) = 200
desk_status (tell.Refused why) = desk_refusal_status why
desk_status (tell.Failed fault) = 503
