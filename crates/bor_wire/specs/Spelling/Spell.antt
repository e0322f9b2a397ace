-- The request that a whole input spells, with a token, or the first refusal.
use Rattle.std.specs.Prelude.{◌≡◌, ℕ, ℤ, pos, List, [], drop, Option, Some, None, Result, Ok, Err}
use Rattle.std.specs.Prelude.{unwrap_or, ⊤}
use Rattle.bor_terms.specs.Tables.{outcome}
use Rattle.bor_desk.specs.declared.request.Request.{Request}
use Rattle.bor_desk.specs.declared.request.Request.TheVariants as of
use Rattle.bor_desk.specs.declared.request.AgentRequest.TheVariants as ask
use Rattle.bor_desk.specs.declared.request.RegistrarRequest.TheVariants as office
use Rattle.bor_desk.specs.Runs.{Asked}
use Rattle.bor_http.specs.declared.incoming.fault.Refusal.{Refusal}
use Rattle.bor_http.specs.declared.incoming.fault.WireFault.{WireFault}
use Rattle.bor_http.specs.declared.incoming.fault.WireFault.TheVariants.{Refused, Read, Memory}
use Rattle.bor_http.specs.Incoming.Message.{Parts, Message, IsTakenApart}
use Rattle.bor_http.specs.declared.routes.route.Route.{Route}
use Rattle.bor_http.specs.declared.routes.route.Route.TheVariants as routes
use Rattle.bor_wire.specs.declared.spelling.asking.Asking.{Asking}
use Rattle.bor_wire.specs.Spelling.Parts as part
use Rattle.bor_http.specs.Incoming.Head.{head_end}
use Rattle.bor_http.specs.Incoming.Refusals.{message_of}
use Rattle.bor_wire.specs.Spelling.Refusals.{lines_of_message, refusals_spelled}

abbrev pub Spelled : Type 0
Spelled = Result Asked Refusal

-- ---- the request; where a refusal stands, any

abbrev pub text_or_any : Option (List ℕ) → List ℕ
text_or_any text = unwrap_or text []

abbrev pub day_or_any : Option ℤ → ℤ
day_or_any day = unwrap_or day (pos 0)

-- the request that a route asks for
abbrev pub request_of : Option Route → Message → Request
request_of None m = of.Agent ask.Filings
request_of (Some routes.Lodge) m =
    of.Agent (ask.Lodge (text_or_any (part.key m)) (day_or_any (part.due m)) m.body)
request_of (Some routes.Withdraw) m = of.Agent (ask.Withdraw (text_or_any (part.key m)))
request_of (Some routes.Filings) m = of.Agent ask.Filings
request_of (Some routes.File) m = of.Agent (ask.File (text_or_any (part.key m)))
request_of (Some routes.Published) m = of.Agent ask.Published
request_of (Some routes.Snapshot) m =
    of.Agent (ask.Snapshot (text_or_any (part.agent m)) (text_or_any (part.declaration m))
    (unwrap_or (part.date_or_none m) None))
request_of (Some routes.Chains) m =
    of.Agent (ask.Chains (record {
      agent = text_or_any (part.agent m);
      declaration = text_or_any (part.declaration m);
      rec = text_or_any (part.rec m);
    }) (unwrap_or (part.date_or_none m) None))
request_of (Some routes.Evidence) m =
    of.Agent (ask.Evidence (record {
      agent = text_or_any (part.agent m);
      declaration = text_or_any (part.declaration m);
      rec = text_or_any (part.rec m);
    }) (unwrap_or (part.date_or_none m) None))
request_of (Some routes.Entities) m =
    of.Agent (ask.Entities
    (record { scheme = text_or_any (part.scheme m); id = text_or_any (part.id m) })
    (unwrap_or (part.date_or_none m) None))
request_of (Some routes.Day) m = of.Registrar (office.Day (day_or_any (part.date m)))
request_of (Some routes.Enrol) m =
    of.Registrar
    (office.Enrol (text_or_any (part.new_name m)) (text_or_any (part.new_token m)))
request_of (Some routes.Renew) m =
    of.Registrar (office.Renew (text_or_any (part.name m)) (text_or_any (part.new_token m)))
request_of (Some routes.Register) m = of.Registrar office.Register

-- the request of a message, and the token of whoever asks
unfoldable pub asked : Message → Asked
asked m =
    record {
      token = text_or_any (part.token m.parts.fields);
      request = request_of
          (part.route m) m;
    }

-- the request that a message spells, or the first of the refusals
unfoldable pub spell : Message → Spelled
spell m = outcome (lines_of_message m) (asked m)

-- ---- a whole input

abbrev pub asked_behind : List ℕ → Option ℕ → Option Parts → Asked
asked_behind input (Some n) (Some parts) = asked (message_of parts (drop n input))
asked_behind input end head = record { token = []; request = of.Agent ask.Filings }

-- the request, or the refusal, that an input spells whose head is taken apart so
unfoldable pub spelling : List ℕ → Option Parts → Spelled
spelling input head =
    outcome (refusals_spelled input head) (asked_behind input (head_end input) head)

-- the whole input spells this
abbrev pub Spells : List ℕ → Spelled → Type 0
Spells input spelled =
    (head : Option Parts) × IsTakenApart input head × (spelled ≡ spelling input head)

-- a request that was read, without where it lies
abbrev pub asked_view : Asking → Asked
asked_view a = record { token = a.token; request = a.request }

-- the input is refused so; or memory ran out, and no reader was asked
abbrev pub RefusesAs : List ℕ → WireFault → Type 0
RefusesAs input (Refused why) = Spells input (Err why)
RefusesAs input Read = ⊥
RefusesAs input Memory = ⊤

-- the whole input spells this request, or is refused so, or memory ran out
abbrev pub SpellsAs : List ℕ → Result Asking WireFault → Type 0
SpellsAs input (Ok asking) = Spells input (Ok (asked_view asking))
SpellsAs input (Err fault) = RefusesAs input fault
