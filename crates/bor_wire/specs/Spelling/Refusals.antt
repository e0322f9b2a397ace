-- The order of refusals: a table of what may stand against an input, of which the first line that
-- holds is the answer. Its lines 1 to 6, on the head and the body, are in `Incoming/Refusals`.
use Rattle.std.specs.Prelude.{ℕ, List, [], ◌∷◌, ◌++◌, drop, Option, Some, None}
use Rattle.std.specs.Option.{is_none}
use Rattle.bor_terms.specs.Tables.{table}
use Rattle.bor_http.specs.declared.incoming.fault.Path.{Path}
use Rattle.bor_http.specs.declared.incoming.fault.Name.{Name}
use Rattle.bor_http.specs.declared.incoming.fault.Name.TheVariants as names
use Rattle.bor_http.specs.declared.incoming.fault.Refusal.{Refusal}
use Rattle.bor_http.specs.declared.incoming.fault.Refusal.TheVariants.{NoPath, WrongMethod, NoToken}
use Rattle.bor_http.specs.declared.incoming.fault.Refusal.TheVariants.{BadQuery}
use Rattle.bor_http.specs.Incoming.Head.{head_end}
use Rattle.bor_http.specs.Incoming.Message.{Parts, Message}
use Rattle.bor_http.specs.Incoming.Refusals.{refuse, lines_of_input, message_of}
use Rattle.bor_http.specs.declared.routes.route.Route.{Route}
use Rattle.bor_http.specs.declared.routes.route.Route.TheVariants as routes
use Rattle.bor_http.specs.Routes.Routes.{route_at}
use Rattle.bor_wire.specs.Spelling.Parts as part

-- ---- 7 to 10: what is asked, and by whom

-- the path lacks the method; of what is no path nothing is said
abbrev pub lines_of_method : Option Path → List ℕ → List Refusal
lines_of_method None method = []
lines_of_method (Some path) method = refuse (WrongMethod path) (is_none (route_at path method))

-- the route asks for the name, and the request lacks it, has it twice, or what it has doesn't fit
abbrev pub asks : {A : Type 0} → Name → Option A → List Refusal
asks name value = refuse (BadQuery name) (is_none value)

-- the names of a route, in order
abbrev pub lines_of_names : Option Route → Message → List Refusal
lines_of_names None m = []
lines_of_names (Some routes.Lodge) m =
    table (asks names.Key (part.key m) ∷ asks names.Due (part.due m) ∷ [])
lines_of_names (Some routes.Withdraw) m = table (asks names.Key (part.key m) ∷ [])
lines_of_names (Some routes.Filings) m = []
lines_of_names (Some routes.File) m = table (asks names.Key (part.key m) ∷ [])
lines_of_names (Some routes.Published) m = []
lines_of_names (Some routes.Snapshot) m =
    table (asks names.Agent (part.agent m) ∷ asks names.Declaration (part.declaration m)
    ∷ asks names.Date (part.date_or_none m) ∷ [])
lines_of_names (Some routes.Chains) m =
    table (asks names.Agent (part.agent m) ∷ asks names.Declaration (part.declaration m)
    ∷ asks names.Record (part.rec m)
    ∷ asks names.Date (part.date_or_none m) ∷ [])
lines_of_names (Some routes.Evidence) m =
    table (asks names.Agent (part.agent m) ∷ asks names.Declaration (part.declaration m)
    ∷ asks names.Record (part.rec m)
    ∷ asks names.Date (part.date_or_none m) ∷ [])
lines_of_names (Some routes.Entities) m =
    table (asks names.Scheme (part.scheme m) ∷ asks names.Id (part.id m)
    ∷ asks names.Date (part.date_or_none m) ∷ [])
lines_of_names (Some routes.Day) m = table (asks names.Date (part.date m) ∷ [])
lines_of_names (Some routes.Enrol) m =
    table (asks names.Name (part.new_name m) ∷ asks names.Token (part.new_token m) ∷ [])
lines_of_names (Some routes.Renew) m =
    table (asks names.Name (part.name m) ∷ asks names.Token (part.new_token m) ∷ [])
lines_of_names (Some routes.Register) m = []

-- of a whole message, those that hold
unfoldable pub lines_of_message : Message → List Refusal
lines_of_message m =
    table (refuse NoPath (is_none (part.path m))
    ∷ lines_of_method (part.path m) m.parts.method
    ∷ refuse NoToken (is_none (part.token m.parts.fields))
    ∷ lines_of_names (part.route m) m
    ∷ [])

-- ---- the whole table

-- behind what is no head there is nothing to look at
abbrev pub lines_behind : List ℕ → Option ℕ → Option Parts → List Refusal
lines_behind input (Some n) (Some parts) = lines_of_message (message_of parts (drop n input))
lines_behind input end head = []

-- all refusals that hold of an input whose head is taken apart so, in their order
unfoldable pub refusals_spelled : List ℕ → Option Parts → List Refusal
refusals_spelled input head =
    lines_of_input input (head_end input) head ++ lines_behind input (head_end input) head
