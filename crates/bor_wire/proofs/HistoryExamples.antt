-- A run of two agents, the registrar and what is nobody's, byte for byte; and ways of replying that tell an agent of another, of which the law of histories is false.
use Rattle.std.proofs.Common.{◌≡◌, ℕ, ◌+◌, List, [], ◌∷◌, ◌++◌, length, map, take, Bool, true, false, ◌&&◌, ◌||◌, Some, None, Ok, Err, codes, refl, sym, ap, ◌∙◌, arith}
use Rattle.std.specs.Prelude.{if◌then◌else◌, is_some, ⊤}
use Rattle.std.specs.List.{flat_map}
use Rattle.std.specs.Fmt.{decimal, digits}
use Rattle.std.proofs.lemmas.Bool.{and_parts, true≢false}
use Rattle.json.specs.Print.{escape_byte}
use Rattle.bor_terms.specs.Day.{day_text, year_at, month_at}
use Rattle.bor_terms.specs.Texts.{is_same}
use Rattle.bor_terms.proofs.Examples.{calendar}
use Rattle.bods_read.specs.declared.fault.FileFault.TheVariants.{NoStatements}
use Rattle.bods_read.specs.Faults.{file_fault_word, fault_word}
use Rattle.bods_read.specs.Words.{field_word, type_word, status_word}
use Rattle.bods_read.proofs.Examples.{reader}
use Rattle.bor_register.specs.declared.caller.Caller.TheVariants.{Registrar, Agent}
use Rattle.bor_register.specs.declared.member.Member.{Member}
use Rattle.bor_register.specs.declared.filing.AcceptedFiling.{AcceptedFiling}
use Rattle.bor_register.specs.Publication.{state_word}
use Rattle.bor_register.specs.Register.{Register, filing_keyed, filings_of}
use Rattle.bor_register.proofs.Examples.{two_agents, today, tomorrow}
use Rattle.bor_desk.specs.Operations.Legality.{IsLegal, AreLegal}
use Rattle.bor_desk.specs.declared.refusal.Refusal.TheVariants as refuse
use Rattle.bor_desk.specs.declared.request.Request.{Request}
use Rattle.bor_desk.specs.declared.request.Request.TheVariants as of
use Rattle.bor_desk.specs.declared.request.AgentRequest.{AgentRequest}
use Rattle.bor_desk.specs.declared.request.AgentRequest.TheVariants as ask
use Rattle.bor_desk.specs.declared.request.RegistrarRequest.{RegistrarRequest}
use Rattle.bor_desk.specs.declared.request.RegistrarRequest.TheVariants as office
use Rattle.bor_desk.specs.declared.reply.DeskReply.{DeskReply}
use Rattle.bor_desk.specs.declared.reply.DeskReply.TheVariants as tell
use Rattle.bor_desk.specs.Refusals.{refusal_name}
use Rattle.bor_desk.specs.Step.{Answer, exactly}
use Rattle.bor_desk.specs.Outcomes.{IsTold}
use Rattle.bor_desk.specs.Runs.{Asked, Occasion, exchange, history, solo}
use Rattle.bor_http.specs.declared.incoming.fault.Refusal.TheVariants.{NoPath}
use Rattle.bor_http.specs.Incoming.Words.{refusal_word}
use Rattle.bor_wire.specs.Rendering.Bodies.{filing_text, lines_text, published_text, moved_text, agent_text, register_text, refusal_text}
use Rattle.bor_wire.specs.Rendering.Heads.{phrase, status_line, field_line, own_line, head_bytes}
use Rattle.bor_wire.specs.Rendering.Replies.{Said, refused, answered, bytes_of}
use Rattle.bor_wire.specs.Spelling.Spell.{Spelled}
use Rattle.bor_wire.specs.Runs.{AreReplies}
use Rattle.bor_wire.specs.AllRefusals.{register_refusals}
use Rattle.bor_wire.specs.Headline.{own_exchanges, replies_in}
use Rattle.bor_wire.specs.Histories.{SameHistorySameBytes, asked_in, received}
use Rattle.bor_wire.specs.Nobody.{IsNobodys}

-- ---- a run

abbrev start : Register
start = two_agents today

abbrev by : List ℕ → Request → Spelled
by token request = Ok (record { token = token; request = request })

abbrev pub alder : AgentRequest → Spelled
alder request = by (codes "alder-token-000001") (of.Agent request)

abbrev pub birch : AgentRequest → Spelled
birch request = by (codes "birch-token-000001") (of.Agent request)

abbrev cedar : AgentRequest → Spelled
cedar request = by (codes "cedar-token-000001") (of.Agent request)

abbrev pub registrar : RegistrarRequest → Spelled
registrar request = by (codes "registrar-token-0001") (of.Registrar request)

-- the entity e1
abbrev file : List ℕ
file = codes "[{\"statementId\":\"s1\",\"statementDate\":\"2024-01-10\",\"declarationSubject\":\"c1\",\"recordId\":\"e1\",\"recordType\":\"entity\",\"recordDetails\":{\"entityType\":{\"type\":\"registeredEntity\"}}}]"

-- one that spells no request; one of cedar, whose token nobody has yet; birch publishes a file; cedar is enrolled
abbrev inputs : List Spelled
inputs =
    Err NoPath
    ∷ cedar ask.Filings
    ∷ alder ask.Published
    ∷ birch (ask.Lodge (codes "f1") today file)
    ∷ alder ask.Filings
    ∷ alder ask.Published
    ∷ registrar (office.Enrol (codes "cedar") (codes "cedar-token-000001"))
    ∷ cedar ask.Filings
    ∷ []

-- the bytes of an answer that is exactly a reply; no report, evidence or identifier is asked for here
abbrev bytes_told : Answer → List ℕ
bytes_told (exactly reply) = bytes_of (answered reply)
bytes_told answer = []

-- what a run sends where each request is replied to like this, by the requests before it and the register
abbrev pub sent_by : (List Asked → Register → Asked → List ℕ) → List Asked → Register → List Spelled → List (List ℕ)
sent_by reply earlier r [] = []
sent_by reply earlier r (Err why ∷ rest) = bytes_of (refused why) ∷ sent_by reply earlier r rest
sent_by reply earlier r (Ok asked ∷ rest) = reply earlier r asked ∷ sent_by reply (asked ∷ earlier) (exchange r asked).register rest

-- as this register does
abbrev pub own : List Asked → Register → Asked → List ℕ
own earlier r asked = bytes_told (exchange r asked).answer

abbrev sent : List (List ℕ)
sent = sent_by own [] start inputs

-- what an agent receives
abbrev to : List ℕ → List (List ℕ)
to name = received name start inputs sent

-- what is opened to compute a reply
unfoldable pub replier : ⊤
unfolding head_bytes status_line field_line own_line phrase digits filing_text lines_text published_text moved_text agent_text register_text refusal_text escape_byte refusal_name refusal_word file_fault_word fault_word field_word type_word status_word state_word day_text year_at month_at calendar reader
replier = tt

to_alder : to (codes "alder")
    ≡ codes "HTTP/1.1 200 OK\r\nContent-Type: application/json\r\nContent-Length: 2\r\nConnection: close\r\n\r\n[]"
    ∷ codes "HTTP/1.1 200 OK\r\nContent-Type: application/json\r\nContent-Length: 2\r\nConnection: close\r\n\r\n[]"
    ∷ codes "HTTP/1.1 200 OK\r\nContent-Type: application/json\r\nContent-Length: 149\r\nConnection: close\r\n\r\n[{\"agent\":\"birch\",\"due\":\"2024-02-01\",\"statements\":[{\"date\":\"2024-01-10\",\"declaration\":\"c1\",\"id\":\"s1\",\"record\":\"e1\",\"status\":\"new\",\"type\":\"entity\"}]}]"
    ∷ []
unfolding replier
to_alder = refl

-- its own lodging alone
to_birch : to (codes "birch")
    ≡ codes "HTTP/1.1 201 Created\r\nContent-Type: application/json\r\nContent-Length: 51\r\nConnection: close\r\n\r\n{\"due\":\"2024-02-01\",\"filing\":1,\"state\":\"published\"}" ∷ []
unfolding replier
to_birch = refl

-- not what it was told before its enrolment
to_cedar : to (codes "cedar")
    ≡ codes "HTTP/1.1 200 OK\r\nContent-Type: application/json\r\nContent-Length: 2\r\nConnection: close\r\n\r\n[]" ∷ []
unfolding replier
to_cedar = refl

-- what is nobody's: which bytes spell no request, and whose token nobody has yet
nobodys : IsNobodys start (Err NoPath) × IsNobodys start (cedar ask.Filings)
nobodys = (tt, refl)

-- it is sent its refusal, and no agent receives it
to_nobody : take 2 sent
    ≡ codes "HTTP/1.1 404 Not Found\r\nContent-Type: application/json\r\nContent-Length: 20\r\nConnection: close\r\n\r\n{\"refusal\":\"NoPath\"}"
    ∷ codes "HTTP/1.1 401 Unauthorized\r\nContent-Type: application/json\r\nContent-Length: 21\r\nWWW-Authenticate: Bearer\r\nConnection: close\r\n\r\n{\"refusal\":\"NoAgent\"}"
    ∷ []
unfolding replier
to_nobody = refl

-- what each agent asked for, in its history
abbrev asked_by : List ℕ → List Request
asked_by name = map (λ (o : Occasion). o.request) (history name start (asked_in inputs))

asked_by_alder : asked_by (codes "alder") ≡ map of.Agent (ask.Published ∷ ask.Filings ∷ ask.Published ∷ [])
unfolding calendar reader
asked_by_alder = refl

asked_by_cedar : asked_by (codes "cedar") ≡ of.Agent ask.Filings ∷ []
unfolding calendar reader
asked_by_cedar = refl

-- alone, with its history, an agent receives the same
abbrev alone : List ℕ → List (List ℕ)
alone name = map bytes_told (solo name [] (history name start (asked_in inputs)))

abbrev agents : List (List ℕ)
agents = codes "alder" ∷ codes "birch" ∷ codes "cedar" ∷ []

each_alone : map alone agents ≡ map to agents
unfolding replier
each_alone = refl

-- an agent's own exchanges: the same replies, and how many filings of others were published at each
own_of_alder : replies_in (own_exchanges (codes "alder") start inputs sent) ≡ to (codes "alder")
unfolding replier
own_of_alder = refl

published_beside_alder : map (λ e. length e.others) (own_exchanges (codes "alder") start inputs sent) ≡ 0 ∷ 1 ∷ 1 ∷ []
unfolding replier
published_beside_alder = refl

-- ---- a lodging that is sent again

abbrev lodging : Spelled
lodging = birch (ask.Lodge (codes "f1") tomorrow file)

-- it is a draft, as it was; the next day it is published; and the key is refused to another file
abbrev again : List Spelled
again =
    lodging ∷ lodging ∷ registrar (office.Day tomorrow) ∷ lodging ∷ birch (ask.Lodge (codes "f1") tomorrow (codes "[]")) ∷ []

to_birch_again : received (codes "birch") start again (sent_by own [] start again)
    ≡ codes "HTTP/1.1 201 Created\r\nContent-Type: application/json\r\nContent-Length: 47\r\nConnection: close\r\n\r\n{\"due\":\"2024-02-02\",\"filing\":1,\"state\":\"draft\"}"
    ∷ codes "HTTP/1.1 200 OK\r\nContent-Type: application/json\r\nContent-Length: 47\r\nConnection: close\r\n\r\n{\"due\":\"2024-02-02\",\"filing\":1,\"state\":\"draft\"}"
    ∷ codes "HTTP/1.1 200 OK\r\nContent-Type: application/json\r\nContent-Length: 51\r\nConnection: close\r\n\r\n{\"due\":\"2024-02-02\",\"filing\":1,\"state\":\"published\"}"
    ∷ codes "HTTP/1.1 409 Conflict\r\nContent-Type: application/json\r\nContent-Length: 23\r\nConnection: close\r\n\r\n{\"refusal\":\"KeyReused\"}"
    ∷ []
unfolding replier
to_birch_again = refl

-- ---- a token that is renewed

abbrev renewal : Spelled
renewal = registrar (office.Renew (codes "birch") (codes "birch-token-000002"))

-- the renewal is sent again; birch asks by its old token, and then by the new one; a draft isn't counted
abbrev renewed : List Spelled
renewed =
    lodging
    ∷ renewal
    ∷ renewal
    ∷ lodging
    ∷ by (codes "birch-token-000002") (of.Agent (ask.Lodge (codes "f1") tomorrow file))
    ∷ registrar office.Register
    ∷ registrar (office.Day tomorrow)
    ∷ registrar office.Register
    ∷ []

sent_renewed : sent_by own [] start renewed
    ≡ codes "HTTP/1.1 201 Created\r\nContent-Type: application/json\r\nContent-Length: 47\r\nConnection: close\r\n\r\n{\"due\":\"2024-02-02\",\"filing\":1,\"state\":\"draft\"}"
    ∷ codes "HTTP/1.1 200 OK\r\nContent-Type: application/json\r\nContent-Length: 17\r\nConnection: close\r\n\r\n{\"agent\":\"birch\"}"
    ∷ codes "HTTP/1.1 200 OK\r\nContent-Type: application/json\r\nContent-Length: 17\r\nConnection: close\r\n\r\n{\"agent\":\"birch\"}"
    ∷ codes "HTTP/1.1 401 Unauthorized\r\nContent-Type: application/json\r\nContent-Length: 21\r\nWWW-Authenticate: Bearer\r\nConnection: close\r\n\r\n{\"refusal\":\"NoAgent\"}"
    ∷ codes "HTTP/1.1 200 OK\r\nContent-Type: application/json\r\nContent-Length: 47\r\nConnection: close\r\n\r\n{\"due\":\"2024-02-02\",\"filing\":1,\"state\":\"draft\"}"
    ∷ codes "HTTP/1.1 200 OK\r\nContent-Type: application/json\r\nContent-Length: 95\r\nConnection: close\r\n\r\n{\"agents\":[{\"agent\":\"alder\",\"published\":0},{\"agent\":\"birch\",\"published\":0}],\"day\":\"2024-02-01\"}"
    ∷ codes "HTTP/1.1 200 OK\r\nContent-Type: application/json\r\nContent-Length: 20\r\nConnection: close\r\n\r\n{\"day\":\"2024-02-02\"}"
    ∷ codes "HTTP/1.1 200 OK\r\nContent-Type: application/json\r\nContent-Length: 95\r\nConnection: close\r\n\r\n{\"agents\":[{\"agent\":\"alder\",\"published\":0},{\"agent\":\"birch\",\"published\":1}],\"day\":\"2024-02-02\"}"
    ∷ []
unfolding replier
sent_renewed = refl

-- by both tokens it is birch that asks, and not by the old one once it is renewed
to_birch_renewed : received (codes "birch") start renewed (sent_by own [] start renewed)
    ≡ codes "HTTP/1.1 201 Created\r\nContent-Type: application/json\r\nContent-Length: 47\r\nConnection: close\r\n\r\n{\"due\":\"2024-02-02\",\"filing\":1,\"state\":\"draft\"}"
    ∷ codes "HTTP/1.1 200 OK\r\nContent-Type: application/json\r\nContent-Length: 47\r\nConnection: close\r\n\r\n{\"due\":\"2024-02-02\",\"filing\":1,\"state\":\"draft\"}"
    ∷ []
unfolding replier
to_birch_renewed = refl

-- ---- the order of refusals

-- a file with no statements, due before the register's day: both refusals hold, and the first is said
two_refusals : register_refusals (two_agents tomorrow) (Some (Agent (codes "alder"))) (of.Agent (ask.Lodge (codes "f1") today (codes "[]"))) ≡ refuse.DuePast ∷ refuse.Read NoStatements ∷ []
unfolding replier
two_refusals = refl

-- an agent asks for what is the registrar's, and the day goes back: the second isn't looked at for an agent
one_refusal : register_refusals (two_agents tomorrow) (Some (Agent (codes "alder"))) (of.Registrar (office.Day today)) ≡ refuse.NotRegistrar ∷ []
one_refusal = refl

-- a renewal for nobody, by the registrar's own token: both hold
no_renewal : register_refusals start (Some Registrar) (of.Registrar (office.Renew (codes "cedar") (codes "registrar-token-0001"))) ≡ refuse.NoSuchAgent ∷ refuse.TokenTaken ∷ []
no_renewal = refl

-- an agent's own token is no other's
own_token : register_refusals start (Some Registrar) (of.Registrar (office.Renew (codes "birch") (codes "birch-token-000001"))) ≡ []
own_token = refl

-- ---- the replies are those of the run

abbrev is_exact : Answer → Bool
is_exact (exactly reply) = true
is_exact answer = false

-- whether no answer of the run is a report
abbrev pub has_no_report : Register → List Spelled → Bool
has_no_report r [] = true
has_no_report r (Err why ∷ rest) = has_no_report r rest
has_no_report r (Ok asked ∷ rest) = is_exact (exchange r asked).answer && has_no_report (exchange r asked).register rest

abbrev IsReplyBy : Answer → Type 0
IsReplyBy answer = (said : Said) × ((reply : DeskReply) × IsTold answer reply × (said ≡ answered reply)) × (bytes_told answer ≡ bytes_of said)

by_answer : (answer : Answer) → is_exact answer ≡ true → IsReplyBy answer
by_answer (exactly reply) h = (answered reply, (reply, refl, refl), refl)
by_answer answer h = absurd cc

pub own_replies : (earlier : List Asked) (r : Register) (ss : List Spelled) → has_no_report r ss ≡ true → AreReplies r ss (sent_by own earlier r ss)
own_replies earlier r [] h = tt
own_replies earlier r (Err why ∷ rest) h = ((refused why, refl, refl), own_replies earlier r rest h)
own_replies earlier r (Ok asked ∷ rest) h =
    let split = and_parts (is_exact (exchange r asked).answer) (has_no_report (exchange r asked).register rest) h in
    (by_answer (exchange r asked).answer split.0, own_replies (asked ∷ earlier) (exchange r asked).register rest split.1)

sent_in_the_run : AreReplies start inputs sent
unfolding calendar reader
sent_in_the_run = own_replies [] start inputs refl

-- ---- replies that tell of others

-- the law of histories, of runs in which this was sent
abbrev SameBytesOf : (Register → List Spelled → List (List ℕ) → Type 0) → Type 0
SameBytesOf AreSent = (name : List ℕ) (r q : Register) (inputs others : List Spelled) (replies told : List (List ℕ)) → IsLegal r → IsLegal q →
    AreSent r inputs replies → AreSent q others told →
    filings_of name r.members ≡ filings_of name q.members → history name r (asked_in inputs) ≡ history name q (asked_in others) →
    received name r inputs replies ≡ received name q others told

its_law : SameBytesOf AreReplies ≡ SameHistorySameBytes
its_law = refl

-- each request was replied to like this
abbrev IsSentBy : (List Asked → Register → Asked → List ℕ) → Register → List Spelled → List (List ℕ) → Type 0
IsSentBy reply r inputs replies = replies ≡ sent_by reply [] r inputs

abbrev alder_receives : (List Asked → Register → Asked → List ℕ) → List Spelled → List (List ℕ)
alder_receives reply run = received (codes "alder") start run (sent_by reply [] start run)

abbrev are_same : List (List ℕ) → List (List ℕ) → Bool
are_same xs ys = is_same (flat_map (λ bytes. bytes) xs) (flat_map (λ bytes. bytes) ys)

no_filings : AreLegal []
no_filings = record { numbered = tt; few = omega arith; keyed = tt; read = tt }

legal : IsLegal start
legal = record { names = ((refl, tt), (tt, tt)); tokens = (refl, (refl, tt)); registrar = refl; own = (no_filings, (no_filings, tt)) }

-- the law is false of replies by which alder receives different bytes in two runs with one history of alder
refuted : (reply : List Asked → Register → Asked → List ℕ) (one other : List Spelled) → history (codes "alder") start (asked_in one) ≡ history (codes "alder") start (asked_in other)
    → are_same (alder_receives reply one) (alder_receives reply other) ≡ false → are_same (alder_receives reply other) (alder_receives reply other) ≡ true → SameBytesOf (IsSentBy reply) → ⊥
refuted reply one other past differ same law =
    let e = law (codes "alder") start start one other (sent_by reply [] start one) (sent_by reply [] start other) legal legal refl refl refl past in
    true≢false (sym same ∙ ap (λ xs. are_same xs (alder_receives reply other)) (sym e) ∙ differ)

-- birch lodges a draft
abbrev drafted : List Spelled → List Spelled
drafted run = birch (ask.Lodge (codes "f1") tomorrow file) ∷ run

abbrev lists : List Spelled
lists = alder ask.Filings ∷ []

abbrev lodges : List Spelled
lodges = alder (ask.Lodge (codes "f1") today file) ∷ []

-- by its own replies alder receives the same
lists_the_same : alder_receives own (drafted lists) ≡ alder_receives own lists
unfolding replier
lists_the_same = refl

lodges_the_same : alder_receives own (drafted lodges) ≡ alder_receives own lodges
unfolding replier
lodges_the_same = refl

-- what birch publishes, alder is told of: it is in alder's history
publication_is_told : are_same (alder_receives own (birch (ask.Lodge (codes "f1") today file) ∷ alder ask.Published ∷ [])) (alder_receives own (drafted (alder ask.Published ∷ []))) ≡ false
unfolding replier
publication_is_told = refl

-- a count of the filings of all agents
abbrev filings_in : List Member → ℕ
filings_in [] = 0
filings_in (m ∷ ms) = length m.filings + filings_in ms

abbrev with_count : List Asked → Register → Asked → List ℕ
with_count earlier r asked = own earlier r asked ++ decimal (filings_in r.members)

count_of_all : SameBytesOf (IsSentBy with_count) → ⊥
unfolding replier
count_of_all = refuted with_count (drafted lists) lists refl refl refl

-- a Content-Length of what others have lodged
abbrev bytes_in : List Member → ℕ
bytes_in [] = 0
bytes_in (m ∷ ms) = length (flat_map (λ (f : AcceptedFiling). f.bytes) m.filings) + bytes_in ms

abbrev with_length : List Asked → Register → Asked → List ℕ
with_length earlier r asked = head_bytes 200 None (bytes_in r.members)

length_of_a_draft : SameBytesOf (IsSentBy with_length) → ⊥
unfolding replier
length_of_a_draft = refuted with_length (drafted lists) lists refl refl refl

-- a lodging told by its place in the order of acceptance among all agents
abbrev with_place : List Asked → Register → Asked → List ℕ
with_place earlier r asked = own earlier r asked ++ decimal (filings_in (exchange r asked).register.members)

order_of_acceptance : SameBytesOf (IsSentBy with_place) → ⊥
unfolding replier
order_of_acceptance = refuted with_place (drafted lodges) lodges refl refl refl

-- a 409 where any agent has lodged something under the key
abbrev is_key_taken : Request → List Member → Bool
is_key_taken request [] = false
is_key_taken (of.Agent (ask.Lodge key due file)) (m ∷ ms) = is_some (filing_keyed key m.filings) || is_key_taken (of.Agent (ask.Lodge key due file)) ms
is_key_taken request (m ∷ ms) = false

abbrev with_one_key : List Asked → Register → Asked → List ℕ
with_one_key earlier r asked = if is_key_taken asked.request r.members then bytes_of (answered (tell.Refused refuse.KeyReused)) else own earlier r asked

key_of_another : SameBytesOf (IsSentBy with_one_key) → ⊥
unfolding replier
key_of_another = refuted with_one_key (drafted lodges) lodges refl refl refl

-- a list of filings as whoever asked for one last was told it
abbrev is_list : Request → Bool
is_list (of.Agent ask.Filings) = true
is_list request = false

abbrev last_asker : Asked → List Asked → Asked
last_asker asked [] = asked
last_asker asked (one ∷ earlier) = if is_list one.request then one else last_asker asked earlier

abbrev with_cache : List Asked → Register → Asked → List ℕ
with_cache earlier r asked = own earlier r (if is_list asked.request then last_asker asked earlier else asked)

cached_reply : SameBytesOf (IsSentBy with_cache) → ⊥
unfolding replier
cached_reply = refuted with_cache (drafted (birch ask.Filings ∷ lists)) lists refl refl refl
