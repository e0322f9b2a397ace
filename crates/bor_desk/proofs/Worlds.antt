-- Two runs in which alder's history is the same, though birch does more in the one than in the other: alder is answered the same, by the definitions themselves. And a run of three agents, one of whom is enrolled in it.
use Rattle.std.proofs.Common.{◌≡◌, ℕ, ℤ, pos, List, [], ◌∷◌, ◌++◌, length, map, Bool, true, false, Option, Some, None, Ok, codes, refl, sym, ap, ◌∙◌}
use Rattle.std.specs.List.{filter_map, list_all}
use Rattle.std.specs.Prelude.{unwrap_or}
use Rattle.bor_terms.specs.Texts.{is_same}
use Rattle.bor_terms.proofs.Examples.{calendar}
use Rattle.bods_read.specs.declared.statement.Statement.{Statement}
use Rattle.bods_read.specs.declared.statement.Status.TheVariants.{New}
use Rattle.bods_read.specs.declared.details.Details.{Details}
use Rattle.bods_read.specs.declared.details.Details.TheVariants.{Entity, Person, Relationship}
use Rattle.bods_read.specs.declared.details.EntityKind.TheVariants.{RegisteredEntity}
use Rattle.bods_read.specs.declared.details.PersonKind.TheVariants.{KnownPerson}
use Rattle.bods_read.specs.declared.details.Identifier.{Identifier}
use Rattle.bods_read.specs.declared.interest.Interest.{Interest}
use Rattle.bods_read.specs.declared.interest.InterestKind.{InterestKind}
use Rattle.bods_read.specs.declared.interest.InterestKind.TheVariants as interests
use Rattle.bods_read.specs.declared.interest.Directness.TheVariants as directness
use Rattle.bods_read.specs.File.{reading}
use Rattle.bods_read.proofs.Examples.{reader}
use Rattle.bor_records.specs.declared.row.Entry.{Entry}
use Rattle.bor_records.specs.declared.row.Row.{Row}
use Rattle.bor_register.specs.declared.filing.Outward.{Outward}
use Rattle.bor_register.specs.declared.filing.State.{State}
use Rattle.bor_register.specs.declared.filing.State.TheVariants.{Draft, Published, Withdrawn}
use Rattle.bor_register.specs.Register.{Register, empty_register, new_member, with_member, filings_of}
use Rattle.bor_records.specs.declared.links.node.Node.{Node}
use Rattle.bor_records.specs.declared.links.node.NodeInfo.TheVariants as nodes
use Rattle.bor_records.specs.declared.links.node.OpenNode.{OpenNode}
use Rattle.bor_records.specs.declared.links.node.Link.{Link}
use Rattle.bor_records.specs.Links.Rows.{person_named}
use Rattle.bor_records.specs.Links.Shown.{Shown}
use Rattle.bor_records.specs.Links.Aliases.{Alias}
use Rattle.bor_chains.specs.Chains.{IsJoinedBy}
use Rattle.bor_records.proofs.OnLinks.Found.{here, there}
use Rattle.bor_desk.specs.declared.request.Request.TheVariants as of
use Rattle.bor_desk.specs.declared.request.AgentRequest.{AgentRequest}
use Rattle.bor_desk.specs.declared.request.AgentRequest.TheVariants as ask
use Rattle.bor_desk.specs.declared.request.RegistrarRequest.{RegistrarRequest}
use Rattle.bor_desk.specs.declared.request.RegistrarRequest.TheVariants as office
use Rattle.bor_desk.specs.declared.reply.DeskReply.TheVariants as tell
use Rattle.bor_desk.specs.declared.refusal.Refusal.TheVariants.{NoAgent}
use Rattle.bor_desk.specs.Step.{Answer, exactly, report, evidence, refused}
use Rattle.bor_desk.specs.Runs.{Asked, Occasion, answers, answers_to, history, register_after, solo}

-- ---- the files

-- the text of a statement of 2024-01-10
abbrev statement : List ℕ → List ℕ → List ℕ → List ℕ → List ℕ → List ℕ
statement id declaration rec kind details =
    codes "{\"statementId\":\"" ++ id ++ codes "\",\"statementDate\":\"2024-01-10\",\"declarationSubject\":\"" ++ declaration
    ++ codes "\",\"recordId\":\"" ++ rec ++ codes "\",\"recordType\":\"" ++ kind ++ codes "\",\"recordDetails\":{" ++ details ++ codes "}}"

-- of a registered entity
abbrev entity : List ℕ → List ℕ → List ℕ → List ℕ → List ℕ
entity id declaration rec more = statement id declaration rec (codes "entity") (codes "\"entityType\":{\"type\":\"registeredEntity\"}" ++ more)

abbrev numbered : List ℕ
numbered = codes ",\"identifiers\":[{\"scheme\":\"GB-COH\",\"id\":\"00000001\"}]"

-- of a person with a name
abbrev person : List ℕ → List ℕ → List ℕ → List ℕ → List ℕ
person id declaration rec name = statement id declaration rec (codes "person") (codes "\"personType\":\"knownPerson\",\"names\":[{\"fullName\":\"" ++ name ++ codes "\"}]")

-- of a share that a party has in a subject
abbrev relationship : List ℕ → List ℕ → List ℕ → List ℕ → List ℕ → List ℕ → List ℕ → List ℕ
relationship id declaration rec subject party kind percent =
    statement id declaration rec (codes "relationship") (codes "\"subject\":\"" ++ subject ++ codes "\",\"interestedParty\":\"" ++ party
    ++ codes "\",\"interests\":[{\"type\":\"" ++ kind ++ codes "\",\"share\":{\"exact\":" ++ percent ++ codes "}}]")

-- birch's drafts of declaration c1
abbrev x1 : List ℕ
x1 = codes "[" ++ entity (codes "s9") (codes "c1") (codes "z1") [] ++ codes "]"

abbrev x2 : List ℕ
x2 = codes "[" ++ entity (codes "s8") (codes "c1") (codes "z2") [] ++ codes "]"

-- birch's declaration c9: the entity b1, the person bp of this name, and so many percent of its votes
abbrev x3_with : List ℕ → List ℕ → List ℕ
x3_with name percent =
    codes "[" ++ entity (codes "s1") (codes "c9") (codes "b1") numbered ++ codes ","
    ++ person (codes "s2") (codes "c9") (codes "bp") name ++ codes ","
    ++ relationship (codes "s3") (codes "c9") (codes "br") (codes "b1") (codes "bp") (codes "votingRights") percent ++ codes "]"

abbrev x3 : List ℕ
x3 = x3_with (codes "Bea Pine") (codes "100")

-- alder's declaration c1: the entity e1, and a share of 10 percent in it of a1, which has the identifier of birch's b1
abbrev g1 : List ℕ
g1 =
    codes "[" ++ entity (codes "s1") (codes "c1") (codes "e1") [] ++ codes ","
    ++ entity (codes "s2") (codes "c1") (codes "a1") numbered ++ codes ","
    ++ relationship (codes "s3") (codes "c1") (codes "r1") (codes "e1") (codes "a1") (codes "shareholding") (codes "10") ++ codes "]"

-- ---- the runs

-- 2024-02-01, the day after, 2024-03-01 and 2024-12-01
abbrev today : ℤ
today = pos 19754

abbrev tomorrow : ℤ
tomorrow = pos 19755

abbrev march : ℤ
march = pos 19783

abbrev december : ℤ
december = pos 20058

-- the register with alder and birch and no filings
abbrev start : Register
start =
    let empty = empty_register (codes "registrar-token-0001") today in
    record empty {
      members = with_member (new_member (codes "alder") (codes "alder-token-000001")) (with_member (new_member (codes "birch") (codes "birch-token-000001")) empty.members);
    }

abbrev by_alder : AgentRequest → Asked
by_alder request = record { token = codes "alder-token-000001"; request = of.Agent request }

abbrev by_birch : AgentRequest → Asked
by_birch request = record { token = codes "birch-token-000001"; request = of.Agent request }

-- what alder asks in each world
abbrev asked : List Asked
asked =
    by_alder (ask.Lodge (codes "g1") march g1)
    ∷ by_alder ask.Filings
    ∷ by_alder ask.Published
    ∷ by_alder (ask.Snapshot (codes "birch") (codes "c9") None)
    ∷ by_alder (ask.Snapshot (codes "birch") (codes "c1") None)
    ∷ by_alder (ask.Chains (record { agent = codes "alder"; declaration = codes "c1"; rec = codes "e1" }) None)
    ∷ by_alder (ask.Evidence (record { agent = codes "alder"; declaration = codes "c1"; rec = codes "e1" }) None)
    ∷ by_alder (ask.Lodge (codes "g1") march g1)
    ∷ []

-- birch lodges two drafts, withdraws the second, and publishes x3 as its third filing
abbrev first : List Asked
first =
    by_birch (ask.Lodge (codes "x1") december x1)
    ∷ by_birch (ask.Lodge (codes "x2") december x2)
    ∷ by_birch (ask.Withdraw (codes "x2"))
    ∷ by_birch (ask.Lodge (codes "x3") today x3)
    ∷ asked

-- birch publishes x3 as its first filing
abbrev second : List Asked
second = by_birch (ask.Lodge (codes "x3") today x3) ∷ asked

-- ---- what is told

abbrev settled : List ℕ → List ℕ → List ℕ → Details → Statement
settled id declaration rec details = record { id = id; day = pos 19732; declaration = declaration; rec = rec; status = Some New; details = details }

abbrev registered : List Identifier → Details
registered identifiers = Entity RegisteredEntity None identifiers

abbrev number_one : Identifier
number_one = record { scheme = codes "GB-COH"; id = codes "00000001" }

-- an interest of exactly so many percent
abbrev exactly_of : InterestKind → ℕ → Interest
exactly_of kind percent = record {
  kind = kind;
  directness = directness.Unknown;
  share = Some (record { low = percent; low_open = false; high = percent; high_open = false });
  starts = None;
  ends = None;
}

-- the status that the file leaves out
abbrev unsettled : Statement → Statement
unsettled s = record s { status = None }

-- the statements of g1, settled
abbrev e1 : Statement
e1 = settled (codes "s1") (codes "c1") (codes "e1") (registered [])

abbrev a1 : Statement
a1 = settled (codes "s2") (codes "c1") (codes "a1") (registered (number_one ∷ []))

abbrev r1 : Statement
r1 = settled (codes "s3") (codes "c1") (codes "r1") (Relationship (Some (codes "e1")) (Some (codes "a1")) (exactly_of interests.Shareholding 10 ∷ []))

-- the statements of x3, settled
abbrev b1 : Statement
b1 = settled (codes "s1") (codes "c9") (codes "b1") (registered (number_one ∷ []))

abbrev bp : Statement
bp = settled (codes "s2") (codes "c9") (codes "bp") (Person KnownPerson (Some (codes "Bea Pine")))

abbrev br : Statement
br = settled (codes "s3") (codes "c9") (codes "br") (Relationship (Some (codes "b1")) (Some (codes "bp")) (exactly_of interests.VotingRights 100 ∷ []))

abbrev entry : Statement → Entry
entry s = record { status = New; statement = s }

abbrev node : List ℕ → List ℕ → List ℕ → Node
node agent declaration rec = record { agent = agent; declaration = declaration; rec = rec }

abbrev e1_node : Node
e1_node = node (codes "alder") (codes "c1") (codes "e1")

abbrev a1_node : Node
a1_node = node (codes "alder") (codes "c1") (codes "a1")

abbrev b1_node : Node
b1_node = node (codes "birch") (codes "c9") (codes "b1")

abbrev bp_node : Node
bp_node = node (codes "birch") (codes "c9") (codes "bp")

abbrev entity_node : Node → List Identifier → OpenNode
entity_node n identifiers = record { node = n; info = nodes.Entity true; identifiers = identifiers }

-- a1 holds a share of e1
abbrev upper : Link
upper = record { rec = codes "r1"; subject = e1_node; party = a1_node; stake = false; holding = true }

-- bp has a majority of b1
abbrev lower : Link
lower = record { rec = codes "br"; subject = b1_node; party = bp_node; stake = true; holding = true }

-- alder's own draft, and what birch has published
abbrev seen : Shown
seen = record {
  nodes = entity_node e1_node [] ∷ entity_node a1_node (number_one ∷ []) ∷ entity_node b1_node (number_one ∷ [])
      ∷ record { node = bp_node; info = nodes.Person (person_named (Some (codes "Bea Pine"))); identifiers = [] } ∷ [];
  links = upper ∷ lower ∷ [];
}

-- and as rows, in which no number of a filing is
abbrev row : List ℕ → ℕ → Statement → Row
row agent place s = record { agent = agent; filing = 0; place = place; status = New; statement = s }

abbrev rows : List Row
rows = row (codes "alder") 1 e1 ∷ row (codes "alder") 2 a1 ∷ row (codes "alder") 3 r1 ∷ row (codes "birch") 1 b1 ∷ row (codes "birch") 2 bp ∷ row (codes "birch") 3 br ∷ []

abbrev lodged : ℕ → ℤ → State → Bool → Answer
lodged number due state fresh = exactly (tell.Lodged (record { number = number; due = due; state = state; fresh = fresh }))

abbrev told : List Answer
told =
    lodged 1 march Draft true
    ∷ exactly (tell.Filings (record { key = codes "g1"; number = 1; due = march; state = Draft } ∷ []))
    ∷ exactly (tell.Published (record { agent = codes "birch"; due = today; statements = b1 ∷ bp ∷ br ∷ [] } ∷ []))
    ∷ exactly (tell.Snapshot today (entry b1 ∷ entry bp ∷ entry br ∷ []))
    ∷ exactly (tell.Snapshot today [])
    ∷ report e1_node today seen
    ∷ evidence e1_node today rows
    ∷ lodged 1 march Draft false
    ∷ []

-- ---- what the files say

-- 1: the drafts are read
x1-reading : reading x1 ≡ Ok (unsettled (settled (codes "s9") (codes "c1") (codes "z1") (registered [])) ∷ [])
unfolding reader calendar
x1-reading = refl

x2-reading : reading x2 ≡ Ok (unsettled (settled (codes "s8") (codes "c1") (codes "z2") (registered [])) ∷ [])
unfolding reader calendar
x2-reading = refl

-- 2: x3 is read
x3-reading : reading x3 ≡ Ok (unsettled b1 ∷ unsettled bp ∷ unsettled br ∷ [])
unfolding reader calendar
x3-reading = refl

-- 3: g1 is read
g1-reading : reading g1 ≡ Ok (unsettled e1 ∷ unsettled a1 ∷ unsettled r1 ∷ [])
unfolding reader calendar
g1-reading = refl

-- ---- the worlds differ for birch

-- 4: in the first world its filings are numbered 1, 2 and 3
birch_in_first : answers_to (codes "birch") start first
    ≡ lodged 1 december Draft true ∷ lodged 2 december Draft true
    ∷ exactly (tell.Withdrawn (record { key = codes "x2"; number = 2; due = december; state = Withdrawn })) ∷ lodged 3 today Published true ∷ []
unfolding reader calendar
birch_in_first = refl

-- 5: in the second world x3 is number 1
birch_in_second : answers_to (codes "birch") start second ≡ lodged 1 today Published true ∷ []
unfolding reader calendar
birch_in_second = refl

-- 6: the registers differ
worlds_differ : register_after start first ≡ register_after start second → ⊥
unfolding reader calendar
worlds_differ e = let counts = ap (λ (r : Register). length (filings_of (codes "birch") r.members)) e in absurd cc

-- ---- they are one for alder

-- 7: what alder is told in the first world
told_in_first : answers_to (codes "alder") start first ≡ told
unfolding reader calendar
told_in_first = refl

-- 8: it is told the same in the second
told_in_second : answers_to (codes "alder") start second ≡ told
unfolding reader calendar
told_in_second = refl

-- 9: so its answers are equal
same_answers : answers_to (codes "alder") start first ≡ answers_to (codes "alder") start second
same_answers = told_in_first ∙ sym told_in_second

-- 10: its history is the same: the days, what birch had published, and its requests
same_history : history (codes "alder") start first ≡ history (codes "alder") start second
unfolding reader calendar
same_history = refl

-- 11: alone with that history it is told the same
told_alone : solo (codes "alder") [] (history (codes "alder") start first) ≡ told
unfolding reader calendar
told_alone = refl

-- 12: the report that it is told names birch's person, by way of the identifier
bea_is_joined : IsJoinedBy seen e1_node bp_node (person_named (Some (codes "Bea Pine"))) (lower ∷ upper ∷ [])
bea_is_joined =
    let alias : Alias seen b1_node a1_node = record { one = entity_node b1_node (number_one ∷ []); two = entity_node a1_node (number_one ∷ []); one_is = refl; two_is = refl; alike = refl } in
    (refl, (there upper (lower ∷ []) lower (here lower []), refl, refl, (a1_node ∷ [], (alias, refl)), refl, (here upper (lower ∷ []), refl, refl, ([], refl))))

-- ---- other worlds, which aren't one for alder

-- what each answer has of these, one after the other
abbrev all_in : {X : Type 0} → (Answer → List X) → List Answer → List X
all_in of [] = []
all_in of (answer ∷ rest) = of answer ++ all_in of rest

-- the names of the persons in a report
abbrev names_of : List OpenNode → List (Option (List ℕ))
names_of shown = filter_map (λ (n : OpenNode). elim n.info [ nodes.Entity legal ↦ None | nodes.Person info ↦ Some info.name ]) shown

abbrev names : Answer → List (Option (List ℕ))
names (report entity day shown) = names_of shown.nodes
names answer = []

-- which links of a report are majority stakes
abbrev stakes : Answer → List Bool
stakes (report entity day shown) = map (λ (l : Link). l.stake) shown.links
stakes answer = []

-- the agents of the outward forms
abbrev publishers : Answer → List (List ℕ)
publishers (exactly (tell.Published outwards)) = map (λ (o : Outward). o.agent) outwards
publishers answer = []

-- what alder is told where this went before
abbrev told_after : List Asked → List Answer
told_after earlier = answers_to (codes "alder") start (earlier ++ asked)

abbrev birch_publishes : List ℕ → List Asked
birch_publishes file = by_birch (ask.Lodge (codes "x3") today file) ∷ []

-- 13: where birch's person has another name, alder is told that name
other_name : all_in names (told_after (birch_publishes (x3_with (codes "Ann Moss") (codes "100")))) ≡ Some (codes "Ann Moss") ∷ []
unfolding reader calendar
other_name = refl

bea_isnt_ann : Some (codes "Bea Pine") ∷ [] ≡ Some (codes "Ann Moss") ∷ [] → ⊥
bea_isnt_ann e = let no : true ≡ false = ap (list_all (λ (name : Option (List ℕ)). is_same (unwrap_or name []) (codes "Bea Pine"))) e in absurd cc

name_differs : answers_to (codes "alder") start first ≡ told_after (birch_publishes (x3_with (codes "Ann Moss") (codes "100"))) → ⊥
name_differs e = bea_isnt_ann (ap (all_in names) (sym told_in_first ∙ e) ∙ other_name)

-- 14: where birch's person has 40 percent of the votes, alder is told of no majority
other_share : all_in stakes (told_after (birch_publishes (x3_with (codes "Bea Pine") (codes "40")))) ≡ false ∷ false ∷ []
unfolding reader calendar
other_share = refl

one_majority : false ∷ true ∷ [] ≡ false ∷ false ∷ [] → ⊥
one_majority e = absurd cc

share_differs : answers_to (codes "alder") start first ≡ told_after (birch_publishes (x3_with (codes "Bea Pine") (codes "40"))) → ⊥
share_differs e = one_majority (ap (all_in stakes) (sym told_in_first ∙ e) ∙ other_share)

-- 15: where birch publishes nothing, alder is told nothing of birch
nothing : all_in publishers (told_after []) ≡ []
unfolding reader calendar
nothing = refl

one_publisher : codes "birch" ∷ [] ≡ [] → ⊥
one_publisher e = absurd cc

nothing_differs : answers_to (codes "alder") start first ≡ told_after [] → ⊥
nothing_differs e = one_publisher (ap (all_in publishers) (sym told_in_first ∙ e) ∙ nothing)

-- 16: where x3 is due a day later it is a draft still, and alder is told nothing of birch
later : all_in publishers (told_after (by_birch (ask.Lodge (codes "x3") tomorrow x3) ∷ [])) ≡ []
unfolding reader calendar
later = refl

later_differs : answers_to (codes "alder") start first ≡ told_after (by_birch (ask.Lodge (codes "x3") tomorrow x3) ∷ []) → ⊥
later_differs e = one_publisher (ap (all_in publishers) (sym told_in_first ∙ e) ∙ later)

-- 17: a draft of the same file leaves alder's answers as they are without it
draft_unseen : told_after (by_birch (ask.Lodge (codes "x3") tomorrow x3) ∷ []) ≡ told_after []
unfolding reader calendar
draft_unseen = refl

-- ---- the file of a withdrawn filing

-- 18: its agent reads it still, and another never
file_of_withdrawn : answers_to (codes "birch") start (by_birch (ask.Lodge (codes "x1") december x1) ∷ by_birch (ask.Withdraw (codes "x1")) ∷ by_alder (ask.File (codes "x1")) ∷ by_birch (ask.File (codes "x1")) ∷ [])
    ≡ lodged 1 december Draft true ∷ exactly (tell.Withdrawn (record { key = codes "x1"; number = 1; due = december; state = Withdrawn })) ∷ exactly (tell.File x1) ∷ []
unfolding reader calendar
file_of_withdrawn = refl

-- ---- three agents, a day and an enrolment

abbrev cedar : List ℕ
cedar = codes "cedar"

abbrev cedars_token : List ℕ
cedars_token = codes "cedar-token-000001"

abbrev by_cedar : AgentRequest → Asked
by_cedar request = record { token = cedars_token; request = of.Agent request }

abbrev by_registrar : RegistrarRequest → Asked
by_registrar request = record { token = codes "registrar-token-0001"; request = of.Registrar request }

-- cedar asks before it is enrolled; birch publishes two filings and alder, on the next day, one; then cedar is enrolled, and asks again
abbrev third : List Asked
third =
    by_cedar ask.Published
    ∷ by_birch (ask.Lodge (codes "x3") today x3)
    ∷ by_alder (ask.Lodge (codes "g1") tomorrow g1)
    ∷ by_birch (ask.Lodge (codes "x1") today x1)
    ∷ by_alder ask.Published
    ∷ by_registrar (office.Day tomorrow)
    ∷ by_registrar (office.Enrol cedar cedars_token)
    ∷ by_cedar ask.Published
    ∷ by_alder ask.Filings
    ∷ by_cedar ask.Filings
    ∷ []

-- the statement of x1, settled
abbrev z1 : Statement
z1 = settled (codes "s9") (codes "c1") (codes "z1") (registered [])

abbrev of_birch : List Outward
of_birch = record { agent = codes "birch"; due = today; statements = b1 ∷ bp ∷ br ∷ [] } ∷ record { agent = codes "birch"; due = today; statements = z1 ∷ [] } ∷ []

abbrev of_both : List Outward
of_both = record { agent = codes "alder"; due = tomorrow; statements = e1 ∷ a1 ∷ r1 ∷ [] } ∷ of_birch

abbrev occasion : ℤ → List Outward → AgentRequest → Occasion
occasion day others request = record { day = day; others = others; request = of.Agent request }

-- 19: each request is answered, in order
all_answers : answers start third
    ≡ refused NoAgent ∷ lodged 1 today Published true ∷ lodged 1 tomorrow Draft true ∷ lodged 2 today Published true ∷ exactly (tell.Published of_birch)
    ∷ exactly (tell.Day tomorrow) ∷ exactly (tell.Enrolled cedar) ∷ exactly (tell.Published of_both)
    ∷ exactly (tell.Filings (record { key = codes "g1"; number = 1; due = tomorrow; state = Published } ∷ [])) ∷ exactly (tell.Filings []) ∷ []
unfolding reader calendar
all_answers = refl

-- 20: what cedar asked before its enrolment is none of its exchanges
cedars_history : history cedar start third ≡ occasion tomorrow of_both ask.Published ∷ occasion tomorrow of_both ask.Filings ∷ []
unfolding reader calendar
cedars_history = refl

-- 21: alder's go over two days, and over what birch had published by then
alders_history : history (codes "alder") start third
    ≡ occasion today (record { agent = codes "birch"; due = today; statements = b1 ∷ bp ∷ br ∷ [] } ∷ []) (ask.Lodge (codes "g1") tomorrow g1)
    ∷ occasion today of_birch ask.Published ∷ occasion tomorrow of_birch ask.Filings ∷ []
unfolding reader calendar
alders_history = refl

-- 22: alone with its history each is told what it was told in the run
cedar_alone : solo cedar [] (history cedar start third) ≡ exactly (tell.Published of_both) ∷ exactly (tell.Filings []) ∷ []
unfolding reader calendar
cedar_alone = refl

alder_alone : solo (codes "alder") [] (history (codes "alder") start third)
    ≡ lodged 1 tomorrow Draft true ∷ exactly (tell.Published of_birch) ∷ exactly (tell.Filings (record { key = codes "g1"; number = 1; due = tomorrow; state = Published } ∷ [])) ∷ []
unfolding reader calendar
alder_alone = refl

-- 23: birch goes on with its two filings: in the register and alone with them, beside what alder has published, it is told the same
abbrev more : List Asked
more = by_birch ask.Filings ∷ by_birch ask.Published ∷ by_birch (ask.Lodge (codes "x1") today x1) ∷ []

abbrev told_more : List Answer
told_more =
    exactly (tell.Filings (record { key = codes "x3"; number = 1; due = today; state = Published } ∷ record { key = codes "x1"; number = 2; due = today; state = Published } ∷ []))
    ∷ exactly (tell.Published of_both)
    ∷ lodged 2 today Published false
    ∷ []

birch_told : answers_to (codes "birch") (register_after start third) more ≡ told_more
unfolding reader calendar
birch_told = refl

birch_alone : solo (codes "birch") (filings_of (codes "birch") (register_after start third).members) (history (codes "birch") (register_after start third) more) ≡ told_more
unfolding reader calendar
birch_alone = refl
