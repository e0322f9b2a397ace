-- A register with three filings: who has a token, what a withdrawal leaves and which filing stands in its way, and what each sees.
use Rattle.std.proofs.Common.{◌≡◌, ℕ, ℤ, pos, List, [], ◌∷◌, Some, None, option_map, codes, refl, ap, map, arith, true, false}
use Rattle.std.specs.List.{IsDistinct}
use Rattle.bods_read.specs.declared.statement.Statement.{Statement}
use Rattle.bods_read.specs.declared.statement.Status.TheVariants.{New, Updated}
use Rattle.bods_read.specs.declared.details.Details.TheVariants.{Entity}
use Rattle.bods_read.specs.declared.details.EntityKind.TheVariants.{RegisteredEntity}
use Rattle.bor_records.specs.declared.row.Row.{Row}
use Rattle.bor_register.specs.declared.caller.Caller.TheVariants as callers
use Rattle.bor_register.specs.declared.member.Member.{Member}
use Rattle.bor_register.specs.declared.filing.AcceptedFiling.{AcceptedFiling}
use Rattle.bor_register.specs.Register.{Register, empty_register, new_member, with_member, with_filings, filing_keyed, caller_of}
use Rattle.bor_register.specs.Live.{live_of, AreNew}
use Rattle.bor_register.specs.declared.filing.Outward.{Outward}
use Rattle.bor_register.specs.declared.filing.State.TheVariants.{Draft, Published, Withdrawn}
use Rattle.bor_register.specs.Publication.{published, outward, is_published, state_of, line_of, filing_shown, has_bytes}
use Rattle.bor_register.specs.Rows.{rows_of, visible}
use Rattle.bor_register.specs.Withdrawal.{has_successor, with_withdrawn}
use Rattle.bor_register.specs.Journal.{Agent, JournalEntry, Journal, register_of}

-- ---- the register

-- the register on a day with the agents birch and alder, enrolled in this order
abbrev pub two_agents : ℤ → Register
two_agents day =
    let empty = empty_register (codes "registrar-token-0001") day in
    record empty {
      members = with_member (new_member (codes "alder") (codes "alder-token-000001")) (with_member (new_member (codes "birch") (codes "birch-token-000001")) empty.members);
    }

-- 2024-02-01
abbrev pub today : ℤ
today = pos 19754

abbrev pub tomorrow : ℤ
tomorrow = pos 19755

-- a statement of declaration c1, dated 2024-01-10
abbrev pub entity : List ℕ → List ℕ → Statement
entity id rec = record { id = id; day = pos 19732; declaration = codes "c1"; rec = rec; status = Some New; details = Entity RegisteredEntity None [] }

-- alder's: of the records e1 and e2, published; and of e1, a draft
abbrev pub first : AcceptedFiling
first = record {
  number = 1;
  key = codes "f1";
  due = today;
  withdrawn = false;
  bytes = codes "one";
  statements = entity (codes "s1") (codes "e1") ∷ entity (codes "s2") (codes "e2") ∷ [];
}

abbrev pub second : AcceptedFiling
second = record {
  number = 2;
  key = codes "f2";
  due = tomorrow;
  withdrawn = false;
  bytes = codes "two";
  statements = record (entity (codes "s3") (codes "e1")) { status = Some Updated } ∷ [];
}

-- birch's: of its own record e1, a draft
abbrev of_birch : AcceptedFiling
of_birch = record first { key = codes "g1"; due = tomorrow; statements = entity (codes "s1") (codes "e1") ∷ [] }

abbrev members : List Member
members = with_filings (codes "alder") (first ∷ second ∷ []) (with_filings (codes "birch") (of_birch ∷ []) (two_agents today).members)

-- ---- who has a token

registrars : caller_of (codes "registrar-token-0001") (two_agents today) ≡ Some callers.Registrar
registrars = refl

agents_token : caller_of (codes "birch-token-000001") (two_agents today) ≡ Some (callers.Agent (codes "birch"))
agents_token = refl

nobodys : caller_of (codes "cedar-token-000001") (two_agents today) ≡ None
nobodys = refl

-- ---- withdrawing

withdrawn : with_withdrawn 2 (first ∷ second ∷ []) ≡ first ∷ record { number = 2; key = codes "f2"; due = tomorrow; withdrawn = true; bytes = codes "two"; statements = [] } ∷ []
withdrawn = refl

no_such_number : with_withdrawn 3 (first ∷ second ∷ []) ≡ first ∷ second ∷ []
no_such_number = refl

succeeded : has_successor 1 (first ∷ second ∷ []) ≡ true
succeeded = refl

last_one : has_successor 2 (first ∷ second ∷ []) ≡ false
last_one = refl

of_another_record : has_successor 1 (first ∷ record second { statements = entity (codes "s3") (codes "e3") ∷ [] } ∷ []) ≡ false
of_another_record = refl

-- the same record in another declaration is another record
of_another_declaration : has_successor 1 (first ∷ record second { statements = record (entity (codes "s3") (codes "e1")) { declaration = codes "c2" } ∷ [] } ∷ []) ≡ false
of_another_declaration = refl

after_its_successor : has_successor 1 (with_withdrawn 2 (first ∷ second ∷ [])) ≡ false
after_its_successor = refl

-- ---- a key's filing: published, a draft, withdrawn, and none

abbrev of_alder : List AcceptedFiling
of_alder = first ∷ second ∷ record second { number = 3; key = codes "f3"; withdrawn = true; statements = [] } ∷ []

lines : map (line_of today) of_alder
    ≡ record { key = codes "f1"; number = 1; due = today; state = Published } ∷ record { key = codes "f2"; number = 2; due = tomorrow; state = Draft } ∷ record { key = codes "f3"; number = 3; due = tomorrow; state = Withdrawn } ∷ []
lines = refl

line_of_no_key : option_map (line_of today) (filing_keyed (codes "f4") of_alder) ≡ None
line_of_no_key = refl

-- the file of a withdrawn filing stays
withdrawn_file : option_map filing_shown (filing_keyed (codes "f3") of_alder) ≡ Some (record { number = 3; due = tomorrow; withdrawn = true; bytes = codes "two" })
withdrawn_file = refl

files : map (λ key. has_bytes (codes "two") (filing_keyed key of_alder)) (codes "f1" ∷ codes "f2" ∷ codes "f3" ∷ codes "f4" ∷ []) ≡ false ∷ true ∷ true ∷ false ∷ []
files = refl

-- the day before the due day, the due day and the day after
published_from_its_day : map (λ day. is_published day second) (today ∷ tomorrow ∷ pos 19756 ∷ []) ≡ false ∷ true ∷ true ∷ []
published_from_its_day = refl

-- once it is withdrawn, a filing stays so on its due day
withdrawn_on_its_day : map (λ day. state_of day (record second { withdrawn = true })) (today ∷ tomorrow ∷ []) ≡ Withdrawn ∷ Withdrawn ∷ []
withdrawn_on_its_day = refl

-- ---- statements that may not be added

without_status : AreNew [] (record (entity (codes "s1") (codes "e1")) { status = None } ∷ []) → ⊥
without_status n = let h = n.settled 0 (entity (codes "s1") (codes "e1")) (omega arith) in absurd cc

identifier_twice : AreNew [] (entity (codes "s1") (codes "e1") ∷ entity (codes "s1") (codes "e2") ∷ []) → ⊥
unfolding IsDistinct
identifier_twice n = let h = n.distinct.0.0 in absurd cc

identifier_of_a_draft : AreNew (live_of (second ∷ [])) (entity (codes "s3") (codes "e3") ∷ []) → ⊥
identifier_of_a_draft n = let h = n.free 0 (entity (codes "s3") (codes "e3")) (omega arith) in absurd cc

-- ---- who sees which rows: agent, number and place

abbrev placed : Row → List ℕ × (ℕ × ℕ)
placed row = (row.agent, (row.filing, row.place))

-- both own filings, and nothing of birch's draft
by_alder : map placed (visible (codes "alder") today members) ≡ (codes "alder", (1, 1)) ∷ (codes "alder", (1, 2)) ∷ (codes "alder", (2, 1)) ∷ []
by_alder = refl

-- what alder has published, then the own draft
by_birch : map placed (visible (codes "birch") today members) ≡ (codes "alder", (1, 1)) ∷ (codes "alder", (1, 2)) ∷ (codes "birch", (1, 1)) ∷ []
by_birch = refl

-- who isn't enrolled sees what is published
by_nobody : map placed (visible (codes "cedar") today members) ≡ (codes "alder", (1, 1)) ∷ (codes "alder", (1, 2)) ∷ []
by_nobody = refl

a_day_later : map placed (visible (codes "alder") tomorrow members) ≡ (codes "alder", (1, 1)) ∷ (codes "alder", (1, 2)) ∷ (codes "alder", (2, 1)) ∷ (codes "birch", (1, 1)) ∷ []
a_day_later = refl

of_declaration : map placed (rows_of (codes "birch") today (codes "alder") (codes "c1") (first ∷ second ∷ [])) ≡ (codes "alder", (1, 1)) ∷ (codes "alder", (1, 2)) ∷ []
of_declaration = refl

of_no_declaration : rows_of (codes "alder") today (codes "alder") (codes "c2") (first ∷ second ∷ []) ≡ []
of_no_declaration = refl

seen_by_all : published today members ≡ outward (codes "alder") first ∷ []
seen_by_all = refl

seen_the_day_before : published (pos 19753) members ≡ []
seen_the_day_before = refl

-- ---- five agents, each with a filing that is due today, enrolled in another order

abbrev enrolled : List ℕ → List Member → List Member
enrolled name ms = with_member (record (new_member name name) { filings = first ∷ [] }) ms

abbrev five : List Member
five = enrolled (codes "cedar") (enrolled (codes "alder") (enrolled (codes "elm") (enrolled (codes "birch") (enrolled (codes "dogwood") []))))

five_by_name : map (λ (m : Member). m.name) five ≡ codes "alder" ∷ codes "birch" ∷ codes "cedar" ∷ codes "dogwood" ∷ codes "elm" ∷ []
five_by_name = refl

five_published : map (λ (o : Outward). o.agent) (published today five) ≡ codes "alder" ∷ codes "birch" ∷ codes "cedar" ∷ codes "dogwood" ∷ codes "elm" ∷ []
five_published = refl

-- the day before, each sees its own draft alone
five_alone : map placed (visible (codes "cedar") (pos 19753) five) ≡ (codes "cedar", (1, 1)) ∷ (codes "cedar", (1, 2)) ∷ []
five_alone = refl

-- an agent's own rows stand among the others' at the place of its name
in_order_of_agents : map (λ (row : Row). row.agent) (visible (codes "cedar") today five)
    ≡ codes "alder" ∷ codes "alder" ∷ codes "birch" ∷ codes "birch" ∷ codes "cedar" ∷ codes "cedar" ∷ codes "dogwood" ∷ codes "dogwood" ∷ codes "elm" ∷ codes "elm" ∷ []
in_order_of_agents = refl

-- ---- journals

abbrev agents : List Agent
agents = record { name = codes "birch"; token = codes "birch-token-000001" } ∷ record { name = codes "alder"; token = codes "alder-token-000001" } ∷ []

abbrev journal : List JournalEntry → Journal
journal entries = record { day = today; registrar = codes "registrar-token-0001"; agents = agents; entries = entries }

abbrev entry : List ℕ → AcceptedFiling → JournalEntry
entry agent filing = record { agent = agent; filing = filing }

-- alder's two filings with one of birch between them, and behind them
one_register : register_of (journal (entry (codes "alder") first ∷ entry (codes "birch") of_birch ∷ entry (codes "alder") second ∷ []))
    ≡ register_of (journal (entry (codes "alder") first ∷ entry (codes "alder") second ∷ entry (codes "birch") of_birch ∷ []))
one_register = refl

the_register : (register_of (journal (entry (codes "birch") of_birch ∷ entry (codes "alder") first ∷ entry (codes "alder") second ∷ []))).members ≡ members
the_register = refl

own_order_counts : register_of (journal (entry (codes "alder") first ∷ entry (codes "alder") second ∷ [])) ≡ register_of (journal (entry (codes "alder") second ∷ entry (codes "alder") first ∷ [])) → ⊥
own_order_counts e = let numbers = ap numbers_of e in absurd cc
  where
    numbers_of : Register → List (List ℕ)
    numbers_of r = map (λ (m : Member). map (λ (f : AcceptedFiling). f.number) m.filings) r.members
