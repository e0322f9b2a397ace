-- A legal register whose values have their forms is stored. Its files say what its statements say, and it is told by all but the days of its interests.
use Rattle.std.proofs.Common.{◌≡◌, ◌⊎◌, inl, inr, ℕ, ℤ, ◌+◌, List, [], ◌∷◌, ◌++◌, Option, Some, None, Result, Ok, Err, refl, sym, subst, ◌≤◌, suc, Bool, true, false, length, map, ap, arith, All, IfOk, ap₂, ◌∙◌, MatchResult, flat_map}
use Rattle.bods_read.specs.declared.statement.Statement.{Statement}
use Rattle.bods_read.specs.declared.statement.Status.{Status}
use Rattle.bor_records.specs.Admission.{Live, last_of, settled_status, unless_refused}
use Rattle.bor_records.specs.Settling.{PlacedRefusal, Refusal, ahead, all_refusals, as_live, as_settled, settled_from, settled_then, settled}
use Rattle.bor_records.specs.declared.admission.Last.{Last}
use Rattle.bor_store_sql.specs.Fitting.{Fit, FitsAt, Pairwise}
use Rattle.std.proofs.lemmas.List.Elements.{All-nil, All-cons, All-head, All-tail}
use Rattle.bods_read.specs.File.{reading}
use Rattle.bods_read.specs.Limits.{statements_limit}
use Rattle.bods_read.specs.declared.fault.FileFault.{FileFault}
use Rattle.bor_register.specs.Forms.{IsFormed}
use Rattle.bor_register.specs.Register.{Register, empty_register, caller_of}
use Rattle.bor_register.specs.declared.caller.Caller.{Caller}
use Rattle.bor_register.specs.declared.caller.Caller.TheVariants.{Registrar, Agent}
use Rattle.bor_register.specs.declared.filing.AcceptedFiling.{AcceptedFiling}
use Rattle.bor_register.specs.declared.member.Member.{Member}
use Rattle.bor_desk.specs.Operations.Legality.{AllLegal, AreRead, IsLegal, IsNumberedFrom, IsReadFromFile}
use Rattle.bor_desk.specs.Operations.Lodging.{settled_reading, told_settled}
use Rattle.bor_desk.specs.Runs.{Asked, exchange, register_after}
use Rattle.bor_desk.specs.Step.{agent_step, registrar_step, step}
use Rattle.bor_desk.specs.declared.request.Request.{Request}
use Rattle.bor_desk.specs.declared.request.Request.TheVariants as of
use Rattle.bor_desk.specs.declared.request.AgentRequest.{AgentRequest}
use Rattle.bor_desk.specs.declared.request.AgentRequest.TheVariants as ask
use Rattle.bor_desk.specs.declared.request.RegistrarRequest.{RegistrarRequest}
use Rattle.bor_desk.specs.declared.request.RegistrarRequest.TheVariants as office
use Rattle.bor_desk.proofs.OnOperations.Forms.{stays_formed}
use Rattle.bor_desk.proofs.OnOperations.Legality.{empty-legal}
use Rattle.bor_desk.proofs.Steps.{step-stays_legal, written_back}
use Rattle.bor_store_sql.specs.Rows.Stored.{AllNumbered, AreCounted, AreNumbered, IsCounted, IsStored}
use Rattle.bor_store.specs.Laws.{AreFormedRequests, IsFormedRequest, LegalAreStored, FirstTablesTellOneLegal}
use Rattle.bor_store.proofs.Few.{AreFew, HasFew, reading_few}
use Rattle.std.proofs.lemmas.List.Concat.{flat_map-append}
use Rattle.sqlite.specs.State.{State}
use Rattle.bor_store_sql.specs.Rows.Placed.{interest_rows, period_rows, placed, placed_by, placed_from}
use Rattle.bor_store_sql.specs.declared.rows.typed.Placed.{Placed}
use Rattle.bor_store_sql.specs.Changing.{all_periods}
use Rattle.bor_store_sql.specs.Shown.{ShowsIn}
use Rattle.bor_store.specs.Opening.{IsFailure}
use Rattle.bor_store.specs.Migrating.{FileSays, FilesSay, Migrates, OwnSay, UnlessWithdrawn, interest_days}
use Rattle.bor_store.specs.declared.open_fault.OpenFault.{OpenFault}
use Rattle.bor_store.proofs.Gathering.{days_at}
use Rattle.bor_store.proofs.Lines.{files_once, read_once}
use Rattle.bor_store_sql.specs.Undated.{undated_filing, undated_member, without_days}
use Rattle.bor_store_sql.proofs.OneFirst.{one_but_days}

-- a status that is said is kept
said_or_none : (last : Option Last) (o : Option Status) → (o ≡ None) ⊎ (o ≡ Some (settled_status last o))
said_or_none last None = inl refl
said_or_none last (Some status) = inr refl

-- the status that a statement is settled as
abbrev status_after : List Live → Statement → Status
status_after live s = settled_status (last_of s.declaration s.rec live) s.status

-- those that are settled after it
abbrev settled_rest : ℕ → List Live → ℤ → List Statement → Statement → Result (List Statement) PlacedRefusal
settled_rest place live due rest settled = settled_from (place + 1) (live ++ as_live due settled ∷ []) due rest

-- settling changes statuses alone, and of those only such as aren't said
record IsSettled (place : ℕ) (said kept : Statement) : Type 0 where
  pub status : Status
  pub is : kept ≡ as_settled status said
  pub said_so : (said.status ≡ None) ⊎ (said.status ≡ Some status)

settles : (at place : ℕ) (live : List Live) (due : ℤ) (said kept : List Statement) → settled_from place live due said ≡ Ok kept → Pairwise IsSettled at said kept
settles at place live due [] kept e = let same : [] ≡ kept = cc in subst (Pairwise IsSettled at []) same tt
settles at place live due (s ∷ said) kept e =
    by (all_refusals live s due) (λ us more. settles (at + 1) (place + 1) (live ++ as_live due (as_settled (status_after live s) s) ∷ []) due said us more) e
  where
    one : IsSettled at s (as_settled (status_after live s) s)
    one = record { status = status_after live s; is = refl; said_so = said_or_none (last_of s.declaration s.rec live) s.status }

    goes : (rest : Result (List Statement) PlacedRefusal) → ((us : List Statement) → rest ≡ Ok us → Pairwise IsSettled (at + 1) said us) → ahead (as_settled (status_after live s) s) rest ≡ Ok kept → Pairwise IsSettled at (s ∷ said) kept
    goes (Ok us) more e = let same : as_settled (status_after live s) s ∷ us ≡ kept = cc in subst (Pairwise IsSettled at (s ∷ said)) same (one, more us refl)
    goes (Err why) more e = absurd cc

    by : (refused : List Refusal) → ((us : List Statement) → settled_rest place live due said (as_settled (status_after live s) s) ≡ Ok us → Pairwise IsSettled (at + 1) said us)
        → settled_then place s (unless_refused refused (status_after live s)) (settled_rest place live due said) ≡ Ok kept → Pairwise IsSettled at (s ∷ said) kept
    by [] more e = goes (settled_rest place live due said (as_settled (status_after live s) s)) more e
    by (refusal ∷ refusals) more e = absurd cc

-- so they fit
settled_fit : (agent : List ℕ) (number at : ℕ) (said kept : List Statement) → Pairwise IsSettled at said kept → Fit agent number at said kept
settled_fit agent number at (s ∷ said) (k ∷ kept) h =
    (subst (FitsAt agent number at s) (sym h.0.is) (record { status = h.0.said_so; statement = refl; interests = refl; identifiers = refl }), settled_fit agent number (at + 1) said kept h.1)
settled_fit agent number at said kept h = h

-- ---- numbers

numbers_are : (n : ℕ) (fs : List AcceptedFiling) → IsNumberedFrom n fs → AreNumbered n fs
numbers_are n [] h = tt
numbers_are n (f ∷ fs) h = (h.0, numbers_are (n + 1) fs h.1)

pub all_numbered : (ms : List Member) → AllLegal ms → AllNumbered ms
all_numbered [] h = tt
all_numbered (m ∷ ms) h = (numbers_are 1 m.filings h.0.numbered, all_numbered ms h.1)

-- ---- counts

-- settling leaves as many statements, each with its interests and identifiers
settled_few : (at : ℕ) (file ss : List Statement) → Pairwise IsSettled at file ss → All HasFew file → (length ss ≡ length file) × All HasFew ss
settled_few at [] [] h few = (refl, few)
settled_few at (s ∷ file) (t ∷ ss) h few =
    let more = settled_few (at + 1) file ss h.1 (All-tail HasFew s file few) in
    let one = All-head HasFew s file few in
    (ap (λ n. suc n) more.0, All-cons HasFew t ss (subst HasFew (sym h.0.is) (record { interests = one.interests; identifiers = one.identifiers })) more.1)
settled_few at file ss h few = absurd h

each_counted : (ss : List Statement) → All HasFew ss → All IsCounted ss
each_counted [] few = All-nil IsCounted
each_counted (s ∷ ss) few =
    let one = All-head HasFew s ss few in
    let interests = one.interests in
    let identifiers = one.identifiers in
    All-cons IsCounted s ss (record { interests = omega (arith, interests); identifiers = omega (arith, identifiers) }) (each_counted ss (All-tail HasFew s ss few))

counted : (n : ℕ) (ss : List Statement) → n ≤ statements_limit → (length ss ≡ n) × All HasFew ss → AreCounted ss
counted n ss most few = let same = few.0 in record { few = omega (arith, most, same); each = each_counted ss few.1 }

told_is : (told : Result (List Statement) PlacedRefusal) (ss : List Statement) → told_settled told ≡ Ok ss → told ≡ Ok ss
told_is (Ok xs) ss h = cc
told_is (Err refusal) ss h = absurd cc

read_counted : (live : List Live) (due : ℤ) (file : Result (List Statement) FileFault) (ss : List Statement) → IfOk file AreFew → settled_reading live due file ≡ Ok ss → AreCounted ss
read_counted live due (Ok file) ss few h = counted (length file) ss few.few (settled_few 1 file ss (settles 1 1 live due file ss (told_is (settled live due file) ss h)) few.each)
read_counted live due (Err fault) ss few h = absurd cc

filing_counted : (withdrawn : Bool) (live : List Live) (f : AcceptedFiling) → IsReadFromFile withdrawn live f → AreCounted f.statements
filing_counted true live f none = subst AreCounted (sym none) (record { few = omega arith; each = All-nil IsCounted })
filing_counted false live f read = read_counted live f.due (reading f.bytes) f.statements (reading_few f.bytes) read

abbrev IsCountedFiling : AcceptedFiling → Type 0
IsCountedFiling f = AreCounted f.statements

own_counted : (live : List Live) (fs : List AcceptedFiling) → AreRead live fs → All IsCountedFiling fs
own_counted live [] h = All-nil IsCountedFiling
own_counted live (f ∷ fs) h = All-cons IsCountedFiling f fs (filing_counted f.withdrawn live f h.0) (own_counted (live ++ map (as_live f.due) f.statements) fs h.1)

abbrev IsCountedMember : Member → Type 0
IsCountedMember m = All IsCountedFiling m.filings

all_counted : (ms : List Member) → AllLegal ms → All IsCountedMember ms
all_counted [] h = All-nil IsCountedMember
all_counted (m ∷ ms) h = All-cons IsCountedMember m ms (own_counted [] m.filings h.0.read) (all_counted ms h.1)

legal_stored : (r : Register) → IsLegal r → IsFormed r → IsStored r
legal_stored r legal formed = record { ordered = legal.names; numbered = all_numbered r.members legal.own; formed = formed; counted = all_counted r.members legal.own }

-- ---- requests keep the forms

reading_formed : (r : Register) (name : List ℕ) → IsFormed r → IsFormed (agent_step r name ask.Filings).register
reading_formed r name formed = subst IsFormed (sym (written_back r name)) formed

by_agent : (r : Register) (name : List ℕ) (request : AgentRequest) → IsFormed r → IsFormedRequest (of.Agent request) → IsFormed (agent_step r name request).register
by_agent r name (ask.Lodge key due file) formed is = stays_formed.by_lodging r name key due file formed is.0 is.1 is.2
by_agent r name (ask.Withdraw key) formed is = stays_formed.by_withdrawal r name key formed
by_agent r name request formed is = reading_formed r name formed

by_registrar : (r : Register) (request : RegistrarRequest) → IsFormed r → IsFormedRequest (of.Registrar request) → IsFormed (registrar_step r request).register
by_registrar r (office.Day date) formed is = stays_formed.by_advance r date formed is
by_registrar r (office.Enrol name token) formed is = stays_formed.by_enrolment r name token formed is.0 is.1
by_registrar r (office.Renew name token) formed is = stays_formed.by_renewal r name token formed is
by_registrar r office.Register formed is = formed

by_step : (r : Register) (caller : Option Caller) (request : Request) → IsFormed r → IsFormedRequest request → IsFormed (step r caller request).register
by_step r (Some Registrar) (of.Registrar request) formed is = by_registrar r request formed is
by_step r (Some (Agent name)) (of.Agent request) formed is = by_agent r name request formed is
by_step r caller request formed is = formed

stored_after : (r : Register) (run : List Asked) → IsLegal r → IsFormed r → AreFormedRequests run → IsStored (register_after r run)
stored_after r [] legal formed are = legal_stored r legal formed
stored_after r (a ∷ run) legal formed are =
    let Is : Asked → Type 0 = λ b. IsFormedRequest b.request in
    let caller = caller_of a.token r in
    stored_after (exchange r a).register run (step-stays_legal r caller a.request legal) (by_step r caller a.request formed (All-head Is a run are)) (All-tail Is a run are)

pub legal_are_stored : LegalAreStored
legal_are_stored = record {
  each = legal_stored;
  after = stored_after;
  from_new = λ registrar day run is_its is are. stored_after (empty_register registrar day) run (empty-legal registrar day) (stays_formed.at_first registrar day is_its is) are;
}

days_both : (ps qs : List Placed) → interest_days (ps ++ qs) ≡ interest_days ps ++ interest_days qs
days_both = flat_map-append (λ (p : Placed). flat_map period_rows (interest_rows p))

settled_same : (agent : List ℕ) (filing at : ℕ) (ss ts : List Statement) → Pairwise IsSettled at ss ts → interest_days (placed_from agent filing at ss) ≡ interest_days (placed_from agent filing at ts)
settled_same agent filing at [] [] h = refl
settled_same agent filing at (s ∷ ss) (t ∷ ts) h = ap₂ (λ x y. x ++ y) (sym (ap (days_at agent filing at) h.0.is)) (settled_same agent filing (at + 1) ss ts h.1)
settled_same agent filing at ss ts h = absurd h

filing_says : (agent : List ℕ) (live : List Live) (f : AcceptedFiling) → IsReadFromFile f.withdrawn live f → UnlessWithdrawn f.withdrawn (FileSays agent f.number f) (interest_days (placed_from agent f.number 1 f.statements))
filing_says agent live f h = by f.withdrawn h
  where
    read : (r : Result (List Statement) FileFault) → reading f.bytes ≡ r → settled_reading live f.due r ≡ Ok f.statements → FileSays agent f.number f (interest_days (placed_from agent f.number 1 f.statements))
    read (Ok ss) is e =
        let all = settles 1 1 live f.due ss f.statements (told_is (settled live f.due ss) f.statements e) in
        record { said = ss; read = is; fit = settled_fit agent f.number 1 ss f.statements all; are = sym (settled_same agent f.number 1 ss f.statements all) }
    read (Err fault) is e = absurd cc

    by : (b : Bool) → IsReadFromFile b live f → UnlessWithdrawn b (FileSays agent f.number f) (interest_days (placed_from agent f.number 1 f.statements))
    by true none = ap (λ ss. interest_days (placed_from agent f.number 1 ss)) none
    by false e = read (reading f.bytes) refl e

own_says : (agent : List ℕ) (live : List Live) (fs : List AcceptedFiling) → AreRead live fs → OwnSay agent fs (interest_days (placed_by agent fs))
own_says agent live [] h = refl
own_says agent live (f ∷ fs) h = (
  interest_days (placed_from agent f.number 1 f.statements),
  interest_days (placed_by agent fs),
  filing_says agent live f h.0,
  own_says agent (live ++ map (as_live f.due) f.statements) fs h.1,
  days_both (placed_from agent f.number 1 f.statements) (placed_by agent fs),
)

pub files_say : (ms : List Member) → AllLegal ms → FilesSay ms (all_periods ms)
files_say [] h = refl
files_say (m ∷ ms) h = (interest_days (placed_by m.name m.filings), all_periods ms, own_says m.name [] m.filings h.0.read, files_say ms h.1, days_both (placed_by m.name m.filings) (placed ms))

-- so a legal register is moved to itself, or memory is wanting or the store failed
pub moved_to_itself : {X : Type 0} (r : Register) (new : State) (result : Result X OpenFault) → Migrates r new result → IsLegal r → MatchResult result (λ x. ShowsIn r new) IsFailure
moved_to_itself r new (Ok x) h legal = h.2 (files_once r.members h.0 (all_periods r.members) h.1 (files_say r.members legal.own))
moved_to_itself r new (Err fault) (inl failure) legal = failure
moved_to_itself r new (Err fault) (inr damaged) legal = absurd (damaged.1 (all_periods r.members) (files_say r.members legal.own))

-- ---- filings

-- one file, settled after the same statements
one_reading : (live : List Live) (f g : AcceptedFiling) → f.due ≡ g.due → f.bytes ≡ g.bytes → (withdrawn : Bool) → IsReadFromFile withdrawn live f → IsReadFromFile withdrawn live g → f.statements ≡ g.statements
one_reading live f g due bytes true none none_too = none ∙ sym none_too
one_reading live f g due bytes false read read_too =
    read_once (settled_reading live f.due (reading f.bytes)) f.statements g.statements read (ap₂ (λ d b. settled_reading live d (reading b)) due bytes ∙ read_too)

one_list : (live : List Live) (fs gs : List AcceptedFiling) → map undated_filing fs ≡ map undated_filing gs → AreRead live fs → AreRead live gs → fs ≡ gs
one_list live [] [] same read read_too = refl
one_list live [] (g ∷ gs) same read read_too = absurd cc
one_list live (f ∷ fs) [] same read read_too = absurd cc
one_list live (f ∷ fs) (g ∷ gs) same read read_too =
    let first : undated_filing f ≡ undated_filing g = cc in
    let others : map undated_filing fs ≡ map undated_filing gs = cc in
    let number : f.number ≡ g.number = ap (λ (x : AcceptedFiling). x.number) first in
    let key : f.key ≡ g.key = ap (λ (x : AcceptedFiling). x.key) first in
    let due : f.due ≡ g.due = ap (λ (x : AcceptedFiling). x.due) first in
    let withdrawn : f.withdrawn ≡ g.withdrawn = ap (λ (x : AcceptedFiling). x.withdrawn) first in
    let bytes : f.bytes ≡ g.bytes = ap (λ (x : AcceptedFiling). x.bytes) first in
    let said : f.statements ≡ g.statements = one_reading live f g due bytes f.withdrawn read.0 (subst (λ b. IsReadFromFile b live g) (sym withdrawn) read_too.0) in
    let one : f ≡ g = (λ k. record { number = number k; key = key k; due = due k; withdrawn = withdrawn k; bytes = bytes k; statements = said k }) in
    let more = subst (λ (h : AcceptedFiling). AreRead (live ++ map (as_live h.due) h.statements) gs) (sym one) read_too.1 in
    ap₂ (λ x l. x ∷ l) one (one_list (live ++ map (as_live f.due) f.statements) fs gs others read.1 more)

-- ---- members

same_members : (ms ns : List Member) → map undated_member ms ≡ map undated_member ns → AllLegal ms → AllLegal ns → ms ≡ ns
same_members [] [] same legal legal_too = refl
same_members [] (n ∷ ns) same legal legal_too = absurd cc
same_members (m ∷ ms) [] same legal legal_too = absurd cc
same_members (m ∷ ms) (n ∷ ns) same legal legal_too =
    let first : undated_member m ≡ undated_member n = cc in
    let others : map undated_member ms ≡ map undated_member ns = cc in
    let name : m.name ≡ n.name = ap (λ (x : Member). x.name) first in
    let token : m.token ≡ n.token = ap (λ (x : Member). x.token) first in
    let filings : m.filings ≡ n.filings = one_list [] m.filings n.filings (ap (λ (x : Member). x.filings) first) legal.0.read legal_too.0.read in
    let one : m ≡ n = (λ k. record { name = name k; token = token k; filings = filings k }) in
    ap₂ (λ x l. x ∷ l) one (same_members ms ns others legal.1 legal_too.1)

pub one_but_days_is_one : (r q : Register) → IsLegal r → IsLegal q → without_days r ≡ without_days q → r ≡ q
one_but_days_is_one r q legal legal_too same =
    let day : r.day ≡ q.day = ap (λ (x : Register). x.day) same in
    let registrar : r.registrar ≡ q.registrar = ap (λ (x : Register). x.registrar) same in
    let members = same_members r.members q.members (ap (λ (x : Register). x.members) same) legal.own legal_too.own in
    λ k. record { day = day k; registrar = registrar k; members = members k }

pub first_tables : FirstTablesTellOneLegal
first_tables r q db legal legal_too has has_too =
    one_but_days_is_one r q legal legal_too
    (one_but_days r q db (legal.names, all_numbered r.members legal.own) (legal_too.names, all_numbered q.members legal_too.own) has has_too)
