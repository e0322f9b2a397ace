-- An agent sees the same alone, with what the others have published, as in the register.
use Rattle.std.proofs.Common.{append_assoc, length-append, map, inl, inr, ◌≡◌, ℕ, ◌+◌, ℤ, List, [], ◌∷◌, ◌++◌, length, refl, ◌∙◌, sym, ap, subst, arith, true, false}
use Rattle.std.specs.Prelude.{if◌then◌else◌, filter, not}
use Rattle.std.proofs.lemmas.Bool.{cases_Bool, cond_both, false_from_ne_true, or_parts}
use Rattle.std.proofs.lemmas.List.{append-nil, map-append}
use Rattle.std.proofs.lemmas.List.Elements.{filter-append}
use Rattle.bor_terms.specs.Texts.{is_same, is_below}
use Rattle.bor_terms.proofs.Texts.{same_is, same_refl, same_sym, below_trans, below_differs, below_irrefl}
use Rattle.bods_read.specs.declared.statement.Statement.{Statement}
use Rattle.bor_records.specs.declared.row.Row.{Row}
use Rattle.bor_register.specs.declared.member.Member.{Member}
use Rattle.bor_register.specs.declared.filing.AcceptedFiling.{AcceptedFiling}
use Rattle.bor_register.specs.declared.filing.Outward.{Outward}
use Rattle.bor_register.specs.Register.{Register, is_enrolled, filings_of, with_filings, with_member, AllAbove, IsOrdered}
use Rattle.bor_register.specs.Publication.{is_published, outward, outwards_of, published}
use Rattle.bor_register.specs.Rows.{rows_from, rows_in, visible_in, visible}
use Rattle.bor_desk.specs.Operations.Sight.{unnumbered, sight_of}
use Rattle.bor_desk.specs.Operations.Solo.{published_beside, filing_from, member_with, with_outward, with_outwards, alone}
use Rattle.bor_desk.specs.Operations.Legality.{IsLegal}

-- ---- the members that the others' outward forms make

-- live filings of these outward forms, numbered from this number
abbrev filings_from : ℕ → List Outward → List AcceptedFiling
filings_from number [] = []
filings_from number (o ∷ os) = filing_from number o ∷ filings_from (number + 1) os

-- an agent with what it has published, in front of others; they alone where that is nothing
abbrev with_shown : List ℕ → List Outward → List Member → List Member
with_shown name [] ms = ms
with_shown name (o ∷ os) ms = member_with name (filings_from 1 (o ∷ os)) ∷ ms

-- the other agents that have published, each with that alone
abbrev shown_beside : List ℕ → ℤ → List Member → List Member
shown_beside name day [] = []
shown_beside name day (m ∷ ms) =
    if is_same m.name name then shown_beside name day ms else with_shown m.name (outwards_of day m.name m.filings) (shown_beside name day ms)

-- each name is below this one
abbrev AllBelow : List ℕ → List Member → Type 0
AllBelow name [] = Unit {0}
AllBelow name (m ∷ ms) = (is_below m.name name ≡ true) × AllBelow name ms

-- each name of the first is below each of the second
abbrev AreBelow : List Member → List Member → Type 0
AreBelow before [] = Unit {0}
AreBelow before (m ∷ ms) = AllBelow m.name before × AreBelow before ms

AllBelow-push : (name : List ℕ) (before : List Member) (m : Member) → AllBelow name before → is_below m.name name ≡ true → AllBelow name (before ++ m ∷ [])
AllBelow-push name [] m h lt = (lt, tt)
AllBelow-push name (b ∷ before) m h lt = (h.0, AllBelow-push name before m h.1 lt)

AreBelow-none : (ms : List Member) → AreBelow [] ms
AreBelow-none [] = tt
AreBelow-none (m ∷ ms) = (tt, AreBelow-none ms)

AreBelow-push : (before : List Member) (m : Member) (ms : List Member) → AreBelow before ms → AllAbove m.name ms → AreBelow (before ++ m ∷ []) ms
AreBelow-push before m [] h above = tt
AreBelow-push before m (n ∷ ms) h above = (AllBelow-push n.name before m h.0 above.0, AreBelow-push before m ms h.1 above.1)

-- ---- a member at the end

enrolled-last : (name : List ℕ) (own : List AcceptedFiling) (before : List Member) → is_enrolled name (before ++ member_with name own ∷ []) ≡ true
enrolled-last name own [] = rw (same_refl name) refl
enrolled-last name own (m ∷ before) = grind (arith, enrolled-last name own before)

filings-last : (name : List ℕ) (own : List AcceptedFiling) (before : List Member) → AllBelow name before → filings_of name (before ++ member_with name own ∷ []) ≡ own
filings-last name own [] h = rw (same_refl name) refl
filings-last name own (m ∷ before) h = rw (below_differs m.name name h.0) (filings-last name own before h.1)

with_filings-last : (name : List ℕ) (own next : List AcceptedFiling) (before : List Member) → AllBelow name before →
    with_filings name next (before ++ member_with name own ∷ []) ≡ before ++ member_with name next ∷ []
with_filings-last name own next [] h = rw (same_refl name) refl
with_filings-last name own next (m ∷ before) h = rw (below_differs m.name name h.0) (ap (λ ms. m ∷ ms) (with_filings-last name own next before h.1))

not_enrolled-below : (name : List ℕ) (before : List Member) → AllBelow name before → is_enrolled name before ≡ false
not_enrolled-below name [] h = refl
not_enrolled-below name (m ∷ before) h = rw (below_differs m.name name h.0) (not_enrolled-below name before h.1)

with_member-last : (new : Member) (before : List Member) → AllBelow new.name before → with_member new before ≡ before ++ new ∷ []
with_member-last new [] h = refl
with_member-last new (m ∷ before) h = rw h.0 (ap (λ ms. m ∷ ms) (with_member-last new before h.1))

-- ---- one agent's outward forms come one after the other

with_outward-first : (o : Outward) (before : List Member) → AllBelow o.agent before → with_outward o before ≡ before ++ member_with o.agent (filing_from 1 o ∷ []) ∷ []
with_outward-first o before h = rw (not_enrolled-below o.agent before h) (with_member-last (member_with o.agent (filing_from 1 o ∷ [])) before h)

with_outward-next : (o : Outward) (own : List AcceptedFiling) (before : List Member) → AllBelow o.agent before →
    with_outward o (before ++ member_with o.agent own ∷ []) ≡ before ++ member_with o.agent (own ++ filing_from (length own + 1) o ∷ []) ∷ []
with_outward-next o own before h =
    rw (enrolled-last o.agent own before, filings-last o.agent own before h) (with_filings-last o.agent own (own ++ filing_from (length own + 1) o ∷ []) before h)

filings_from-push : (own : List AcceptedFiling) (o : Outward) (os : List Outward) →
    (own ++ filing_from (length own + 1) o ∷ []) ++ filings_from (length (own ++ filing_from (length own + 1) o ∷ []) + 1) os ≡ own ++ filings_from (length own + 1) (o ∷ os)
filings_from-push own o os = rw (length-append own (filing_from (length own + 1) o ∷ [])) (append_assoc own (filing_from (length own + 1) o ∷ []) (filings_from (length own + 1 + 1) os))

-- an agent's further outward forms are numbered on
with_outwards-next : (name : List ℕ) (fs : List AcceptedFiling) (rest : List Outward) (own : List AcceptedFiling) (before : List Member) → AllBelow name before →
    with_outwards (map (outward name) fs ++ rest) (before ++ member_with name own ∷ []) ≡ with_outwards rest (before ++ member_with name (own ++ filings_from (length own + 1) (map (outward name) fs)) ∷ [])
with_outwards-next name [] rest own before h = rw (append-nil own) refl
with_outwards-next name (f ∷ fs) rest own before h =
    ap (with_outwards (map (outward name) fs ++ rest)) (with_outward-next (outward name f) own before h)
    ∙ with_outwards-next name fs rest (own ++ filing_from (length own + 1) (outward name f) ∷ []) before h
    ∙ ap (λ all. with_outwards rest (before ++ member_with name all ∷ [])) (filings_from-push own (outward name f) (map (outward name) fs))

-- an agent's outward forms bring it to the end, where all before are below it
with_outwards-agent : (name : List ℕ) (fs : List AcceptedFiling) (rest : List Outward) (before : List Member) → AllBelow name before →
    with_outwards (map (outward name) fs ++ rest) before ≡ with_outwards rest (before ++ with_shown name (map (outward name) fs) [])
with_outwards-agent name [] rest before h = rw (append-nil before) refl
with_outwards-agent name (f ∷ fs) rest before h =
    ap (with_outwards (map (outward name) fs ++ rest)) (with_outward-first (outward name f) before h)
    ∙ with_outwards-next name fs rest (filing_from 1 (outward name f) ∷ []) before h

-- what the others have published, agent by agent
abbrev beside_by_agent : List ℕ → ℤ → List Member → List Outward
beside_by_agent name day [] = []
beside_by_agent name day (m ∷ ms) =
    if is_same m.name name then beside_by_agent name day ms else outwards_of day m.name m.filings ++ beside_by_agent name day ms

-- an agent's outward forms are all its own
beside_own : (agent name : List ℕ) (fs : List AcceptedFiling) →
    filter (λ (o : Outward). not (is_same o.agent name)) (map (outward agent) fs) ≡ (if is_same agent name then [] else map (outward agent) fs)
beside_own agent name [] = grind arith
beside_own agent name (f ∷ fs) = grind (arith, beside_own agent name fs)

beside_is : (name : List ℕ) (day : ℤ) (ms : List Member) → published_beside name day ms ≡ beside_by_agent name day ms
beside_is name day [] = refl
beside_is name day (m ∷ ms) =
    let apart = filter-append (λ (o : Outward). not (is_same o.agent name)) (outwards_of day m.name m.filings) (published day ms) in
    grind (arith, apart, beside_own m.name name (filter (is_published day) m.filings), beside_is name day ms)

-- the others' outward forms, one after the other, bring those that have published
abbrev AreAppended : List ℕ → ℤ → List Member → List Member → Type 0
AreAppended name day ms before = with_outwards (beside_by_agent name day ms) before ≡ before ++ shown_beside name day ms

with_outwards-beside : (name : List ℕ) (day : ℤ) (ms before : List Member) → IsOrdered ms → AreBelow before ms → AreAppended name day ms before
with_outwards-beside name day [] before ordered below = sym (append-nil before)
with_outwards-beside name day (m ∷ ms) before ordered below = elim (cases_Bool (is_same m.name name)) [
  | inl own ↦ rw own (with_outwards-beside name day ms before ordered.1 below.1)
  | inr other ↦ rw other (agent-beside (filter (is_published day) m.filings) (λ more. with_outwards-beside name day ms more ordered.1))
]
  where
    agent-beside : (fs : List AcceptedFiling) → ((more : List Member) → AreBelow more ms → AreAppended name day ms more) →
        with_outwards (map (outward m.name) fs ++ beside_by_agent name day ms) before ≡ before ++ with_shown m.name (map (outward m.name) fs) (shown_beside name day ms)
    agent-beside [] rest = rest before below.1
    agent-beside (f ∷ fs) rest =
        let new = member_with m.name (filings_from 1 (map (outward m.name) (f ∷ fs))) in
        with_outwards-agent m.name (f ∷ fs) (beside_by_agent name day ms) before below.0
        ∙ rest (before ++ new ∷ []) (AreBelow-push before new ms below.1 ordered.0) ∙ append_assoc before (new ∷ []) (shown_beside name day ms)

-- ---- the agent at its place among them

not_below : (a b : List ℕ) → is_below a b ≡ true → is_below b a ≡ false
not_below a b lt = false_from_ne_true (is_below b a) (λ gt. let round = below_trans a b a lt gt in let no = below_irrefl a in absurd cc)

pub above-not_enrolled : (name : List ℕ) (ms : List Member) → AllAbove name ms → is_enrolled name ms ≡ false
above-not_enrolled name [] h = refl
above-not_enrolled name (m ∷ ms) h = rw (same_sym m.name name, below_differs name m.name h.0) (above-not_enrolled name ms h.1)

-- who is among those above is above
enrolled-above : (low name : List ℕ) (ms : List Member) → AllAbove low ms → is_enrolled name ms ≡ true → is_below low name ≡ true
enrolled-above low name [] above h = absurd cc
enrolled-above low name (m ∷ ms) above h = grind (arith, same_is m.name name, above.0, enrolled-above low name ms above.1)

with_member-below : (new : Member) (name : List ℕ) (os : List Outward) (ms : List Member) → is_below name new.name ≡ true → with_member new (with_shown name os ms) ≡ with_shown name os (with_member new ms)
with_member-below new name os ms lt = grind arith

with_member-above : (new : Member) (name : List ℕ) (os : List Outward) (ms : List Member) → is_below new.name name ≡ true → with_member new ms ≡ new ∷ ms → with_member new (with_shown name os ms) ≡ new ∷ with_shown name os ms
with_member-above new name os ms lt rest = grind (arith, not_below new.name name lt)

-- an agent below all comes first
with_member-first : (new : Member) (name : List ℕ) (day : ℤ) (ms : List Member) → AllAbove new.name ms → with_member new (shown_beside name day ms) ≡ new ∷ shown_beside name day ms
with_member-first new name day [] above = refl
with_member-first new name day (m ∷ ms) above = cond_both (is_same m.name name) _ _ (λ ns. with_member new ns ≡ new ∷ ns) (λ own. with_member-first new name day ms above.1)
    (λ other. with_member-above new m.name (outwards_of day m.name m.filings) (shown_beside name day ms) above.0 (with_member-first new name day ms above.1))

-- the own filings are found again
pub filings-with_member : (new : Member) (ms : List Member) → filings_of new.name (with_member new ms) ≡ new.filings
filings-with_member new [] = rw (same_refl new.name) refl
filings-with_member new (m ∷ ms) = grind (arith, same_is m.name new.name, same_refl new.name, below_irrefl new.name, filings-with_member new ms)

-- ---- what is seen by agent

-- what is put together of the agent's own filings and of each other agent's outward forms
abbrev sights : {X : Type 0} → (List ℕ → List AcceptedFiling → List X) → (List Outward → List X) → List ℕ → ℤ → List Member → List X
sights mine shown name day [] = []
sights mine shown name day (m ∷ ms) = (if is_same m.name name then mine m.name m.filings else shown (outwards_of day m.name m.filings)) ++ sights mine shown name day ms

-- a number, a key and bytes aren't in an outward form
outwards_of-filings_from : (name : List ℕ) (day : ℤ) (number : ℕ) (fs : List AcceptedFiling) → outwards_of day name (filings_from number (outwards_of day name fs)) ≡ outwards_of day name fs
outwards_of-filings_from name day number [] = refl
outwards_of-filings_from name day number (f ∷ fs) = grind (arith, outwards_of-filings_from name day number fs, outwards_of-filings_from name day (number + 1) fs)

sights-with_shown : {X : Type 0} (mine : List ℕ → List AcceptedFiling → List X) (shown : List Outward → List X) (name other : List ℕ) (day : ℤ) (os : List Outward) (ms : List Member) →
    shown [] ≡ [] → is_same other name ≡ false → outwards_of day other (filings_from 1 os) ≡ os → sights mine shown name day (with_shown other os ms) ≡ shown os ++ sights mine shown name day ms
sights-with_shown mine shown name other day [] ms none differ same = rw none refl
sights-with_shown mine shown name other day (o ∷ os) ms none differ same = rw differ (ap (λ qs. shown qs ++ sights mine shown name day ms) same)

sights-beside : {X : Type 0} (mine : List ℕ → List AcceptedFiling → List X) (shown : List Outward → List X) (name : List ℕ) (day : ℤ) (ms : List Member) →
    shown [] ≡ [] → is_enrolled name ms ≡ false → sights mine shown name day (shown_beside name day ms) ≡ sights mine shown name day ms
sights-beside mine shown name day [] none absent = refl
sights-beside mine shown name day (m ∷ ms) none absent =
    let apart = or_parts (is_same m.name name) (is_enrolled name ms) absent in
    rw apart.0 (sights-with_shown mine shown name m.name day (outwards_of day m.name m.filings) (shown_beside name day ms) none apart.0 (outwards_of-filings_from m.name day 1 m.filings)
    ∙ ap (λ xs. shown (outwards_of day m.name m.filings) ++ xs) (sights-beside mine shown name day ms none apart.1))

-- the members once the agent, with its own filings, stands among those that have published
abbrev beside_shown : List ℕ → ℤ → List Member → List Member
beside_shown name day ms = with_member (member_with name (filings_of name ms)) (shown_beside name day ms)

sights-alone : {X : Type 0} (mine : List ℕ → List AcceptedFiling → List X) (shown : List Outward → List X) (name : List ℕ) (day : ℤ) (ms : List Member) →
    shown [] ≡ [] → IsOrdered ms → is_enrolled name ms ≡ true → sights mine shown name day (beside_shown name day ms) ≡ sights mine shown name day ms
sights-alone mine shown name day [] none ordered enrolled = absurd cc
sights-alone mine shown name day (m ∷ ms) none ordered enrolled = elim (cases_Bool (is_same m.name name)) [
  | inl own ↦
      let above : AllAbove name ms = subst (λ n. AllAbove n ms) (same_is m.name name own) ordered.0 in
      rw own (ap (sights mine shown name day) (with_member-first (member_with name m.filings) name day ms above)
      ∙ rw (same_refl name) (ap (λ n. mine n m.filings ++ sights mine shown name day (shown_beside name day ms)) (sym (same_is m.name name own))
      ∙ ap (λ xs. mine m.name m.filings ++ xs) (sights-beside mine shown name day ms none (above-not_enrolled name ms above))))
  | inr other ↦
      let new = member_with name (filings_of name ms) in
      let later : is_enrolled name ms ≡ true = rw other at enrolled in
      rw other (ap (sights mine shown name day) (with_member-below new m.name (outwards_of day m.name m.filings) (shown_beside name day ms) (enrolled-above m.name name ms ordered.0 later))
      ∙ sights-with_shown mine shown name m.name day (outwards_of day m.name m.filings) (with_member new (shown_beside name day ms)) none other (outwards_of-filings_from m.name day 1 m.filings)
      ∙ ap (λ xs. shown (outwards_of day m.name m.filings) ++ xs) (sights-alone mine shown name day ms none ordered.1 later))
]

-- ---- what is published, and the statements that are seen

published-sights : (name : List ℕ) (day : ℤ) (ms : List Member) → published day ms ≡ sights (outwards_of day) (λ os. os) name day ms
published-sights name day [] = refl
published-sights name day (m ∷ ms) = grind (arith, published-sights name day ms)

-- the rows of outward forms, with no filing's number
abbrev outward_rows : List Outward → List Row
outward_rows [] = []
outward_rows (o ∷ os) = rows_from o.agent 0 1 o.statements ++ outward_rows os

unnumbered-rows_from : (name : List ℕ) (number place : ℕ) (ss : List Statement) → map unnumbered (rows_from name number place ss) ≡ rows_from name 0 place ss
unnumbered-rows_from name number place [] = refl
unnumbered-rows_from name number place (s ∷ ss) = rw (unnumbered-rows_from name number (place + 1) ss) refl

unnumbered-rows_in : (name : List ℕ) (fs : List AcceptedFiling) → map unnumbered (rows_in name fs) ≡ outward_rows (map (outward name) fs)
unnumbered-rows_in name [] = refl
unnumbered-rows_in name (f ∷ fs) =
    rw (map-append unnumbered (rows_from name f.number 1 f.statements) (rows_in name fs), unnumbered-rows_from name f.number 1 f.statements, unnumbered-rows_in name fs) refl

-- the rows of an agent's own filings
abbrev own_rows : List ℕ → ℤ → List ℕ → List AcceptedFiling → List Row
own_rows name day agent fs = map unnumbered (visible_in name day agent fs)

seen-sights : (name : List ℕ) (day : ℤ) (ms : List Member) → map unnumbered (visible name day ms) ≡ sights (own_rows name day) outward_rows name day ms
seen-sights name day [] = refl
seen-sights name day (m ∷ ms) =
    map-append unnumbered (visible_in name day m.name m.filings) (visible name day ms) ∙ elim (cases_Bool (is_same m.name name)) [
      | inl own ↦ rw own (ap (λ rows. own_rows name day m.name m.filings ++ rows) (seen-sights name day ms))
      | inr other ↦ rw other (ap (λ b. map unnumbered (rows_in m.name (filter (λ f. if b then not f.withdrawn else is_published day f) m.filings)) ++ map unnumbered (visible name day ms)) (same_sym name m.name ∙ other)
          ∙ rw (unnumbered-rows_in m.name (filter (is_published day) m.filings), seen-sights name day ms) refl)
    ]

-- ---- the sight

published-alone : (name : List ℕ) (day : ℤ) (ms : List Member) → IsOrdered ms → is_enrolled name ms ≡ true → published day (beside_shown name day ms) ≡ published day ms
published-alone name day ms ordered enrolled =
    published-sights name day (beside_shown name day ms) ∙ sights-alone (outwards_of day) (λ os. os) name day ms refl ordered enrolled ∙ sym (published-sights name day ms)

seen-alone : (name : List ℕ) (day : ℤ) (ms : List Member) → IsOrdered ms → is_enrolled name ms ≡ true → map unnumbered (visible name day (beside_shown name day ms)) ≡ map unnumbered (visible name day ms)
seen-alone name day ms ordered enrolled =
    seen-sights name day (beside_shown name day ms) ∙ sights-alone (own_rows name day) outward_rows name day ms refl ordered enrolled ∙ sym (seen-sights name day ms)

-- alone, the agent sees what it sees in the register
pub sight-alone : (r : Register) (name : List ℕ) → IsLegal r → is_enrolled name r.members ≡ true → sight_of name (alone name r) ≡ sight_of name r
sight-alone r name legal enrolled =
    let others = ap (λ os. with_outwards os []) (beside_is name r.day r.members) ∙ with_outwards-beside name r.day r.members [] legal.names (AreBelow-none r.members) in
    let own = filings-with_member (member_with name (filings_of name r.members)) (shown_beside name r.day r.members) in
    rw (others, own, published-alone name r.day r.members legal.names enrolled, seen-alone name r.day r.members legal.names enrolled) refl

pub ruleset alone_rules = (sight-alone)
