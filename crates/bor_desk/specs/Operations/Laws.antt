-- Laws of the operations.
use Rattle.std.specs.Prelude.{◌≡◌, ℕ, ℤ, List, [], ◌∷◌, ◌++◌, map, filter, true, false, Some}
use Rattle.std.specs.Prelude.{IsSome, Ok, Err}
use Rattle.std.specs.List.{Contains}
use Rattle.bor_terms.specs.Texts.{is_same}
use Rattle.bods_read.specs.File.{reading}
use Rattle.bor_register.specs.declared.member.Member.{Member}
use Rattle.bor_records.specs.Admission.{Live, is_of}
use Rattle.bor_register.specs.declared.filing.AcceptedFiling.{AcceptedFiling}
use Rattle.bor_register.specs.Register.{Register, empty_register, filings_of, filing_keyed}
use Rattle.bor_register.specs.Register.{is_enrolled}
use Rattle.bor_register.specs.Publication.{is_published}
use Rattle.bor_register.specs.Live.{live_of, accepted}
use Rattle.bor_register.specs.Rows.{visible}
use Rattle.bor_records.specs.Links.Rows.{shown_of}
use Rattle.bor_register.specs.Journal.{Journal, token_of, entries_of, register_of, IsInOrder}
use Rattle.bor_desk.specs.declared.operations.fault.LodgeFault.{LodgeFault}
use Rattle.bor_desk.specs.declared.operations.fault.WithdrawFault.{WithdrawFault}
use Rattle.bor_desk.specs.declared.operations.fault.AdvanceFault.{AdvanceFault}
use Rattle.bor_desk.specs.declared.operations.fault.EnrolFault.{EnrolFault}
use Rattle.bor_desk.specs.declared.operations.fault.RenewFault.{RenewFault}
use Rattle.bor_desk.specs.declared.operations.lodging.Lodged.{Lodged}
use Rattle.bor_desk.specs.Operations.Sight.{seen_by, sight_of}
use Rattle.bor_desk.specs.Operations.Solo.{alone}
use Rattle.bor_desk.specs.Operations.Lodging.{settled_reading, lodge_step}
use Rattle.bor_desk.specs.Operations.Withdrawing.{withdraw_step}
use Rattle.bor_desk.specs.Operations.Registrar.{advance_step, enrol_step, renew_step}
use Rattle.bor_desk.specs.Operations.Legality.{AreRead, IsLegal}

-- the agents' names, each with its token
abbrev pub agents_of : List Member → List (List ℕ × List ℕ)
agents_of members = map (λ m. (m.name, m.token)) members

-- Every other agent's filings, the day, and who has which token are as they were.
pub record LeavesOthers (name : List ℕ) (old new : Register) : Type 0 where
  pub day : new.day ≡ old.day
  pub registrar : new.registrar ≡ old.registrar
  pub agents : agents_of new.members ≡ agents_of old.members
  pub filings : (other : List ℕ) → is_same name other ≡ false
      → filings_of other new.members ≡ filings_of other old.members

-- The registrar's token is as it was, and each agent that was there is there still, with its name,
-- its token and its filings.
pub record KeepsAgents (old new : Register) : Type 0 where
  pub registrar : new.registrar ≡ old.registrar
  pub agents : (m : Member) → Contains old.members m → Contains new.members m

-- the agents' names, each with its filings
abbrev pub filings_by_name : List Member → List (List ℕ × List AcceptedFiling)
filings_by_name members = map (λ m. (m.name, m.filings)) members

-- The day, the registrar's token, and each agent with its name and its filings are as they were,
-- and so is each other agent's token.
pub record RenewsToken (name : List ℕ) (old new : Register) : Type 0 where
  pub day : new.day ≡ old.day
  pub registrar : new.registrar ≡ old.registrar
  pub filings : filings_by_name new.members ≡ filings_by_name old.members
  pub others : (m : Member) → is_same m.name name ≡ false → Contains old.members m
      → Contains new.members m

-- An agent's operation leaves the filings of all others as they were; the registrar's leaves each
-- agent that was there as it was, but for the token that it renews.
pub record OwnFilingsUntouched : Type 0 where
  pub by_lodging : (r : Register) (name key : List ℕ) (due : ℤ) (bytes : List ℕ)
      → LeavesOthers name r (lodge_step r name key due bytes).register
  pub by_withdrawal : (r : Register) (name key : List ℕ)
      → LeavesOthers name r (withdraw_step r name key).register
  pub by_advance : (r : Register) (day : ℤ) → KeepsAgents r (advance_step r day).register
  pub by_enrolment : (r : Register) (name token : List ℕ)
      → KeepsAgents r (enrol_step r name token).register
  pub by_renewal : (r : Register) (name token : List ℕ)
      → RenewsToken name r (renew_step r name token).register

-- A refusal leaves the register as it was. So does a lodging that is sent again, and the withdrawal
-- of a filing that is withdrawn already.
pub record RefusalChangesNothing : Type 0 where
  pub of_lodging : (r : Register) (name key : List ℕ) (due : ℤ) (bytes : List ℕ)
      (fault : LodgeFault) →
      (lodge_step r name key due bytes).answer ≡ Err fault
      → (lodge_step r name key due bytes).register ≡ r
  pub of_repeat : (r : Register) (name key : List ℕ) (due : ℤ) (bytes : List ℕ) (told : Lodged) →
      (lodge_step r name key due bytes).answer ≡ Ok told → told.fresh ≡ false
      → (lodge_step r name key due bytes).register ≡ r
  pub of_withdrawal : (r : Register) (name key : List ℕ) (fault : WithdrawFault)
      → (withdraw_step r name key).answer ≡ Err fault → (withdraw_step r name key).register ≡ r
  pub of_withdrawn : (r : Register) (name key : List ℕ) (f : AcceptedFiling)
      → filing_keyed key (filings_of name r.members) ≡ Some f → f.withdrawn ≡ true
      → (withdraw_step r name key).register ≡ r
  pub of_advance : (r : Register) (day : ℤ) (fault : AdvanceFault)
      → (advance_step r day).answer ≡ Err fault → (advance_step r day).register ≡ r
  pub of_enrolment : (r : Register) (name token : List ℕ) (fault : EnrolFault)
      → (enrol_step r name token).answer ≡ Err fault → (enrol_step r name token).register ≡ r
  pub of_renewal : (r : Register) (name token : List ℕ) (fault : RenewFault)
      → (renew_step r name token).answer ≡ Err fault → (renew_step r name token).register ≡ r

-- A new register is legal, and each operation leaves a legal register legal.
pub record StaysLegal : Type 0 where
  pub at_first : (registrar : List ℕ) (day : ℤ) → IsLegal (empty_register registrar day)
  pub by_lodging : (r : Register) (name key : List ℕ) (due : ℤ) (bytes : List ℕ) → IsLegal r
      → IsLegal (lodge_step r name key due bytes).register
  pub by_withdrawal : (r : Register) (name key : List ℕ) → IsLegal r
      → IsLegal (withdraw_step r name key).register
  pub by_advance : (r : Register) (day : ℤ) → IsLegal r → IsLegal (advance_step r day).register
  pub by_enrolment : (r : Register) (name token : List ℕ) → IsLegal r
      → IsLegal (enrol_step r name token).register
  pub by_renewal : (r : Register) (name token : List ℕ) → IsLegal r
      → IsLegal (renew_step r name token).register

-- the live statements of one record of an agent
abbrev pub live_series : List ℕ → List ℕ → List Live → List Live
live_series declaration rec live = filter (λ l. is_of declaration rec l.statement) live

-- the one list is the front of the other
abbrev pub IsPrefix : {X : Type 0} → List X → List X → Type 0
IsPrefix {X} front whole = (rest : List X) × (whole ≡ front ++ rest)

-- The published statements of a record are a front of its live ones. So an agent's published
-- filings obey the record rules by themselves: each one's statements are those of its file, settled
-- as they are after the published ones before it alone, and no settled status depends on a draft.
pub record PublishedPrefix : Type 0 where
  pub of_each_record : (r : Register) (name declaration rec : List ℕ) → IsLegal r →
      IsPrefix (live_series declaration rec
      (live_of (filter (is_published r.day) (filings_of name r.members))))
      (live_series declaration rec (live_of (filings_of name r.members)))
  pub by_themselves : (r : Register) (name : List ℕ) → IsLegal r
      → AreRead [] (filter (is_published r.day) (filings_of name r.members))

-- An agent of a legal register sees the same as it would alone with what the others have published.
abbrev pub SightAlone : Type 0
SightAlone =
    (r : Register) (name : List ℕ) → IsLegal r → is_enrolled name r.members ≡ true
    → sight_of name (alone name r) ≡ sight_of name r

-- The numbers of filings make no node and no link: on every day, what a viewer sees shows the same
-- with them and without.
abbrev pub NumbersMakeNoLinks : Type 0
NumbersMakeNoLinks =
    (day : ℤ) (viewer : List ℕ) (r : Register)
    → shown_of day (seen_by viewer r) ≡ shown_of day (visible viewer r.day r.members)

-- the journal with one more filing of the agent at the end
abbrev pub with_entry : Journal → List ℕ → AcceptedFiling → Journal
with_entry j name f = record j { entries = j.entries ++ record { agent = name; filing = f } ∷ [] }

-- The filing that was lodged and answered is the next entry of the journal: live, with the file's
-- statements, settled after its agent's live ones. The register that is left is that of the journal
-- with it.
pub record IsNextEntry (j : Journal) (name key : List ℕ) (due : ℤ) (bytes : List ℕ) (told : Lodged)
    (left : Register) (f : AcceptedFiling) : Type 0 where
  pub number : f.number ≡ told.number
  pub filing : f ≡ accepted (entries_of name j.entries) key due bytes f.statements
  pub read : settled_reading (live_of (entries_of name j.entries)) due (reading bytes)
      ≡ Ok f.statements
  pub in_order : IsInOrder (with_entry j name f)
  pub register : left ≡ register_of (with_entry j name f)

-- A lodging that is answered as fresh adds one filing behind all that was accepted.
abbrev pub LodgingIsNextEntry : Type 0
LodgingIsNextEntry =
    (j : Journal) (name key : List ℕ) (due : ℤ) (bytes : List ℕ) (told : Lodged) → IsInOrder j
    → IsSome (token_of name j.agents) →
    (lodge_step (register_of j) name key due bytes).answer ≡ Ok told → told.fresh ≡ true →
    (f : AcceptedFiling)
    × IsNextEntry j name key due bytes told
    (lodge_step (register_of j) name key due bytes).register f
