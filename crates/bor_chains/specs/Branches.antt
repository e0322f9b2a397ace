-- From the steps of a walk to the persons and links of its evidence; for clauses of private
-- functions alone.
use Rattle.std.specs.Prelude.{◌≡◌, ◌<◌, ◌≤◌, ℕ, nat_lt, Bool, true, false, List, [], ◌∷◌, Contains}
use Rattle.std.specs.Prelude.{Option, None, Some, length, if◌then◌else◌}
use Rattle.std.specs.List.{slice_get}
use Rattle.bor_records.specs.declared.links.node.NodeInfo.{NodeInfo}
use Rattle.bor_records.specs.declared.links.node.NodeInfo.TheVariants as infos
use Rattle.bor_records.specs.declared.links.node.Link.{Link}
use Rattle.bor_records.specs.declared.links.node.PersonInfo.{PersonInfo}
use Rattle.bor_chains.specs.declared.tree.EvidenceLink.{EvidenceLink}
use Rattle.bor_chains.specs.declared.tree.EvidencePerson.{EvidencePerson}
use Rattle.bor_chains.specs.declared.trail.Step.{Step}
use Rattle.bor_chains.specs.Trail.{ReadsOff}

-- the step, where there is one and it leads to a lower place
abbrev pub lower_step : ℕ → Option (Option Step) → Option Step
lower_step i None = None
lower_step i (Some None) = None
lower_step i (Some (Some step)) = if nat_lt step.below i then Some step else None

-- .. at a place
abbrev pub step_down : List (Option Step) → ℕ → Option Step
step_down steps i = lower_step i (slice_get steps i)

-- its link, where there is a step
abbrev pub step_link : Option (Option Step) → Option Link
step_link None = None
step_link (Some None) = None
step_link (Some (Some step)) = Some step.link

-- from one place step by step down to another, over these links
abbrev pub LeadsDown : List (Option Step) → ℕ → List Link → ℕ → Type 0
LeadsDown steps i [] j = i ≡ j
LeadsDown steps i (l ∷ ls) j =
    (step : Step) × (step_down steps i ≡ Some step) × (step.link ≡ l)
    × LeadsDown steps step.below ls j

-- the place of a person leads down to this one
pub record IsNeeded (steps : List (Option Step)) (i : ℕ) : Type 0 where
  pub place : ℕ
  pub step : Step
  pub info : PersonInfo
  pub is : step_down steps place ≡ Some step
  pub person : step.info ≡ infos.Person info
  pub links : List Link
  pub leads : LeadsDown steps place links i

-- so many links are read off from a place
abbrev pub IsCount : List (Option Step) → ℕ → ℕ → Type 0
IsCount steps i count = (ls : List Link) → ReadsOff steps i ls → length ls ≡ count

-- the counts of the first n places
pub record AreCounts (steps : List (Option Step)) (n : ℕ) (counts : List ℕ) : Type 0 where
  pub long : length counts ≡ n
  pub each : (i count : ℕ) → slice_get counts i ≡ Some count → (count ≤ i) × IsCount steps i count

-- of the places from n on, which are needed, and what lies one step below these
pub record AreNeeded (steps : List (Option Step)) (n : ℕ) (needed : List Bool) : Type 0 where
  pub long : length needed ≡ length steps
  pub only : (i : ℕ) → slice_get needed i ≡ Some true → IsNeeded steps i
  pub every : (i : ℕ) → n ≤ i → IsNeeded steps i → slice_get needed i ≡ Some true
  pub below : (i : ℕ) (step : Step) → n ≤ i → IsNeeded steps i → step_down steps i ≡ Some step
      → slice_get needed step.below ≡ Some true

-- the person to whom a step leads
abbrev pub persons_by : NodeInfo → Link → ℕ → List EvidencePerson
persons_by (infos.Entity legal) l count = []
persons_by (infos.Person info) l count =
    record { node = l.party; info = info; first = l; links = count } ∷ []

-- the persons and the links of evidence that a step makes, where it is needed
abbrev pub persons_at : Bool → Option Step → ℕ → List EvidencePerson
persons_at false o count = []
persons_at true None count = []
persons_at true (Some step) count = persons_by step.info step.link count

abbrev pub links_at : Bool → Option Step → List (Option Step) → List EvidenceLink
links_at false o below = []
links_at true None below = []
links_at true (Some step) below =
    record { link = step.link; next = step_link (slice_get below step.below) } ∷ []

-- the person of a place, with how many links lead down
pub record IsPersonAt (steps : List (Option Step)) (i : ℕ) (person : EvidencePerson) : Type 0 where
  pub step : Step
  pub is : slice_get steps i ≡ Some (Some step)
  pub info : step.info ≡ infos.Person person.info
  pub node : person.node ≡ step.link.party
  pub first : person.first ≡ step.link
  pub count : IsCount steps i person.links

-- the link of a place, with that of the place below
pub record IsLinkAt (steps : List (Option Step)) (i : ℕ) (x : EvidenceLink) : Type 0 where
  pub step : Step
  pub is : slice_get steps i ≡ Some (Some step)
  pub link : x.link ≡ step.link
  pub next : step.below < i → x.next ≡ step_link (slice_get steps step.below)

-- the persons of the places from n on that are needed
pub record ArePersonsFrom (steps : List (Option Step)) (n : ℕ)
    (persons : List EvidencePerson) : Type 0 where
  pub each : (person : EvidencePerson) → Contains persons person
      → (i : ℕ) × IsPersonAt steps i person
  pub every : (i : ℕ) (step : Step) (info : PersonInfo) → n ≤ i → IsNeeded steps i
      → slice_get steps i ≡ Some (Some step) → step.info ≡ infos.Person info
      → (person : EvidencePerson) × Contains persons person × IsPersonAt steps i person

-- the links of these places
pub record AreLinksFrom (steps : List (Option Step)) (n : ℕ)
    (links : List EvidenceLink) : Type 0 where
  pub each : (x : EvidenceLink) → Contains links x → (i : ℕ) × IsNeeded steps i × IsLinkAt steps i x
  pub every : (i : ℕ) (step : Step) → n ≤ i → IsNeeded steps i → slice_get steps i
      ≡ Some (Some step) → (x : EvidenceLink) × Contains links x × IsLinkAt steps i x
