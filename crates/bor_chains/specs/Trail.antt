-- The state of the walk that keeps the reason for each mark; for clauses of private functions
-- alone.
use Rattle.std.specs.Prelude.{◌≡◌, ◌⊎◌, ◌++◌, ◌<◌, ◌≤◌, ℕ, List, [], ◌∷◌, Contains, true, Option}
use Rattle.std.specs.Prelude.{None, Some, length}
use Rattle.std.specs.List.{slice_get}
use Rattle.bor_records.specs.declared.links.node.Node.{Node}
use Rattle.bor_records.specs.declared.links.node.NodeInfo.{NodeInfo}
use Rattle.bor_records.specs.declared.links.node.NodeInfo.TheVariants as infos
use Rattle.bor_records.specs.declared.links.node.Link.{Link}
use Rattle.bor_records.specs.declared.links.node.PersonInfo.{PersonInfo}
use Rattle.bor_records.specs.Links.Shown.{Shown, IsLegalEntity, IsPerson, info_of}
use Rattle.bor_records.specs.Links.Aliases.{Same}
use Rattle.bor_records.specs.Links.Growth.{Grown}
use Rattle.bor_chains.specs.declared.crossed.Crossing.{Crossing}
use Rattle.bor_chains.specs.declared.marks.Mark.{Mark}
use Rattle.bor_chains.specs.declared.marks.Mark.TheVariants.{Target, Middle, Holder}
use Rattle.bor_chains.specs.declared.marks.Marked.{Marked}
use Rattle.bor_chains.specs.declared.trail.Step.{Step}
use Rattle.bor_chains.specs.declared.trail.Trail.{Trail}
use Rattle.bor_chains.specs.Chains.{IsChain}
use Rattle.bor_chains.specs.Evidence.{IsNotAfter}

-- ---- chains from marks

-- the links that lead down from a node with a mark to the entity
abbrev pub DownAs : Shown → Node → Node → Mark → List Link → Type 0
DownAs s e n Target ls = Same s n e × (ls ≡ [])
DownAs s e n Middle ls = (q : Node) × Same s n q × IsLegalEntity s q × IsChain s q ls e
DownAs s e n Holder ls = (info : PersonInfo) × IsPerson s n info × IsChain s n ls e

abbrev pub Down : Shown → Node → Marked → List Link → Type 0
Down s e m ls = DownAs s e m.node m.mark ls

-- .. and comes after nothing else that does
pub record IsLeastDown (s : Shown) (e : Node) (m : Marked) (ls : List Link) : Type 0 where
  pub down : Down s e m ls
  pub least : (ks : List Link) → Down s e m ks → IsNotAfter ls ks

-- the link leads up to the node with the mark
abbrev pub LeadsAs : Shown → Link → Node → Mark → Type 0
LeadsAs s l n Target = ⊥
LeadsAs s l n Middle = IsLegalEntity s l.party × Same s l.party n
LeadsAs s l n Holder = (info : PersonInfo) × (n ≡ l.party) × IsPerson s l.party info

abbrev pub LeadsTo : Shown → Link → Marked → Type 0
LeadsTo s l m = LeadsAs s l m.node m.mark

-- ---- steps

abbrev pub step_by : Crossing → NodeInfo → Step
step_by c info = record { link = c.link; below = c.below; info = info }

-- from a place step by step down to one without a step, over these links
abbrev pub ReadsOff : List (Option Step) → ℕ → List Link → Type 0
ReadsOff steps i [] = slice_get steps i ≡ Some None
ReadsOff steps i (l ∷ ls) =
    (step : Step) × (slice_get steps i ≡ Some (Some step)) × (step.below < i) × (step.link ≡ l)
    × ReadsOff steps step.below ls

-- copies of the step are put at the end, until there are so many
pub record IsFilled (count : ℕ) (step : Option Step) (old new : List (Option Step)) : Type 0 where
  pub rest : List (Option Step)
  pub begins : new ≡ old ++ rest
  pub all : (x : Option Step) → Contains rest x → x ≡ step
  pub long : length old ≤ count → length new ≡ count

-- the mark at a place, and its step
abbrev pub StandsAt : Trail → ℕ → Marked → Option Step → Type 0
StandsAt w i m o = (slice_get w.marks i ≡ Some m) × (slice_get w.steps.items i ≡ Some o)

-- as many steps as marks
abbrev pub AreBeside : Trail → Type 0
AreBeside w = length w.steps.items ≡ length w.marks

-- exactly the marks of P are given, each with the step
pub record GivesMarks (P : Marked → Type 0) (step : Option Step) (old new : Trail) : Type 0 where
  pub marks : Grown P old.marks new.marks
  pub steps : IsFilled (length new.marks) step old.steps.items new.steps.items

-- .. unless a mark is there
abbrev pub GivesUnlessThere : Marked → (Marked → Type 0) → Option Step → Trail → Trail → Type 0
GivesUnlessThere marked P step old new =
    (Contains old.marks marked × (new ≡ old))
    ⊎ ((Contains old.marks marked → ⊥) × GivesMarks P step old new)

-- with an entity in the middle all that are the same have the mark
abbrev pub AreWhole : Shown → List Marked → Type 0
AreWhole s marks =
    (a b : Node) → Same s a b → Contains marks (record { node = a; mark = Middle })
    → Contains marks (record { node = b; mark = Middle })

-- ---- one crossing after another

-- marks and steps are added at the end, as many
pub record IsLonger (old new : Trail) : Type 0 where
  pub rest : List Marked
  pub begins : new.marks ≡ old.marks ++ rest
  pub more : List (Option Step)
  pub steps_begin : new.steps.items ≡ old.steps.items ++ more
  pub beside : AreBeside old → AreBeside new

-- the step is over the crossing
pub record IsStepOver (s : Shown) (c : Crossing) (o : Option Step) : Type 0 where
  pub step : Step
  pub is : o ≡ Some step
  pub link : step.link ≡ c.link
  pub below : step.below ≡ c.below
  pub info : Some step.info ≡ info_of s c.link.party

-- exactly the marks to which the crossing's link leads are given, but for those that were there
pub record Follows (s : Shown) (c : Crossing) (old new : Trail) : Type 0 where
  pub longer : IsLonger old new
  pub only : (m : Marked) → Contains longer.rest m → LeadsTo s c.link m
  pub fresh : (m : Marked) → Contains longer.rest m → Contains old.marks m → ⊥
  pub every : (m : Marked) → LeadsTo s c.link m → Contains new.marks m
  pub steps : (o : Option Step) → Contains longer.more o → IsStepOver s c o

-- the step is over the first of the crossings that leads to the mark
pub record IsByFirst (s : Shown) (cs : List Crossing) (m : Marked) (o : Option Step) : Type 0 where
  pub place : ℕ
  pub crossing : Crossing
  pub is : slice_get cs place ≡ Some crossing
  pub leads : LeadsTo s crossing.link m
  pub over : IsStepOver s crossing o
  pub first : (j : ℕ) (c : Crossing) → j < place → slice_get cs j ≡ Some c → LeadsTo s c.link m → ⊥

-- the marks to which the first n crossings lead are there, and each that wasn't before was given by
-- the first of all that lead to it
pub record FollowsTo (s : Shown) (cs : List Crossing) (n : ℕ) (old new : Trail) : Type 0 where
  pub longer : IsLonger old new
  pub every : (j : ℕ) (c : Crossing) (m : Marked) → j < n → slice_get cs j ≡ Some c
      → LeadsTo s c.link m → Contains new.marks m
  pub given : (i : ℕ) (m : Marked) (o : Option Step) → StandsAt new i m o → length old.marks ≤ i
      → (Contains old.marks m → ⊥) × IsByFirst s cs m o

-- ---- one level after another

-- the meaning of a step for the node with a mark
abbrev pub TellsAs : Shown → Node → Mark → Step → Type 0
TellsAs s n Target step = ⊥
TellsAs s n Middle step = step.info ≡ infos.Entity true
TellsAs s n Holder step = (n ≡ step.link.party) × (Some step.info ≡ info_of s n)

-- From the mark at a place its least chain is read off: it has `level` links from `start` on, and
-- fewer before.
pub record IsReached (s : Shown) (e : Node) (start level : ℕ) (steps : List (Option Step)) (i : ℕ)
    (m : Marked) : Type 0 where
  pub chain : List Link
  pub reads : ReadsOff steps i chain
  pub least : IsLeastDown s e m chain
  pub few : i < start → length chain < level
  pub now : start ≤ i → length chain ≡ level

-- All marks of chains of at most `level` links are there, each with its least chain.
pub record IsAtLevel (s : Shown) (e : Node) (start level : ℕ) (w : Trail) : Type 0 where
  pub whole : AreWhole s w.marks
  pub beside : AreBeside w
  pub each : (i : ℕ) (m : Marked) → slice_get w.marks i ≡ Some m
      → IsReached s e start level w.steps.items i m
  pub near : (m : Marked) (ks : List Link) → Down s e m ks → length ks ≤ level → Contains w.marks m
  pub tells : (i : ℕ) (m : Marked) (step : Step) → StandsAt w i m (Some step)
      → TellsAs s m.node m.mark step

-- All marks of chains are there, each with its least chain.
pub record IsAll (s : Shown) (e : Node) (w : Trail) : Type 0 where
  pub beside : AreBeside w
  pub each : (i : ℕ) (m : Marked) → slice_get w.marks i ≡ Some m
      → (ls : List Link) × ReadsOff w.steps.items i ls × IsLeastDown s e m ls
  pub every : (m : Marked) (ks : List Link) → Down s e m ks → Contains w.marks m
  pub tells : (i : ℕ) (m : Marked) (step : Step) → StandsAt w i m (Some step)
      → TellsAs s m.node m.mark step
