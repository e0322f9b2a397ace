-- Rows with one more interest and with one less, and a statement that is dated later, before that day and on it.
use Rattle.std.proofs.Common.{◌≡◌, ℕ, ℤ, pos, true, false, Some, None, List, [], ◌∷◌, codes, length, map, refl, ap}
use Rattle.std.specs.List.{list_any}
use Rattle.bor_terms.specs.Points.{points}
use Rattle.bor_terms.specs.Span.{range}
use Rattle.bods_read.specs.declared.interest.Interest.{Interest}
use Rattle.bods_read.specs.declared.interest.InterestKind.TheVariants.{VotingRights}
use Rattle.bods_read.specs.declared.interest.Directness.TheVariants.{Unknown}
use Rattle.bods_read.specs.declared.details.Details.{Details}
use Rattle.bods_read.specs.declared.details.Details.TheVariants as details
use Rattle.bods_read.specs.declared.details.EntityKind.TheVariants as kinds
use Rattle.bods_read.specs.declared.details.PersonKind.TheVariants.{KnownPerson}
use Rattle.bods_read.specs.declared.statement.Status.{Status}
use Rattle.bods_read.specs.declared.statement.Status.TheVariants.{New, Closed}
use Rattle.bor_records.specs.declared.row.Row.{Row}
use Rattle.bor_records.specs.declared.links.node.Link.{Link}
use Rattle.bor_records.specs.Links.Shown.{Shown}
use Rattle.bor_records.specs.Links.Stakes.{is_stake}
use Rattle.bor_records.specs.Links.Rows.{shown_of}
use Rattle.bor_records.proofs.OnLinks.Found.{none, there}
use Rattle.bor_chains.specs.Laws.{dated_by}
use Rattle.bor_chains.specs.NoLess.{AreAmong, ShowsNoLess}
use Rattle.bor_chains.proofs.NoLess.{more_votes_take_nobody_out}
use Rattle.bor_chains.proofs.Past.{later_statements_change_no_past}

abbrev said : ℕ → Status → List ℕ → Details → Row
said day status rec d = record {
  agent = codes "alder";
  filing = 1;
  place = 1;
  status = status;
  statement = record { id = codes "s"; day = pos day; declaration = codes "c1"; rec = rec; status = None; details = d };
}

abbrev entity : Details
entity = details.Entity kinds.RegisteredEntity None []

-- ---- interests

abbrev votes : ℕ → Interest
votes percent = record { kind = VotingRights; directness = Unknown; share = Some (range percent false percent false); starts = None; ends = None }

abbrev held : List Interest → Details
held interests = details.Relationship (Some (codes "e1")) (Some (codes "p1")) interests

abbrev ends : List Row
ends = said 10 New (codes "e1") entity ∷ said 10 New (codes "p1") (details.Person KnownPerson None) ∷ []

abbrev with_40 : List Row
with_40 = said 10 New (codes "r1") (held (votes 40 ∷ [])) ∷ ends

abbrev with_60_too : List Row
with_60_too = said 10 New (codes "r1") (held (votes 60 ∷ votes 40 ∷ [])) ∷ ends

-- 60 percent of the votes more make a majority stake of a holding
stakes_told : map (λ rows. map (λ (l : Link). l.stake) (shown_of (pos 10) rows).links) (with_40 ∷ with_60_too ∷ []) ≡ (false ∷ []) ∷ (true ∷ []) ∷ []
unfolding points
stakes_told = refl

no_less : ShowsNoLess (shown_of (pos 10) with_40) (shown_of (pos 10) with_60_too)
no_less = more_votes_take_nobody_out.shown (pos 10) with_40 with_60_too
    (more_votes_take_nobody_out.by_interest (pos 10) [] ends (said 10 New (codes "r1") (held (votes 40 ∷ []))) (held (votes 60 ∷ votes 40 ∷ []))
    (votes 60 ∷ votes 40 ∷ [], refl, λ i on. there (votes 60) (votes 40 ∷ []) i on))

-- one less may be no stake
not_of_fewer : ((day : ℤ) (is fewer : List Interest) → AreAmong fewer is → is_stake day is ≡ true → is_stake day fewer ≡ true) → ⊥
unfolding points
not_of_fewer all = let no : false ≡ true = all (pos 10) (votes 60 ∷ []) [] (λ i on. absurd (none i on)) refl in absurd cc

-- ---- days

-- e1 from the 10th day on, and closed on the 12th
abbrev opened : List Row
opened = said 10 New (codes "e1") entity ∷ []

abbrev and_closed : List Row
and_closed = said 10 New (codes "e1") entity ∷ said 12 Closed (codes "e1") entity ∷ []

-- on the 11th both show it
before : shown_of (pos 11) opened ≡ shown_of (pos 11) and_closed
before = later_statements_change_no_past.shown (pos 11) opened and_closed refl

one_node : length (shown_of (pos 11) and_closed).nodes ≡ 1
one_node = refl

-- .. but rows that agree up to a day may show something else on a later one
not_of_a_later_day : ((day later : ℤ) (rows others : List Row) → dated_by day rows ≡ dated_by day others → shown_of later rows ≡ shown_of later others) → ⊥
not_of_a_later_day all = let no : true ≡ false = ap (λ (s : Shown). list_any (λ x. true) s.nodes) (all (pos 11) (pos 12) opened and_closed refl) in absurd cc
