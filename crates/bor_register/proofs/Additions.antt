-- The settled statements of a file may be added to the live ones that they were settled after.
use Rattle.std.proofs.Common.{◌≡◌, ℕ, ◌+◌, ℤ, List, [], ◌∷◌, ◌++◌, map, Bool, Result, Ok, Err, true, false, if◌then◌else◌, refl, sym, ◌∙◌, subst}
use Rattle.std.specs.Prelude.{All, IsSome, ◌||◌}
use Rattle.std.specs.List.{IsDistinct, AllByRecursion}
use Rattle.std.proofs.lemmas.List.Elements.{All-nil, All-cons, All-head, All-tail, All-weaker}
use Rattle.std.proofs.lemmas.Map.Keys.{IsDistinct-cons}
use Rattle.bor_terms.specs.Texts.{is_same}
use Rattle.bods_read.specs.declared.statement.Statement.{Statement}
use Rattle.bods_read.specs.declared.statement.Status.{Status}
use Rattle.bor_records.specs.Admission.{Live, admitted}
use Rattle.bor_records.specs.Settling.{Refusal, PlacedRefusal, statement_twice, has_id, verdict, as_settled, as_live, ahead, settled_then, settled_from, settled}
use Rattle.bor_records.proofs.Settled.{has_id-append, of_rules, verdict_is}
use Rattle.bor_register.specs.Live.{AreNew}

-- ---- no statement, and one statement before others

none_new : (live : List Live) → AreNew live []
unfolding IsDistinct
none_new live = record { settled = All-nil _; distinct = tt; free = All-nil _ }

neither : (a b : Bool) → (a || b) ≡ false → (a ≡ false) × (b ≡ false)
neither false b h = (refl, h)
neither true b h = absurd cc

-- an identifier that isn't live once the statement is: neither the live ones' nor the statement's
free_before : (live : List Live) (due : ℤ) (s t : Statement) → has_id t.id (live ++ as_live due s ∷ []) ≡ false → (has_id t.id live ≡ false) × (is_same s.id t.id ≡ false)
free_before live due s t h =
    let e = neither (has_id t.id live) (has_id t.id (as_live due s ∷ [])) (sym (has_id-append t.id live (as_live due s ∷ [])) ∙ h) in
    (e.0, (neither (is_same s.id t.id) false e.1).0)

ids_other : (id : List ℕ) (ss : List Statement) → All (λ t. is_same id t.id ≡ false) ss → AllByRecursion (λ other. is_same id other ≡ false) (map (λ s. s.id) ss)
ids_other id [] h = tt
ids_other id (s ∷ ss) h = (All-head (λ t. is_same id t.id ≡ false) s ss h, ids_other id ss (All-tail (λ t. is_same id t.id ≡ false) s ss h))

-- a statement with a free identifier, before others that are new once it is live
new_ahead : (live : List Live) (due : ℤ) (s : Statement) (ss : List Statement) → IsSome s.status → has_id s.id live ≡ false → AreNew (live ++ as_live due s ∷ []) ss → AreNew live (s ∷ ss)
new_ahead live due s ss status free rest =
    let apart = All-weaker (λ t. has_id t.id (live ++ as_live due s ∷ []) ≡ false) (λ t. is_same s.id t.id ≡ false) (λ t h. (free_before live due s t h).1) ss rest.free in
    let others = All-weaker (λ t. has_id t.id (live ++ as_live due s ∷ []) ≡ false) (λ t. has_id t.id live ≡ false) (λ t h. (free_before live due s t h).0) ss rest.free in
    record {
      settled = All-cons (λ t. IsSome t.status) s ss status rest.settled;
      distinct = IsDistinct-cons is_same s.id (map (λ t. t.id) ss) (ids_other s.id ss apart) rest.distinct;
      free = All-cons (λ t. has_id t.id live ≡ false) s ss free others;
    }

not_taken : (live : List Live) (s : Statement) (due : ℤ) (status : Status) → verdict live s due ≡ Ok status → has_id s.id live ≡ false
not_taken live s due status h = go (has_id s.id live) (sym (verdict_is live s due) ∙ h)
  where
    go : (b : Bool) → (if b then Err statement_twice else of_rules (admitted live s due)) ≡ Ok status → b ≡ false
    go false e = refl
    go true e = absurd cc

settled-new : (place : ℕ) (live : List Live) (due : ℤ) (file ss : List Statement) → settled_from place live due file ≡ Ok ss → AreNew live ss
settled-new place live due [] ss h = subst (AreNew live) (let same : [] ≡ ss = cc in same) (none_new live)
settled-new place live due (s ∷ file) ss h = by_verdict (verdict live s due) refl (λ t more. settled-new (place + 1) (live ++ as_live due t ∷ []) due file more) h
  where
    rest : Statement → Result (List Statement) PlacedRefusal
    rest t = settled_from (place + 1) (live ++ as_live due t ∷ []) due file

    by_rest : (status : Status) (r : Result (List Statement) PlacedRefusal) → verdict live s due ≡ Ok status → ((more : List Statement) → r ≡ Ok more → AreNew (live ++ as_live due (as_settled status s) ∷ []) more) →
        ahead (as_settled status s) r ≡ Ok ss → AreNew live ss
    by_rest status (Err refusal) v others g = absurd cc
    by_rest status (Ok more) v others g =
        subst (AreNew live) (let same : as_settled status s ∷ more ≡ ss = cc in same)
        (new_ahead live due (as_settled status s) more refl (not_taken live s due status v) (others more refl))

    by_verdict : (v : Result Status Refusal) → verdict live s due ≡ v → ((t : Statement) (more : List Statement) → rest t ≡ Ok more → AreNew (live ++ as_live due t ∷ []) more) → settled_then place s v rest ≡ Ok ss → AreNew live ss
    by_verdict (Err why) e others g = absurd cc
    by_verdict (Ok status) e others g = by_rest status (rest (as_settled status s)) e (others (as_settled status s)) g

-- the settled statements of a file are new to the live ones
pub settled_are_new : (live : List Live) (due : ℤ) (file ss : List Statement) → settled live due file ≡ Ok ss → AreNew live ss
settled_are_new live due file ss h = settled-new 1 live due file ss h
