-- The refusals of a lodging, and the register after a refused one.
use Rattle.std.proofs.Common.{◌≡◌, ℕ, ℤ, ◌+◌, ◌<◌, subst, List, [], ◌∷◌, ◌++◌, length, take, drop, get_or, set, map, true, false, Result, Ok, Err, refl, ◌∙◌, sym, ap, append_assoc, arith}
use Rattle.std.specs.Prelude.{◌≢◌, ◌%◌, ◌^◌, Some, nat_le}
use Rattle.std.proofs.lemmas.Bool.{false_from_ne_true, leb-false}
use Rattle.std.proofs.lemmas.List.{take_more_set, get_or_default, get_or-set_same, drop_more, drop-set-lt, map-append}
use Rattle.bods_read.specs.declared.statement.Statement.{Statement}
use Rattle.bods_read.specs.declared.statement.Status.{Status}
use Rattle.bods_read.specs.declared.fault.FileFault.{FileFault}
use Rattle.bods_read.specs.File.{reading}
use Rattle.bor_records.specs.declared.fault.RecordFault.{RecordFault}
use Rattle.bor_records.specs.Admission.{Live, last_of, refusals, settled_status, unless_refused, admission}
use Rattle.bor_records.specs.Settling.{Refusal, by_record, PlacedRefusal, has_id, verdict, as_settled, as_live, ahead, settled_then, settled_from, settled}
use Rattle.bor_desk.specs.declared.operations.fault.LodgeFault.{LodgeFault}
use Rattle.bor_desk.specs.declared.operations.fault.LodgeFault.TheVariants.{StatementTwice, Record}
use Rattle.bor_register.specs.declared.filing.AcceptedFiling.{AcceptedFiling}
use Rattle.bor_register.specs.Register.{Register, filings_of, filing_keyed}
use Rattle.bor_register.specs.Live.{accepted, live_of}
use Rattle.bor_desk.specs.Operations.Sight.{Sight}
use Rattle.bor_desk.specs.Operations.Lodging.{told_verdict, told_settled, settled_reading, as_read, repeated, addition, lodge_step}
use Rattle.bor_desk.specs.Operations.Outcomes.{of_lodging, IsOutcome, Refuses, IsDone}
use Rattle.bor_desk.specs.declared.operations.lodging.Lodged.{Lodged}
use Rattle.bor_register.specs.Limits.{filings_limit}
use Rattle.bor_desk.proofs.OnOperations.Outcomes.{unless_store, refused}
use Rattle.bor_register.proofs.Members.{with_filings_same}

-- a count that goes up by one, modulo 2^64, is another
pub moved : (n : ℕ) → (n + 1) % 2 ^ 64 ≢ n
moved n = λ e. omega arith

-- ---- one statement

pub verdict-taken : (place : ℕ) (live : List Live) (s : Statement) (due : ℤ) → has_id s.id live ≡ true → told_verdict place (verdict live s due) ≡ Err (StatementTwice place)
verdict-taken place live s due taken = rw taken refl

by_rules-ok : (rs : List RecordFault) (x st : Status) (place : ℕ) → unless_refused rs x ≡ Ok st → told_verdict place (unless_refused (map by_record rs) x) ≡ Ok st
by_rules-ok rs x st place h = grind arith

by_rules-err : (rs : List RecordFault) (x : Status) (f : RecordFault) (place : ℕ) → unless_refused rs x ≡ Err f → told_verdict place (unless_refused (map by_record rs) x) ≡ Err (Record place f)
by_rules-err rs x f place h = grind arith

pub verdict-ok : (place : ℕ) (live : List Live) (s : Statement) (due : ℤ) (st : Status) → has_id s.id live ≡ false → admission (last_of s.declaration s.rec live) s due ≡ Ok st → told_verdict place (verdict live s due) ≡ Ok st
verdict-ok place live s due st free h = rw free (by_rules-ok (refusals (last_of s.declaration s.rec live) s due) (settled_status (last_of s.declaration s.rec live) s.status) st place h)

pub verdict-err : (place : ℕ) (live : List Live) (s : Statement) (due : ℤ) (f : RecordFault) → has_id s.id live ≡ false → admission (last_of s.declaration s.rec live) s due ≡ Err f → told_verdict place (verdict live s due) ≡ Err (Record place f)
verdict-err place live s due f free h = rw free (by_rules-err (refusals (last_of s.declaration s.rec live) s due) (settled_status (last_of s.declaration s.rec live) s.status) f place h)

pub ruleset verdict_rules = (verdict-taken, verdict-ok, verdict-err)

-- ---- a file's statements, one after the other

-- what is made of statements, behind those that are settled
abbrev pub behind : List Statement → Result (List Statement) PlacedRefusal → Result (List Statement) PlacedRefusal
behind front (Ok ss) = Ok (front ++ ss)
behind front (Err refusal) = Err refusal

-- the first i statements are settled, and the others are as they were read
abbrev pub so_far : List Live → ℤ → List Statement → ℕ → Result (List Statement) PlacedRefusal
so_far live due ss i = behind (take i ss) (settled_from (i + 1) (live ++ map (as_live due) (take i ss)) due (drop i ss))

behind-ahead : (front : List Statement) (s : Statement) (x : Result (List Statement) PlacedRefusal) → behind front (ahead s x) ≡ behind (front ++ s ∷ []) x
behind-ahead front s x = grind (arith, append_assoc {A = Statement})

verdict_is : (place : ℕ) (v : Result Status Refusal) (st : Status) → told_verdict place v ≡ Ok st → v ≡ Ok st
verdict_is place v st h = grind arith

live-more : (live : List Live) (due : ℤ) (front : List Statement) (s : Statement) → (live ++ map (as_live due) front) ++ as_live due s ∷ [] ≡ live ++ map (as_live due) (front ++ s ∷ [])
live-more live due front s = append_assoc live (map (as_live due) front) (as_live due s ∷ []) ∙ ap (λ ls. live ++ ls) (sym (map-append (as_live due) front (s ∷ [])))

pub so_far-more : (live : List Live) (due : ℤ) (ss : List Statement) (i place : ℕ) (d e : Statement) (st : Status) → i < length ss →
    told_verdict place (verdict (live ++ map (as_live due) (take i ss)) (get_or ss i d) due) ≡ Ok st → so_far live due ss i ≡ so_far live due (set ss i (as_settled st (get_or ss i e))) (i + 1)
so_far-more live due ss i place d e st lt told =
    let s = get_or ss i d in
    let front = take i ss in
    let before = live ++ map (as_live due) front in
    let next = as_settled st s in
    let rest = drop (i + 1) ss in
    let is = verdict_is place (verdict before s due) st told in
    let below : i < i + 1 = omega arith in
    ap (λ ys. behind front (settled_from (i + 1) before due ys)) (drop_more ss i d lt)
    ∙ ap (λ v. behind front (settled_then (i + 1) s v (λ x. settled_from (i + 1 + 1) (before ++ as_live due x ∷ []) due rest))) is
    ∙ behind-ahead front next (settled_from (i + 1 + 1) (before ++ as_live due next ∷ []) due rest)
    ∙ ap (λ ls. behind (front ++ next ∷ []) (settled_from (i + 1 + 1) ls due rest)) (live-more live due front next)
    ∙ sym (ap (λ ys. behind ys (settled_from (i + 1 + 1) (live ++ map (as_live due) ys) due (drop (i + 1) (set ss i next)))) (take_more_set ss i next lt)
    ∙ ap (λ ys. behind (front ++ next ∷ []) (settled_from (i + 1 + 1) (live ++ map (as_live due) (front ++ next ∷ [])) due ys)) (drop-set-lt (i + 1) ss i next below))
    ∙ ap (λ (x : Statement). so_far live due (set ss i (as_settled st x)) (i + 1)) (get_or_default ss i d e lt)

-- what is live of the first ones, with one that is settled
pub live_so_far : (due : ℤ) (ss : List Statement) (i : ℕ) (s d : Statement) → i < length ss →
    map (as_live due) (take i ss) ++ as_live due (get_or (set ss i s) i d) ∷ [] ≡ map (as_live due) (take (i + 1) (set ss i s))
live_so_far due ss i s d lt =
    ap (λ (x : Statement). map (as_live due) (take i ss) ++ as_live due x ∷ []) (get_or-set_same ss i s d lt)
    ∙ sym (map-append (as_live due) (take i ss) (s ∷ [])) ∙ sym (ap (λ ys. map (as_live due) ys) (take_more_set ss i s lt))

refused_is : (e : LodgeFault) (front : List Statement) (place : ℕ) (s : Statement) (v : Result Status Refusal) (rest : Statement → Result (List Statement) PlacedRefusal) →
    told_verdict place v ≡ Err e → told_settled (behind front (settled_then place s v rest)) ≡ Err e
refused_is e front place s v rest h = grind arith

refused_then : (e : LodgeFault) (front : List Statement) (place : ℕ) (s : Statement) (v : Result Status Refusal) (rest : Statement → Result (List Statement) PlacedRefusal) →
    Refuses of_lodging e (told_verdict place v) → Refuses of_lodging e (told_settled (behind front (settled_then place s v rest)))
refused_then e front place s v rest h = unless_store (of_lodging e) _ _ (refused_is e front place s v rest) h

pub so_far-refused : (e : LodgeFault) (live : List Live) (due : ℤ) (ss : List Statement) (i place : ℕ) (d : Statement) → i < length ss → place ≡ i + 1 →
    Refuses of_lodging e (told_verdict place (verdict (live ++ map (as_live due) (take i ss)) (get_or ss i d) due)) → Refuses of_lodging e (told_settled (so_far live due ss i))
so_far-refused e live due ss i place d lt at h =
    let before = live ++ map (as_live due) (take i ss) in
    let here = subst (λ p. Refuses of_lodging e (told_verdict p (verdict before (get_or ss i d) due))) at h in
    let all = refused_then e (take i ss) (i + 1) (get_or ss i d) (verdict before (get_or ss i d) due) (λ x. settled_from (i + 1 + 1) (before ++ as_live due x ∷ []) due (drop (i + 1) ss)) here in
    subst (λ ys. Refuses of_lodging e (told_settled (behind (take i ss) (settled_from (i + 1) before due ys)))) (sym (drop_more ss i d lt)) all

-- ---- a file that isn't read

unread_is : (e : LodgeFault) (live : List Live) (due : ℤ) (file : Result (List Statement) FileFault) → as_read file ≡ Err e → settled_reading live due file ≡ Err e
unread_is e live due file h = grind arith

-- a file that isn't read refuses the lodging
pub refuses-unread : (e : LodgeFault) (live : List Live) (due : ℤ) (file : Result (List Statement) FileFault) → Refuses of_lodging e (as_read file) → Refuses of_lodging e (settled_reading live due file)
refuses-unread e live due file h = unless_store (of_lodging e) _ _ (unread_is e live due file) h

pub settled-read : (live : List Live) (due : ℤ) (ss : List Statement) (file : Result (List Statement) FileFault) → as_read file ≡ Ok ss → settled_reading live due file ≡ told_settled (settled live due ss)
settled-read live due ss file h = grind arith

pub ruleset reading_rules = (settled-read)

-- ---- a key that is there

repeated_step : (r : Register) (name key : List ℕ) (due : ℤ) (bytes : List ℕ) (f : AcceptedFiling) → filing_keyed key (filings_of name r.members) ≡ Some f →
    ((lodge_step r name key due bytes).answer ≡ repeated r.day due bytes f) × ((lodge_step r name key due bytes).register ≡ r)
repeated_step r name key due bytes f found = (rw found refl, rw (found, with_filings_same name r.members) refl)

-- a filing that is told again leaves the register
pub repeat_outcome : (told : Result Lodged LodgeFault) (shown : Register → Type 0) (r : Register) (name key : List ℕ) (due : ℤ) (bytes : List ℕ) (f : AcceptedFiling) →
    filing_keyed key (filings_of name r.members) ≡ Some f → IsDone of_lodging (λ lodged. lodged) told (repeated r.day due bytes f) → shown r → IsOutcome of_lodging told shown r (lodge_step r name key due bytes)
repeat_outcome (Ok lodged) shown r name key due bytes f found h is = let p = repeated_step r name key due bytes f found in (p.0 ∙ h, subst shown (sym p.1) is)
repeat_outcome (Err e) shown r name key due bytes f found h is =
    let p = repeated_step r name key due bytes f found in
    refused of_lodging e shown r (lodge_step r name key due bytes) (unless_store (of_lodging e) _ _ (λ same. (p.0 ∙ same, p.1)) h) is

-- ---- a key that is new

-- an agent that adds a filing has room for it
pub addition_room : (s : Sight) (key : List ℕ) (due : ℤ) (bytes : List ℕ) (f : AcceptedFiling) → addition s key due bytes ≡ Ok f → length s.own < filings_limit
addition_room s key due bytes f h = leb-false filings_limit (length s.own) (false_from_ne_true (nat_le filings_limit (length s.own)) (λ full. absurd (let no = rw full at h in cc)))

-- what it adds has the statements of the file, settled, and is its next filing
pub addition_is : (s : Sight) (key : List ℕ) (due : ℤ) (bytes : List ℕ) (f : AcceptedFiling) → addition s key due bytes ≡ Ok f →
    (settled_reading (live_of s.own) due (reading bytes) ≡ Ok f.statements) × (f ≡ accepted s.own key due bytes f.statements)
addition_is s key due bytes f h = grind arith
