-- Interests to which their days are put, one by one.
use Rattle.std.proofs.Common.{◌≡◌, ◌+◌, ◌==◌, ℕ, ℤ, false, Option, List, [], ◌∷◌, ◌++◌, map, append-nil, append_assoc, refl, sym, ap, ◌∙◌, arith, rules}
use Rattle.std.specs.List.{AllByRecursion, flat_map}
use Rattle.sqlite_keyed.proofs.ListLemmas.{all-append, all-flat_map, all_weaker}
use Rattle.bor_store_sql.specs.declared.rows.typed.InterestLine.{InterestLine}
use Rattle.bor_store_sql.specs.declared.rows.typed.InterestRow.{InterestRow}
use Rattle.bor_store_sql.specs.declared.rows.typed.PeriodRow.{PeriodRow}
use Rattle.bods_read.specs.declared.interest.Interest.{Interest}
use Rattle.bor_store_sql.specs.declared.rows.places.At.{At}
use Rattle.bor_store_sql.specs.declared.rows.typed.Placed.{Placed}
use Rattle.bor_store_sql.proofs.OnRows.Numbers.{other_number}
use Rattle.bor_store_sql.specs.Rows.Placed.{AreApart, interest_rows, interests_from, interests_listed, same_place, AreSeveral, Misses, OfNext, interest_line, period_of, period_rows, same_interest}
use Rattle.std.proofs.Math.Bool.{and-false}
use Rattle.bor_store_sql.proofs.OnRows.Each.{all_said, each_interest, each_interest_of}
use Rattle.bor_store_sql.proofs.OnRows.Lists.{no_values}

-- the periods of other interests miss this one
one_missed : (i j : InterestRow) → same_interest j.at j.item i.at i.item ≡ false → Misses i (period_rows j)
one_missed i j e = all_said (λ (p : PeriodRow). same_interest p.at p.item i.at i.item ≡ false) (period_of j) e j.interest.starts j.interest.ends

pub all_missed : (i : InterestRow) (is : List InterestRow) → AllByRecursion (λ (j : InterestRow). same_interest j.at j.item i.at i.item ≡ false) is → Misses i (flat_map period_rows is)
all_missed i is h = search (rules, all-flat_map, all_weaker, one_missed)

-- some interests are made of all, and the rows of both tables are those of the others
pub record Left (all out : List InterestRow) (lines : List InterestLine) (periods : List PeriodRow) : Type 0 where
  pub left : List InterestRow
  pub whole : out ++ left ≡ all
  pub several : AreSeveral left
  pub lines_are : lines ≡ map interest_line left
  pub periods_are : periods ≡ flat_map period_rows left

pub none_left : (all out : List InterestRow) (lines : List InterestLine) (periods : List PeriodRow) → Left all out lines periods → lines ≡ [] → out ≡ all
none_left all out lines periods l none = sym (append-nil out) ∙ ap (λ left. out ++ left) (sym (no_values interest_line l.left (sym l.lines_are ∙ none))) ∙ l.whole

abbrev pub timed : InterestLine → Option ℤ → Option ℤ → InterestRow
timed l starts ends = record { at = l.at; item = l.item; interest = record { kind = l.kind; directness = l.directness; share = l.share; starts = starts; ends = ends } }

pub one_more : (all out : List InterestRow) (line : InterestLine) (rows lines : List InterestLine) (periods rest : List PeriodRow) (starts ends : Option ℤ) (made : InterestRow)
    → Left all out rows periods → rows ≡ line ∷ lines → OfNext line periods (λ i others. (starts ≡ i.interest.starts) × (ends ≡ i.interest.ends)) → OfNext line periods (λ i others. rest ≡ others)
    → made ≡ timed line starts ends → Left all (out ++ made ∷ []) lines rest
one_more all out line rows lines periods rest starts ends made l first days more made_is = go l.left l.whole l.several (sym first ∙ l.lines_are) l.periods_are
  where
    go : (left : List InterestRow) → out ++ left ≡ all → AreSeveral left → line ∷ lines ≡ map interest_line left → periods ≡ flat_map period_rows left → Left all (out ++ made ∷ []) lines rest
    go [] whole several e s = absurd cc
    go (i ∷ left) whole several e s =
        let same : line ≡ interest_line i = cc in
        let others : lines ≡ map interest_line left = cc in
        let missed = all_missed i left several.0 in
        let day = days i (flat_map period_rows left) same s missed in
        let then = more i (flat_map period_rows left) same s missed in
        let it : made ≡ i = made_is ∙ rw (same, day.0, day.1) refl in
        record {
          left = left;
          whole = append_assoc out (made ∷ []) left ∙ ap (λ x. out ++ x ∷ left) it ∙ whole;
          several = several.1;
          lines_are = others;
          periods_are = then;
        }

-- ---- the interests of statements that stand apart are several

several_then : (at : At) (n : ℕ) (is : List Interest) (ps : List Placed) → AllByRecursion (λ (q : Placed). same_place q.at at ≡ false) ps → AreSeveral (flat_map interest_rows ps) → AreSeveral (interests_from at n is ++ flat_map interest_rows ps)
several_then at n [] ps apart several = several
several_then at n (x ∷ is) ps apart several =
    let IsOther : InterestRow → Type 0 = λ j. same_interest j.at j.item at n ≡ false in (
      all-append IsOther (interests_from at (n + 1) is) (flat_map interest_rows ps)
          (each_interest IsOther at (n + 1) is (λ item i low. rw (other_number n item (omega (arith, low))) refl))
          (each_interest_of IsOther (λ (q : Placed). same_place q.at at ≡ false) ps apart (λ p item i off. rw off (and-false (item == n)))),
      several_then at (n + 1) is ps apart several,
    )

pub all_several : (ps : List Placed) → AreApart ps → AreSeveral (flat_map interest_rows ps)
all_several [] h = tt
all_several (p ∷ ps) h = several_then p.at 1 (interests_listed p.statement.details) ps h.0 (all_several ps h.1)
