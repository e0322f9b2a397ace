-- A change that fits each value that a clean state shows is one of which nothing else has to be known, and the other way round.
use Rattle.std.proofs.Common.{Result, IfOk, inl, inr, arith}
use Rattle.std.specs.Prelude.{IfErr}
use Rattle.bor_records.specs.Promises.{Changes, ChangesWhere, Meaning, Sure, left_by}

module _ {S V W T F : Type 0} (meaning : Meaning S V W F) where
  pub sure_changes : {old new : S} {result : Result T F} {Fits : V → Type 0} {change : V → V} → Sure meaning old Fits
      → ChangesWhere meaning old new result Fits change → Changes meaning old new result change
  sure_changes {old} {new} {result} {Fits} {change} sure where_fits = record {
    leaves = record {
      began = where_fits.leaves.began;
      sound = where_fits.leaves.sound;
      stops = λ sound left may. elim (where_fits.leaves.stops sound left may) [ inl was ↦ inl was | inr made ↦ inr (made.0, λ v shown. made.1 v shown (sure v shown made.0)) ];
    };
    lasts = where_fits.lasts;
    counts = where_fits.counts;
    told = λ v shown clean. where_fits.told v shown clean (sure v shown (where_fits.leaves.began clean));
    changed = λ v shown clean. either result v (where_fits.failed v shown clean) (where_fits.made v shown clean (sure v shown (where_fits.leaves.began clean)));
  }
    where
      either : (answer : Result T F) (v : V) → IfErr answer (λ e. meaning.shows new v) → IfOk answer (λ x. meaning.shows new (change v)) → meaning.shows new (left_by answer (change v) v)
      either answer v failed made = grind arith

  -- a change of which nothing has to be known fits each value
  pub changes_always : {old new : S} {result : Result T F} {change : V → V} → Changes meaning old new result change
      → ChangesWhere meaning old new result (λ v. Unit {0}) change
  changes_always {old} {new} {result} {change} changes = record {
    leaves = record {
      began = changes.leaves.began;
      sound = changes.leaves.sound;
      stops = λ sound left may. elim (changes.leaves.stops sound left may) [ inl was ↦ inl was | inr made ↦ inr (made.0, λ v shown fits. made.1 v shown) ];
    };
    lasts = changes.lasts;
    counts = changes.counts;
    told = λ v shown clean fits. changes.told v shown clean;
    failed = λ v shown clean. where_err result v (changes.changed v shown clean);
    made = λ v shown clean fits. where_ok result v (changes.changed v shown clean);
  }
    where
      where_err : (answer : Result T F) (v : V) → meaning.shows new (left_by answer (change v) v) → IfErr answer (λ e. meaning.shows new v)
      where_err answer v h = grind arith

      where_ok : (answer : Result T F) (v : V) → meaning.shows new (left_by answer (change v) v) → IfOk answer (λ x. meaning.shows new (change v))
      where_ok answer v h = grind arith
