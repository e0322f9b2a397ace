-- Facts that follow from an answer.
use Rattle.std.proofs.Common.{◌≡◌, ℕ, ℤ, List, Result, Ok, Err, IfOk, refl, sym, subst, arith}
use Rattle.std.specs.Prelude.{IfErr, MatchResult, OnErr, OnOk}
use Rattle.std.specs.Result.{result_map_both}
use Rattle.std.proofs.lemmas.Result.{MatchResult-weaker}
pub use Rattle.std.proofs.lemmas.Result.{IfOk-weaker as told_then}
use Rattle.bor_records.specs.Links.Shown.{Shown}
use Rattle.bor_records.specs.Promises.{counted}
use Rattle.bor_records.specs.Links.Relationships.{RowsOn, shown_on}
use Rattle.bor_register.specs.Memory.Holding.{Holding}
use Rattle.bor_register.specs.Rows.{visible}
use Rattle.bor_register.specs.Seen.{seen_at}
use Rattle.bor_register.specs.declared.fault.StoreFault.{StoreFault}
use Rattle.bor_register.specs.declared.fault.StoreFault.TheVariants.{Memory}

-- what holds whether or not a call failed
pub either_way : {T F : Type 0} (r : Result T F) (P Q R : Type 0) → OnOk r P → OnErr r Q → (P → R) → (Q → R) → R
either_way (Ok x) P Q R p q f g = f p
either_way (Err e) P Q R p q f g = g q

-- what is told of the rows that a viewer sees is told of the register
pub told_seen : {X F : Type 0} (result : Result X F) (P : Shown → X → Type 0) (viewer : List ℕ) (day : ℤ) (x : RowsOn) (now was : Holding) → (let y : RowsOn = record { day = day; rows = visible viewer now.register.day now.register.members } in x ≡ y) → now ≡ was
    → MatchResult result (P (shown_on x)) (λ fault. Unit {0}) → IfOk result (P (seen_at viewer day was.register))
told_seen result P viewer day x now was is kept h =
    subst (λ (k : Holding). IfOk result (P (seen_at viewer day k.register))) kept
    (MatchResult-weaker result (subst (λ (y : RowsOn). MatchResult result (P (shown_on y)) (λ fault. Unit {0})) is h) (λ x told. told) (λ fault none. tt))

-- ---- an error that is told as want of memory

pub told_answer : {T F : Type 0} (P : T → Type 0) (answer : Result T F) (told : Result T StoreFault) → told ≡ result_map_both (λ x. x) (λ _. Memory) answer → IfOk answer P → IfOk told P
told_answer P (Ok x) told is h = subst (λ t. IfOk t P) (sym is) h
told_answer P (Err e) told is h = subst (λ t. IfOk t P) (sym is) tt

pub told_fault : {T F : Type 0} (answer : Result T F) (told : Result T StoreFault) → told ≡ result_map_both (λ x. x) (λ _. Memory) answer → IfErr told (λ fault. fault ≡ Memory)
told_fault (Ok x) told is = subst (λ t. IfErr t (λ fault. fault ≡ Memory)) (sym is) tt
told_fault (Err e) told is = subst (λ t. IfErr t (λ fault. fault ≡ Memory)) (sym is) refl

pub told_count : {T F : Type 0} (answer : Result T F) (told : Result T StoreFault) (faults : ℕ) → told ≡ result_map_both (λ x. x) (λ _. Memory) answer → counted answer faults ≡ counted told faults
told_count answer told faults is = grind (arith, is)
