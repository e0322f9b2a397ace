-- How a transaction ends, and what a caller knows of it.
use Rattle.std.proofs.Common.{◌≡◌, IsOk, Result, OnOk, IfErr, IsErr, IsTrue, [], false, true, rules}
use Rattle.sqlite.specs.Effect.{Database}
pub use Rattle.sqlite.specs.Held.{Held, state}
use Rattle.sqlite.specs.State.{State, HasCleanDisk, IsRolledBack, Shows, KeepsCounts, Survives}
use Rattle.sqlite.specs.Steps.{FailsToCommit}
use Rattle.sqlite.specs.Store.{Ghosts}
use Rattle.sqlite.specs.Tree.{Trees}
use Rattle.sqlite.specs.declared.error.Error.{Error}
use Rattle.bor_register.specs.Register.{Register}
use Rattle.bor_store_sql.specs.Ran.{Ends, MovesTo, RanOpenIn}
use Rattle.bor_store_sql.specs.Rows.Encoding.{contents}
use Rattle.bor_store_sql.specs.Rows.Stored.{IsStored}
use Rattle.bor_store_sql.specs.Shown.{AltersTo, Commits, Has, IsClean, LeavesAtMost, Stands}
use Rattle.bor_store_sql.proofs.Moves.{left}

-- what was done failed, and is undone
pub undone : (old new : State) (done result : Result (Unit {0}) Error) → Survives old new (λ _. ⊥) → IsErr result → (HasCleanDisk new → IsRolledBack old new) → Ends old new done result
undone old new done result survives err back = search rules

-- it is committed, or fails
pub committed : (old new : State) → Survives old new (λ trees. trees ≡ old.now.trees) → (done result : Result (Unit {0}) Error) → IsOk done
    → (HasCleanDisk new → OnOk result (IsTrue old.in_transaction × Shows old new old.now old.now false × KeepsCounts old new × (new.marks ≡ [])))
    → (HasCleanDisk new → IfErr result (FailsToCommit old new)) → Ends old new done result
committed old new survives done result went ok err = search rules

-- the trees of a database that has the register's rows
pub stands_in : (r : Register) (after : Database) (trees : Trees) → after.trees ≡ trees → Has (contents r) after × IsStored r → Stands r trees
stands_in r after trees same h = search rules

-- what was made of a database, which has these trees
pub record IsMadeOf (Makes : Database → Database → Type 0) (before : Database) (trees : Trees) : Type 0 where
  pub after : Database
  pub trees_are : after.trees ≡ trees
  pub made : Makes before after

-- what a caller knows of a transaction of its own
pub record Ended (Makes : Database → Database → Type 0) (old new : State) (result : Result (Unit {0}) Error) : Type 0 where
  pub commits : Commits old new result
  pub made : IsClean new → OnOk result (Makes old.committed new.committed)
  pub stops : LeavesAtMost (IsMadeOf Makes old.committed) old new

-- The connection `was` had no transaction. It was `began` once one was begun, and `left` once that ended.
pub ended : {S : Type 0} (g : Ghosts S) (was end left : Held S) {Makes : Database → Database → Type 0} {began : Held S} {mid : State} {done result : Result (Unit {0}) Error} → began ≡ record was { in_transaction = true } → MovesTo Makes (state g began) mid done → RanOpenIn (state g began) mid done
    → Ends mid (state g end) done result → (state g end).in_transaction ≡ false → (IsTrue (state g was).is_open → (state g was).now ≡ (state g was).committed) → was.in_transaction ≡ false → end ≡ left → Ended Makes (state g was) (state g left) result
ended g was end left {Makes} {mid = mid} {done} {result} begun moves opened ends mode settled alone same = search rules

-- what stands in the trees that a stop leaves
pub stopped_in : (Makes : Database → Database → Type 0) (Made : Trees → Type 0) (old new : State) → ((trees : Trees) → IsMadeOf Makes old.committed trees → Made trees) → LeavesAtMost (IsMadeOf Makes old.committed) old new → LeavesAtMost Made old new
stopped_in Makes Made old new stands stops clean trees left = search rules

-- what follows where it went well
pub on_ok : {P Q : Type 0} (result : Result (Unit {0}) Error) → OnOk result P → (P → Q) → OnOk result Q
on_ok result p follows = search rules

-- what a change of the register that is shown makes of it
pub alters : {Makes : Database → Database → Type 0} {Shows : Register → State → Type 0} {Fits : Register → Type 0} {change : Register → Register} {old new : State} {result : Result (Unit {0}) Error} → Ended Makes old new result
    → ((r : Register) → Shows r old → Fits r → (db : Database) → Makes old.committed db → Has (contents (change r)) db × IsStored (change r)) → AltersTo Shows Fits change old new result
alters {Makes} {Shows} {Fits} {change} {old} {new} {result} it so = record {
  commits = it.commits;
  made = λ clean r shows fits. on_ok result (it.made clean) (λ makes. let is = so r shows fits new.committed makes in record { has = is.0; stored = is.1 });
  stops = stopped_in Makes (λ trees. (r : Register) → Shows r old → Fits r → Stands (change r) trees) old new (λ trees m r shows fits. stands_in (change r) m.after trees m.trees_are (so r shows fits m.after m.made)) it.stops;
}
