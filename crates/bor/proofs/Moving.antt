-- The result of moving the tables of a file.
use Rattle.std.proofs.Common.{◌≡◌, Result, Ok, Err, MatchResult, OnOk, subst, sym}
use Rattle.sqlite.specs.State.{HasCleanDisk, State}
use Rattle.sqlite_wal.specs.Recovery.{Image}
use Rattle.bor_register.specs.Register.{Register}
use Rattle.bor_desk.specs.Operations.Legality.{IsLegal}
use Rattle.bor_store_sql.specs.Rows.Encoding.{contents}
use Rattle.bor_store_sql.specs.Shown.{Has, IsClean, ShowsFirst, ShowsIn}
use Rattle.bor_store.specs.Opening.{IsConnected, IsFailure}
use Rattle.bor_store.specs.declared.open_fault.OpenFault.{OpenFault}
use Rattle.bor.specs.Machine.{IsMoved}

shows_still : (r : Register) (old mid : State) → mid.committed ≡ old.committed → ShowsIn r old → ShowsIn r mid
shows_still r old mid kept shown = record { has = subst (Has (contents r)) (sym kept) shown.has; stored = shown.stored }

-- where the move is answered `Ok`, what was shown still is, and so is what was shown in version 1
pub moved_ok : {X P : Type 0} (image : Image) (old new : State) → (HasCleanDisk old → IsConnected image old) → (IsClean new → IsClean old) → (result : Result X OpenFault)
    → (IsClean new → (r : Register) → ShowsIn r old → MatchResult result (λ _. new.committed ≡ old.committed) IsFailure)
    → (IsClean new → (r : Register) → ShowsFirst r old → IsLegal r → MatchResult result (λ _. ShowsIn r new) IsFailure)
    → (IsMoved image old new → P) → OnOk result P
moved_ok image old new connected began (Ok x) second first so = so (record {
  connected = connected;
  began = began;
  second = λ clean r held.
      let shown = (connected (began clean).0).shows r held in
      shows_still r old new (second clean r shown) shown;
  first = first;
})
moved_ok image old new connected began (Err fault) second first so = tt
