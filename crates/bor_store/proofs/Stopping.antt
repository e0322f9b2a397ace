-- The states that a stop may leave.
use Rattle.std.proofs.Common.{◌≡◌, ◌⊎◌, ◌∙◌, ℕ, inl, inr, List, subst}
use Rattle.sqlite.specs.State.{HasCleanDisk, State}
use Rattle.sqlite.specs.Tree.{Trees}
use Rattle.bor_records.specs.Promises.{Leaves}
use Rattle.bor_desk.specs.Operations.Legality.{IsLegal}
use Rattle.bor_register.specs.Register.{Register}
use Rattle.bor_store_sql.specs.Changing.{all_periods}
use Rattle.bor_store_sql.specs.Shown.{IsClean, LeavesAtMost, ShowsFirst, ShowsIn, ShowsLists, Stands}
use Rattle.bor_store_sql.specs.declared.rows.typed.PeriodRow.{PeriodRow}
use Rattle.bor_store_sql.proofs.Finding.{of_first}
use Rattle.bor_store_sql.specs.Found.{ReadsOnly}
use Rattle.bor_store.specs.Tables.{of_tables}
use Rattle.bor_store.specs.Migrating.{FilesSay}
use Rattle.bor_store.proofs.Either.{still_first}
use Rattle.bor_store.proofs.Stored.{files_say}
use Rattle.bor_store.proofs.Lines.{files_once}

-- where nothing was changed
pub only_read : (Made : Trees → Type 0) (old new : State) → ReadsOnly old new → LeavesAtMost Made old new
only_read Made old new reads clean trees left = inl (reads.stops clean trees left)

-- a change after a read
pub after_read : (First Made : Trees → Type 0) (old mid new : State) → ReadsOnly old mid → (HasCleanDisk new → HasCleanDisk mid) → (IsClean mid → (trees : Trees) → First trees → Made trees) → LeavesAtMost First mid new → LeavesAtMost Made old new
after_read First Made old mid new reads sound turn stops clean trees left = elim (stops clean trees left) [
  | inl before ↦ inl (reads.stops (sound clean) trees before)
  | inr (was, first) ↦ inr (reads.began was, turn was trees first)
]

-- the move of the tables of a legal register, whose files say these days
pub moves_legal : (old mid new : State) (days given : List PeriodRow) → given ≡ days → ReadsOnly old mid → (IsClean mid → (r : Register) → ShowsLists r old → FilesSay r.members days) → (HasCleanDisk new → HasCleanDisk mid)
    → LeavesAtMost (λ trees. (r : Register) → ShowsFirst r mid → given ≡ all_periods r.members → Stands r trees) mid new → LeavesAtMost (λ trees. (r : Register) → ShowsFirst r old → IsLegal r → Stands r trees) old new
moves_legal old mid new days given is reads says sound stops =
    after_read _ _ old mid new reads sound
    (λ was trees made r shows legal. made r (still_first r old mid (reads.kept was) shows) (is ∙ files_once r.members days (all_periods r.members) (says was r (of_first r old shows)) (files_say r.members legal.own)))
    stops

-- ---- of a keep

-- what a change of a keep's tables leaves
pub keep_leaves : {K : Type 0} (state_of : K → State) (faults : K → ℕ) (old new : K) (before after : State) → before ≡ state_of old → state_of new ≡ after → (HasCleanDisk after → HasCleanDisk before) → (IsClean after → IsClean before)
    → (Made : Trees → Type 0) → LeavesAtMost Made before after → (Left : Register → Trees → Type 0) → ((r : Register) → ShowsIn r before → (trees : Trees) → Made trees → Left r trees) → Leaves (of_tables state_of faults) old new Left
keep_leaves state_of faults old new before after begins ends sound began Made stops Left so = record {
  began = λ clean. subst IsClean begins (began (subst IsClean ends clean));
  sound = λ clean. subst HasCleanDisk begins (sound (subst HasCleanDisk ends clean));
  stops = λ clean trees may.
      subst (λ s. s.may_leave trees ⊎ (IsClean s × ((r : Register) → ShowsIn r s → Left r trees))) begins
      (elim (stops (subst HasCleanDisk ends clean) trees (subst (λ s. s.may_leave trees) ends may)) [
        | inl was ↦ inl was
        | inr made ↦ inr (made.0, λ r shows. so r shows trees made.1)
      ]);
}
