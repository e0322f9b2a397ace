-- Agents, as they are found by name and by token.
use Rattle.std.proofs.Common.{◌≡◌, ℕ, List, [], ◌∷◌, map, Bool, true, false, cond, Option, Some, option_map, Vec, Result, OnOk, IsOk, Global, refl, sym, ap, ◌∙◌, slice_get, if◌then◌else◌, ◌||◌}
use Rattle.std.specs.List.{list_any}
use Rattle.std.proofs.lemmas.Simd.{map-map}
use Rattle.std.proofs.lemmas.List.Elements.{All-filter}
use Rattle.sqlite.specs.Order.{Row}
use Rattle.sqlite.specs.State.{State}
use Rattle.sqlite.specs.declared.error.Error.{Error}
use Rattle.bor_terms.specs.Texts.{is_same}
use Rattle.bor_register.specs.declared.member.Member.{Member}
use Rattle.bor_register.specs.Forms.{IsFormedMember}
use Rattle.bor_register.specs.Register.{agent_with, is_enrolled}
use Rattle.bor_store_sql.specs.declared.rows.typed.AgentRow.{AgentRow}
use Rattle.bor_store_sql.specs.Found.{FindsRows}
use Rattle.bor_store_sql.specs.Shown.{ShowsIn}
use Rattle.bor_store_sql.specs.Rows.Encoding.{agent_columns, agent_row_columns}
use Rattle.bor_store_sql.specs.Rows.Placed.{agent_row}
use Rattle.bor_store_sql.specs.Rows.RowForms.{IsFormedAgentRow}
use Rattle.bor_store_sql.specs.Selected.{members_having, members_named}
use Rattle.bor_store_sql.proofs.OnRows.Formed.{agents_formed}
use Rattle.bor_store_reads.specs.Answering.{ReadsAs}
use Rattle.bor_store_reads.specs.declared.fault.ReadError.{ReadError}
use Rattle.bor_store_reads.proofs.Found.{TellsAll, TellsAny, TellsFirst, all_told, any_left, first_told, told_any}
use Rattle.bor_store_reads.proofs.Reading.{read_as}

-- the first agent with the token is the one that has it
first_with : (token : List ℕ) (ms : List Member) → option_map (λ (a : AgentRow). a.name) (slice_get (map agent_row (members_having token ms)) 0) ≡ agent_with token ms
first_with token [] = refl
first_with token (m ∷ ms) = elim (is_same m.token token) as (λ b. option_map (λ (a : AgentRow). a.name) (slice_get (map agent_row (cond b (m ∷ members_having token ms) (members_having token ms))) 0) ≡ (if b then Some m.name else agent_with token ms)) [
  | true ↦ refl
  | false ↦ first_with token ms
]

any_named : (name : List ℕ) (ms : List Member) → list_any (λ (m : Member). is_same m.name name) ms ≡ is_enrolled name ms
any_named name [] = refl
any_named name (m ∷ ms) = ap (λ b. is_same m.name name || b) (any_named name ms)

module _ {old new : State} {found : Result (Vec Row Global) Error} where
  pub agents_told : {result : Result (Vec AgentRow Global) ReadError} → FindsRows ShowsIn old new found (λ r. map agent_columns r.members) → TellsAll agent_row_columns IsFormedAgentRow found result → OnOk result (IsOk found)
      → ReadsAs old new result (λ r rows. rows.items ≡ map agent_row r.members)
  agents_told finds values is_ok = all_told finds agent_row_columns IsFormedAgentRow (λ r. sym (map-map agent_row_columns agent_row r.members)) (λ r stored. agents_formed r.members stored.formed.members) values is_ok

  pub agent_told : {result : Result (Option AgentRow) ReadError} {t token : List ℕ} → t ≡ token → FindsRows ShowsIn old new found (λ r. map agent_columns (members_having t r.members)) → TellsFirst agent_row_columns IsFormedAgentRow found result → OnOk result (IsOk found)
      → ReadsAs old new result (λ r agent. option_map (λ (a : AgentRow). a.name) agent ≡ agent_with token r.members)
  agent_told {token = token} is finds value is_ok = read_as
      (first_told finds agent_row_columns IsFormedAgentRow (λ r. map agent_row (members_having token r.members)) (λ r. rw is (sym (map-map agent_row_columns agent_row (members_having token r.members))))
      (λ r stored. agents_formed (members_having token r.members) (All-filter (λ (m : Member). is_same m.token token) IsFormedMember r.members stored.formed.members)) value is_ok)
      (λ r agent stored same. ap (option_map (λ (a : AgentRow). a.name)) same ∙ first_with token r.members)

  pub enrolled_told : {result : Result Bool ReadError} {n name : List ℕ} → n ≡ name → FindsRows ShowsIn old new found (λ r. map agent_columns (members_named n r.members)) → TellsAny found result → OnOk result (IsOk found)
      → ReadsAs old new result (λ r has. has ≡ is_enrolled name r.members)
  enrolled_told {name = name} is finds any is_ok = told_any finds (λ r. rw is (any_left agent_columns (λ m. is_same m.name name) r.members ∙ any_named name r.members)) any is_ok
