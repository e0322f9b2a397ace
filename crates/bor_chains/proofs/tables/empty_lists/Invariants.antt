use Rattle.std.proofs.Common.{◌≡◌, ℕ, [], Option, length}
use Rattle.bor_chains.specs.Tables.{items_at}
use Rattle.bor_chains.proofs.tables.empty_lists.Given as goal

-- as many as were counted, and nothing in them
abbrev pub invariant-loop : goal.invariant-loop
invariant-loop l = record {
  len : length l.lists.items ≡ l.counter;
  empty : (place : Option ℕ) → items_at (λ v. v.items) l.lists.items place ≡ [];
}
