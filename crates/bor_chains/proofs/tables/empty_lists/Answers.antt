use Rattle.std.proofs.Common.{◌≡◌, ◌+◌, ◌++◌, ◌∷◌, ℕ, [], List, Option, length, sym, ap, ◌∙◌, subst, Vec, Global}
use Rattle.std.proofs.lemmas.List.{length_push}
use Rattle.bor_chains.specs.Tables.{items_at}
use Rattle.bor_chains.proofs.Beside.{empty_more}
use Rattle.bor_chains.proofs.tables.empty_lists.Goals as goal

pub loop-preserved : goal.loop-preserved
loop-preserved c =
    let pushed : c.push.new.self.items ≡ c.loop.lists.items ++ c.new.result ∷ [] = c.in_ok-push.ensures.items in
    record {
      len = ap (λ (ls : List (Vec ℕ Global)). length ls) pushed ∙ length_push c.loop.lists.items c.new.result ∙ ap (λ (n : ℕ). n + 1) c.loop.invariant.len;
      empty = subst (λ (ls : List (Vec ℕ Global)). (place : Option ℕ) → items_at (λ v. v.items) ls place ≡ []) (sym pushed) (empty_more c.loop.lists.items c.new.result c.new.ensures.items c.loop.invariant.empty);
    }
