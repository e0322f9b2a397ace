use Rattle.std.proofs.Common.{◌≡◌, ◌∙◌, ◌++◌, ◌∷◌, [], ap, sym}
use Rattle.bor_records.specs.Links.Values.{values_in, values_under, under}
use Rattle.bor_records.proofs.OnLinks.Values.{put_under}
use Rattle.bor_records.proofs.links.values.put.Goals as goal
use Rattle.bor_records.proofs.links.values.put.Goals.{in-Some+in_ok-values-in-Some, in-None}

-- the values that are put
put : (g : _) (c : goal.Joined-branch-3 g) → values_in c.match-remove.values ≡ under g.K.Ord.cmp c.args.map.now c.args.key ++ c.args.value ∷ []
put g c = elim c.match-remove.branch [
  | in-Some+in_ok-values-in-Some w ↦
      ap (λ v. values_in v) w.values-is ∙ w.in_ok-values-in-Some.ensures ∙ ap (λ o. values_under o ++ c.args.value ∷ []) (sym w.in-Some.is ∙ c.remove.ensures.value)
  | in-None w ↦ ap (λ v. values_in v) w.values-is ∙ ap (λ o. values_under o ++ c.args.value ∷ []) (sym w.in-None.is ∙ c.remove.ensures.value)
]

pub returns-clause-at : goal.returns-clause-at
returns-clause-at g c = ap (λ o. values_under o) c.in_ok-insert.ensures.updates.1 ∙ put g c

pub returns-clause-each : goal.returns-clause-each
returns-clause-each g c =
    put_under g.K.Ord.cmp c.args.map.now c.remove.new.self c.insert.new.self c.args.key c.match-remove.values c.args.value (put g c) c.remove.ensures.updates.0 c.in_ok-insert.ensures.updates.0
