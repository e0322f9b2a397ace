use Rattle.std.proofs.Common.{◌≡◌, ◌∙◌, ℕ, List, Some, sym, ap, ap₂, rules}
use Rattle.std.specs.BTreeMap.{get}
use Rattle.bor_store_sql.specs.declared.rows.places.At.{At}
use Rattle.bor_store_keys.specs.Finding.{place_cmp}
use Rattle.bor_store_keys.specs.Signed.{record_standing}
use Rattle.bor_store_keys.proofs.Holding.{exact_place, one_more}
use Rattle.bor_store_keys.proofs.Told.{placed_there}
use Rattle.bor_store_keys.proofs.found.put_place.Goals as goal

pub returns : goal.returns
returns c = λ r view stored before is.
    let row = c.in-Some.row in
    let key : At = record { filing = row.filing; place = c.in-Ok.place; agent = c.in_ok-copy.field-0 } in
    let place : c.in-Ok.place ≡ row.place = search rules in
    one_more place_cmp exact_place (λ k n. record_standing r.members k ≡ Some n) (get place_cmp c.args.places.now) (get place_cmp c.insert.new.self) key c.in_ok-copy-2.field-0 c.in_ok-insert.ensures.updates.0
    (ap₂ (λ (agent : List ℕ) (n : ℕ). let at : At = record { agent = agent; filing = row.filing; place = n } in record_standing r.members at) c.in_ok-copy.ensures place
    ∙ placed_there view c.args.node.now r stored row (sym is ∙ c.in-Some.is)
    ∙ ap Some (sym c.in_ok-copy-2.ensures))
    before
