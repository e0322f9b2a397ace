use Rattle.std.proofs.Common.{◌≡◌, ◌∷◌, [], ap, append_assoc, append-nil, arith, length, refl, rules, subst, sym, ◌∙◌, ◌++◌}
use Rattle.std.specs.Vec.Iter.{into_iter_items}
use Rattle.std.proofs.lemmas.List.{nil_from_length}
use Rattle.bor_program.specs.Connections.Watching.{AreTold}
use Rattle.bor_program.proofs.OnConnections.Watching.{told_more}
use Rattle.bor_program.proofs.connections.server.Server.tell.Goals as goal

pub loop-note-init : goal.loop-note-init
loop-note-init g c = (
  c.into_iter-note-iterator.ensures.into_iter_gives.1 ∙ search rules ∙ sym (ap length c.into_iter-note-iterator.ensures.into_iter_gives.0),
  ([], c.into_iter-note-iterator.ensures.into_iter_gives.0 ∙ c.take_notes-note-items.ensures.all, refl),
)

pub loop-note-preserved : goal.loop-note-preserved
loop-note-preserved g c =
    let steps : into_iter_items c.loop-note.note-iterator ≡ c.in-Some.note ∷ into_iter_items c.next.new.self = c.in-Some.ensures.steps.0 in
    let told = c.loop-note.invariant.1.0 in (
      let was = c.loop-note.invariant.0 in
          let gone = c.in-Some.ensures.steps.1 in
          let short = ap length steps in
          omega arith,
      (
        told ++ c.in-Some.note ∷ [],
        append_assoc told (c.in-Some.note ∷ []) (into_iter_items c.next.new.self) ∙ ap (λ rest. told ++ rest) (sym steps) ∙ c.loop-note.invariant.1.1,
        told_more g.W.Watch.does c.args.watch.now c.loop-note.watch c.note.new.self told c.in-Some.note c.loop-note.invariant.1.2 c.note.ensures,
      ),
    )

pub returns-clause-told : goal.returns-clause-told
returns-clause-told g c =
    let told = c.loop-note.invariant.1.0 in
    let none : into_iter_items c.loop-note.note-iterator ≡ [] = nil_from_length _ (sym c.loop-note.invariant.0 ∙ c.in-None.ensures.steps.0) in
    let whole : told ≡ c.args.self.now.service.notes.items = sym (append-nil told) ∙ ap (λ rest. told ++ rest) (sym none) ∙ c.loop-note.invariant.1.1 in
    subst (λ notes. AreTold g.W.Watch.does c.args.watch.now notes c.loop-note.watch) whole c.loop-note.invariant.1.2
