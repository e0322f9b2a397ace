use Rattle.std.proofs.Common.{◌∙◌, None, Some, sym, refl}
use Rattle.bor_register.proofs.OnMemory.Sighted.{shown_sited}
use Rattle.bor_register.proofs.memory.sight.latest.Goals as goal

pub returns-in-Some : goal.returns-in-Some
returns-in-Some c =
    let sight = c.args.sight.now in
    let places = rw (← c.places_of-places.ensures) at (c.requires.index.series c.args.node.now) in
    shown_sited sight.viewer.now sight.today sight.day c.args.node.now sight.members.now c.requires.ordered c.places_of-places.result.now places (Some c.in-Some.place) _
    (sym c.in-Some.is ∙ (rw c.find_filings-filings.ensures at c.last_told.ensures)) (rw c.find_filings-filings.ensures at c.statement_at.ensures)

pub returns-in-None : goal.returns-in-None
returns-in-None c =
    let sight = c.args.sight.now in
    let places = rw (← c.places_of-places.ensures) at (c.requires.index.series c.args.node.now) in
    shown_sited sight.viewer.now sight.today sight.day c.args.node.now sight.members.now c.requires.ordered c.places_of-places.result.now places None None
    (sym c.in-None.is ∙ (rw c.find_filings-filings.ensures at c.last_told.ensures)) refl
