use Rattle.std.proofs.Common.{sym, ◌∙◌}
use Rattle.bor_terms.proofs.Fronts.{front_order, back_order, short_tie}
use Rattle.bor_terms.proofs.text.TextOrd.cmp.Goals as goal

pub returns-then-self-other : goal.returns-then-self-other
returns-then-self-other g c =
    rw (← c.self.view_is, ← c.other.view_is)
    (front_order _ _ c.self.inside.front c.other.inside.front _ c.self.invariant.1 c.other.invariant.1 c.self.invariant.3 c.other.invariant.3 c.if-self-other.true c.cmp.ensures)

pub returns-then-self-other-2 : goal.returns-then-self-other-2
returns-then-self-other-2 g c =
    rw (← c.self.view_is, ← c.other.view_is)
    (back_order _ _ c.self.inside.front c.other.inside.front c.self.inside.back c.other.inside.back _ c.self.invariant.1 c.other.invariant.1 c.self.invariant.2 c.other.invariant.2 c.self.invariant.3 c.other.invariant.3 c.if-self-other.false c.if-self-other-2.true c.cmp-then-self-other-2.ensures)

pub returns-then-is_short : goal.returns-then-is_short
returns-then-is_short g c =
    rw (← c.self.view_is, ← c.other.view_is)
    (short_tie _ _ c.self.inside.front c.other.inside.front c.self.inside.back c.other.inside.back c.self.invariant.1 c.other.invariant.1 c.self.invariant.2 c.other.invariant.2 c.self.invariant.3 c.other.invariant.3 c.if-self-other.false c.if-self-other-2.false (sym c.is_short.ensures ∙ c.if-is_short.true))
