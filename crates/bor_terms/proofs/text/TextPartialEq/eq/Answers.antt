use Rattle.std.proofs.Common.{sym, ◌∙◌}
use Rattle.bor_terms.proofs.Fronts.{short_same_text}
use Rattle.bor_terms.proofs.text.TextPartialEq.eq.Goals as goal

pub returns-then-is_short : goal.returns-then-is_short
returns-then-is_short g c =
    let short = sym c.is_short.ensures ∙ c.if-is_short.true in
    rw (← c.self.view_is, ← c.other.view_is)
    (c.if-is_short.true ∙ short_same_text _ _ c.self.inside.front c.other.inside.front c.self.inside.back c.other.inside.back c.self.invariant.1 c.other.invariant.1 c.self.invariant.2 c.other.invariant.2 c.self.invariant.3 c.other.invariant.3 c.if-self-other.false c.if-self-other-2.false short)
