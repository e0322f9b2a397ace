use Rattle.std.proofs.Common.{List, ℕ, subst, sym}
use Rattle.std.proofs.lemmas.Str.{IsUtf8-from_ascii}
use Rattle.bor_terms.specs.Day.{IsSpelling}
use Rattle.bor_terms.proofs.Spelling.{spelling_ascii}
use Rattle.bor_wire.proofs.OnRendering.Writing.{ended}
use Rattle.bor_wire.proofs.rendering.shown.write_day.Goals as goal

-- a spelling is ASCII
pub unreachable-requires : goal.unreachable-requires
unreachable-requires c =
    let bytes = c.as_slice.result.now in
    let spelling = subst (λ (bs : List ℕ). IsSpelling c.args.day bs) (sym c.as_slice.ensures) c.text.ensures.spelling in
    c.in-Err.ensures.cases.0 (IsUtf8-from_ascii bytes (spelling_ascii bytes c.args.day spelling))

pub returns : goal.returns
returns c = rw (c.in-Ok.ensures.cases.0, c.as_slice.ensures, c.text.ensures.value) at (ended c.string.ensures)
