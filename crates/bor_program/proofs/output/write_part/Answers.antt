use Rattle.std.proofs.Common.{List, ℕ, sym, subst}
use Rattle.bor_program.proofs.KnownBytes.{IsWritten, rest_from, written_more}
use Rattle.bor_program.proofs.output.write_part.Goals as goal

pub turns-preserved : goal.turns-preserved
turns-preserved g c =
    let P : List ℕ → Type 0 = IsWritten (g.W.Write.contents c.args.writer.now) (g.W.Write.contents c.write_some.new.writer) c.args.bytes.now in
    subst P (sym (rest_from c.in-Some.count c.turns.rest.now)) (written_more _ _ _ _ _ c.in-Some.count c.turns.invariant c.in-Some.ensures.taken)
