use Rattle.std.proofs.Common.{rules, ◌≡◌, ◌+◌, ◌++◌, arith, drop, map}
use Rattle.std.specs.Io.KnownBytes.{Appends}
use Rattle.std.proofs.lemmas.Grind.{common_steps}
use Rattle.bor_program.specs.Failures.{texts_joined}
use Rattle.bor_program.proofs.Replies.{part_begun, part_written}
use Rattle.bor_program.proofs.failure.write_texts.Goals as goal

pub returns-then-not-write_part-clause-part : goal.returns-then-not-write_part-clause-part
returns-then-not-write_part-clause-part g c =
    let i = c.loop-text.text-index in
    let texts = c.args.texts.now in
    let more : texts_joined (map (λ text. text.now) (drop i texts)) ≡ c.as_bytes.result.now ++ texts_joined (map (λ text. text.now) (drop (i + 1) texts)) = grind (arith, common_steps) in
    part_begun _ _ _ _ _ _ _ more c.loop-text.invariant c.write_part.ensures.part

pub loop-text-preserved : goal.loop-text-preserved
loop-text-preserved g c =
    let i = c.loop-text.text-index in
    let texts = c.args.texts.now in
    let more : texts_joined (map (λ text. text.now) (drop i texts)) ≡ c.as_bytes.result.now ++ texts_joined (map (λ text. text.now) (drop (i + 1) texts)) = grind (arith, common_steps) in
    let whole : Appends (g.E.Write.contents c.loop-text.errors) (g.E.Write.contents c.write_part.new.writer) c.as_bytes.result.now = search rules in
    part_written _ _ _ _ _ _ _ more c.loop-text.invariant whole
