use Rattle.std.proofs.Common.{refl, subst, ◌∙◌}
use Rattle.bor_records.specs.Links.Answers.{HaveSigned}
use Rattle.bor_records.specs.Links.Signs.{sign_cmp}
use Rattle.bor_records.proofs.OnLinks.SignsOfRows.{rows_signed}
use Rattle.bor_records.specs.Links.Values.{under}
use Rattle.bor_records.specs.Links.Relationships.{RowsOn, shown_on}
use Rattle.bor_register.specs.Memory.Sighted.{rows_in_sight}
use Rattle.bor_register.proofs.OnMemory.Sighted.{sign_covered}
use Rattle.bor_register.proofs.memory.records.SightedRecords.signed.Goals as goal

pub returns : goal.returns
returns c = record {
  leads = refl;
  lasts = tt;
  answer = λ clean m shown.
      let sight = c.self.inside.sight in
      let signed = under sign_cmp sight.index.now.signed in
      let have = rows_signed sight.day (rows_in_sight sight) c.args.sign.now (signed c.args.sign.now)
      (sign_covered sight.viewer.now sight.today sight.members.now c.self.invariant.ordered signed c.self.invariant.index.signed c.args.sign.now) in
      subst (λ (t : RowsOn). HaveSigned (shown_on t) c.args.sign.now c.signed.result.now) (c.self.view_is ∙ shown) (rw c.signed.ensures have);
}
