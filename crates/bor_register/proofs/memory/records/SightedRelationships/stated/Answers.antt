use Rattle.std.proofs.Common.{◌≡◌, ◌∙◌, true, refl, subst}
use Rattle.bor_records.specs.Links.Rows.{is_entity_info}
use Rattle.bor_records.specs.Links.Shown.{info_of}
use Rattle.bor_records.specs.Links.Relationships.{RowsOn, link_of, shown_on, with_open_party}
use Rattle.bor_records.proofs.OnLinks.ByRecord.{stated_is}
use Rattle.bor_register.specs.Memory.Sighted.{rows_in_sight}
use Rattle.std.proofs.result.Match.{if_ok_any}
use Rattle.std.proofs.lemmas.Result.{MatchResult-weaker}
use Rattle.bor_register.proofs.memory.records.SightedRelationships.stated.Goals as goal

pub returns : goal.returns
returns c = record {
  leads = refl;
  lasts = if_ok_any c.stated_link.result _ (λ x. tt);
  answer = λ clean m shown.
      let sight = c.self.inside.sight in
      MatchResult-weaker c.stated_link.result c.stated_link.ensures
      (λ link is. subst (λ (t : RowsOn). is_entity_info (info_of (shown_on t) c.args.subject.now) ≡ true → with_open_party (shown_on t) link ≡ link_of (shown_on t) c.args.subject.now c.args.rec.now) (c.self.view_is ∙ shown)
      (stated_is sight.day (rows_in_sight sight) c.args.subject.now c.args.rec.now link is)) (λ fault none. tt);
}
