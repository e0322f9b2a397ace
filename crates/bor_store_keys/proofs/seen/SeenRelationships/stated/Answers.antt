use Rattle.std.proofs.Common.{refl}
use Rattle.bor_records.proofs.OnLinks.ByRecord.{stated_is}
use Rattle.bor_store_keys.specs.Viewed.{rows_seen}
use Rattle.bor_store_keys.proofs.Holding.{seen_answer}
use Rattle.bor_store_keys.proofs.seen.SeenRelationships.stated.Goals as goal

pub returns : goal.returns
returns g c = record {
  leads = (refl, refl, c.stated_link.ensures.reads);
  lasts = c.stated_link.ensures.up;
  answer = seen_answer _ c.stated_link.ensures (λ r stored link is.
      (let view = c.args.self.now.view.now in
      stated_is view.day (rows_seen view r) c.args.subject.now c.args.rec.now link is));
}
