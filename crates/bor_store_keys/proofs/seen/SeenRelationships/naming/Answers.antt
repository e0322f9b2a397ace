use Rattle.std.proofs.Common.{refl}
use Rattle.bor_records.proofs.OnLinks.ByRecord.{naming_is}
use Rattle.bor_store_keys.specs.Viewed.{rows_seen}
use Rattle.bor_store_keys.proofs.Recording.{into_covered}
use Rattle.bor_store_keys.proofs.Holding.{seen_answer}
use Rattle.bor_store_keys.proofs.seen.SeenRelationships.naming.Goals as goal

pub returns : goal.returns
returns g c = record {
  leads = (refl, refl, c.records_into.ensures.reads);
  lasts = c.records_into.ensures.up;
  answer = seen_answer _ c.records_into.ensures (λ r stored nodes cover.
      (let view = c.args.self.now.view.now in
      naming_is view.day (rows_seen view r) c.args.subject.now nodes.items (into_covered view.viewer view.today r stored c.args.subject.now nodes.items cover)));
}
