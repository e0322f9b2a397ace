use Rattle.std.proofs.Common.{refl}
use Rattle.bor_records.proofs.OnLinks.SignsOfRows.{rows_signed}
use Rattle.bor_store_keys.specs.Viewed.{rows_seen}
use Rattle.bor_store_keys.proofs.Recording.{sign_covered}
use Rattle.bor_store_keys.proofs.Holding.{seen_answer}
use Rattle.bor_store_keys.proofs.seen.SeenRecords.signed.Goals as goal

pub returns : goal.returns
returns g c = record {
  leads = (refl, refl, c.records_with.ensures.reads);
  lasts = c.records_with.ensures.up;
  answer = seen_answer _ c.records_with.ensures (λ r stored nodes cover.
      (let view = c.args.self.now.view.now in
      rows_signed view.day (rows_seen view r) c.args.sign.now nodes.items (sign_covered view r stored c.args.sign.now nodes.items cover)));
}
