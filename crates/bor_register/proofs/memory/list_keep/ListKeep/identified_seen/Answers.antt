use Rattle.std.proofs.Common.{refl}
use Rattle.bor_records.proofs.OnLinks.Series.{nodes_distinct}
use Rattle.bor_records.specs.Links.Answers.{AreDistinct, AreIdentified}
use Rattle.bor_register.specs.Rows.{visible}
use Rattle.bor_register.proofs.OnMemory.Told.{told_seen, told_then}
use Rattle.bor_register.proofs.memory.list_keep.ListKeep.identified_seen.Goals as goal

pub returns-clause-told : goal.returns-clause-told
returns-clause-told c =
    let r = c.args.self.now.register in
    told_then c.identified-told.result _ _ (λ nodes h. h (nodes_distinct c.args.day (visible c.args.viewer.now r.day r.members)))
    (told_seen c.identified-told.result (λ s nodes. AreDistinct s.nodes → AreIdentified s c.args.identifier.now nodes.items) c.args.viewer.now c.args.day c.records_by-records.result _ _ c.records_by-records.ensures c.take_maps.ensures.kept (c.identified-told.ensures.answer tt c.records_by-records.result refl))
