use Rattle.std.proofs.Common.{refl}
use Rattle.bor_records.specs.Links.Answers.{AreLinksInto}
use Rattle.bor_register.proofs.OnMemory.Told.{told_seen}
use Rattle.bor_register.proofs.memory.list_keep.ListKeep.links_seen.Goals as goal

pub returns-clause-told : goal.returns-clause-told
returns-clause-told c = told_seen c.links_into-told.result (λ s links. AreLinksInto s c.args.node.now links.items) c.args.viewer.now c.args.day c.records_by-records.result _ _ c.records_by-records.ensures c.take_maps.ensures.kept (c.links_into-told.ensures.answer tt c.records_by-records.result refl)
