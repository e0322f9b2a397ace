use Rattle.bor_store_keys.proofs.listed.node_listed.Goals as goal

pub put_lists-requires : goal.put_lists-requires
put_lists-requires g c = λ clean r shows. (c.node-told.ensures.reads.kept.same tt _).0 (c.requires clean r shows)
