use Rattle.std.proofs.Common.{◌≡◌, ◌∙◌, ap, sym}
use Rattle.std.proofs.result.Match.{if_ok_any}
use Rattle.bor_records.specs.Promises.{counted}
use Rattle.bor_register.specs.Memory.Holding.{Holding}
use Rattle.bor_register.proofs.OnMemory.Told.{told_answer, told_count, told_fault}
use Rattle.bor_register.proofs.memory.list_keep.ListKeepKeep.links_into.Goals as goal

pub returns : goal.returns
returns c =
    let seen = c.links_seen-links.ensures in
    let told = c.told.ensures in
    let same : c.told.new.self.register ≡ c.args.self.now.register = ap (λ (h : Holding). h.register) told.counts ∙ ap (λ (h : Holding). h.register) seen.kept in
    record {
      kept = record { began = λ z. z; same = λ z r. ((λ h. same ∙ h), (λ h. sym same ∙ h)); sound = λ sound. sound; stops = λ sound left may. may };
      lasts = if_ok_any c.told.result _ (λ x. record { sound = λ sound. sound; clean = λ sound clean. clean });
      counts = ap (λ (h : Holding). h.faults) told.counts ∙ told_count c.links_seen-links.result c.told.result c.links_seen-links.new.self.faults told.told ∙ ap (λ (h : Holding). counted c.told.result h.faults) seen.kept;
      told = λ r is z. told_fault c.links_seen-links.result c.told.result told.told;
      answer = λ r is z.
          told_answer _ c.links_seen-links.result c.told.result told.told (rw is at seen.told);
    }
