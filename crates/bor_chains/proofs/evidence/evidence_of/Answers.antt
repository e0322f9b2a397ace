use Rattle.bor_records.proofs.KeptLaws.{kept_then}
use Rattle.bor_chains.proofs.Steps.{all_evidenced}
use Rattle.bor_chains.proofs.evidence.evidence_of.Goals as goal

pub returns-clause-evidenced : goal.returns-clause-evidenced
returns-clause-evidenced g c = λ m e k. let s = g.S.LinkSource.shown m in
    let target = c.args.target.now in
    let then = (c.find_entity.ensures.kept.same (c.trail_from.ensures.kept.began k) m).0 e in
    let all = c.in_ok-trail.ensures.walked m then k in
    let found = c.in_ok-found.found in
    let persons = c.each_person_once-persons.result.items in
    let links = c.each_link_once-links.result.items in
    rw (c.new.ensures, c.new-2.ensures)
    (all_evidenced s target c.in_ok-trail.trail found.persons.items c.persons_in_order.result.items persons found.links.items c.links_in_order.result.items links all c.in_ok-found.ensures.persons c.in_ok-found.ensures.links
    (record { same = c.persons_in_order.ensures.same; sorted = c.persons_in_order.ensures.sorted; once = c.each_person_once-persons.ensures })
    (record { same = c.links_in_order.ensures.same; sorted = c.links_in_order.ensures.sorted; once = c.each_link_once-links.ensures }))

pub returns-in_err-trail-clause-kept : goal.returns-in_err-trail-clause-kept
returns-in_err-trail-clause-kept g c = kept_then _ _ _ _ c.find_entity.ensures.kept c.trail_from.ensures.kept

pub returns-in_err-found-clause-kept : goal.returns-in_err-found-clause-kept
returns-in_err-found-clause-kept g c = kept_then _ _ _ _ c.find_entity.ensures.kept c.trail_from.ensures.kept

pub returns-clause-kept : goal.returns-clause-kept
returns-clause-kept g c = kept_then _ _ _ _ c.find_entity.ensures.kept c.trail_from.ensures.kept
