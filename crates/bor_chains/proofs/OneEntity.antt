-- All that are the same as a node are a class, and nodes that stand for one entity have the same chains, and so one report and one evidence.
use Rattle.std.proofs.Common.{[], Contains, refl, ℕ, List, ◌∷◌, sym, subst}
use Rattle.bor_records.proofs.OnLinks.Sames.{same_more, same_reached, same_turn}
use Rattle.bor_records.specs.declared.links.node.Node.{Node}
use Rattle.bor_records.specs.declared.links.node.Link.{Link}
use Rattle.bor_records.specs.Links.Shown.{Shown}
use Rattle.bor_records.specs.Links.Aliases.{IsAliasPath, Same}
use Rattle.bor_chains.specs.Laws.{SameAreAClass, SameEntitiesHaveOneReport}
use Rattle.bor_chains.specs.declared.tree.EvidenceLink.{EvidenceLink}
use Rattle.bor_chains.specs.declared.tree.EvidencePerson.{EvidencePerson}
use Rattle.bor_chains.specs.Chains.{IsChain, IsLeast}
use Rattle.bor_chains.specs.Evidence.{IsEvidence, IsNamedBy, IsOfEvidence}

pub same_is_class : SameAreAClass
same_is_class s a nodes all = record {
  own = (all.each a).1 ([], refl);
  closed = λ b c h l. let same = (all.each b).0 h in (all.each c).1 (same_more s a same.0 b c same.1 l);
  least = λ more h closed b on. let same = (all.each b).0 on in same_reached s (λ m. Contains more m) closed a same.0 b same.1 h;
}

-- steps go on to what the last node is the same as
same_on : (s : Shown) (a : Node) (cs : List Node) (b c : Node) → IsAliasPath s a cs b → Same s b c → Same s a c
same_on s a [] b c h k = subst (λ (n : Node). Same s n c) (sym h) k
same_on s a (d ∷ ds) b c h k = let r = same_on s d ds b c h.1 k in (d ∷ r.0, (h.0, r.1))

-- ---- from one entity to another that is the same

module _ (s : Shown) where
  chain_to : (a e f : Node) (ls : List Link) → Same s e f → IsChain s a ls e → IsChain s a ls f
  chain_to a e f [] same h = h
  chain_to a e f (l ∷ []) same h = (h.0, h.1, h.2, same_on s l.subject (h.3).0 e f (h.3).1 same)
  chain_to a e f (l ∷ k ∷ ls) same h = (h.0, h.1, h.2, h.3, h.4, chain_to k.party e f (k ∷ ls) same h.5)

  chain_back : (a e f : Node) (ls : List Link) → Same s e f → IsChain s a ls f → IsChain s a ls e
  chain_back a e f ls same h = chain_to a f e ls (same_turn s e f same) h

  least_to : (e f person : Node) (links : ℕ) → Same s e f → IsLeast s e person links → IsLeast s f person links
  least_to e f person links same h = record {
    some = let c = h.some in (c.0, chain_to person e f c.0 same c.1, c.2);
    none_fewer = λ ls chain. h.none_fewer ls (chain_back person e f ls same chain);
  }

  evidence_to : (person e f : Node) (ls : List Link) → Same s e f → IsEvidence s person ls e → IsEvidence s person ls f
  evidence_to person e f ls same h = record {
    chain = chain_to person e f ls same h.chain;
    least = λ ks chain. h.least ks (chain_back person e f ks same chain);
  }

  named_to : (e f : Node) (tree : List EvidenceLink) (person : EvidencePerson) → Same s e f → IsNamedBy s e tree person → IsNamedBy s f tree person
  named_to e f tree person same h = record {
    is_person = h.is_person;
    chain = h.chain;
    read = h.read;
    evidence = evidence_to person.node e f h.chain same h.evidence;
    long = h.long;
  }

  of_evidence_to : (e f : Node) (x : EvidenceLink) → Same s e f → IsOfEvidence s e x → IsOfEvidence s f x
  of_evidence_to e f x same h = record {
    person = h.person;
    info = h.info;
    chain = h.chain;
    is_person = h.is_person;
    evidence = evidence_to h.person e f h.chain same h.evidence;
    is_link = h.is_link;
  }

pub same_entities_have_one_report : SameEntitiesHaveOneReport
same_entities_have_one_report = record {
  report = λ s e f lines same a. record {
    each = λ line on. let j = a.each line on in (j.0, least_to s e f line.node line.links same j.1);
    every = λ person info ls joined. a.every person info ls (joined.0, chain_back s person e f ls same joined.1);
    sorted = a.sorted;
  };
  evidence = λ s e f tree same a. record {
    each = λ person on. named_to s e f tree.links person same (a.each person on);
    every = λ person info ls joined. a.every person info ls (joined.0, chain_back s person e f ls same joined.1);
    sorted = a.sorted;
    links = λ x. (
      (λ on. of_evidence_to s e f x same ((a.links x).0 on)),
      (λ h. (a.links x).1 (of_evidence_to s f e x (same_turn s e f same) h)),
    );
    links_sorted = a.links_sorted;
  };
}
