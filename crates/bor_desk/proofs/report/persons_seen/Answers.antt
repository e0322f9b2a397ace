use Rattle.std.proofs.Common.{◌∙◌, sym}
use Rattle.bor_chains.specs.Chains.{AreJoined}
use Rattle.bor_desk.proofs.SeenChains.{chains-found, chains-refused, found-accounts, keep-kept, keep-promised, refused-accounts}
use Rattle.bor_desk.proofs.report.persons_seen.Goals as goal

pub returns-in_err-persons_of : goal.returns-in_err-persons_of
returns-in_err-persons_of g c =
    let source = c.new-source.ensures in
    let ends = c.keep-1.given.1 (sym source.same_reference ∙ sym c.persons_of.ensures.same_reference) in
    let told = c.from_residual.ensures in
    let fault = c.in_err-persons_of.field-0.0 in
    record {
      kept = keep-kept g.K.Keep.meaning _ _ c.new-source.result c.persons_of.new.source source.keep ends c.persons_of.ensures.kept;
      answer = keep-promised g.K.Keep.meaning _ _ c.new-source.result c.persons_of.new.source c.args.viewer.now c.args.day _ source.viewer source.day source.keep ends
          (λ r shown clean. chains-refused _ _ c.args.day c.args.viewer.now r c.args.entity.now fault c.from_residual.result (c.in_err-persons_of.ensures.no_entity _ shown clean) told.0 told.1);
      accounted = refused-accounts g.K.Keep.meaning _ _ c.new-source.result c.persons_of.new.source fault c.from_residual.result source.keep ends told.0 told.1 c.in_err-persons_of.ensures.accounted;
    }

pub returns : goal.returns
returns g c =
    let source = c.new-source.ensures in
    let ends = c.keep-1.given.1 (sym source.same_reference ∙ sym c.persons_of.ensures.same_reference) in
    let walk = c.in_ok-persons_of.ensures in
    record {
      kept = keep-kept g.K.Keep.meaning _ _ c.new-source.result c.persons_of.new.source source.keep ends c.persons_of.ensures.kept;
      answer = keep-promised g.K.Keep.meaning _ _ c.new-source.result c.persons_of.new.source c.args.viewer.now c.args.day _ source.viewer source.day source.keep ends
          (λ r shown clean. chains-found (λ s. AreJoined s c.args.entity.now c.in_ok-persons_of.field-0.items) c.args.day c.args.viewer.now r c.args.entity.now (walk.entity _ shown clean) (walk.joined _ shown clean));
      accounted = found-accounts g.K.Keep.meaning _ _ c.new-source.result c.persons_of.new.source source.keep ends walk.accounted;
    }
