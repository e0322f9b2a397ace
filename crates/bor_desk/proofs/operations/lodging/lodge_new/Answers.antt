use Rattle.std.proofs.Common.{sym, subst}
use Rattle.std.proofs.lemmas.Result.{err_from_is_err_and}
use Rattle.bor_register.specs.Live.{live_of, AreNew}
use Rattle.bor_desk.specs.Operations.Sight.{sight_of}
use Rattle.bor_desk.proofs.OnOperations.Refusals.{refuses_new, refused_lodging-outcome}
use Rattle.bor_desk.proofs.OnOperations.Lodgings.{addition_room}
use Rattle.bor_desk.proofs.OnOperations.Additions.{addition_new}
use Rattle.bor_desk.proofs.operations.lodging.lodge_new.Goals as goal

pub returns-in_err-new-clause-step : goal.returns-in_err-new-clause-step
returns-in_err-new-clause-step g c = λ r is clean1.
    let p = err_from_is_err_and c.from_residual.result c.from_residual.ensures.1 in
    let e = c.in_err-new.field-0.0 in
    let key = c.args.key.now in
    let clean0 = c.in_err-new.ensures.kept.began clean1 in
    let kept = (c.in_err-new.ensures.kept.same clean1 r).0 is in
    let told = refuses_new (sight_of c.args.agent.now r) key c.args.due c.args.bytes.now e (c.requires.new_key r is clean0) (c.in_err-new.ensures.answer r is clean1 key) in
    rw (p.1, p.2) (refused_lodging-outcome (g.K.Keep.meaning.shows c.prepare.new.keep) r c.args.agent.now key c.args.due c.args.bytes.now e told kept)

pub add_filing-requires : goal.add_filing-requires
add_filing-requires g c = λ r kept clean.
    let is = (c.in_ok-new.ensures.kept.same clean r).1 kept in
    let began = c.in_ok-new.ensures.kept.began clean in
    let sight = sight_of c.args.agent.now r in
    let added = c.in_ok-new.ensures.answer r is clean c.args.key.now in
    record {
      enrolled = c.requires.enrolled r is began;
      counted = c.in_ok-new.ensures.count r is clean;
      room = addition_room sight c.args.key.now c.args.due c.args.bytes.now _ added;
      fresh = c.requires.new_key r is began;
      statements_are = subst (AreNew (live_of sight.own)) (sym c.deref.ensures.value) (addition_new sight c.args.key.now c.args.due c.args.bytes.now _ added);
    }
