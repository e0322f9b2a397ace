use Rattle.std.proofs.Common.{◌+◌, ◌<◌, rules, drop, length, map, subst, sym, take, take-add, take-append-drop}
use Rattle.std.proofs.lemmas.List.{take_more}
use Rattle.bor_http.specs.Incoming.Message.{request_limit}
use Rattle.bor_program.specs.Failures.{TellsUnread}
use Rattle.bor_program.specs.Inputs.{AreReadOf, IsReadOf}
use Rattle.bor_program.proofs.Unread.{read_next, read_no_more, told_no_more, told_one_more}
use Rattle.bor_program.proofs.inputs.read_inputs.Goals as goal
use Rattle.bor_program.proofs.inputs.read_inputs.Goals.{in-Ok+in_ok-add-in-Ok, in-Err-2}

pub returns-in_err-add-in-Ok-clause-told : goal.returns-in_err-add-in-Ok-clause-told
returns-in_err-add-in-Ok-clause-told g c =
    let i = c.loop-name.name-index in
    let files = c.args.files.now in
    told_no_more (take i files) (drop i files) files _ _ (sym (take-append-drop i files)) c.loop-name.invariant.told

pub returns-in-Err-clause-told : goal.returns-in-Err-clause-told
returns-in-Err-clause-told g c =
    let i = c.loop-name.name-index in
    let files = c.args.files.now in
    told_no_more (take i files) (drop i files) files _ _ (sym (take-append-drop i files)) c.loop-name.invariant.told

pub loop-name-preserved : goal.loop-name-preserved
loop-name-preserved g c =
    let i = c.loop-name.name-index in
    let files = c.args.files.now in
    let before = g.E.Write.contents c.args.errors.now in
    let lt : i < length files = search rules in
    let Reads = IsReadOf (g.R.NamedFiles.opens c.args.rt.now) g.R.File.Read.remaining request_limit in
    record {
      read = elim c.match-read_input.branch [
        | in-Ok+in_ok-add-in-Ok w ↦
            let read = read_next Reads (λ v. v.items) (take i files) (take (i + 1) files) _ _ _ w.in-Ok.bytes (take_more files i _ lt) w.in_ok-add-in-Ok.ensures.added c.loop-name.invariant.read w.in-Ok.ensures in
            subst (λ requests. AreReadOf Reads (take (i + 1) files) (map (λ v. v.items) requests.items)) (sym w.requests-is) read
        | in-Err-2 w ↦
            let read = read_no_more Reads (take i files) (take 1 (drop i files)) (take (i + 1) files) _ (take-add i 1 files) c.loop-name.invariant.read in
            subst (λ requests. AreReadOf Reads (take (i + 1) files) (map (λ v. v.items) requests.items)) (sym w.requests-is) read
      ];
      status = search rules;
      count = search rules;
      silent = search rules;
      told = elim c.match-read_input.branch [
        | in-Ok+in_ok-add-in-Ok w ↦
            let told = told_no_more (take i files) (take 1 (drop i files)) (take (i + 1) files) _ _ (take-add i 1 files) c.loop-name.invariant.told in
            subst (λ errors. TellsUnread (take (i + 1) files) before (g.E.Write.contents errors)) (sym w.errors-is) told
        | in-Err-2 w ↦
            let told = told_one_more (take i files) (take (i + 1) files) _ _ _ _ (take_more files i _ lt) c.loop-name.invariant.told w.tell-status.ensures.line in
            subst (λ errors. TellsUnread (take (i + 1) files) before (g.E.Write.contents errors)) (sym w.errors-is) told
      ];
    }
