use Rattle.std.proofs.Common.{◌≡◌, ◌∙◌, [], ap, inr, length, map, refl, subst, sym}
use Rattle.std.proofs.lemmas.List.{length-map}
use Rattle.bor_http.specs.Incoming.Message.{request_limit}
use Rattle.bor_program.specs.Inputs.{AreReadOf, IsReadOf}
use Rattle.bor_program.specs.Program.{exit_code}
use Rattle.bor_program.proofs.Ends.{keeps_same}
use Rattle.bor_program.proofs.Unread.{none_read, told_alone}
use Rattle.bor_program.proofs.Replies.{ends_failed, ends_read, none_answered, worse_done}
use Rattle.bor_program.proofs.exchange.exchange_files.Goals as goal

pub returns-in-Ok-exchange_on-clause-ends : goal.returns-in-Ok-exchange_on-clause-ends
returns-in-Ok-exchange_on-clause-ends g c =
    let inputs = c.as_slice.result.now in
    let Reads = IsReadOf (g.R.NamedFiles.opens c.args.rt.now) g.R.File.Read.remaining request_limit in
    let are = subst (λ vs. AreReadOf Reads c.args.files.now (map (λ v. v.items) vs)) (sym c.as_slice.ensures.value) c.in-Ok.ensures.read in
    ends_read _ Reads (map (λ v. v.items) inputs) _ _ _ c.in-Ok-exchange_on.status c.in-Ok.inputs.status _ c.worse.ensures c.in-Ok.ensures.status are
    (λ low. length-map inputs (λ v. v.items) ∙ ap length c.as_slice.ensures.value
    ∙ c.in-Ok.ensures.count (worse_done c.in-Ok-exchange_on.status c.in-Ok.inputs.status _ c.worse.ensures low c.in-Ok.ensures.status))
    c.in-Ok-exchange_on.ensures.sent

pub returns-in-Ok-clause-ends : goal.returns-in-Ok-clause-ends
returns-in-Ok-clause-ends g c =
    let three : exit_code c.tell.result ≡ 3 = ap exit_code c.tell.ensures.status in
    let Reads = IsReadOf (g.R.NamedFiles.opens c.args.rt.now) g.R.File.Read.remaining request_limit in
    let are = subst (λ vs. AreReadOf Reads c.args.files.now (map (λ v. v.items) vs)) (sym c.as_slice.ensures.value) c.in-Ok.ensures.read in
    ends_failed _ Reads (map (λ v. v.items) c.as_slice.result.now) _ _ _ _ three are c.in-Err-exchange_on.ensures.sent

pub returns-clause-ends : goal.returns-clause-ends
returns-clause-ends g c =
    let three : exit_code c.tell-in-Err.result ≡ 3 = ap exit_code c.tell-in-Err.ensures.status in
    ends_failed _ _ [] _ _ _ _ three (none_read _ _)
    (inr (none_answered g.K.OpenRegister.meaning _ _ refl, keeps_same _))

pub returns-in-Ok-exchange_on-clause-told : goal.returns-in-Ok-exchange_on-clause-told
returns-in-Ok-exchange_on-clause-told g c = told_alone c.args.files.now _ _ _ _ c.in-Ok.ensures.told
