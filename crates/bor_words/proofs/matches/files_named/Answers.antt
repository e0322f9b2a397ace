use Rattle.std.proofs.Common.{◌∙◌, ap, codes, map, [], unwrap_or}
use Rattle.std.proofs.lemmas.Result.{IfOk-weaker}
use Rattle.clap.specs.Words.{found_of}
use Rattle.clap.proofs.WalkLemmas.{raw_values-rows}
use Rattle.bor_words.proofs.matches.files_named.Goals as goal

pub returns-in-Some : goal.returns-in-Some
returns-in-Some c =
    let named = c.in-Some.ensures ∙ raw_values-rows (found_of c.args.found.now) (codes "FILE") in
    IfOk-weaker c.from_slice.result _ _ (λ v h. ap (map (λ file. file.now)) h ∙ ap (λ o. unwrap_or o []) named) c.from_slice.ensures.items

pub returns-in-None : goal.returns-in-None
returns-in-None c =
    let named = c.in-None.ensures ∙ raw_values-rows (found_of c.args.found.now) (codes "FILE") in
    ap (map (λ file. file.now)) c.new.ensures.items ∙ ap (λ o. unwrap_or o []) named
