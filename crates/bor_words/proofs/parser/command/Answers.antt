use Rattle.std.proofs.Common.{◌≡◌, ◌∙◌, ap, false}
use Rattle.std.proofs.lemmas.Result.{IfOk-weaker}
use Rattle.clap.specs.Words.{AddsArg, AddsInTurn, app_of, new_app}
use Rattle.clap.specs.Simple.{app_of_fields}
use Rattle.clap.specs.declared.builder.command.Command.{Command}
use Rattle.clap.specs.declared.builder.command.Command.TheOpen.{Command-F}
use Rattle.clap.specs.declared.builder.command.Command.TheViews.{out-Command as fields_of}
use Rattle.bor_words.proofs.Tables.{ruled, stays_local}
use Rattle.bor_words.proofs.parser.command.Goals as goal

pub returns-clause-app : goal.returns-clause-app
returns-clause-app c =
    let begun : app_of c.after_help.result ≡ new_app c.args.command.now.name.now =
    ap app_of_fields c.after_help.ensures ∙ ap app_of_fields c.about.ensures ∙ c.new.ensures.app in
    IfOk-weaker c.args-2.result (AddsInTurn AddsArg c.after_help.result c.in_ok-arguments.arguments.items) _
    (λ p h. ruled _ p _ _ _ h c.in_ok-arguments.ensures begun) c.args-2.ensures

pub returns-clause-local : goal.returns-clause-local
returns-clause-local c =
    let begun : (fields_of c.after_help.result).has_globals ≡ false =
    ap (λ (f : Command-F Command). f.has_globals) c.after_help.ensures ∙ ap (λ (f : Command-F Command). f.has_globals) c.about.ensures ∙ c.new.ensures.local in
    IfOk-weaker c.args-2.result (AddsInTurn AddsArg c.after_help.result c.in_ok-arguments.arguments.items) _
    (λ p h. stays_local _ p _ _ h c.in_ok-arguments.ensures begun) c.args-2.ensures
