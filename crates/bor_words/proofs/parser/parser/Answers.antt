use Rattle.std.proofs.Common.{◌≡◌, ◌∙◌, ap, codes, refl}
use Rattle.std.proofs.lemmas.Result.{IfOk-weaker}
use Rattle.clap.specs.Words.{AddsInTurn, AddsSubcommand, app_of, new_app}
use Rattle.clap.specs.Simple.{app_of_fields}
use Rattle.clap.specs.declared.builder.command.Command.{Command}
use Rattle.clap.specs.declared.builder.command.Command.TheOpen.{Command-F}
use Rattle.bor_words.specs.Words.{without_name}
use Rattle.bor_words.proofs.Tables.{commanded}
use Rattle.bor_words.proofs.parser.parser.Goals as goal

pub returns : goal.returns
returns c =
    let named : app_of c.about.result ≡ without_name (new_app (codes "bor")) =
    ap app_of_fields c.about.ensures ∙ ap app_of_fields c.no_binary_name.ensures
    ∙ ap (λ (f : Command-F Command). without_name (app_of_fields f)) c.in_ok-bin_name.ensures.0 ∙ ap without_name c.new.ensures.app in
    let begun : app_of c.after_help.result ≡ without_name (new_app (codes "bor")) = ap app_of_fields c.after_help.ensures ∙ named in
    IfOk-weaker c.subcommands.result (AddsInTurn AddsSubcommand c.after_help.result c.in_ok-commands.commands.items) _
    (λ p h. commanded _ p _ _ _ h c.in_ok-commands.ensures refl begun) c.subcommands.ensures
