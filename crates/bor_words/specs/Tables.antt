-- The tables that clap's words are made from.
use Rattle.std.specs.Prelude.{Bool, List, [], ◌∷◌, codes, false}
use Rattle.clap.specs.Words.{App, Rule, Shape, app_of, new_app, new_rule, rule_of, with_rule}
use Rattle.clap.specs.declared.builder.arg.Arg.{Arg}
use Rattle.clap.specs.declared.builder.command.Command.{Command}
use Rattle.clap.specs.declared.builder.command.Command.TheViews.{out-Command as fields_of}
use Rattle.bor_words.specs.declared.parser.CommandWords.{CommandWords}
use Rattle.bor_words.specs.declared.parser.Word.{Word}
use Rattle.bor_words.specs.declared.parser.Word.TheVariants as word
use Rattle.bor_words.specs.Words.{files_rule, flag_rule, option_rule, required_rule}

-- ---- the words of a command

-- the rule of a word
abbrev pub rule_at : Word → Rule
rule_at (word.Optional name value help) = option_rule name.now
rule_at (word.Required name value help) = required_rule name.now
rule_at (word.Flag name help) = flag_rule name.now
rule_at (word.File help) = new_rule (codes "FILE")
rule_at (word.Files help) = files_rule

-- an argument's rule, and whether the commands below take it too
abbrev pub rule_in : Arg → Rule × Bool
rule_in argument = (rule_of argument, argument.global)

-- a word's rule; they don't take it
abbrev pub local_rule : Word → Rule × Bool
local_rule word = (rule_at word, false)

-- ---- the commands

-- a command that takes these too, one after the other
abbrev pub with_rules : App → List Word → App
with_rules a [] = a
with_rules a (word ∷ words) = with_rules (with_rule a (rule_at word)) words

-- a command with its words
abbrev pub app_at : CommandWords → App
app_at command = with_rules (new_app command.name.now) command.words.now

-- a command's shape, and whether the commands below take one of its arguments too
abbrev pub shape_in : Command → Shape × Bool
shape_in command = ((app_of command).top, (fields_of command).has_globals)

-- they take none
abbrev pub local_shape : CommandWords → Shape × Bool
local_shape command = ((app_at command).top, false)
