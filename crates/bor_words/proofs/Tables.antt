-- What clap makes of the tables of words.
use Rattle.std.proofs.Common.{◌≡◌, ◌∙◌, ◌<◌, ◌+◌, ◌++◌, ℕ, Bool, List, [], ◌∷◌, ap, ap₂, false, get_or, length, map, not, sym, take, true}
use Rattle.std.specs.List.{list_all}
use Rattle.std.proofs.lemmas.Bool.{and_parts, not-true}
use Rattle.std.proofs.lemmas.List.{map-append, map_more}
use Rattle.clap.specs.Words.{AddsArg, AddsInTurn, AddsSubcommand, App, Rule, Shape, app_of, with_rule, with_subcommand}
use Rattle.clap.specs.declared.builder.arg.Arg.{Arg}
use Rattle.clap.specs.declared.builder.command.Command.{Command}
use Rattle.clap.specs.declared.builder.command.Command.TheViews.{out-Command as fields_of}
use Rattle.bor_words.proofs.Locals.{kept}
use Rattle.bor_words.specs.declared.parser.Word.{Word}
use Rattle.bor_words.specs.Tables.{local_rule, rule_in, shape_in, with_rules}

pub ruled : (old new : Command) (arguments : List Arg) (words : List Word) (a : App) → AddsInTurn AddsArg old arguments new
    → map rule_in arguments ≡ map local_rule words → app_of old ≡ a → app_of new ≡ with_rules a words
ruled old new [] [] a h is e = ap app_of (sym h) ∙ e
ruled old new [] (word ∷ words) a h is e = absurd cc
ruled old new (argument ∷ arguments) [] a h is e = absurd cc
ruled old new (argument ∷ arguments) (word ∷ words) a h is e =
    let first : rule_in argument ≡ local_rule word = cc in
    ruled h.0 new arguments words _ h.2 (cc) (h.1.shape (ap (λ (r : Rule × Bool). r.1) first) ∙ ap₂ with_rule e (ap (λ (r : Rule × Bool). r.0) first))

pub stays_local : (old new : Command) (arguments : List Arg) (words : List Word) → AddsInTurn AddsArg old arguments new
    → map rule_in arguments ≡ map local_rule words → (fields_of old).has_globals ≡ false → (fields_of new).has_globals ≡ false
stays_local old new [] words h is e = ap (λ c. (fields_of c).has_globals) (sym h) ∙ e
stays_local old new (argument ∷ arguments) [] h is e = absurd cc
stays_local old new (argument ∷ arguments) (word ∷ words) h is e =
    let first : rule_in argument ≡ local_rule word = cc in
    stays_local h.0 new arguments words h.2 (cc) (kept _ _ _ h.1.globals (ap (λ (r : Rule × Bool). r.1) first) ∙ e)

-- the program with these commands too, one after the other
abbrev with_shapes : App → List (Shape × Bool) → App
with_shapes a [] = a
with_shapes a (shape ∷ shapes) = with_shapes (with_subcommand a shape.0) shapes

pub commanded : (old new : Command) (made : List Command) (shapes : List (Shape × Bool)) (a : App) → AddsInTurn AddsSubcommand old made new
    → map shape_in made ≡ shapes → list_all (λ s. not s.1) shapes ≡ true → app_of old ≡ a → app_of new ≡ with_shapes a shapes
commanded old new [] [] a h is local e = ap app_of (sym h) ∙ e
commanded old new [] (shape ∷ shapes) a h is local e = absurd cc
commanded old new (command ∷ made) [] a h is local e = absurd cc
commanded old new (command ∷ made) (shape ∷ shapes) a h is local e =
    let first : shape_in command ≡ shape = cc in
    let both = and_parts _ _ local in
    let added = h.1.shape (ap (λ (s : Shape × Bool). s.1) first ∙ not-true _ both.0) in
    commanded h.0 new made shapes _ h.2 (cc) both.1 (added ∙ ap₂ with_subcommand e (ap (λ (s : Shape × Bool). s.0) first))

-- one more of a table, after those before it
pub one_more : {X Y Z : Type 0} (f : X → Z) (g : Y → Z) (done now : List X) (x : X) (table : List Y) (i : ℕ) (y : Y) → i < length table
    → map f done ≡ map g (take i table) → now ≡ done ++ x ∷ [] → f x ≡ g (get_or table i y) → map f now ≡ map g (take (i + 1) table)
one_more f g done now x table i y inside h is same =
    ap (map f) is ∙ map-append f done (x ∷ []) ∙ ap₂ (λ a b. a ++ b ∷ []) h same ∙ sym (map_more g table i y inside)
