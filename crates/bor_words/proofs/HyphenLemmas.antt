-- Words behind a command's name as they are joined, one after the other.
use Rattle.std.proofs.Common.{◌≡◌, ◌++◌, ◌∙◌, ◌||◌, ◌==◌, ◌&&◌, Bool, List, [], ◌∷◌, append_assoc, ap, codes, false, refl, subst, sym, true, if◌then◌else◌, bytes_eq}
use Rattle.std.specs.List.{before_first, list_all}
use Rattle.std.proofs.lemmas.Bool.{and_parts, not-true}
use Rattle.std.proofs.lemmas.Slice.Eq.{bytes_eq-Decides}
use Rattle.clap.specs.Words.{Text}
use Rattle.bor_words.specs.Joined.{begin_with_value, is_among, is_value, joined_at, joined_behind, report_options, serve_options, setup_options, takes_value}

-- ---- an option's own name

abbrev name_in : Text → Text
name_in word = before_first (λ c. c == 61) word

-- no option has `=` in it
abbrev are_names : List Text → Bool
are_names options = list_all (λ option. bytes_eq (name_in option) option) options

same_name : (option word : Text) → bytes_eq (name_in option) option ≡ true → bytes_eq word option ≡ true → name_in word ≡ word
same_name option word names is =
    let same : word ≡ option = (bytes_eq-Decides word option).0 is in
    subst (λ (w : Text). name_in w ≡ w) (sym same) ((bytes_eq-Decides (name_in option) option).0 names)

among_by : (option : Text) (options : List Text) (word : Text) (b : Bool) → bytes_eq word option ≡ b → bytes_eq (name_in option) option ≡ true
    → (is_among options word ≡ true → name_in word ≡ word) → (b || is_among options word) ≡ true → name_in word ≡ word
among_by option options word true is name others h = same_name option word name is
among_by option options word false is name others h = others h

among_names : (options : List Text) (word : Text) → are_names options ≡ true → is_among options word ≡ true → name_in word ≡ word
among_names [] word names h = absurd cc
among_names (option ∷ options) word names h =
    let both = and_parts _ _ names in
    among_by option options word (bytes_eq word option) refl both.0 (among_names options word both.1) h

abbrev Gives : Bool → Text → Type 0
Gives found word = found ≡ true → name_in word ≡ word

by_command : (init exchange serve report migrate : Bool) (word : Text) → Gives (if init then is_among setup_options word
    else (if exchange then is_among setup_options word else (if serve then is_among serve_options word
    else (if report then is_among report_options word else (if migrate then bytes_eq word (codes "--db") else false))))) word
by_command true exchange serve report migrate word = among_names setup_options word refl
by_command false true serve report migrate word = among_names setup_options word refl
by_command false false true report migrate word = among_names serve_options word refl
by_command false false false true migrate word = among_names report_options word refl
by_command false false false false true word = same_name (codes "--db") word refl
by_command false false false false false word = λ h. absurd cc

option_is_name : (command word : Text) → Gives (takes_value command word) word
unfolding takes_value
option_is_name command word =
    by_command (bytes_eq command (codes "init")) (bytes_eq command (codes "exchange")) (bytes_eq command (codes "serve")) (bytes_eq command (codes "report"))
    (bytes_eq command (codes "migrate")) word

-- ---- a value

takes_none : (command word : Text) (b : Bool) → takes_value command word ≡ b → takes_value command (name_in word) ≡ false → b ≡ false
takes_none command word true is h =
    let same : takes_value command word ≡ false = subst (λ (w : Text). takes_value command w ≡ false) (option_is_name command word is) h in
    sym is ∙ same
takes_none command word false is h = refl

-- it is no option that takes a value, and not `--`
value_is_neither : (command word : Text) → is_value command word ≡ true → (bytes_eq word (codes "--") ≡ false) × (takes_value command word ≡ false)
unfolding is_value
value_is_neither command word h =
    let one = and_parts _ _ h in
    let two = and_parts _ _ one.1 in
    let three = and_parts _ _ two.1 in
    (not-true _ two.0, takes_none command word (takes_value command word) refl (not-true _ three.0))

-- ---- one word more

value_stays : (command value : Text) (words joined : List Text) → is_value command value ≡ true → joined_at command value words joined ≡ value ∷ joined
value_stays command value words joined h =
    let neither = value_is_neither command value h in
    rw (neither.0, neither.1) refl

joins : (command word value : Text) (words : List Text) → bytes_eq word (codes "--") ≡ false → takes_value command word ≡ true → is_value command value ≡ true
    → joined_behind command (word ∷ value ∷ words) ≡ (word ++ codes "=" ++ value) ∷ joined_behind command words
joins command word value words e takes is =
    ap (joined_at command word (value ∷ words)) (value_stays command value words (joined_behind command words) is)
    ∙ rw (e, takes, is) refl

-- what was done, with one word more, and what is left
one_more : (done now left rest whole : List Text) (word : Text) → done ++ left ≡ whole → now ≡ done ++ word ∷ [] → left ≡ word ∷ rest → now ++ rest ≡ whole
one_more done now left rest whole word h is first =
    ap (λ (n : List Text). n ++ rest) is ∙ append_assoc done (word ∷ []) rest ∙ ap (λ (l : List Text). done ++ l) (sym first) ∙ h

-- a value that is joined with its option
pub value_more : (command first word value made : Text) (left behind more done now whole : List Text) → left ≡ first ∷ behind → word ≡ first → bytes_eq word (codes "--") ≡ false
    → takes_value command word ≡ true → is_value command value ≡ true → behind ≡ value ∷ more → made ≡ word ++ codes "=" ++ value → now ≡ done ++ made ∷ []
    → done ++ joined_behind command left ≡ whole → now ++ joined_behind command more ≡ whole
value_more command first word value made left behind more done now whole begins named e takes is next spelled pushed h =
    let words : left ≡ word ∷ value ∷ more = begins ∙ ap (λ (w : Text). w ∷ behind) (sym named) ∙ ap (λ (ws : List Text). word ∷ ws) next in
    one_more done now (joined_behind command left) (joined_behind command more) whole made h pushed
    (ap (joined_behind command) words ∙ joins command word value more e takes is ∙ ap (λ (w : Text). w ∷ joined_behind command more) (sym spelled))

-- a word that is joined with none
pub word_more : (command first word made : Text) (left behind done now whole : List Text) → left ≡ first ∷ behind → word ≡ first → bytes_eq word (codes "--") ≡ false
    → (takes_value command word && begin_with_value command behind) ≡ false → made ≡ word → now ≡ done ++ made ∷ []
    → done ++ joined_behind command left ≡ whole → now ++ joined_behind command behind ≡ whole
word_more command first word made left behind done now whole begins named e none spelled pushed h =
    let words : left ≡ word ∷ behind = begins ∙ ap (λ (w : Text). w ∷ behind) (sym named) in
    let stays : joined_behind command (word ∷ behind) ≡ word ∷ joined_behind command behind = rw (e, none) refl in
    one_more done now (joined_behind command left) (joined_behind command behind) whole made h pushed
    (ap (joined_behind command) words ∙ stays ∙ ap (λ (w : Text). w ∷ joined_behind command behind) (sym spelled))
