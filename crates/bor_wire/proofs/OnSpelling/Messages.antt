-- The request that an input spells, from the message that it is, and that there is only one.
use Rattle.std.proofs.Common.{◌≡◌, ◌≢◌, ℕ, List, [], ◌∷◌, ◌++◌, length, take, drop, Option, Some, None, Ok, Err, Bool, true, false, not, ◌&&◌, refl, sym, ap, subst, ◌∙◌}
use Rattle.std.specs.Prelude.{Result, nat_lt}
use Rattle.std.specs.Option.{is_none}
use Rattle.bor_terms.specs.Tables.{table, outcome}
use Rattle.bor_desk.specs.Runs.{Asked}
use Rattle.bor_http.specs.declared.incoming.fault.Refusal.{Refusal}
use Rattle.bor_http.specs.declared.incoming.fault.Refusal.TheVariants.{HeadTooLarge, CutShort, BadHead}
use Rattle.bor_http.specs.declared.incoming.fault.WireFault.{WireFault}
use Rattle.bor_http.specs.declared.incoming.fault.WireFault.TheVariants.{Refused, Read, Memory}
use Rattle.bor_http.specs.Incoming.Reading.{IsRefusedAs, SaysAll}
use Rattle.bor_http.specs.Incoming.Head.{head_end, head_limit, line_limit, line_feeds}
use Rattle.bor_http.specs.Incoming.Message.{Parts, Message}
use Rattle.bor_http.specs.Incoming.Refusals.{refuse, lines_of_input, message_in, message_of, message_read, IsMessage}
use Rattle.bor_http.specs.Incoming.Steps.{◌>>=◌}
use Rattle.bor_http.proofs.OnIncoming.ByTable.{one_head}
use Rattle.bor_http.proofs.OnIncoming.Laws.{message_follows}
use Rattle.bor_wire.specs.Spelling.Refusals.{refusals_spelled, lines_behind, lines_of_message}
use Rattle.bor_wire.specs.declared.spelling.asking.Asking.{Asking}
use Rattle.bor_wire.specs.Spelling.Spell.{RefusesAs, Spelled, Spells, SpellsAs, asked, asked_view, spell, spelling, asked_behind}
use Rattle.bor_wire.specs.Spelling.Steps.{FindsStated}

-- ---- the whole table, from its two parts

behind : (lines more : List Refusal) (m : Message) (any : Asked) → outcome more any ≡ spell m → outcome (lines ++ more) any ≡ (outcome lines m >>= spell)
behind [] more m any e = e
behind (why ∷ lines) more m any e = refl

without : (is_short : Bool) (head : Option Parts) (m : Message) (any : Asked)
    → outcome (table (refuse HeadTooLarge (not is_short) ∷ refuse CutShort (true && is_short) ∷ refuse BadHead (false && is_none head) ∷ []) ++ []) any
    ≡ (outcome (table (refuse HeadTooLarge (not is_short) ∷ refuse CutShort (true && is_short) ∷ refuse BadHead (false && is_none head) ∷ [])) m >>= spell)
without true head m any = refl
without false head m any = refl

no_head : (has_many is_short : Bool) (m : Message) (any : Asked)
    → outcome (table (refuse HeadTooLarge has_many ∷ refuse CutShort (false && is_short) ∷ refuse BadHead (true && true) ∷ []) ++ []) any
    ≡ (outcome (table (refuse HeadTooLarge has_many ∷ refuse CutShort (false && is_short) ∷ refuse BadHead (true && true) ∷ [])) m >>= spell)
no_head true is_short m any = refl
no_head false is_short m any = refl

at_end : (input : List ℕ) (end : Option ℕ) (head : Option Parts)
    → outcome (lines_of_input input end head ++ lines_behind input end head) (asked_behind input end head)
    ≡ (outcome (lines_of_input input end head) (message_in input end head) >>= spell)
unfolding spell
at_end input None head = without (nat_lt (length input) head_limit) head (message_in input None head) (asked_behind input None head)
at_end input (Some n) None =
    no_head (nat_lt line_limit (line_feeds (take n input))) (nat_lt (length input) head_limit) (message_in input (Some n) None) (asked_behind input (Some n) None)
at_end input (Some n) (Some parts) =
    behind (lines_of_input input (Some n) (Some parts)) (lines_of_message (message_of parts (drop n input))) (message_of parts (drop n input))
    (asked (message_of parts (drop n input))) refl

spelling_is : (input : List ℕ) (head : Option Parts) → spelling input head ≡ (message_read input head >>= spell)
unfolding spelling refusals_spelled message_read
spelling_is input head = at_end input (head_end input) head

-- ---- the laws

pub one_spelling : (input : List ℕ) (a b : Spelled) → Spells input a → Spells input b → a ≡ b
one_spelling input a b x y = x.2 ∙ ap (spelling input) (one_head input x.0 y.0 x.1 y.1) ∙ sym y.2

pub message_spelled : (input : List ℕ) (read : Result Message Refusal) → IsMessage input read → Spells input (read >>= spell)
message_spelled input read is = (is.0, is.1, ap (λ m. m >>= spell) is.2 ∙ sym (spelling_is input is.0))

pub what_follows : (input more : List ℕ) (spelled : Spelled) → spelled ≢ Err CutShort → Spells input spelled → Spells (input ++ more) spelled
what_follows input more spelled ne s =
    let read : Result Message Refusal = message_read input s.0 in
    let is : spelled ≡ (read >>= spell) = s.2 ∙ spelling_is input s.0 in
    let there : IsMessage (input ++ more) read = message_follows input more read (λ cut. ne (is ∙ ap (λ m. m >>= spell) cut)) (s.0, s.1, refl) in
    subst (Spells (input ++ more)) (sym is) (message_spelled (input ++ more) read there)

-- what bytes say of a whole input, as those that were read of it, they say of what it spells
pub says_spells : (bytes input : List ℕ) (spelled : Spelled) → SaysAll bytes input → Spells bytes spelled → Spells input spelled
says_spells bytes input spelled says s =
    let read : Result Message Refusal = message_read bytes s.0 in
    subst (Spells input) (sym (s.2 ∙ spelling_is bytes s.0)) (message_spelled input read (says read (s.0, s.1, refl)))

-- ---- what is found of a whole input

pub refuses_as : (input : List ℕ) (fault : WireFault) → IsRefusedAs input fault → RefusesAs input fault
refuses_as input (Refused why) h = message_spelled input (Err why) h
refuses_as input Read h = h
refuses_as input Memory h = tt

pub spells_as : (input : List ℕ) (m : Message) (result : Result Asking WireFault) → IsMessage input (Ok m) → FindsStated asked_view result (spell m) → SpellsAs input result
spells_as input m (Err Read) is h = absurd h
spells_as input m (Err Memory) is h = tt
spells_as input m result is h = subst (Spells input) h (message_spelled input (Ok m) is)
