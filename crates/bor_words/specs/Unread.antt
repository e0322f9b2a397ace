-- Why words ask for no command, as it is answered.
use Rattle.std.specs.Prelude.{◌≡◌, List, [], Bool, false, true, not, None, Some, IsSome, codes}
use Rattle.std.specs.Str.{bytes_eq}
use Rattle.bor_terms.specs.Texts.{is_token}
use Rattle.clap.specs.Words.{HasKind, Row, Text, fault_of, first_of, kind_of}
use Rattle.clap.specs.declared.error.kind.ErrorKind.{ErrorKind}
use Rattle.clap.specs.declared.error.kind.ErrorKind.TheVariants.{ArgumentConflict}
use Rattle.clap.specs.declared.error.kind.ErrorKind.TheVariants.{MissingRequiredArgument}
use Rattle.clap.specs.declared.error.kind.ErrorKind.TheVariants.{OutOfMemory, ValueValidation}
use Rattle.bor_words.specs.declared.unread.Unread.{Unread}
use Rattle.bor_words.specs.declared.unread.Unread.TheVariants as unread
use Rattle.bor_words.specs.Words.{bor_app, entered_by, given, entered_rows}
use Rattle.bor_words.specs.Values.{Value, first_unfit, values_of}

-- the kind of the fault, or of the request for help
abbrev pub kind_of_answer : Unread → ErrorKind
kind_of_answer (unread.Answered error) = kind_of error
kind_of_answer (unread.Unfit unfit) = ValueValidation
kind_of_answer unread.UnfitToken = ValueValidation
kind_of_answer unread.NoRegistrar = MissingRequiredArgument
kind_of_answer unread.TwoRegistrars = ArgumentConflict

-- memory was wanting
abbrev pub IsMemory : Unread → Type 0
IsMemory (unread.Answered error) = kind_of error ≡ OutOfMemory
IsMemory (unread.Unfit unfit) = ⊥
IsMemory unread.UnfitToken = ⊥
IsMemory unread.NoRegistrar = ⊥
IsMemory unread.TwoRegistrars = ⊥

-- the value of this word may be shown to whoever reads the faults of the words: it is not the
-- registrar's token
abbrev pub may_be_told : Text → Bool
may_be_told word = not (bytes_eq word (codes "registrar"))

-- memory was wanting, or this is no token; its bytes aren't shown
abbrev pub IsUnfitToken : Text → Unread → Type 0
IsUnfitToken token (unread.Answered error) = kind_of error ≡ OutOfMemory
IsUnfitToken token (unread.Unfit unfit) = ⊥
IsUnfitToken token unread.UnfitToken = is_token token ≡ false
IsUnfitToken token unread.NoRegistrar = ⊥
IsUnfitToken token unread.TwoRegistrars = ⊥

-- the registrar's token is given by itself, and is none
abbrev pub HasUnfitToken : List Row → Type 0
HasUnfitToken rows = (token : Text) × (first_of (codes "registrar") rows ≡ Some token)
    × (first_of (codes "registrar-file") rows ≡ None) × (is_token token ≡ false)

-- the registrar's token is given by no word
abbrev pub HasNoRegistrar : List Row → Type 0
HasNoRegistrar rows =
    (first_of (codes "registrar") rows ≡ None) × (first_of (codes "registrar-file") rows ≡ None)

-- it is given by both
abbrev pub HasTwoRegistrars : List Row → Type 0
HasTwoRegistrars rows =
    IsSome (first_of (codes "registrar") rows) × IsSome (first_of (codes "registrar-file") rows)

-- memory was wanting, or this is the value of this word, and it doesn't fit
abbrev pub IsUnfitAt : Text → Text → Bool → Unread → Type 0
IsUnfitAt word value fits (unread.Answered error) = kind_of error ≡ OutOfMemory
IsUnfitAt word value fits (unread.Unfit unfit) =
    (unfit.word.now ≡ word) × (unfit.value.now ≡ value) × (fits ≡ false)
IsUnfitAt word value fits unread.UnfitToken = ⊥
IsUnfitAt word value fits unread.NoRegistrar = ⊥
IsUnfitAt word value fits unread.TwoRegistrars = ⊥

-- memory was wanting, the token that is given is none, or it isn't given once
abbrev pub IsUnfitRegistrar : List Row → Unread → Type 0
IsUnfitRegistrar rows (unread.Answered error) = kind_of error ≡ OutOfMemory
IsUnfitRegistrar rows (unread.Unfit unfit) = ⊥
IsUnfitRegistrar rows unread.UnfitToken = HasUnfitToken rows
IsUnfitRegistrar rows unread.NoRegistrar = HasNoRegistrar rows
IsUnfitRegistrar rows unread.TwoRegistrars = HasTwoRegistrars rows

-- memory was wanting, or the word is the first of these whose value doesn't fit, and the value is
-- the one that was given for it, but for the registrar's token, which isn't shown; it doesn't fit
-- either where it isn't given once
abbrev pub IsUnfitAmong : List Row → List Value → Unread → Type 0
IsUnfitAmong rows values (unread.Answered error) = kind_of error ≡ OutOfMemory
IsUnfitAmong rows values (unread.Unfit unfit) =
    (first_unfit values ≡ Some unfit.word.now) × (unfit.value.now ≡ given unfit.word.now rows)
    × (may_be_told unfit.word.now ≡ true)
IsUnfitAmong rows values unread.UnfitToken =
    (first_unfit values ≡ Some (codes "registrar")) × HasUnfitToken rows
IsUnfitAmong rows values unread.NoRegistrar =
    (first_unfit values ≡ Some (codes "registrar")) × HasNoRegistrar rows
IsUnfitAmong rows values unread.TwoRegistrars =
    (first_unfit values ≡ Some (codes "registrar")) × HasTwoRegistrars rows

-- memory was wanting, clap finds this fault in the words, or it finds none and this is the first
-- value that doesn't fit
abbrev pub IsFaultOfWords : List Text → Unread → Type 0
IsFaultOfWords words (unread.Answered error) = HasKind (fault_of bor_app words) error
IsFaultOfWords words (unread.Unfit unfit) =
    (fault_of bor_app words ≡ [])
    × (first_unfit (values_of (entered_by words)) ≡ Some unfit.word.now)
    × (unfit.value.now ≡ given unfit.word.now (entered_rows (entered_by words)))
    × (may_be_told unfit.word.now ≡ true)
IsFaultOfWords words unread.UnfitToken =
    (fault_of bor_app words ≡ [])
    × (first_unfit (values_of (entered_by words)) ≡ Some (codes "registrar"))
    × HasUnfitToken (entered_rows (entered_by words))
IsFaultOfWords words unread.NoRegistrar =
    (fault_of bor_app words ≡ [])
    × (first_unfit (values_of (entered_by words)) ≡ Some (codes "registrar"))
    × HasNoRegistrar (entered_rows (entered_by words))
IsFaultOfWords words unread.TwoRegistrars =
    (fault_of bor_app words ≡ [])
    × (first_unfit (values_of (entered_by words)) ≡ Some (codes "registrar"))
    × HasTwoRegistrars (entered_rows (entered_by words))
