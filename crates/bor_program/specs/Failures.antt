-- The lines that are printed of failures.
use Rattle.std.specs.Prelude.{◌≡◌, ◌⊎◌, ⊤, ℕ, List, [], ◌∷◌, ◌++◌, Option, codes, map}
use Rattle.std.specs.Io.KnownBytes.{Appends, Keeps}
use Rattle.bor_desk.specs.Operations.Outcomes.{IsFaultOf, IsTellable}
use Rattle.bor_records.specs.Promises.{Meaning, Promised}
use Rattle.bor_register.specs.Register.{Register}
use Rattle.bor_register.specs.declared.fault.StoreFault.{StoreFault}
use Rattle.bor_register.specs.declared.fault.StoreFault.TheVariants.{Memory as WantOfMemory}
use Rattle.bor_register.specs.declared.fault.StoreFault.TheVariants.{Store as StoreFailed, Damaged}
use Rattle.bor_words.specs.declared.source.Source.{Source}
use Rattle.bor_words.specs.declared.source.Source.TheVariants.{File}
use Rattle.bor_words.specs.Asked.{name_of, source_text}
use Rattle.bor_program.specs.declared.failure.Failure.{Failure}
use Rattle.bor_program.specs.declared.failure.Failure.TheVariants.{Unreadable, NoRegister}
use Rattle.bor_program.specs.declared.failure.Failure.TheVariants.{OtherVersion, Taken, Registered}
use Rattle.bor_program.specs.declared.failure.Failure.TheVariants.{NoToken, Memory, Store}
use Rattle.bor_program.specs.declared.failure.Failure.TheVariants.{Unlistening, Unwritable}
use Rattle.bor_program.specs.Streams.{AppendsPart}
use Rattle.bor_program.specs.Words.{AsksForCheck, file_of}
use Rattle.clap.specs.Words.{Text}
use Rattle.std.specs.Borrow.{Bor}
use Rattle.std.specs.Fmt.{signed_decimal}

-- a call on a keep of this meaning, which led from one state to another, may have returned this
-- fault
abbrev pub MayTell : {K W : Type 0} → Meaning K Register W StoreFault → K → StoreFault → K → Type 0
MayTell meaning old fault new =
    IsFaultOf (meaning.fault_count old) (meaning.fault_count new) fault
    × Promised meaning old new (λ r.
    IsTellable meaning.may_tell (meaning.fault_count old) (meaning.fault_count new) fault)

-- the texts one after the other
abbrev pub texts_joined : List (List ℕ) → List ℕ
texts_joined [] = []
texts_joined (text ∷ texts) = text ++ texts_joined texts

-- the line that is printed of a failure, or nothing where it is standard output that can't be
-- written
abbrev pub failure_line : Failure → List ℕ
failure_line (Unreadable source) = codes "bor: cannot read " ++ source_text source ++ 10 ∷ []
failure_line (NoRegister path) = codes "bor: no register in " ++ path.now ++ 10 ∷ []
failure_line (OtherVersion path version) =
    codes "bor: register of version " ++ signed_decimal version ++ codes " in "
    ++ path.now ++ 10 ∷ []
failure_line (Taken path) =
    codes "bor: " ++ (path.now ++ (codes " is not free for a register" ++ 10 ∷ []))
failure_line (Registered path) =
    codes "bor: a register is in " ++ (path.now ++ (codes " already" ++ 10 ∷ []))
failure_line (NoToken name) = codes "bor: no token in " ++ name.now ++ 10 ∷ []
failure_line Memory = codes "bor: out of memory" ++ 10 ∷ []
failure_line Store = codes "bor: store failed" ++ 10 ∷ []
failure_line Unlistening = codes "bor: cannot listen" ++ 10 ∷ []
failure_line Unwritable = []

-- memory is wanting
abbrev pub IsWantOfMemory : Failure → Type 0
IsWantOfMemory failure = failure ≡ Memory

-- the program's failure for a store's fault
abbrev pub failure_of : StoreFault → Failure
failure_of WantOfMemory = Memory
failure_of StoreFailed = Store
failure_of Damaged = Store

-- it is reading of this source that failed, memory was wanting, or standard output can't be written
abbrev pub IsFailureOn : Source → Failure → Type 0
IsFailureOn source (Unreadable unread) = unread ≡ source
IsFailureOn source Memory = ⊤
IsFailureOn source Unwritable = ⊤
IsFailureOn source failure = ⊥

-- it is reading of this source that failed, or memory was wanting for it
abbrev pub IsReadingOf : Source → Failure → Type 0
IsReadingOf source (Unreadable unread) = unread ≡ source
IsReadingOf source Memory = ⊤
IsReadingOf source failure = ⊥

-- it is opening the register in the file of this name that failed
abbrev pub IsOpeningOf : Bor Text → Failure → Type 0
IsOpeningOf path (NoRegister opened) = opened ≡ path
IsOpeningOf path (OtherVersion opened version) = opened ≡ path
IsOpeningOf path (Taken opened) = opened ≡ path
IsOpeningOf path Memory = ⊤
IsOpeningOf path Store = ⊤
IsOpeningOf path failure = ⊥

-- memory was wanting, or standard output can't be written
abbrev pub IsOfPrinting : Failure → Type 0
IsOfPrinting Memory = ⊤
IsOfPrinting Unwritable = ⊤
IsOfPrinting failure = ⊥

-- the words ask for a check, and reading of the file that they name failed; or memory was wanting,
-- or standard output can't be written
abbrev pub IsFailureOf : List Text → Failure → Type 0
IsFailureOf words (Unreadable unread) = AsksForCheck words × (name_of unread ≡ file_of words)
IsFailureOf words Memory = ⊤
IsFailureOf words Unwritable = ⊤
IsFailureOf words failure = ⊥

-- a failure that isn't one of standard output leaves that as it was
abbrev pub LeavesOutput : Option (List ℕ) → Option (List ℕ) → Failure → Type 0
LeavesOutput before after Unwritable = ⊤
LeavesOutput before after failure = Keeps before after

-- a failure of a check of this source was met, and no other
pub record IsMetOn (source : Source) (before after : Option (List ℕ))
    (failure : Failure) : Type 0 where
  pub cause : IsFailureOn source failure
  pub output : LeavesOutput before after failure

-- a failure of printing a text was met, and no other
pub record IsMetPrinting (before after : Option (List ℕ)) (failure : Failure) : Type 0 where
  pub cause : IsOfPrinting failure
  pub output : LeavesOutput before after failure

-- a failure of a check that the words ask for, or of printing a text, was met, and no other
pub record IsMetBy (words : List Text) (before after : Option (List ℕ))
    (failure : Failure) : Type 0 where
  pub cause : IsFailureOf words failure
  pub output : LeavesOutput before after failure

-- a register that is open returned a fault, before anything was written, and the failure is the
-- program's for it; or standard output can't be written
abbrev pub IsMetOnKeep : (StoreFault → Type 0) → Option (List ℕ) → Option (List ℕ)
    → Failure → Type 0
IsMetOnKeep Told before after failure =
    ((fault : StoreFault) × Told fault × (failure ≡ failure_of fault) × Keeps before after)
    ⊎ (failure ≡ Unwritable)

-- the port can't be listened on, memory was wanting, or standard output can't be written
abbrev pub IsOfListening : Failure → Type 0
IsOfListening Unlistening = ⊤
IsOfListening Memory = ⊤
IsOfListening Unwritable = ⊤
IsOfListening failure = ⊥

-- a failure of a server before its first connection, and no other was met
pub record IsMetListening (before after : Option (List ℕ)) (failure : Failure) : Type 0 where
  pub cause : IsOfListening failure
  pub output : LeavesOutput before after failure

-- a failure of opening or moving the register in the file of this name, of its store, or of
-- standard output, and no other was met
pub record IsMetIn (path : Bor Text) (before after : Option (List ℕ))
    (failure : Failure) : Type 0 where
  pub cause : IsOpeningOf path failure ⊎ (failure ≡ Unwritable)
  pub output : LeavesOutput before after failure

-- the front of such a failure's line was written: all of it, some or nothing, and nothing else
abbrev pub IsFailureWritten : (Failure → Type 0) → Option (List ℕ) → Option (List ℕ) → Type 0
IsFailureWritten Of before after =
    (failure : Failure) × Of failure × AppendsPart before after (failure_line failure)

-- ---- files that can't be read

-- the line that is printed of a file that can't be read
abbrev pub unread_line : Bor Text → List ℕ
unread_line file = failure_line (Unreadable (File file))

-- these bytes are for each text in turn a front of it: all of it, some or nothing
abbrev pub AreFronts : List (List ℕ) → List ℕ → Type 0
AreFronts [] bytes = bytes ≡ []
AreFronts (text ∷ texts) bytes =
    (front : List ℕ) × (left : List ℕ) × (rest : List ℕ) × (text ≡ front ++ left)
    × (bytes ≡ front ++ rest) × AreFronts texts rest

-- a front of the line of each file was written, in their order, and nothing else
abbrev pub TellsUnread : List (Bor Text) → Option (List ℕ) → Option (List ℕ) → Type 0
TellsUnread files before after =
    (lines : List ℕ) × AreFronts (map unread_line files) lines × Appends before after lines

-- the same, and then a front of the line of a failure of printing that was met
abbrev pub TellsFiles : List (Bor Text) → (output printed before after : Option (List ℕ)) → Type 0
TellsFiles files output printed before after =
    (between : Option (List ℕ)) × TellsUnread files before between
    × IsFailureWritten (IsMetPrinting output printed) between after
