-- The files that were read, and the lines that are printed of those that can't be, file by file.
use Rattle.std.proofs.Common.{◌≡◌, ◌∙◌, ℕ, List, [], ◌∷◌, ◌++◌, ap, inl, inr, map, refl, subst, sym, Bor, Option, append-nil, append_assoc}
use Rattle.std.proofs.lemmas.List.{map-append}
use Rattle.clap.specs.Words.{Text}
use Rattle.bor_program.specs.Inputs.{AreReadOf}
use Rattle.std.specs.Io.KnownBytes.{Appends}
use Rattle.std.proofs.KnownBytes.{Appends-trans}
use Rattle.bor_program.specs.declared.failure.Failure.TheVariants.{Unwritable}
use Rattle.bor_program.specs.Failures.{AreFronts, TellsFiles, TellsUnread, unread_line}
use Rattle.bor_program.specs.Streams.{AppendsPart}
use Rattle.bor_program.proofs.Ends.{keeps_same, kept_none, part_none}

module _ (Reads : Bor Text → List ℕ → Type 0) where
  -- all files are left out
  pub none_read : (names : List (Bor Text)) → AreReadOf Reads names []
  none_read [] = refl
  none_read (name ∷ names) = inl (none_read names)

  -- those that follow are left out
  left_out : (names more : List (Bor Text)) (inputs : List (List ℕ)) → AreReadOf Reads names inputs → AreReadOf Reads (names ++ more) inputs
  left_out [] more inputs h = subst (AreReadOf Reads more) (sym h) (none_read more)
  left_out (name ∷ names) more inputs (inl h) = inl (left_out names more inputs h)
  left_out (name ∷ names) more inputs (inr h) = inr (h.0, h.1, h.2, h.3, left_out names more h.1 h.4)

  -- the one that follows is read
  one_more : (names : List (Bor Text)) (name : Bor Text) (inputs : List (List ℕ)) (input : List ℕ) → AreReadOf Reads names inputs → Reads name input
      → AreReadOf Reads (names ++ name ∷ []) (inputs ++ input ∷ [])
  one_more [] name inputs input h is = inr (input, [], ap (λ l. l ++ input ∷ []) h, is, refl)
  one_more (first ∷ names) name inputs input (inl h) is = inl (one_more names name inputs input h is)
  one_more (first ∷ names) name inputs input (inr h) is =
      inr (h.0, h.1 ++ input ∷ [], ap (λ l. l ++ input ∷ []) h.2, h.3, one_more names name h.1 input h.4 is)

  pub read_no_more : (names more all : List (Bor Text)) (inputs : List (List ℕ)) → all ≡ names ++ more → AreReadOf Reads names inputs → AreReadOf Reads all inputs
  read_no_more names more all inputs e h = subst (λ (l : List (Bor Text)). AreReadOf Reads l inputs) (sym e) (left_out names more inputs h)

  pub read_next : {V : Type 0} (bytes_of : V → List ℕ) (names all : List (Bor Text)) (name : Bor Text) (old new : List V) (read : V) → all ≡ names ++ name ∷ [] → new ≡ old ++ read ∷ []
      → AreReadOf Reads names (map bytes_of old) → Reads name (bytes_of read) → AreReadOf Reads all (map bytes_of new)
  read_next bytes_of names all name old new read e grown h is =
      let more : map bytes_of new ≡ map bytes_of old ++ bytes_of read ∷ [] = ap (map bytes_of) grown ∙ map-append bytes_of old (read ∷ []) in
      let one = one_more names name (map bytes_of old) (bytes_of read) h is in
      subst (λ (l : List (Bor Text)). AreReadOf Reads l (map bytes_of new)) (sym e) (subst (AreReadOf Reads (names ++ name ∷ [])) (sym more) one)

-- empty fronts of any texts
no_fronts : (texts : List (List ℕ)) → AreFronts texts []
no_fronts [] = refl
no_fronts (text ∷ texts) = ([], text, [], refl, refl, no_fronts texts)

joined_fronts : (first last : List (List ℕ)) (xs ys : List ℕ) → AreFronts first xs → AreFronts last ys → AreFronts (first ++ last) (xs ++ ys)
joined_fronts [] last xs ys h k = subst (λ (bytes : List ℕ). AreFronts last (bytes ++ ys)) (sym h) k
joined_fronts (text ∷ first) last xs ys h k =
    (h.0, h.1, h.2 ++ ys, h.3, ap (λ l. l ++ ys) h.4 ∙ append_assoc h.0 h.2 ys, joined_fronts first last h.2 ys h.5 k)

told_then : (files more : List (Bor Text)) (before middle after : Option (List ℕ)) (lines : List ℕ) → TellsUnread files before middle
    → AreFronts (map unread_line more) lines → Appends middle after lines → TellsUnread (files ++ more) before after
told_then files more before middle after lines h fronts e =
    let both : AreFronts (map unread_line files ++ map unread_line more) (h.0 ++ lines) = joined_fronts _ _ h.0 lines h.1 fronts in (
      h.0 ++ lines,
      subst (λ (texts : List (List ℕ)). AreFronts texts (h.0 ++ lines)) (sym (map-append unread_line files more)) both,
      Appends-trans before middle after h.0 lines h.2 e,
    )

-- nothing is told of the files that follow
pub told_no_more : (files more all : List (Bor Text)) (before after : Option (List ℕ)) → all ≡ files ++ more → TellsUnread files before after
    → TellsUnread all before after
told_no_more files more all before after e h =
    let whole = told_then files more before after after [] h (no_fronts (map unread_line more)) (kept_none after after (keeps_same after)) in
    subst (λ (l : List (Bor Text)). TellsUnread l before after) (sym e) whole

-- a front of the line of the file that follows
pub told_one_more : (files all : List (Bor Text)) (file : Bor Text) (before middle after : Option (List ℕ)) → all ≡ files ++ file ∷ []
    → TellsUnread files before middle → AppendsPart middle after (unread_line file) → TellsUnread all before after
told_one_more files all file before middle after e h part =
    let one : AreFronts (unread_line file ∷ []) part.0 = (part.0, part.1, [], part.2, sym (append-nil part.0), refl) in
    subst (λ (l : List (Bor Text)). TellsUnread l before after) (sym e) (told_then files (file ∷ []) before middle after part.0 h one part.3)

-- nothing is told behind the files
pub told_alone : (files : List (Bor Text)) (output printed before after : Option (List ℕ)) → TellsUnread files before after
    → TellsFiles files output printed before after
told_alone files output printed before after h =
    (after, h, (Unwritable, record { cause = tt; output = tt }, part_none after after [] (keeps_same after)))

-- the same, of a list that is the same
pub files_as : (files all : List (Bor Text)) (output printed before after : Option (List ℕ)) → files ≡ all → TellsFiles files output printed before after
    → TellsFiles all output printed before after
files_as files all output printed before after e h = subst (λ (l : List (Bor Text)). TellsFiles l output printed before after) e h
