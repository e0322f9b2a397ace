-- Lists, what holds of all their elements, and what is read of one element after the other.
use Rattle.std.proofs.Common.{◌≡◌, ◌<◌, ◌≤◌, ◌+◌, ◌∙◌, ℕ, List, [], ◌∷◌, ◌++◌, append_assoc, drop, get_or, length, take, reverse, Ok, Vec, Global, refl, ap, sym, subst, flat_map, All}
use Rattle.std.proofs.lemmas.List.{at_drop_more, reverse-append}
use Rattle.std.proofs.lemmas.List.Elements.{All-nil, All-cons, All-head, All-tail, All-append, All-take}
use Rattle.sqlite.specs.State.{State}
use Rattle.bor_register.specs.Register.{Register}
use Rattle.bor_store_reads.specs.Answering.{ReadsAs}
use Rattle.bor_store_reads.proofs.Reading.{read_next, read_so, unread}
pub use Rattle.bor_records.proofs.OnLinks.Linking.{all_done}

all_turned : {X : Type 0} (P : X → Type 0) (xs : List X) → All P xs → All P (reverse xs)
all_turned P [] h = h
all_turned P (x ∷ xs) h =
    subst (All P) (sym (reverse-append (x ∷ []) xs)) (All-append P (reverse xs) (x ∷ []) (all_turned P xs (All-tail P x xs h)) (All-cons P x [] (All-head P x xs h) (All-nil P)))

-- the last of them, alone
pub all_taken : {X : Type 0} (P : X → Type 0) (xs : List X) → All P xs → All P (take 1 (reverse xs))
all_taken P xs h = All-take P 1 (reverse xs) (all_turned P xs h)

-- ---- what each element of a list has is read, and put together

pub none_read : {X : Type 0} {s : State} {found : Vec X Global} {all : Register → List X} → found.items ≡ [] → ReadsAs s s (Ok found) (λ r found. found.items ++ all r ≡ all r)
none_read {all = all} none = unread (λ r stored. ap (λ l. l ++ all r) none)

module _ {X Y : Type 0} (own : Register → X → List Y) (xs : List X) {i : ℕ} {old new : State} where
  pub more_read : {mid : State} {x : X} {found one more : Vec Y Global} → ReadsAs old mid (Ok found) (λ r found. found.items ++ flat_map (own r) (drop i xs) ≡ flat_map (own r) xs) → ReadsAs mid new (Ok one) (λ r one. one.items ≡ own r x)
      → i < length xs → x ≡ get_or xs i x → more.items ≡ found.items ++ one.items → ReadsAs old new (Ok more) (λ r more. more.items ++ flat_map (own r) (drop (i + 1) xs) ≡ flat_map (own r) xs)
  more_read {x = x} {found} {one} first second lt at added = read_so (read_next first second) (λ r stored is.
      (let rest = flat_map (own r) (drop (i + 1) xs) in
      ap (λ l. l ++ rest) added ∙ append_assoc found.items one.items rest ∙ ap (λ l. found.items ++ (l ++ rest)) (is.1 ∙ ap (own r) at) ∙ ap (λ l. found.items ++ l) (sym (at_drop_more (flat_map (own r)) xs i x lt)) ∙ is.0))

  pub all_read : {found : Vec Y Global} → ReadsAs old new (Ok found) (λ r found. found.items ++ flat_map (own r) (drop i xs) ≡ flat_map (own r) xs) → length xs ≤ i → ReadsAs old new (Ok found) (λ r found. found.items ≡ flat_map (own r) xs)
  all_read {found} was past = read_so was (λ r stored is. all_done (flat_map (own r)) refl found.items (flat_map (own r) xs) xs i past is)
