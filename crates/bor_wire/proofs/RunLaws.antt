-- Laws of runs that go on.
use Rattle.std.proofs.Common.{◌≡◌, ℕ, List, [], ◌∷◌, Ok, Err, refl}
use Rattle.std.specs.List.{AllZip}
use Rattle.bor_register.specs.Register.{Register, caller_of}
use Rattle.bor_desk.specs.Operations.Legality.{IsLegal}
use Rattle.bor_desk.proofs.Steps.{step-stays_legal}
use Rattle.bor_wire.proofs.OnSpelling.Messages.{one_spelling}
use Rattle.bor_wire.specs.Spelling.Spell.{Spelled, Spells}
use Rattle.bor_wire.specs.Inputs.{after}
use Rattle.bor_wire.specs.Runs.{AreSpelled, register_left}

-- ---- one spelling

-- where each item determines what it goes with, a list determines the list
pub zip_once : {A B : Type 0} (R : A → B → Type 0) → ((i : A) (x y : B) → R i x → R i y → x ≡ y) → (is : List A) (xs ys : List B) → AllZip R is xs → AllZip R is ys → xs ≡ ys
zip_once R one [] [] [] p q = refl
zip_once R one (i ∷ is) (x ∷ xs) (y ∷ ys) p q =
    let first : x ≡ y = one i x y p.0 q.0 in
    let others : xs ≡ ys = zip_once R one is xs ys p.1 q.1 in
    cc
zip_once R one [] [] ys p q = absurd q
zip_once R one (i ∷ is) (x ∷ xs) ys p q = absurd q
zip_once R one is xs ys p q = absurd p

pub spelled_once : (inputs : List (List ℕ)) (a b : List Spelled) → AreSpelled inputs a → AreSpelled inputs b → a ≡ b
spelled_once inputs a b x y = zip_once Spells one_spelling inputs a b x y

-- ---- what is legal

pub after_legal : (r : Register) (s : Spelled) → IsLegal r → IsLegal (after r s)
after_legal r (Err why) legal = legal
after_legal r (Ok asked) legal = step-stays_legal r (caller_of asked.token r) asked.request legal

pub left_legal : (r : Register) (ss : List Spelled) → IsLegal r → IsLegal (register_left r ss)
left_legal r [] legal = legal
left_legal r (s ∷ ss) legal = left_legal (after r s) ss (after_legal r s legal)
