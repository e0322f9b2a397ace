-- Each phrase of a status is short, and of one line.
use Rattle.std.proofs.Common.{◌≡◌, ◌≤◌, ℕ, List, [], length, Bool, true, false, cond, ◌&&◌, not, Option, Some, rules}
use Rattle.std.specs.Prelude.{unwrap_or, nat_le, ◌==◌}
use Rattle.std.specs.List.{list_all}
use Rattle.std.proofs.lemmas.Bool.{and_parts, leb-true}
use Rattle.bor_wire.specs.Rendering.Heads.{phrase}

-- no byte is a carriage return
abbrev pub one_line : List ℕ → Bool
one_line bytes = list_all (λ b. not (b == 13)) bytes

-- of 31 bytes at most, and of one line
abbrev fits : List ℕ → Bool
fits text = nat_le (length text) 31 && one_line text

pick : (b : Bool) (here : List ℕ) (rest : Option (List ℕ)) → fits here ≡ true → fits (unwrap_or rest []) ≡ true → fits (unwrap_or (cond b (Some here) rest) []) ≡ true
pick true here rest h r = h
pick false here rest h r = r

phrase_fits : (n : ℕ) → fits (phrase n) ≡ true
unfolding phrase
phrase_fits n = search (rules, pick) depth 70 fits 5000

pub phrase_short : (n : ℕ) → length (phrase n) ≤ 31
phrase_short n = leb-true (length (phrase n)) 31 (and_parts _ _ (phrase_fits n)).0

pub phrase_plain : (n : ℕ) → one_line (phrase n) ≡ true
phrase_plain n = (and_parts _ (one_line (phrase n)) (phrase_fits n)).1
