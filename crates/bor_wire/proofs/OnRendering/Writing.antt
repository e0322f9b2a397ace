-- The bytes that several writes add one after the other.
use Rattle.std.proofs.Common.{◌≡◌, List, [], ◌∷◌, ◌++◌, Result, Ok, Err, append_assoc, ap, ◌∙◌}
use Rattle.json.specs.Token.{Token}
use Rattle.json.specs.Written.{Written, Writes}
use Rattle.bor_wire.specs.Rendering.Parts.{WritesBehind}

longer : {E : Type 0} (r : Result (Unit {0}) E) (v w new : Written) (some rest : List Token) → w.tokens ≡ v.tokens ++ some → w.before ≡ v.before → WritesBehind r w new rest → WritesBehind r v new (some ++ rest)
longer (Ok u) v w new some rest are stays h = record { tokens = h.tokens ∙ ap (λ ts. ts ++ rest) are ∙ append_assoc v.tokens some rest; before = h.before ∙ stays }
longer (Err e) v w new some rest are stays h = record { tokens = tt; before = h.before ∙ stays }

-- a token that was written, and what was added behind it
pub wrote : {E F : Type 0} {u : Unit {0}} {r : Result (Unit {0}) E} {v w new : Written} {t : Token} {rest : List Token} → Writes {E = F} (Ok u) v w t → WritesBehind r w new rest → WritesBehind r v new (t ∷ rest)
wrote {E} {F} {u} {r} {v} {w} {new} {t} {rest} first h = longer r v w new (t ∷ []) rest first.ok first.room.0 h

-- tokens that were added, and what was added behind them
pub added : {E F : Type 0} {u : Unit {0}} {r : Result (Unit {0}) E} {v w new : Written} {some rest : List Token} → WritesBehind {E = F} (Ok u) v w some → WritesBehind r w new rest → WritesBehind r v new (some ++ rest)
added {E} {F} {u} {r} {v} {w} {new} {some} {rest} first h = longer r v w new some rest first.tokens first.before h

-- the last token
pub ended : {E : Type 0} {r : Result (Unit {0}) E} {v new : Written} {t : Token} → Writes r v new t → WritesBehind r v new (t ∷ [])
ended {E} {r} {v} {new} {t} last = record { tokens = last.ok; before = last.room.0 }
