-- Refusals with their places, as a definition or an include's line is looked through whole.
-- Assumes nothing.
use Rattle.std.specs.Prelude.{ℕ, cond, List, [], ◌∷◌, ◌≡◌, eqb, ltb}
use Rattle.lex.specs.declared.Fault.{Fault}
use Rattle.lex.specs.declared.Token.{Token}

abbrev pub fault : ℕ → ℕ → Fault
fault n p = record { number = n; place = p }

-- nothing is refused
abbrev pub no_fault : Fault
no_fault = fault 0 0

abbrev pub fault_of : Token → Fault
fault_of t = fault t.bar t.at

-- "of several the smallest", at the leftmost token that has it: f stands left of g
abbrev pub worse_of : Fault → Fault → Fault
worse_of f g = cond (eqb g.number 0) f (cond (eqb f.number 0) g (cond (ltb g.number f.number) g f))

-- nothing bars these tokens
pub data Unbarred : List Token → Type 0 where
  none : Unbarred []
  some : {t : Token} {ts : List Token} → t.bar ≡ 0 → Unbarred ts → Unbarred (t ∷ ts)
