-- What a byte does in a default (01, "Macros"), by the closing brackets due, innermost first.
-- Assumes nothing.
use Rattle.std.specs.Prelude.{ℕ, cond, ◌||◌, List, [], ◌∷◌, eqb}

pub data Step : Type 0 where
  on : List ℕ → Step  -- read on, with these closing brackets due
  done : Step  -- "A default ends at an unshielded `,` or `)`"
  torn : Step  -- "unmatched brackets"

-- a closing bracket
abbrev pub closing : ℕ → List ℕ → Step
closing c [] = torn
closing c (k ∷ ks) = cond (eqb c k) (on ks) torn

-- a `)`
abbrev pub ending_list : List ℕ → Step
ending_list [] = done
ending_list (k ∷ ks) = cond (eqb 41 k) (on ks) torn

-- a `,`
abbrev pub separating : List ℕ → Step
separating [] = done
separating (k ∷ ks) = on (k ∷ ks)

unfoldable pub step_of : ℕ → List ℕ → Step
step_of c ks =
    cond (eqb c 44) (separating ks)
    (cond (eqb c 41) (ending_list ks)
    (cond (eqb c 93 || eqb c 125) (closing c ks)
    (cond (eqb c 40) (on (41 ∷ ks))
    (cond (eqb c 91) (on (93 ∷ ks))
    (cond (eqb c 123) (on (125 ∷ ks))
    (on ks))))))
