-- Two conditions of one form.
-- Assumes nothing.
use Rattle.std.specs.Prelude.{ℕ, Bool, Ok, Err}
use Rattle.lex.specs.declared.Fault.{Fault}
use Rattle.conditions.specs.Grammar.{Condition}

-- both end at one place, or both are refused by one number at one place
pub data SameForm : Condition → Condition → Type 0 where
  same_end : {v w : Bool} {p : ℕ} → SameForm (Ok (v, p)) (Ok (w, p))
  same_refusal : {g : Fault} → SameForm (Err g) (Err g)
