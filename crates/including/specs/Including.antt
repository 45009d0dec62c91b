-- What the code answers to an include.
-- Assumes nothing.
use Rattle.std.specs.Prelude.{ℕ, ◌-◌, ◌<◌, Bool, ◌≡◌, List, length, Result, Ok, Err}
use Rattle.lex.specs.declared.Fault.{Fault}
use Rattle.lex.specs.declared.Token.{Token}
use Rattle.turns.specs.States.{Here}
use Rattle.turns.specs.Acts.{Act, refuses, includes}
use Rattle.turns.specs.Asking.{EndsIn}

-- the include t stands here, with text before it on its line or not, in so many open files
pub record IncludeHere (h : Here) (store : List ℕ) (table : List (List ℕ)) (s : List ℕ) (t : Token) (other : Bool) (depth : ℕ) : Type 0 where
  pub store_is : h.context.store ≡ store
  pub table_is : h.context.table ≡ table
  pub body_is : h.body ≡ s
  pub token_is : h.token ≡ t
  pub other_is : h.frame.cursor.other ≡ other
  pub depth_is : length h.others ≡ depth - 1

-- the act that it asks for: into file i, behind the include at e, or refused
pub record Enters (h : Here) (a : Act) (table : List (List ℕ)) (depth i e : ℕ) : Type 0 where
  pub act_is : a ≡ includes i e
  pub entry_in : i < length table
  pub room : depth < 16
  pub ends : EndsIn h e

-- the entry that is included, and where the directive ends; or a refusal
abbrev pub Entered : Type 0
Entered = Result (ℕ × ℕ) Fault

abbrev pub EnteredBy : Entered → Here → Act → List (List ℕ) → ℕ → Type 0
EnteredBy (Ok x) h a table depth = Enters h a table depth x.0 x.1
EnteredBy (Err f) h a table depth = (a ≡ refuses f.number f.place) × (0 < f.number)
