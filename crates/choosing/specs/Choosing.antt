-- What the code answers to a conditional word.
-- Assumes nothing.
use Rattle.std.specs.Prelude.{ℕ, ◌≡◌, List, Option, Some, None, Result, Ok, Err}
use Rattle.lex.specs.declared.Fault.{Fault}
use Rattle.lex.specs.declared.Token.{Token}
use Rattle.lex.specs.Faults.{fault}
use Rattle.store.specs.Buffers.{Holds}
use Rattle.blocks.specs.Stacks.{open_in, BlocksIn}
use Rattle.blocks.specs.declared.Blocks.{Blocks}
use Rattle.turns.specs.States.{Here}
use Rattle.turns.specs.Acts.{Act, refuses, branches}

-- the conditionals open behind a word, and where it ends; or a refusal
abbrev pub Chosen : Type 0
Chosen = Result (Blocks × ℕ) Fault

-- the answer by a change of the open conditionals
abbrev pub choice_by : Option Blocks → ℕ → ℕ → Chosen
choice_by (Some k) e at = Ok (k, e)
choice_by None e at = Err (fault 8 at)

-- the word t stands here, with these conditionals open and these macros defined
pub record Word (h : Here) (s : List ℕ) (t : Token) (file : ℕ) (conds : List (List ℕ)) (k : Blocks) (b : List ℕ) (r : List (List ℕ)) (macros : ℕ) : Type 0 where
  pub body_is : h.body ≡ s
  pub token_is : h.token ≡ t
  pub file_is : h.frame.file ≡ file
  pub conds_are : h.state.conds ≡ open_in conds k.open
  pub macros_are : Holds h.state.macros b r macros

-- the act that it asks for: other open conditionals behind its end, or refused
pub record Chooses (a : Act) (w' : List (List ℕ)) (k' : Blocks) (e : ℕ) : Type 0 where
  pub act_is : a ≡ branches (open_in w' k'.open) e
  pub blocks_are : BlocksIn w' k'

abbrev pub ChosenBy : Chosen → Act → List (List ℕ) → List (List ℕ) → Type 0
ChosenBy (Ok x) a w w' = Chooses a w' x.0 x.1
ChosenBy (Err g) a w w' = (a ≡ refuses g.number g.place) × (w' ≡ w)
