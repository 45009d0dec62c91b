-- What pass answers.
-- Assumes nothing.
use Rattle.std.specs.Prelude.{ℕ, ◌≡◌, List, [], None}
use Rattle.definition.specs.Definitions.{Macro}
use Rattle.store.specs.Stores.{macro_name, macro_at}
use Rattle.genuine.specs.Layout.{left_in}
use Rattle.genuine.specs.Leaving.{LeftBy}
use Rattle.passing.specs.Passing.{Passed, yes, fault, pass_of}
use Rattle.pass.specs.declared.Answer.{Answer}
use Rattle.pass.specs.declared.Answer.TheVariants as answer

abbrev pub answer_of : Passed → Answer
answer_of yes = answer.Yes
answer_of (fault i n) = answer.Fault i n

-- 01's number for each case, 0 for yes
abbrev pub number_of : Answer → ℕ
number_of answer.Yes = 0
number_of (answer.Fault i n) = n
number_of answer.Foreign = 1

-- the macro that it names
abbrev pub name_in : List Macro → Answer → List ℕ
name_in ms answer.Yes = []
name_in ms (answer.Fault i n) = macro_name (macro_at ms i)
name_in ms answer.Foreign = []

-- pass's contract: `passOf` of the macros stored; "On a store that no definitions leave, .. pass refuses with 1"
pub record Passes (b : List ℕ) (r : List (List ℕ)) (a : Answer) : Type 0 where
  pub left : (ms : List Macro) → LeftBy ms b r → a ≡ answer_of (pass_of ms)
  pub foreign : left_in b r ≡ None → a ≡ answer.Foreign
