-- A conditional word with its condition stands on one line, in its file.
-- Assumes nothing.
use Prim.Native.Nat.{ℕ, ◌≤◌}
use mathlib.Core.Bool.{Bool, true, false, cond, not}
use mathlib.Core.List.{List}
use mathlib.Core.Option.{Option, none, some}
use mathlib.Core.Path.{◌≡◌, refl, subst}
use native.Mathlib.Omega.{arith}
use lib.Dec.{eqb}
use lib.ListN.{length}
use Rattle.std.specs.Prelude.{Ok, Err}
use Rattle.lex.proofs.Tests.{by_test}
use Rattle.names.specs.Names.{Ifdef, Elsif, Else, Endif}
use Rattle.places.proofs.Levels.{Level, level_here}
use Rattle.conditions.specs.Grammar.{Condition}
use Rattle.conditions.proofs.Parts.{condition_level}
use Rattle.blocks.specs.Blocks.{Conditional, open_block, next_block, close_block}
use Rattle.turns.specs.States.{Here}
use Rattle.turns.specs.Acts.{Act, refuses, branches, is_defined_here, condition_here, on_condition, on_blocks, condition_act, conditional_act}

-- a conditional word whose act goes on stands on this line then
abbrev ActOn : List ℕ → ℕ → Act → Type 0
ActOn s i a = (cs : List Conditional) (e : ℕ) → a ≡ branches cs e → Level s i e

module _ (h : Here) (w : h.token.end ≤ length h.body) where
  abbrev On : Act → Type 0
  On a = ActOn h.body h.token.end a

  refuses_on : (n p : ℕ) → On (refuses n p)
  refuses_on n p cs e q = let z : ◌≡◌ {A = ℕ} 0 1 = cc in absurd (omega arith)

  blocks_on : (e : ℕ) (o : Option (List Conditional)) → Level h.body h.token.end e → On (on_blocks h.token.at e o)
  blocks_on e none l = refuses_on 8 h.token.at
  blocks_on e (some cs) l = λ ds f q. let z : e ≡ f = cc in subst (Level h.body h.token.end) z l

  condition_on : (c : Condition) (k : Bool → ℕ → Act) → condition_here h ≡ c → ((v : Bool) (e : ℕ) → Level h.body h.token.end e → On (k v e)) → On (on_condition c k)
  condition_on (Ok x) k q g = g x.0 x.1 (condition_level h.body (is_defined_here h) h.token x.0 x.1 q w)
  condition_on (Err f) k q g = refuses_on f.number f.place

  conditional_on : (d : ℕ) → On (conditional_act d h)
  unfolding conditional_act
  conditional_on d =
      let o : Level h.body h.token.end h.token.end = level_here h.body h.token.end w in
      by_test On (eqb d Endif) (λ e. blocks_on h.token.end (close_block h.state.conds) o)
      (λ p. by_test On (eqb d Else) (λ e. blocks_on h.token.end (next_block true true h.state.conds) o)
      (λ q. condition_on (condition_here h) (condition_act d h) refl
      (λ v e l. by_test On (eqb d Elsif) (λ z. blocks_on e (next_block v false h.state.conds) l)
      (λ z. blocks_on e (open_block h.frame.file h.token.at (cond (eqb d Ifdef) v (not v)) h.state.conds) l))))

  pub word_level : (d : ℕ) (cs : List Conditional) (e : ℕ) → conditional_act d h ≡ branches cs e → Level h.body h.token.end e
  word_level d = conditional_on d
