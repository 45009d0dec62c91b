-- The turn at a conditional word, by its condition and the change of open conditionals.
-- Assumes nothing.
use Prim.Native.Nat.{ℕ}
use mathlib.Core.Bool.{Bool, true, false, not}
use mathlib.Core.Option.{Option as Maybe}
use mathlib.Core.List.{List}
use mathlib.Core.Path.{◌≡◌, refl, ◌∙◌}
use lib.Dec.{eqb}
use Rattle.std.specs.Prelude.{Option, Some, None, Ok, Err}
use borrow.Author.Tests.{eq-eqb, ne_eqb}
use Rattle.lex.specs.declared.Fault.{Fault}
use Rattle.lex.specs.declared.Token.{Token}
use Rattle.names.specs.Names.{Ifdef, Elsif, Else, Endif}
use Rattle.conditions.specs.Grammar.{Condition, condition_at}
use Rattle.conditions.specs.Reading.{Reads}
use Rattle.blocks.specs.Blocks.{Conditional, open_block, next_block, close_block}
use Rattle.blocks.specs.Stacks.{open_in, ChangedBy}
use Rattle.blocks.specs.declared.Blocks.{Blocks}
use Rattle.turns.specs.States.{Here}
use Rattle.turns.specs.Acts.{on_condition, on_blocks, condition_act, conditional_act}
use Rattle.choosing.specs.Choosing.{Chosen, choice_by, Word, ChosenBy}

-- the turn by a change of the open conditionals at a word that stands here
changes : (h : Here) (w w' : List (List ℕ)) (r : Option Blocks) (next : Maybe (List Conditional)) (e : ℕ) (u : Chosen)
    → ChangedBy r next w w' → u ≡ choice_by r e h.token.at → ChosenBy u (on_blocks h.token.at e next) w w'
changes h w w' (Some k) next e u c x = rw (x, c.0) (record { act_is = refl; blocks_are = c.1 })
changes h w w' None next e u c x = rw (x, c.0) (refl, c.1)

-- at a word d, with what the code knows of it
module _ (d : ℕ) {h : Here} {s : List ℕ} {t : Token} {file : ℕ} {w : List (List ℕ)} {k : Blocks} {b : List ℕ} {r : List (List ℕ)} {n : ℕ}
    (here : Word h s t file w k b r n) (w' : List (List ℕ)) where
  -- `endif`
  pub closes : (q : Option Blocks) (u : Chosen) → d ≡ Endif → ChangedBy q (close_block (open_in w k.open)) w w' → u ≡ choice_by q t.end t.at
      → ChosenBy u (conditional_act d h) w w'
  unfolding conditional_act
  closes q u e c x =
      rw (eq-eqb d Endif e)
      (changes h w w' q (close_block h.state.conds) h.token.end u (rw here.conds_are c) (rw here.token_is x))

  -- `else`
  pub turns : (q : Option Blocks) (u : Chosen) → d ≡ Else → ChangedBy q (next_block true true (open_in w k.open)) w w' → u ≡ choice_by q t.end t.at
      → ChosenBy u (conditional_act d h) w w'
  unfolding conditional_act
  turns q u e c x =
      rw e
      (changes h w w' q (next_block true true h.state.conds) h.token.end u (rw here.conds_are c) (rw here.token_is x))

  -- a word that takes a condition, which the code read as c
  module _ (not-else : eqb d Else ≡ false) (not-endif : eqb d Endif ≡ false) (c : Condition) (reads : Reads c (λ d. condition_at s d t) b r n) where
    by_condition : conditional_act d h ≡ on_condition c (condition_act d h)
    unfolding conditional_act
    by_condition = rw (not-endif, not-else, reads h.state.macros here.macros_are, here.body_is, here.token_is)

    pub condition_refused : (g : Fault) → c ≡ Err g → w' ≡ w → ChosenBy (Err g) (conditional_act d h) w w'
    condition_refused g e x = (by_condition ∙ rw e, x)

    module _ (x : Bool) (end : ℕ) (is_true : c ≡ Ok (x, end)) where
      by_value : conditional_act d h ≡ condition_act d h x end
      by_value = by_condition ∙ rw is_true

      pub takes_elsif : (q : Option Blocks) (u : Chosen) → d ≡ Elsif → ChangedBy q (next_block x false (open_in w k.open)) w w' → u ≡ choice_by q end t.at
          → ChosenBy u (conditional_act d h) w w'
      takes_elsif q u g c v =
          rw (by_value, eq-eqb d Elsif g)
          (changes h w w' q (next_block x false h.state.conds) end u (rw here.conds_are c) (rw here.token_is v))

      pub takes_ifdef : (q : Option Blocks) (u : Chosen) → d ≡ Ifdef → ChangedBy q (open_block file t.at x (open_in w k.open)) w w' → u ≡ choice_by q end t.at
          → ChosenBy u (conditional_act d h) w w'
      takes_ifdef q u g c v =
          rw (by_value, g)
          (changes h w w' q (open_block h.frame.file h.token.at x h.state.conds) end u
          (rw (here.conds_are, here.token_is, here.file_is) c) (rw here.token_is v))

      pub takes_ifndef : (q : Option Blocks) (u : Chosen) → (d ≡ Elsif → ⊥) → (d ≡ Ifdef → ⊥)
          → ChangedBy q (open_block file t.at (not x) (open_in w k.open)) w w' → u ≡ choice_by q end t.at
          → ChosenBy u (conditional_act d h) w w'
      takes_ifndef q u g i c v =
          rw (by_value, ne_eqb d Elsif g, ne_eqb d Ifdef i)
          (changes h w w' q (open_block h.frame.file h.token.at (not x) h.state.conds) end u
          (rw (here.conds_are, here.token_is, here.file_is) c) (rw here.token_is v))
