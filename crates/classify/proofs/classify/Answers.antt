-- `classify::classify` meets its contract. The definition branches as the code does.
-- Assumes nothing.
use mathlib.Core.Bool.{Bool, true, false, ◌||◌}
use mathlib.Core.Path.{◌≡◌}
use lib.Dec.{ltb}
use borrow.Author.Tests.{ltb-false}
use Rattle.classify.specs.Answer.{refused_line, outcome_of}
use Rattle.classify.proofs.classify.Goals as goal

or_right : (a b : Bool) → (a || b) ≡ false → b ≡ false
or_right true b e = cc
or_right false b e = e

pub returns-then-set-text : goal.returns-then-set-text
unfolding refused_line outcome_of
returns-then-set-text c = record { answer = rw c.if-set-text.true; list = rw c.if-set-text.true }

pub classify_taken-requires : goal.classify_taken-requires
classify_taken-requires c = ltb-false _ _ (or_right (ltb 3 c.args.set) _ c.if-set-text.false)

pub returns : goal.returns
unfolding outcome_of
returns c = rw c.if-set-text.false c.classify_taken.ensures
