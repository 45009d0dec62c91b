-- Opens every definition that a condition is read by, for worked examples: `unfolding conditioning`.
-- Assumes nothing.
use Prim.Native.Nat.{ℕ}
use Rattle.text.specs.Bytes.{begins, holds}
use Rattle.lex.proofs.Computing.{computing}
use Rattle.directive.specs.Words.{start_in, word_start}
use Rattle.conditions.specs.Grammar.{and_at, or_at, arrow_at, chain, negated, name_at, parentheses_at, condition_at}

unfoldable pub conditioning : ℕ
unfolding computing begins holds start_in word_start and_at or_at arrow_at chain negated name_at parentheses_at condition_at
conditioning = 0
