-- Opens every definition that pass computes by, for worked examples: `unfolding passing`.
-- Assumes nothing.
use Prim.Native.Nat.{ℕ}
use Rattle.turns.proofs.Computing.{flattening}
use Rattle.passing.specs.Passing.{usage_fault, text_fault, uses_in, reaches_any, reaches, macro_fault, pass_from, pass_of}
use Rattle.passing.specs.Chains.{longest, chain_of, chain, no_usage, no_usages, tame, chain_from}

unfoldable pub passing : ℕ
unfolding flattening usage_fault text_fault uses_in reaches_any reaches macro_fault pass_from pass_of longest chain_of chain no_usage no_usages tame chain_from
passing = 0
