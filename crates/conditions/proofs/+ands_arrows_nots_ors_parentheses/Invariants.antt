-- The calls of the cycle {ands, arrows, nots, ors, parentheses} go down by what may still open, and by the level. Assumes nothing.
use Prim.Native.Nat.{◌+◌, ◌-◌, ◌*◌}
use mathlib.Core.Bool.{cond, ◌&&◌, ◌||◌}
use lib.ListN.{length}
use Rattle.conditions.specs.Grammar.{nots_by, parentheses_at}
use Rattle.conditions.specs.Reading.{differs}
use Rattle.conditions.proofs.Loops.{ReadsOn, chained}
use Rattle.conditions.proofs.Chains.{ands_of, ors_of, arrows_of}
use Rattle.conditions.proofs.+ands_arrows_nots_ors_parentheses.Given as goal

abbrev pub decreases-ands : goal.decreases-ands
decreases-ands l = 5 * l.left + 2

abbrev pub decreases-arrows : goal.decreases-arrows
decreases-arrows l = 5 * l.left + 4

abbrev pub decreases-nots : goal.decreases-nots
decreases-nots l = 5 * l.left + 1

abbrev pub decreases-ors : goal.decreases-ors
decreases-ors l = 5 * l.left + 3

abbrev pub decreases-parentheses : goal.decreases-parentheses
decreases-parentheses l = 5 * l.left

abbrev pub invariant-ands-loop-v : goal.invariant-ands-loop-v
invariant-ands-loop-v l = ReadsOn l.s l.bytes l.records l.macros (chained (ands_of l.s l.left)) (λ v. l.all && v) l.at l.i

abbrev pub decreases-ands-loop-v : goal.decreases-ands-loop-v
decreases-ands-loop-v l = length l.s - l.i

abbrev pub invariant-arrows-loop-v : goal.invariant-arrows-loop-v
invariant-arrows-loop-v l = ReadsOn l.s l.bytes l.records l.macros (chained (arrows_of l.s l.left)) (λ v. cond v l.yes l.no) l.at l.i

abbrev pub decreases-arrows-loop-v : goal.decreases-arrows-loop-v
decreases-arrows-loop-v l = length l.s - l.i

abbrev pub invariant-nots-loop-odd : goal.invariant-nots-loop-odd
invariant-nots-loop-odd l = ReadsOn l.s l.bytes l.records l.macros (λ d. nots_by l.s d (parentheses_at l.s d l.left)) (differs l.odd) l.at l.i

abbrev pub decreases-nots-loop-odd : goal.decreases-nots-loop-odd
decreases-nots-loop-odd l = length l.s - l.i

abbrev pub invariant-ors-loop-v : goal.invariant-ors-loop-v
invariant-ors-loop-v l = ReadsOn l.s l.bytes l.records l.macros (chained (ors_of l.s l.left)) (λ v. l.any || v) l.at l.i

abbrev pub decreases-ors-loop-v : goal.decreases-ors-loop-v
decreases-ors-loop-v l = length l.s - l.i
