-- The cycle of calls {ands, arrows, nots, ors, parentheses} meets its contracts. Assumes nothing.
use Prim.Native.Nat.{◌+◌}
use mathlib.Core.Bool.{and_assoc, or_assoc}
use mathlib.Core.Path.{refl, sym}
use native.Mathlib.Omega.{arith}
use Rattle.conditions.specs.Grammar.{parentheses_at}
use Rattle.conditions.proofs.Parts.{start_level}
use Rattle.conditions.proofs.Signs.{byte_inside}
use Rattle.conditions.proofs.Loops.{operator_level, reads_start, chain_place, chain_refused, chain_ends, chain_next, chain_less, nots_next, nots_less, nots_end}
use Rattle.conditions.proofs.Chains.{operand_of, ands_of, ors_of, arrows_of, and_here, no_and, or_here, no_or, implies_here, equivalent_here, no_arrow, at_first, by_value, implied, equal}
use Rattle.conditions.proofs.Closing.{opens, names, closes_refused, closes, closes_not}
use Rattle.std.proofs.lemmas.Result.{err_from_is_err_and}
use Rattle.std.proofs.lemmas.Bool.{not_from_false, not_from_true}
use Rattle.conditions.proofs.+ands_arrows_nots_ors_parentheses.Goals as goal

pub ands-loop-v-init : goal.ands-loop-v-init
ands-loop-v-init t c = reads_start _ (λ v. refl) c.requires.0

pub ands-nots-requires : goal.ands-nots-requires
ands-nots-requires t c = (omega arith, (c.loop-v.invariant.inside, c.requires.1))

pub ands-pair_at-requires : goal.ands-pair_at-requires
ands-pair_at-requires t c = ((chain_place (ands_of _ _) c.loop-v.invariant c.nots.ensures c.in_ok-v.was c.requires.1).1.inside.within, omega arith, omega arith)

pub ands-returns-then-not-pair_at : goal.ands-returns-then-not-pair_at
ands-returns-then-not-pair_at t c = chain_ends (ands_of _ _) c.loop-v.invariant c.nots.ensures c.in_ok-v.was (no_and _ _ c.pair_at.ensures (not_from_false _ c.if-not-pair_at.true)) refl

pub ands-overflow_add-p : goal.ands-overflow_add-p
ands-overflow_add-p t c = omega (arith, (operator_level (ands_of c.args.s.now c.args.left) (and_here c.args.s.now c.in_ok-v.p c.pair_at.ensures (not_from_true _ c.if-not-pair_at.false))).inside.within)

pub ands-loop-v-smaller : goal.ands-loop-v-smaller
ands-loop-v-smaller t c = chain_less (ands_of _ _) c.loop-v.invariant c.nots.ensures c.in_ok-v.was (and_here _ _ c.pair_at.ensures (not_from_true _ c.if-not-pair_at.false)) c.next_token-i.ensures c.requires.1

pub ands-loop-v-preserved : goal.ands-loop-v-preserved
ands-loop-v-preserved t c = chain_next (ands_of _ _) c.loop-v.invariant c.nots.ensures c.in_ok-v.was (and_here _ _ c.pair_at.ensures (not_from_true _ c.if-not-pair_at.false)) c.next_token-i.ensures _ (λ w. sym (and_assoc c.loop-v.all c.in_ok-v.v w))

pub ands-returns-in_err-v : goal.ands-returns-in_err-v
ands-returns-in_err-v t c = let p = err_from_is_err_and c.from_residual.result c.from_residual.ensures.1 in rw (p.1, p.2) (chain_refused (ands_of _ _) c.loop-v.invariant c.nots.ensures c.in_err-v.was)

pub arrows-loop-v-init : goal.arrows-loop-v-init
arrows-loop-v-init t c = reads_start _ at_first c.requires.0

pub arrows-ors-requires : goal.arrows-ors-requires
arrows-ors-requires t c = (omega arith, (c.loop-v.invariant.inside, c.requires.1))

pub arrows-pair_at-requires : goal.arrows-pair_at-requires
arrows-pair_at-requires t c = ((chain_place (arrows_of _ _) c.loop-v.invariant c.ors.ensures c.in_ok-v.was c.requires.1).1.inside.within, omega arith, omega arith)

pub arrows-overflow_add-p : goal.arrows-overflow_add-p
arrows-overflow_add-p t c = omega (arith, (operator_level (arrows_of c.args.s.now c.args.left) (implies_here c.args.s.now c.in_ok-v.p c.pair_at.ensures c.if-pair_at.true)).inside.within)

pub arrows-loop-v-smaller-then-pair_at : goal.arrows-loop-v-smaller-then-pair_at
arrows-loop-v-smaller-then-pair_at t c = chain_less (arrows_of _ _) c.loop-v.invariant c.ors.ensures c.in_ok-v.was (implies_here _ _ c.pair_at.ensures c.if-pair_at.true) c.next_token-i.ensures c.requires.1

pub arrows-loop-v-preserved-then-pair_at : goal.arrows-loop-v-preserved-then-pair_at
arrows-loop-v-preserved-then-pair_at t c = chain_next (arrows_of _ _) c.loop-v.invariant c.ors.ensures c.in_ok-v.was (implies_here _ _ c.pair_at.ensures c.if-pair_at.true) c.next_token-i.ensures _ (implied c.loop-v.no c.loop-v.yes c.in_ok-v.v)

pub arrows-triple_at-requires : goal.arrows-triple_at-requires
arrows-triple_at-requires t c = ((chain_place (arrows_of _ _) c.loop-v.invariant c.ors.ensures c.in_ok-v.was c.requires.1).1.inside.within, omega arith, omega arith, omega arith)

pub arrows-overflow_add-p-then-triple_at : goal.arrows-overflow_add-p-then-triple_at
arrows-overflow_add-p-then-triple_at t c = omega (arith, (operator_level (arrows_of c.args.s.now c.args.left) (equivalent_here c.args.s.now c.in_ok-v.p c.pair_at.ensures c.if-pair_at.false c.triple_at.ensures c.if-triple_at.true)).inside.within)

pub arrows-loop-v-smaller : goal.arrows-loop-v-smaller
arrows-loop-v-smaller t c = chain_less (arrows_of _ _) c.loop-v.invariant c.ors.ensures c.in_ok-v.was (equivalent_here _ _ c.pair_at.ensures c.if-pair_at.false c.triple_at.ensures c.if-triple_at.true) c.next_token-i-then-triple_at.ensures c.requires.1

pub arrows-loop-v-preserved : goal.arrows-loop-v-preserved
arrows-loop-v-preserved t c = chain_next (arrows_of _ _) c.loop-v.invariant c.ors.ensures c.in_ok-v.was (equivalent_here _ _ c.pair_at.ensures c.if-pair_at.false c.triple_at.ensures c.if-triple_at.true) c.next_token-i-then-triple_at.ensures _ (equal c.loop-v.no c.loop-v.yes c.in_ok-v.v)

pub arrows-returns-in-loop-v : goal.arrows-returns-in-loop-v
arrows-returns-in-loop-v t c = chain_ends (arrows_of _ _) c.loop-v.invariant c.ors.ensures c.in_ok-v.was (no_arrow _ _ c.pair_at.ensures c.if-pair_at.false c.triple_at.ensures c.if-triple_at.false) (by_value _ _ c.in_ok-v.v)

pub arrows-returns-in_err-v : goal.arrows-returns-in_err-v
arrows-returns-in_err-v t c = let p = err_from_is_err_and c.from_residual.result c.from_residual.ensures.1 in rw (p.1, p.2) (chain_refused (arrows_of _ _) c.loop-v.invariant c.ors.ensures c.in_err-v.was)

pub nots-loop-odd-init : goal.nots-loop-odd-init
nots-loop-odd-init t c = reads_start _ (λ v. refl) c.requires.0

pub nots-overflow_add-i : goal.nots-overflow_add-i
nots-overflow_add-i t c = omega (arith, byte_inside c.args.s.now c.loop-odd.i 33 (omega arith) c.peek.ensures c.loop-odd-test.true)

pub nots-loop-odd-smaller : goal.nots-loop-odd-smaller
nots-loop-odd-smaller t c = nots_less (operand_of _ _) c.loop-odd.odd c.loop-odd.invariant c.peek.ensures c.loop-odd-test.true c.next_token-i.ensures

pub nots-loop-odd-preserved : goal.nots-loop-odd-preserved
nots-loop-odd-preserved t c = nots_next (operand_of _ _) c.loop-odd.odd c.loop-odd.invariant c.peek.ensures c.loop-odd-test.true c.next_token-i.ensures

pub nots-parentheses-requires : goal.nots-parentheses-requires
nots-parentheses-requires t c = (omega arith, (byte_inside c.args.s.now c.loop-odd.i 40 (omega arith) c.peek-2.ensures c.if-peek-eq40.true, c.requires.1))

pub nots-returns-then-peek-eq40 : goal.nots-returns-then-peek-eq40
nots-returns-then-peek-eq40 t c = nots_end (operand_of _ _) c.loop-odd.odd c.loop-odd.invariant c.peek.ensures c.loop-odd-test.false (opens _ _ _ _ c.peek-2.ensures c.if-peek-eq40.true c.parentheses.ensures) c.behind.ensures

pub nots-returns : goal.nots-returns
nots-returns t c = nots_end (operand_of _ _) c.loop-odd.odd c.loop-odd.invariant c.peek.ensures c.loop-odd-test.false (names _ _ _ _ c.peek-2.ensures c.if-peek-eq40.false c.name_at.ensures) c.behind-2.ensures

pub ors-loop-v-init : goal.ors-loop-v-init
ors-loop-v-init t c = reads_start _ (λ v. refl) c.requires.0

pub ors-ands-requires : goal.ors-ands-requires
ors-ands-requires t c = (omega arith, (c.loop-v.invariant.inside, c.requires.1))

pub ors-pair_at-requires : goal.ors-pair_at-requires
ors-pair_at-requires t c = ((chain_place (ors_of _ _) c.loop-v.invariant c.ands.ensures c.in_ok-v.was c.requires.1).1.inside.within, omega arith, omega arith)

pub ors-returns-then-not-pair_at : goal.ors-returns-then-not-pair_at
ors-returns-then-not-pair_at t c = chain_ends (ors_of _ _) c.loop-v.invariant c.ands.ensures c.in_ok-v.was (no_or _ _ c.pair_at.ensures (not_from_false _ c.if-not-pair_at.true)) refl

pub ors-overflow_add-p : goal.ors-overflow_add-p
ors-overflow_add-p t c = omega (arith, (operator_level (ors_of c.args.s.now c.args.left) (or_here c.args.s.now c.in_ok-v.p c.pair_at.ensures (not_from_true _ c.if-not-pair_at.false))).inside.within)

pub ors-loop-v-smaller : goal.ors-loop-v-smaller
ors-loop-v-smaller t c = chain_less (ors_of _ _) c.loop-v.invariant c.ands.ensures c.in_ok-v.was (or_here _ _ c.pair_at.ensures (not_from_true _ c.if-not-pair_at.false)) c.next_token-i.ensures c.requires.1

pub ors-loop-v-preserved : goal.ors-loop-v-preserved
ors-loop-v-preserved t c = chain_next (ors_of _ _) c.loop-v.invariant c.ands.ensures c.in_ok-v.was (or_here _ _ c.pair_at.ensures (not_from_true _ c.if-not-pair_at.false)) c.next_token-i.ensures _ (λ w. sym (or_assoc c.loop-v.any c.in_ok-v.v w))

pub ors-returns-in_err-v : goal.ors-returns-in_err-v
ors-returns-in_err-v t c = let p = err_from_is_err_and c.from_residual.result c.from_residual.ensures.1 in rw (p.1, p.2) (chain_refused (ors_of _ _) c.loop-v.invariant c.ands.ensures c.in_err-v.was)

pub parentheses-returns-then-left-eq0 : goal.parentheses-returns-then-left-eq0
unfolding parentheses_at
parentheses-returns-then-left-eq0 t c ms h = rw c.if-left-eq0.true

pub parentheses-overflow_add-at : goal.parentheses-overflow_add-at
parentheses-overflow_add-at t c = omega (arith, c.requires.0)

pub parentheses-arrows-requires : goal.parentheses-arrows-requires
parentheses-arrows-requires t c = (omega (arith, c.if-left-eq0.false), (omega (arith, c.next_token.ensures, (start_level c.args.s.now (c.args.at + 1) (omega (arith, c.requires.0))).inside.within), c.requires.1))

pub parentheses-overflow_add-result : goal.parentheses-overflow_add-result
parentheses-overflow_add-result t c = omega (arith, byte_inside c.args.s.now c.in_ok-v.p 41 (omega arith) c.peek.ensures c.if-peek-eq41.true)

pub parentheses-returns-then-peek-eq41 : goal.parentheses-returns-then-peek-eq41
parentheses-returns-then-peek-eq41 t c = closes _ _ _ c.if-left-eq0.false c.next_token.ensures c.arrows.ensures c.in_ok-v.was c.peek.ensures c.if-peek-eq41.true

pub parentheses-returns : goal.parentheses-returns
parentheses-returns t c = closes_not _ _ _ c.if-left-eq0.false c.next_token.ensures c.arrows.ensures c.in_ok-v.was c.peek.ensures c.if-peek-eq41.false (rw (← c.in_file.ensures, ← c.token_at.ensures) c.refuse.ensures)

pub parentheses-returns-in_err-v : goal.parentheses-returns-in_err-v
parentheses-returns-in_err-v t c = let p = err_from_is_err_and c.from_residual.result c.from_residual.ensures.1 in rw (p.1, p.2) (closes_refused _ _ _ c.if-left-eq0.false c.next_token.ensures c.arrows.ensures c.in_err-v.was)
