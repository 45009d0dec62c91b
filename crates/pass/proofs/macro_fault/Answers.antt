-- `pass::macro_fault` meets its contract.
-- Assumes nothing.
use mathlib.Core.Bool.{true, false}
use native.Mathlib.Omega.{arith}
use Rattle.std.proofs.lemmas.Result.{err_from_is_err_and}
use Rattle.pass.proofs.Macros.{last_fits, last_tokens, last_small, macro_by, macro_bad}
use Rattle.pass.proofs.macro_fault.Goals as goal

pub text_fault-requires : goal.text_fault-requires
text_fault-requires c =
    let h = c.requires.0.stored.holds in (
      c.requires.0,
      record {
        filled = last_fits c.unfold_text-n.ensures;
        small = last_small h c.requires.0.bytes_small c.args.i c.requires.1 c.read.ensures c.unfold_text-n.ensures;
        inside = omega arith;
        brackets = c.requires.2.stack_lent;
      },
    )

pub returns-then-member : goal.returns-then-member
returns-then-member c ms h =
    macro_by ms c.args.rows.now c.args.i _
    (last_tokens h c.requires.0.bytes_small c.args.i c.requires.1 c.read.ensures c.unfold_text-n.ensures) (c.text_fault.ensures ms h) c.in_ok-text_fault.was c.set_of.ensures c.member.ensures true c.if-member.true

pub returns : goal.returns
returns c ms h =
    macro_by ms c.args.rows.now c.args.i _
    (last_tokens h c.requires.0.bytes_small c.args.i c.requires.1 c.read.ensures c.unfold_text-n.ensures) (c.text_fault.ensures ms h) c.in_ok-text_fault.was c.set_of.ensures c.member.ensures false c.if-member.false

pub returns-in_err-text_fault : goal.returns-in_err-text_fault
returns-in_err-text_fault c ms h =
    let p = err_from_is_err_and c.from_residual.result c.from_residual.ensures.1 in
    rw (p.1, p.2)
    (macro_bad ms c.args.rows.now c.args.i _
    (last_tokens h c.requires.0.bytes_small c.args.i c.requires.1 c.read.ensures c.unfold_text-n.ensures) (c.text_fault.ensures ms h) _ c.in_err-text_fault.was)
