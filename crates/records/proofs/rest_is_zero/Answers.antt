-- `records::rest_is_zero` meets its contract. Assumes nothing.
use Rattle.std.proofs.Common.{◌∙◌, ◌&&◌, ◌+◌, drop, sym, ap, arith}
use Rattle.records.specs.Records.{is_none, all_none}
use Rattle.records.proofs.Turns.{zero_turn, zero_last}
use Rattle.records.proofs.rest_is_zero.Goals as goal

pub loop-i-preserved : goal.loop-i-preserved
loop-i-preserved c =
    let xs = c.args.records.now in
    let i = c.loop-i.i in
    ap (λ b. b && all_none (drop (i + 1) xs)) (c.still_zero-zero.ensures ∙ ap (λ r. c.loop-i.zero && is_none r) c.read.ensures)
    ∙ zero_turn xs c.loop-i.zero i (omega arith)
    ∙ c.loop-i.invariant

pub returns : goal.returns
returns c = sym (zero_last c.args.records.now c.loop-i.zero c.loop-i.i (omega arith)) ∙ c.loop-i.invariant
