-- `pass::pass_stored` meets its contract.
-- Assumes nothing.
use native.Mathlib.Omega.{arith}
use Rattle.pass.proofs.Rows.{rows_fit, closed_reaches}
use Rattle.pass.proofs.pass_stored.Goals as goal

pub fill_rows-requires : goal.fill_rows-requires
fill_rows-requires c = (c.requires, omega arith, omega arith)

pub close_rows-requires : goal.close_rows-requires
close_rows-requires c =
    let p = c.requires in
    let h = p.stored.holds in
    rows_fit p.stored.macros c.args.macros h.count c.fill_rows.new.rows (λ i j l. c.fill_rows.ensures p.stored.macros i j h l)
    (omega (arith, p.few_macros, c.fill_rows.auto.rows)) p.few_macros

pub first_fault-requires : goal.first_fault-requires
first_fault-requires c = (
  c.requires,
  record { list_lent = omega (arith, c.fill_rows.auto.list); ranges_lent = omega arith; stack_lent = omega arith },
  omega (arith, c.close_rows.auto.rows, c.fill_rows.auto.rows),
)

pub returns : goal.returns
returns c ms h = c.first_fault.ensures ms h (closed_reaches ms c.args.macros h.count _ (λ i j l. c.fill_rows.ensures ms i j h l) c.close_rows.ensures)
