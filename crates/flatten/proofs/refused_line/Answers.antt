-- `flatten::refused_line` meets its contract.
-- Assumes nothing.
use mathlib.Core.List.{List}
use mathlib.Core.Path.{ap, ◌∙◌}
use Prim.Native.Nat.{ℕ}
use Rattle.places.specs.Places.{line_at}
use Rattle.flatten.proofs.Whole.{line_none, line_some, line_past}
use Rattle.flatten.proofs.refused_line.Goals as goal

pub returns-then-n-eq0 : goal.returns-then-n-eq0
returns-then-n-eq0 c = line_none _ _ c.if-n-eq0.true

pub returns-then-table-f : goal.returns-then-table-f
returns-then-table-f c = line_some _ _ _ c.if-n-eq0.false (line_past c.args.files.now c.args.table.now _ c.args.b c.if-table-f.true)

pub returns : goal.returns
returns c = line_some _ _ _ c.if-n-eq0.false (c.line_at.ensures ∙ ap (λ (s : List ℕ). line_at s c.args.b) c.body_at.ensures)
