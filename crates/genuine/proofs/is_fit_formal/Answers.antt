-- `genuine::is_fit_formal` meets its contract.
-- Assumes nothing.
use Rattle.std.proofs.Common.{length, ap, ◌∙◌}
use native.Mathlib.Nat.{le_refl}
use Rattle.std.proofs.lemmas.Bool.{not_from_true}
use Rattle.std.proofs.lemmas.Slice.{between_to_end}
use Rattle.genuine.specs.Fitness.{all_run}
use Rattle.genuine.proofs.TestingNames.{formal_long, formal_some, formal_torn, formal-by}
use Rattle.genuine.proofs.is_fit_formal.Goals as goal

pub returns-then-not-is_short : goal.returns-then-not-is_short
returns-then-not-is_short c = search formal_long

pub bounds-w-0 : goal.bounds-w-0
bounds-w-0 c = search formal_some

pub returns-then-not-is_start : goal.returns-then-not-is_start
returns-then-not-is_start c = search formal_torn

pub returns : goal.returns
returns c =
    let w = c.args.w.now in
    formal-by w c.is_short.ensures (not_from_true _ c.if-not-is_short.false) c.is_start.ensures (not_from_true _ c.if-not-is_start.false)
    (c.all_run.ensures ∙ ap all_run (between_to_end w 1 (length w) (le_refl _)))
