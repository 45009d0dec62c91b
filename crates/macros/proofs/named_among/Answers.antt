-- `macros::named_among` meets its contract: the name of each range from `at` on is compared in turn.
-- Assumes nothing.
use Rattle.std.proofs.Common.{ℕ, List, drop, rules, tests, ◌∙◌}
use Rattle.std.proofs.lemmas.Iterator.{YieldsList-from_slice}
use Rattle.std.proofs.lemmas.Iterator.Adapters.{YieldsList-from_skip}
use Rattle.std.proofs.lemmas.Iterator.Search.{any_from_yields_List}
use Rattle.text.specs.Bytes.{same}
use Rattle.macros.specs.Looking.{plainly}
use Rattle.macros.specs.Starting.{range_of}
use Rattle.macros.proofs.Ranges.{among_any}
use Rattle.macros.proofs.named_among.Goals as goal

pub returns : goal.returns
returns c =
    any_from_yields_List (λ (v : List ℕ). same c.args.w.now (plainly (range_of c.args.s.now v))) _ _ _ c.any.ensures.ran (YieldsList-from_skip c.args.at (YieldsList-from_slice c.args.ranges.now cc) cc) (λ x b q k. search (rules, tests))
    ∙ among_any c.args.s.now c.args.w.now (drop c.args.at c.args.ranges.now)
