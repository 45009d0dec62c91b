-- `genuine::all_zero` meets its contract: each byte of the part is compared in turn.
-- Assumes nothing.
use Rattle.std.proofs.Common.{ℕ, eqb, drop, rules, tests, ◌∙◌}
use Rattle.std.proofs.lemmas.Iterator.{YieldsList-from_slice}
use Rattle.std.proofs.lemmas.Iterator.Search.{all_from_yields_List}
use Rattle.genuine.proofs.Testing.{each_list, each_zero, part_on}
use Rattle.genuine.proofs.all_zero.Goals as goal

pub returns : goal.returns
returns c =
    all_from_yields_List (λ (x : ℕ). eqb x 0) _ _ _ c.all.ensures.ran (YieldsList-from_slice (drop c.args.at c.args.b.now) (part_on c.args.b.now c.args.at c.iter.ensures.rest c.part_of.ensures)) (λ x b q k. search (rules, tests))
    ∙ each_list each_zero (drop c.args.at c.args.b.now)
