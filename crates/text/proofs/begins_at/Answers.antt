-- `text::begins_at` meets its contract.
-- Assumes nothing.
use mathlib.Core.Path.{ap, ◌∙◌}
use Rattle.text.specs.Bytes.{begins}
use Rattle.text.proofs.Matching.{begins_std, rest_cut}
use Rattle.text.proofs.begins_at.Goals as goal

pub returns : goal.returns
returns c = let a = c.args in
    c.starts_with.ensures.value ∙ begins_std _ _ ∙ ap (λ s. begins s a.word.now) (rest_cut a.s.now a.at c.min.result c.min.ensures)
