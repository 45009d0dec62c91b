-- `classify::condition_form` meets its contract: the store that it lends holds no macros.
-- Assumes nothing.
use mathlib.Core.List.{[]}
use mathlib.Core.Path.{refl}
use Rattle.store.proofs.Emptying.{none_held}
use Rattle.classify.proofs.condition_form.Goals as goal

pub condition_at-requires : goal.condition_at-requires
condition_at-requires c = record { macros = []; holds = none_held 1 1 refl refl }

pub returns : goal.returns
returns c = c.condition_at.ensures [] (none_held 1 1 refl refl)
