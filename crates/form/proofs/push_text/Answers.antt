-- `form::push_text` meets its contract. The text is stored at the front of the work bytes and put from there.
-- Assumes nothing.
use mathlib.Core.Logic.{inl}
use mathlib.Core.Path.{◌∙◌}
use native.Mathlib.Omega.{arith}
use Rattle.form.proofs.Working.{stored_front}
use Rattle.form.proofs.Pushing.{put_as}
use Rattle.form.proofs.push_text.Goals as goal

pub returns-in_err-k : goal.returns-in_err-k
returns-in_err-k c = rw c.from_residual.ensures (inl (omega (arith, c.in_err-k.ensures)))

pub returns : goal.returns
returns c = put_as c.push_bytes.result _ _ _ (λ x. absurd x) (c.part_of.ensures ∙ stored_front c.in_ok-k.ensures) c.push_bytes.ensures
