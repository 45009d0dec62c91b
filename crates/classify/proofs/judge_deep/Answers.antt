-- `classify::judge_deep` meets its contract: its bytes have room for more brackets than the largest text has bytes.
-- Assumes nothing.
use native.Mathlib.Omega.{arith}
use Rattle.classify.proofs.Filled.{filled, enough}
use Rattle.classify.proofs.judge_deep.Goals as goal

pub slice_bounds-judge_definition-end : goal.slice_bounds-judge_definition-end
slice_bounds-judge_definition-end c = filled 4194304

pub shape_of-name : goal.shape_of-name
shape_of-name c = c.judge_definition.auto.name

pub returns : goal.returns
returns c = enough 4194304 (omega (arith, c.requires.0)) (omega (arith, c.requires.0)) c.judge_definition.ensures
