-- The outputs that the command line names.
-- Assumes nothing.
use Rattle.std.specs.Prelude.{ℕ, List}
use Rattle.plan.specs.declared.outputs.Output.{Output}
use Rattle.plan.specs.declared.outputs.Output.TheVariants.{Rule, Map, Words, Text}
use Rattle.plan.specs.declared.outputs.Outputs.{Outputs}

-- the path of an output
abbrev pub path_of : Outputs → Output → List ℕ
path_of outputs Rule = outputs.rule.items
path_of outputs Map = outputs.map.items
path_of outputs Words = outputs.words.items
path_of outputs Text = outputs.text.items
