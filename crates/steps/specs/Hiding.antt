-- What a definition in ignored text hides.
-- Assumes nothing.
use Rattle.std.specs.Prelude.{ℕ, Result, Ok, Err}
use Rattle.lex.specs.declared.Fault.{Fault}
use Rattle.lex.specs.Faults.{fault}
use Rattle.definition.specs.Definitions.{Definition, barred, bad, good}

-- all up to its end, good or bad, if nothing bars it
abbrev pub hidden_by : Definition → Result ℕ Fault
hidden_by (barred n p) = Err (fault n p)
hidden_by (bad e) = Ok e
hidden_by (good m e) = Ok e
