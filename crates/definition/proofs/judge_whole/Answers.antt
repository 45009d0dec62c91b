-- `definition::judge_whole` meets its contract. Each verdict, with the definition's end.
-- Assumes nothing.
use Rattle.definition.proofs.Defining.{judged_good, judged_bad, judged_short}
use Rattle.definition.proofs.judge_whole.Goals as goal

pub returns-in-Some-true : goal.returns-in-Some-true
returns-in-Some-true c fs p q u = let a = c.args in judged_bad a.s.now a.h fs a.text a.end (c.in-Some-true.ensures fs p q u) c.in-Some-true.field-0-test

pub returns-in-Some-false : goal.returns-in-Some-false
returns-in-Some-false c fs p q u = let a = c.args in judged_good a.s.now a.h fs a.text a.end (c.in-Some-false.ensures fs p q u) c.in-Some-false.field-0-test

pub returns-in-None : goal.returns-in-None
returns-in-None c fs p q u = let a = c.args in judged_short a.s.now a.h fs a.text a.end (c.in-None.ensures fs p q u)
