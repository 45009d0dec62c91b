-- `settings::set_by` meets its contract: each arm is the clause of its case.
-- Assumes nothing.
use Rattle.settings.proofs.set_by.Goals as goal

pub returns-in-Nothing : goal.returns-in-Nothing
returns-in-Nothing c = rw (c.keywords_after.ensures, c.in-Nothing.is)

pub returns-in-Times : goal.returns-in-Times
returns-in-Times c = rw (c.keywords_after.ensures, c.in-Times.is)

pub returns-in-NetType : goal.returns-in-NetType
returns-in-NetType c = rw (c.keywords_after.ensures, c.in-NetType.is)

pub returns-in-Cell : goal.returns-in-Cell
returns-in-Cell c = rw (c.keywords_after.ensures, c.in-Cell.is)

pub returns-in-Drive : goal.returns-in-Drive
returns-in-Drive c = rw (c.keywords_after.ensures, c.in-Drive.is)

pub returns-in-Version : goal.returns-in-Version
returns-in-Version c = rw (c.keywords_after.ensures, c.in-Version.is)

pub returns-in-StartingSet : goal.returns-in-StartingSet
returns-in-StartingSet c = rw (c.keywords_after.ensures, c.in-StartingSet.is)

pub returns-in-Reset : goal.returns-in-Reset
returns-in-Reset c = rw (c.reset_to.ensures, c.keywords_after.ensures, c.in-Reset.is)
