-- What is noted of directives.
-- Assumes nothing.
use Rattle.std.specs.Prelude.{ℕ, ◌==◌, cond, Option, Some, None}
use Rattle.names.specs.declared.TheConstants.{DEFINE, UNDEF, UNDEFINE_ALL}
use Rattle.noting.specs.declared.notes.Mark.{Mark}
use Rattle.noting.specs.declared.notes.Note.{Note}
use Rattle.noting.specs.declared.notes.Action.{Action}
use Rattle.noting.specs.declared.notes.Action.TheVariants.{Define, Undefine, UndefineAll}

-- what a directive does to macros, if it does
abbrev pub action_for : ℕ → Option Action
action_for d = cond (d == DEFINE) (Some Define) (cond (d == UNDEF) (Some Undefine) (cond (d == UNDEFINE_ALL) (Some UndefineAll) None))

-- a note with another mark
abbrev pub marked : Mark → Option Note → Option Note
marked m None = None
marked m (Some note) = Some (record note { mark = m })
