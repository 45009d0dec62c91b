-- A token that a run reads is one of a file.
-- Assumes nothing.
use Prim.Native.Nat.{ℕ}
use mathlib.Core.List.{List}
use mathlib.Core.Path.{sym, subst}
use Rattle.lex.specs.Tokens.{in_file}
use Rattle.lex.proofs.Progress.{token-at}
use Rattle.turns.specs.States.{Context, Frame, State, Here}
use Rattle.turns.specs.Asking.{Reading, Named}
use Rattle.turns.specs.Turns.{here_at}
use Rattle.turns.proofs.Lines.{Reads}
use Rattle.turns.specs.Files.{file_of, Read, Accented}

module _ (x : Context) (s : State) (f : Frame) (fs : List Frame) (r : Reads x f) where
  abbrev here : Here
  here = here_at x s f fs

  pub read_here : Reading here → Read x f.file f.cursor.at
  read_here a = record { file_in = r.file_in; inside = a.before; free = a.free }

  pub accented_here : {d : ℕ} → Named here d → Accented x f.file f.cursor.at d
  accented_here a = record { read = read_here a.reading; grave = a.grave; name_is = a.name_is }

  -- .. at its start
  pub accented_at : {d : ℕ} → Named here d → Accented x f.file here.token.at d
  accented_at {d} a = subst (λ (p : ℕ). Accented x f.file p d) (sym (token-at in_file (file_of x f.file) f.cursor.at)) (accented_here a)
