-- Look up (01): "a macro name; answer: its stored form shown as a part of the lent macro bytes, empty exactly if undefined".
-- Assumes nothing.
use Rattle.std.specs.Prelude.{ℕ, cond, ◌≡◌, List, [], ◌∷◌, eqb, Result, Ok, Err, None}
use Rattle.definition.specs.Definitions.{Macro}
use Rattle.form.specs.Forms.{form_of}
use Rattle.store.specs.Stores.{macro_at, find}
use Rattle.genuine.specs.Layout.{left_in}
use Rattle.genuine.specs.Leaving.{LeftBy}

-- "`\A` and `A` are one name"
abbrev pub plainly : List ℕ → List ℕ
plainly [] = []
plainly (x ∷ w) = cond (eqb x 92) w (x ∷ w)

abbrev pub shown_by : Result ℕ ℕ → List Macro → List ℕ
shown_by (Ok i) ms = form_of (macro_at ms i)
shown_by (Err i) ms = []

-- the stored form of the macro of that name, empty if there is none
unfoldable pub shown : List ℕ → List Macro → List ℕ
shown w ms = shown_by (find w ms) ms

-- what look up shows of the store in b and r: the form of the macro of that name; and "On a store that no definitions leave,
-- look up shows an empty part"
pub record Shows (b : List ℕ) (r : List (List ℕ)) (name part : List ℕ) : Type 0 where
  pub left : (ms : List Macro) → LeftBy ms b r → part ≡ shown (plainly name) ms
  pub foreign : left_in b r ≡ None → part ≡ []
