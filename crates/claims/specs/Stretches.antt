-- Stretches of files: what each turn of a run takes from a file, and what it writes.
-- Assumes nothing.
use Rattle.std.specs.Prelude.{ℕ, ◌<◌, ◌≤◌, cond, List, [], ◌∷◌, ◌++◌, ◌≡◌, length}
use Rattle.text.specs.Bytes.{part}
use Rattle.writing.specs.Written.{text_of}
use Rattle.copying.specs.declared.Cursor.{Cursor}
use Rattle.copying.specs.Cursors.{opening}
use Rattle.turns.specs.States.{Context, Frame, State, Made, more, Here}
use Rattle.turns.specs.Acts.{Act, refuses, leaves, copies, skips, hides, branches, defines, undefines, includes, keeps, spells, expands, act_at}
use Rattle.turns.specs.Asking.{Asks}
use Rattle.turns.specs.Usages.{usage_end, expand_here}
use Rattle.turns.specs.Turns.{here_at, turn_at}
use Rattle.turns.specs.Files.{file_of}

-- up to where an act takes the file: a token, a directive, a usage with its list
abbrev pub taken_to : Here → Act → ℕ
taken_to h (refuses n p) = h.frame.cursor.at
taken_to h leaves = h.frame.cursor.at
taken_to h copies = h.token.end
taken_to h skips = h.token.end
taken_to h (hides e) = e
taken_to h (branches cs e) = e
taken_to h (defines m e) = e
taken_to h (undefines ms e) = e
taken_to h (includes i e) = e
taken_to h (keeps v e) = e
taken_to h (spells w) = h.token.end
taken_to h expands = usage_end h

-- what an act writes that is not refused: a copied token, the newline behind a file that ends in a copied `//` comment, a directive
-- that is kept, a `__` word, the expansion of a usage
abbrev pub written_by : Here → Act → List ℕ
written_by h (refuses n p) = []
written_by h leaves = cond h.frame.cursor.comment (10 ∷ []) []
written_by h copies = part h.body h.frame.cursor.at h.token.end
written_by h skips = []
written_by h (hides e) = []
written_by h (branches cs e) = []
written_by h (defines m e) = []
written_by h (undefines ms e) = []
written_by h (includes i e) = []
written_by h (keeps v e) = part h.body h.token.at e
written_by h (spells w) = w
written_by h expands = text_of (expand_here h).text

-- one reading of a file: its entry, and the files around, from which it is included, where they stand
pub record OpenFile : Type 0 where
  pub entry : ℕ
  pub around : List Frame

abbrev pub open_file : Frame → List Frame → OpenFile
open_file f fs = record { entry = f.file; around = fs }

-- in the state s the file i is the innermost; its act there, on these grounds, leads to s' and writes w
pub record Acted (x : Context) (i : OpenFile) (s s' : State) (w : List ℕ) : Type 0 where
  pub frame : Frame
  pub frames_are : s.frames ≡ frame ∷ i.around
  pub file_is : frame.file ≡ i.entry
  pub act : Act
  pub act_is : act_at (here_at x s frame i.around) ≡ act
  pub why : Asks (here_at x s frame i.around) act
  pub made : Made
  pub goes : turn_at x s ≡ more s' made
  pub made_is : text_of made.text ≡ w
  pub written : written_by (here_at x s frame i.around) act ≡ w

-- the files open behind b of the file i: i itself, or also a file that it includes, at its start
pub data Behind (i : OpenFile) (b : ℕ) : List Frame → Type 0 where
  on : (c : Cursor) → c.at ≡ b → Behind i b (record { file = i.entry; cursor = c } ∷ i.around)
  into : (j : ℕ) (c : Cursor) → c.at ≡ b → Behind i b (record { file = j; cursor = opening } ∷ record { file = i.entry; cursor = c } ∷ i.around)

-- the turn of s takes the bytes of the file i from a to before b
pub record Stretch (x : Context) (i : OpenFile) (a b : ℕ) (s s' : State) (w : List ℕ) : Type 0 where
  pub acted : Acted x i s s' w
  pub from : acted.frame.cursor.at ≡ a
  pub to : taken_to (here_at x s acted.frame i.around) acted.act ≡ b
  pub some_bytes : a < b
  pub inside : b ≤ length (file_of x i.entry)
  pub behind : Behind i b s'.frames

-- the turn of s leaves the file i, at its end
pub record Leaving (x : Context) (i : OpenFile) (s s' : State) (w : List ℕ) : Type 0 where
  pub acted : Acted x i s s' w
  pub act_is : acted.act ≡ leaves
  pub at_end : acted.frame.cursor.at ≡ length (file_of x i.entry)
  pub behind : s'.frames ≡ i.around

-- the run from s₀ to a state, turn by turn, and what it has written there: all that its turns wrote, joined in order
pub data Told (x : Context) (s₀ : State) : State → List ℕ → Type 0 where
  start : Told x s₀ s₀ []
  stretch : {i : OpenFile} {a b : ℕ} {s s' : State} {u w : List ℕ} → Told x s₀ s u → Stretch x i a b s s' w → Told x s₀ s' (u ++ w)
  leaving : {i : OpenFile} {s s' : State} {u w : List ℕ} → Told x s₀ s u → Leaving x i s s' w → Told x s₀ s' (u ++ w)

-- stretches of the file i in that run, one behind the other, from its first byte to before e
pub data Stretches (x : Context) (s₀ : State) (i : OpenFile) : ℕ → Type 0 where
  none : Stretches x s₀ i 0
  then : {a b : ℕ} {s s' : State} {u w : List ℕ} → Stretches x s₀ i a → Told x s₀ s u → Stretch x i a b s s' w → Stretches x s₀ i b
