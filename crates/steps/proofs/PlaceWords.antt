-- The two `__` words, by what the code knows: the name of a file and the number of a line.
-- Assumes nothing.
use Prim.Native.Nat.{ℕ, ◌+◌, ◌<◌, ◌≤◌}
use mathlib.Core.Bool.{true}
use mathlib.Core.List.{List}
use mathlib.Core.Path.{◌≡◌, sym, ap, ◌∙◌}
use native.Mathlib.Nat.{sub-zero}
use native.Mathlib.Omega.{arith}
use lib.ListN.{length, get_or, take}
use borrow.Author.Tests.{eq-eqb, ne_eqb}
use Rattle.text.specs.Bytes.{part}
use Rattle.lex.specs.declared.Token.{Token}
use Rattle.names.specs.Names.{FileWord, LineWord}
use Rattle.definition.specs.Definitions.{Macro}
use Rattle.places.specs.Places.{quoted, decimal}
use Rattle.handover.specs.Entries.{blank_entry, all_entries, name_of as entryNamed}
use Rattle.handover.proofs.Laws.{entries_sound, entry-name}
use Rattle.turns.specs.States.{Context, Here}
use Rattle.turns.specs.Acts.{refuses, spells, file_word}
use Rattle.steps.specs.declared.stage.Stage.{Stage}
use Rattle.steps.specs.Standing.{Bufs, here_of, Fixed, At, place_act}
use Rattle.steps.proofs.Going.{token_at_here}

pub name_fits : (fs : List ℕ) (es : List (List ℕ)) (i : ℕ) (w q : List ℕ) → w ≡ entryNamed fs es i → all_entries fs es ≡ true → i < length es
    → 257 ≤ length q → length w + 2 ≤ length q
name_fits fs es i w q e a l k =
    let m : length (entryNamed fs es i) ≤ 255 = entry-name fs (get_or es i blank_entry) (entries_sound fs es i a l) in
    let n : length w ≡ length (entryNamed fs es i) = ap length e in
    omega arith

-- the front of a buffer
pub front_is : (b : List ℕ) (n : ℕ) (v w : List ℕ) → take n b ≡ w → v ≡ part b 0 n → v ≡ w
front_is b n v w f e = e ∙ ap (λ (k : ℕ). take k b) (sub-zero n) ∙ f

-- ---- what the code writes or refuses

module _ (limit : ℕ) (ms : List Macro) (z : Stage) {x : Context} {fs : List ℕ} {es : List (List ℕ)} {set : ℕ} {B : Bufs} (f : Fixed x fs es set B) where
  abbrev h : Here
  h = here_of x limit B ms z

  -- `__FILE__`, by the entry's name n
  pub file_written : (d : ℕ) (n w : List ℕ) → d ≡ FileWord → n ≡ entryNamed fs es z.file → w ≡ quoted n → place_act d h ≡ spells w
  file_written d n w k e q =
      let v : file_word h ≡ w = rw (f.store_is, f.table_is) (sym (q ∙ ap quoted e)) in
      simp (eq-eqb d FileWord k, v)

  -- `__LINE__`
  pub line_written : (d : ℕ) (w : List ℕ) → (d ≡ FileWord → ⊥) → d ≡ LineWord → w ≡ decimal 6 z.cursor.line → place_act d h ≡ spells w
  line_written d w n k q = simp (ne_eqb d FileWord n, eq-eqb d LineWord k, q)

  -- at the token
  pub refused_at : {s : List ℕ} {t : Token} (d : ℕ) → (d ≡ FileWord → ⊥) → (d ≡ LineWord → ⊥) → At fs es s t z → place_act d h ≡ refuses 7 t.at
  refused_at d n m a = simp (ne_eqb d FileWord n, ne_eqb d LineWord m, token_at_here f a)
