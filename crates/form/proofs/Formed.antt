-- The stored form of a default, of a list, of a head and of a macro, as the code writes them.
-- Assumes nothing.
use Prim.Native.Nat.{ℕ, suc, ◌+◌, ◌%◌, ◌<◌, ◌≤◌}
use mathlib.Core.Bool.{Bool, true, false, cond}
use mathlib.Core.Option.{none, some}
use mathlib.Core.List.{List, [], ◌∷◌, ◌++◌}
use mathlib.Core.Logic.{◌⊎◌, inl, inr}
use mathlib.Core.Path.{◌≡◌, refl, ap, sym, ◌∙◌, subst}
use native.Mathlib.Omega.{arith}
use lib.ListN.{length}
use Rattle.storing.specs.Stored.{stored}
use Rattle.definition.specs.declared.Formal.{Formal}
use Rattle.definition.specs.Definitions.{Parameter, Macro, macro, parameter_of, parameters_of}
use Rattle.form.specs.Forms.{two, default_by, default_form, parameter_form, parameter_forms, list_form, head_form, form_of, text_start}
use Rattle.std.specs.Prelude.{Result, Ok, Err}
use Rattle.definition.specs.declared.ReadError.{ReadError}
use Rattle.definition.specs.declared.ReadError.TheVariants.{IllFormed, NoRoom}
use Rattle.form.specs.Putting.{Put, FormAt, FormBy}
use Rattle.form.proofs.Pushing.{put_then}

-- a formal's default, or none
module _ (s : List ℕ) (f : Formal) where
  by_given : Bool → List ℕ
  by_given b = default_form (cond b (some (stored s f.first f.stop)) none)

  pub default_plain : f.given ≡ false → 0 ∷ two 0 ≡ default_form (default_by s f)
  unfolding by_given
  default_plain e = ap by_given (sym e)

  pub default_given : {w : List ℕ} → f.given ≡ true → w ≡ stored s f.first f.stop → default_form (some w) ≡ default_form (default_by s f)
  unfolding by_given
  default_given e q = ap (λ (x : List ℕ). default_form (some x)) q ∙ ap by_given (sym e)

-- the formals' forms, one behind the other
module _ (s : List ℕ) where
  abbrev pub forms_of : List Formal → List ℕ
  forms_of fs = parameter_forms (parameters_of s fs)

  pub forms_none : {fs : List Formal} → fs ≡ [] → forms_of fs ≡ []
  unfolding parameter_forms parameters_of
  forms_none e = ap forms_of e

  pub forms_next : (f : Formal) (fs : List Formal) → forms_of (f ∷ fs) ≡ parameter_form (parameter_of s f) ++ forms_of fs
  unfolding parameter_forms parameters_of
  forms_next f fs = refl

  parameters_length : (fs : List Formal) → length (parameters_of s fs) ≡ length fs
  unfolding parameters_of
  parameters_length [] = refl
  parameters_length (f ∷ fs) = ap suc (parameters_length fs)

  -- their count fits one byte
  pub list_counted : (k : ℕ) (fs : List Formal) → k ≤ 16 → k ≡ length fs → k % 256 ∷ forms_of fs ≡ list_form (parameters_of s fs)
  list_counted k fs l e =
      let q : k % 256 ≡ length (parameters_of s fs) = omega (arith, parameters_length fs) in
      ap (λ (n : ℕ). n ∷ forms_of fs) q

-- what stands before the text
pub head-form : (n : List ℕ) (ps : List Parameter) → n ++ list_form ps ≡ head_form n ps
unfolding head_form
head-form n ps = refl

-- and the text behind it
module _ (n : List ℕ) (ps : List Parameter) (t o : List ℕ) where
  pub form_at : {o' o'' : List ℕ} {x k : ℕ} → Put o o' 0 x (head_form n ps) → length o' ≡ length o → Put o' o'' x k t → FormAt (macro n ps t) o o'' k x
  unfolding form_of text_start
  form_at a z b =
      let d = put_then a z b in
      record {
        count = omega (arith, d.count);
        fits = d.fits;
        bytes = d.bytes;
        text = omega (arith, a.count);
      }

  pub form_short : {lack : Type 0} → lack ⊎ (length o < 0 + length (head_form n ps ++ t)) → lack ⊎ (length o < length (form_of (macro n ps t)))
  unfolding form_of
  form_short (inl x) = inl x
  form_short (inr b) = inr (omega arith)

-- the macro said in other words, and work bytes of the same length
pub form_as : (r : Result (ℕ × ℕ) ReadError) (s v w : List ℕ) {m m' : Macro} (o o' : List ℕ) → length v ≡ length w → m ≡ m' → FormBy r s v m o o'
    → FormBy r s w m' o o'
form_as (Ok (k, x)) s v w o o' z e b = subst (λ (m : Macro). FormAt m o o' k x) e b
form_as (Err NoRoom) s v w o o' z e (inl l) = inl (omega arith)
form_as (Err NoRoom) s v w o o' z e (inr l) = inr (rw (← e) l)
form_as (Err IllFormed) s v w o o' z e b = b
