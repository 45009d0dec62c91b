-- The name behind `undef` says its form.
-- Assumes nothing.
use Prim.Native.Nat.{ℕ}
use mathlib.Core.Bool.{Bool, true, false, cond, ◌||◌}
use mathlib.Core.List.{List}
use mathlib.Core.Path.{◌≡◌, refl}
use Rattle.lex.specs.Tokens.{Name, Escaped, is}
use Rattle.names.specs.Names.{Undef}
use Rattle.directive.specs.declared.Word.{Word}
use Rattle.directive.specs.declared.Word.TheVariants as word
use Rattle.directive.specs.declared.Value.TheVariants.{Nothing}
use Rattle.directive.specs.declared.Read.TheVariants.{Said, Unformed}
use Rattle.directive.specs.declared.MacroName.{MacroName}
use Rattle.directive.specs.declared.MacroName.TheVariants as name
use Rattle.directive.specs.declared.Form.{Form}
use Rattle.directive.specs.declared.Form.TheVariants as form
use Rattle.directive.specs.Words.{word_at}
use Rattle.directive.specs.Forms.{undef_by, undef_form, read_at, value_of, form_by, form_at, name_by, undef_at}

-- a directive that says nothing, and ends where its name ends
abbrev pub form_of : MacroName → Form
form_of (name.Named a e) = form.Formed Nothing e
form_of name.Unnamed = form.Unformed
form_of (name.Barred n p) = form.Barred n p

by_word : (w : Word) → form_by Undef (undef_by w) ≡ form_of (name_by (undef_by w))
unfolding value_of
by_word (word.Found t) = go (is Name t || is Escaped t)
  where
    go : (b : Bool) → form_by Undef (cond b (Said t.from t.end t.end) Unformed) ≡ form_of (name_by (cond b (Said t.from t.end t.end) Unformed))
    go true = refl
    go false = refl
by_word word.Missing = refl
by_word (word.Barred n p) = refl

pub undef-form : (s : List ℕ) (i : ℕ) → form_at Undef s i ≡ form_of (undef_at s i)
unfolding form_at undef_at read_at undef_form
undef-form s i = by_word (word_at s i)
