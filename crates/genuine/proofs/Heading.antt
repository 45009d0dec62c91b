-- The name of a definition that nothing bars is fit.
-- Assumes nothing.
use Prim.Native.Nat.{ℕ, ◌<◌}
use mathlib.Core.Bool.{Bool, true, false, ◌||◌}
use mathlib.Core.List.{List}
use mathlib.Core.Path.{◌≡◌, refl}
use lib.ListN.{length}
use Rattle.text.specs.Bytes.{part}
use Rattle.lex.specs.Tokens.{in_definition, Name, Escaped, is, is_byte, name_of, token_at}
use Rattle.lex.specs.declared.Token.{Token}
use Rattle.lex.proofs.Tests.{by_test, true_false}
use Rattle.definition.specs.Extents.{Free}
use Rattle.definition.specs.Heads.{gap_end, next_at, open_at, head_by, head_at}
use Rattle.definition.specs.declared.Head.{Head}
use Rattle.definition.proofs.Formals.{kind_inside}
use Rattle.definition.proofs.Seeing.{token_seen}
use Rattle.definition.proofs.Onward.{kind_past, gap_past}
use Rattle.genuine.proofs.Naming.{Solid, formal_solid, word_fit, slanted_fit}

module _ (s : List ℕ) where
  abbrev HeadFit : Head → Type 0
  HeadFit h = h.whole ≡ true → Solid (part s h.from h.end)

  head-by : (t : Token) → Solid (name_of s t) → HeadFit (head_by s t)
  head-by t n = by_test HeadFit (is_byte s 40 (token_at in_definition s (open_at s t))) (λ e w. n) (λ e w. n)

  module _ (a : ℕ) (u : Free s a) where
    abbrev t : Token
    t = token_at in_definition s a

    named-by : (b d : Bool) → is Name t ≡ b → is Escaped t ≡ d → (b || d) ≡ true → HeadFit (head_by s t)
    named-by true d p q e =
        let l : a < length s = kind_inside in_definition s a Name refl p in
        head-by t (formal_solid (name_of s t) (word_fit l (token_seen s a in_definition l) p (kind_past s a Name refl refl refl p u).0))
    named-by false true p q e =
        let l : a < length s = kind_inside in_definition s a Escaped refl q in
        head-by t (slanted_fit l (token_seen s a in_definition l) q (kind_past s a Escaped refl refl refl q u).0)
    named-by false false p q e = true_false false e refl

  pub head_fit : (i : ℕ) → Free s i → (head_at s i).whole ≡ true → Solid (part s (head_at s i).from (head_at s i).end)
  unfolding head_at
  head_fit i u =
      by_test HeadFit (is Name (next_at s i) || is Escaped (next_at s i)) (named-by (gap_end s i) (gap_past s i u) (is Name (next_at s i)) (is Escaped (next_at s i)) refl refl)
      (λ e w. true_false false w refl)
