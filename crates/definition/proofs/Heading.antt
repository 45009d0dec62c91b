-- The head of a definition, by its name as the code reads it.
-- Assumes nothing.
use Prim.Native.Nat.{ℕ, ◌+◌, ◌<◌, ◌≤◌}
use mathlib.Core.Bool.{Bool, true, false, not, ◌||◌}
use mathlib.Core.List.{List}
use mathlib.Core.Path.{◌≡◌, refl, sym, ◌∙◌}
use native.Mathlib.Omega.{arith}
use lib.Dec.{eqb}
use lib.ListN.{length, get_or}
use borrow.Author.Tests.{not-true, not-false}
use Rattle.lex.specs.declared.Mode.{Mode}
use Rattle.lex.specs.declared.Token.{Token}
use Rattle.lex.specs.Tokens.{in_definition, Name, Escaped, Byte, is, is_byte, token_at}
use Rattle.lex.proofs.Tests.{and_left}
use Rattle.lex.proofs.Progress.{token_past, token_within}
use Rattle.definition.specs.declared.Head.{Head}
use Rattle.definition.specs.Heads.{gap_end, open_at, head, no_head, head_at}
use Rattle.definition.proofs.Formals.{kind_inside}
use Rattle.definition.proofs.Reading.{token_read}
use Rattle.definition.proofs.Defaults.{next_word}

-- an empty text has none
pub head_empty : (s : List ℕ) (i : ℕ) → length s ≤ 0 → head_at s i ≡ no_head
unfolding head_at
head_empty s i h = rw (token_past in_definition s (gap_end s i) (omega arith))

-- t: the next word, as the code reads it
module _ (s : List ℕ) (i a : ℕ) (m : Mode) (t : Token) (g : a ≡ gap_end s i) (f : m ≡ in_definition) (e : t ≡ token_at m s a) where
  pub head_none : not (is Name t || is Escaped t) ≡ true → head_at s i ≡ no_head
  unfolding head_at
  head_none k = rw (next_word s i a m t g f e, not-true (is Name t || is Escaped t) k)

  module _ (k : not (is Name t || is Escaped t) ≡ false) where
    -- the name lies in the text
    pub head_inside : t.end ≤ length s
    head_inside = go (is Name t) (is Escaped t) refl refl (not-false (is Name t || is Escaped t) k)
      where
        w : token_at in_definition s a ≡ t
        w = token_read s a m t f e

        ends : (k : ℕ) → eqb 16 k ≡ false → is k t ≡ true → t.end ≤ length s
        ends k z q = rw (← w) (token_within in_definition s a (kind_inside in_definition s a k z (rw w q)))

        go : (p q : Bool) → is Name t ≡ p → is Escaped t ≡ q → (p || q) ≡ true → t.end ≤ length s
        go true q x y z = ends Name refl x
        go false true x y z = ends Escaped refl y
        go false false x y z = ends Name refl (x ∙ z)

    -- u: the token where a formal list would open
    module _ (p : ℕ) (m' : Mode) (u : Token) (o : p ≡ open_at s t) (f' : m' ≡ in_definition) (e' : u ≡ token_at m' s p) (b : Bool) (q : b ≡ is_byte s 40 u) where
      pub open_inside : b ≡ true → p < length s
      open_inside x =
          let w : token_at in_definition s p ≡ u = token_read s p m' u f' e' in
          kind_inside in_definition s p Byte refl (rw w (and_left (is Byte u) (eqb (get_or s u.at 0) 40) (sym q ∙ x)))

      opened : token_at in_definition s (open_at s t) ≡ u
      opened = rw (e', f', o)

      module _ (r : Head) where
        pub head_listed : b ≡ true → r ≡ head t true (p + 1) → r ≡ head_at s i
        unfolding head_at
        head_listed x y =
            rw (next_word s i a m t g f e, not-false (is Name t || is Escaped t) k, opened, ← q, x, ← o) y

        pub head_bare : b ≡ false → r ≡ head t false t.end → r ≡ head_at s i
        unfolding head_at
        head_bare x y =
            rw (next_word s i a m t g f e, not-false (is Name t || is Escaped t) k, opened, ← q, x) y
