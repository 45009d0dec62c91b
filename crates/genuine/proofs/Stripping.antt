-- What is stored has no white space at its ends: to trim it again leaves it.
-- Assumes nothing.
use Prim.Native.Nat.{ℕ}
use mathlib.Core.Bool.{Bool, true, false, cond}
use mathlib.Core.List.{List, [], ◌∷◌}
use mathlib.Core.Path.{◌≡◌, refl, ap, ◌∙◌}
use Rattle.text.specs.Bytes.{same}
use Rattle.text.proofs.Matching.{same_self}
use Rattle.lex.specs.Classes.{is_space}
use Rattle.lex.specs.Tokens.{in_definition, tokens}
use Rattle.storing.specs.Stored.{keep, trim_left, trim_right, pieces, stored}
use Rattle.genuine.specs.Fitness.{is_trimmed}

-- no white space stands first
data Led : List ℕ → Type 0 where
  none : Led []
  solid : (x : ℕ) (xs : List ℕ) → is_space x ≡ false → Led (x ∷ xs)

left_led : (w : List ℕ) → Led (trim_left w)
unfolding trim_left
left_led [] = none
left_led (x ∷ xs) = go (is_space x) refl (left_led xs)
  where
    go : (b : Bool) → is_space x ≡ b → Led (trim_left xs) → Led (cond b (trim_left xs) (x ∷ xs))
    go true e h = h
    go false e h = solid x xs e

keep_led : (x : ℕ) (t : List ℕ) → is_space x ≡ false → trim_left (keep x t) ≡ keep x t
unfolding trim_left
keep_led x [] e = rw e (rw e)
keep_led x (y ∷ ys) e = rw e

led_right : {w : List ℕ} → Led w → trim_left (trim_right w) ≡ trim_right w
unfolding trim_left trim_right
led_right none = refl
led_right (solid x xs e) = keep_led x (trim_right xs) e

keep_twice : (x : ℕ) (t : List ℕ) → trim_right t ≡ t → trim_right (keep x t) ≡ keep x t
unfolding trim_right
keep_twice x [] h = go (is_space x) refl
  where
    go : (b : Bool) → is_space x ≡ b → trim_right (cond b [] (x ∷ [])) ≡ cond b [] (x ∷ [])
    go true e = refl
    go false e = rw e
keep_twice x (y ∷ ys) h = ap (keep x) h

right_twice : (w : List ℕ) → trim_right (trim_right w) ≡ trim_right w
unfolding trim_right
right_twice [] = refl
right_twice (x ∷ xs) = keep_twice x (trim_right xs) (right_twice xs)

trimmed : (w : List ℕ) → is_trimmed (trim_right (trim_left w)) ≡ true
trimmed w =
    ap (λ (v : List ℕ). same (trim_right v) (trim_right (trim_left w))) (led_right (left_led w))
    ∙ ap (λ (v : List ℕ). same v (trim_right (trim_left w))) (right_twice (trim_left w))
    ∙ same_self (trim_right (trim_left w))

pub stored_trimmed : (s : List ℕ) (i x : ℕ) → is_trimmed (stored s i x) ≡ true
unfolding stored
stored_trimmed s i x = trimmed (pieces s x false (tokens in_definition s i))
