-- Stretches of a text that hold no newline.
-- Assumes nothing.
use Prim.Native.Nat.{ℕ, ◌+◌, ◌-◌, ◌<◌, ◌≤◌}
use mathlib.Core.Bool.{Bool, true, false, ◌&&◌, ◌||◌}
use mathlib.Core.List.{List, [], ◌∷◌}
use mathlib.Core.Path.{◌≡◌, refl, ap, subst, ◌∙◌}
use native.Mathlib.Omega.{arith}
use lib.Dec.{eqb}
use lib.ListN.{length, take, drop, length-drop}
use borrow.Author.Tests.{eqb-true}
use Rattle.text.specs.Bytes.{begins, holds, part}
use Rattle.lex.specs.Tokens.{Newline, BlockComment, String, is, token_at}
use Rattle.lex.specs.declared.Mode.{Mode}
use Rattle.lex.proofs.Tests.{and_left, and_right, true_false}
use Rattle.lex.proofs.Progress.{Inside, token-at, token_ends, token_within}
use Rattle.places.specs.Places.{newlines}
use Rattle.places.proofs.Lines.{line_past}
use Rattle.places.proofs.Tokens.{outside_flat}

pub or_left : (a b : Bool) → (a || b) ≡ false → a ≡ false
or_left true b e = e
or_left false b e = refl

pub or_right : (a b : Bool) → (a || b) ≡ false → b ≡ false
or_right true b e = true_false true refl e
or_right false b e = e

-- e lies at i or past it in the text, with no newline between
pub record Level (s : List ℕ) (i e : ℕ) : Type 0 where
  pub inside : Inside s i e
  pub flat : newlines (part s i e) ≡ 0

pub level_here : (s : List ℕ) (i : ℕ) → i ≤ length s → Level s i i
unfolding newlines
level_here s i h = let z : i - i ≡ 0 = omega arith in record { inside = record { past = omega arith; within = h }; flat = rw z }

pub level_on : {s : List ℕ} {i j e : ℕ} → Level s i j → Level s j e → Level s i e
level_on {s} {i} {j} {e} a b =
    let p = a.inside in
    let q = b.inside in
    let r : Inside s i e = record { past = omega (arith, p.past, q.past); within = q.within } in
    record {
      inside = r;
      flat =
          omega
          (arith, a.flat, b.flat, line_past s i j p.past p.within, line_past s j e q.past q.within, line_past s i e r.past r.within);
    }

holds_none : (w : List ℕ) → holds 10 w ≡ false → newlines w ≡ 0
unfolding holds newlines
holds_none [] e = refl
holds_none (x ∷ xs) e = rw (or_left (eqb x 10) _ e) (holds_none xs (or_right (eqb x 10) _ e))

-- a kind that passes a test that b does not pass is not b
pub other_kind : (p : ℕ → Bool) (b : ℕ) → p b ≡ false → (k : ℕ) → p k ≡ true → eqb k b ≡ false
other_kind p b z k e = go (eqb k b) refl
  where
    go : (t : Bool) → eqb k b ≡ t → eqb k b ≡ false
    go true q = true_false (p k) e (ap p (eqb-true k b q) ∙ z)
    go false q = q

-- a token that does not go over a line's end
module _ (m : Mode) (d : m.define ≡ false) (s : List ℕ) (i : ℕ) (h : i < length s) where
  pub token_level : is Newline (token_at m s i) ≡ false → is String (token_at m s i) ≡ false
      → (is BlockComment (token_at m s i) && holds 10 (part s (token_at m s i).at (token_at m s i).end)) ≡ false → Level s i (token_at m s i).end
  token_level n t w = record { inside = record { past = omega (arith, token_ends m s i h); within = token_within m s i h }; flat = go (is BlockComment (token_at m s i)) refl }
    where
      go : (b : Bool) → is BlockComment (token_at m s i) ≡ b → newlines (part s i (token_at m s i).end) ≡ 0
      go true q = subst (λ (j : ℕ). newlines (part s j (token_at m s i).end) ≡ 0) (token-at m s i) (holds_none (part s (token_at m s i).at (token_at m s i).end) (rw q at w))
      go false q = outside_flat m d s i h n t q

-- a text that begins with the word w
begins_take : (xs w : List ℕ) → begins xs w ≡ true → take (length w) xs ≡ w
unfolding begins
begins_take xs [] e = refl
begins_take [] (b ∷ w) e = true_false false e refl
begins_take (x ∷ xs) (b ∷ w) e = rw (eqb-true x b (and_left (eqb x b) (begins xs w) e), begins_take xs w (and_right (eqb x b) (begins xs w) e))

begins_length : (xs w : List ℕ) → begins xs w ≡ true → length w ≤ length xs
unfolding begins
begins_length xs [] e = omega arith
begins_length [] (b ∷ w) e = true_false false e refl
begins_length (x ∷ xs) (b ∷ w) e = omega (arith, begins_length xs w (and_right (eqb x b) (begins xs w) e))

pub word_level : (s : List ℕ) (i : ℕ) (b : ℕ) (w : List ℕ) → holds 10 (b ∷ w) ≡ false → begins (drop i s) (b ∷ w) ≡ true → Level s i (i + length (b ∷ w))
word_level s i b w n e =
    let l : length (b ∷ w) ≤ length (drop i s) = begins_length (drop i s) (b ∷ w) e in
    let z : i + length (b ∷ w) - i ≡ length (b ∷ w) = omega arith in
    record {
      inside = record { past = omega arith; within = omega (arith, l, length-drop i s) };
      flat = rw (z, begins_take (drop i s) (b ∷ w) e) (holds_none (b ∷ w) n);
    }
