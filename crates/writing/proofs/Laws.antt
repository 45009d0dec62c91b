-- Laws of what is written: of bytes with their places, of one list behind another, and of the stores of both.
-- Assumes nothing.
use Prim.Native.Nat.{ℕ, suc, ◌+◌}
use mathlib.Core.Bool.{Bool, true, false, cond}
use mathlib.Core.List.{List, [], ◌∷◌, ◌++◌}
use mathlib.Core.Path.{◌≡◌, refl, ap, ◌∙◌}
use native.Mathlib.Nat.{add-zero, add_assoc}
use native.Mathlib.Omega.{arith}
use lib.Dec.{eqb}
use lib.ListN.{length, set, length-append}
use lib.Seq.{sets, length-sets}
use Rattle.writing.specs.declared.Spot.{Spot}
use Rattle.writing.specs.Written.{Written, put, placed, text_of, map_of, fresh_after}
use Rattle.writing.specs.Buffers.{line_count, spot_after, Puts}

-- ---- bytes with their places

pub text_placed : (step p : ℕ) (w : List ℕ) → text_of (placed step p w) ≡ w
unfolding placed text_of
text_placed step p [] = refl
text_placed step p (b ∷ bs) = ap (λ (l : List ℕ). b ∷ l) (text_placed step (cond (eqb b 10) (p + step) p) bs)

pub length_placed : (step p : ℕ) (w : List ℕ) → length (placed step p w) ≡ length w
unfolding placed
length_placed step p [] = refl
length_placed step p (b ∷ bs) = ap suc (length_placed step (cond (eqb b 10) (p + step) p) bs)

-- a map has an entry for each line
pub map_length : (fresh : Bool) (ws : List Written) → length (map_of fresh ws) ≡ line_count fresh (text_of ws)
unfolding map_of text_of line_count
map_length fresh [] = refl
map_length true (put b p ∷ ws) = ap suc (map_length (eqb b 10) ws)
map_length false (put b p ∷ ws) = map_length (eqb b 10) ws

pub map_placed_length : (fresh : Bool) (step p : ℕ) (w : List ℕ) → length (map_of fresh (placed step p w)) ≡ line_count fresh w
map_placed_length fresh step p w = map_length fresh (placed step p w) ∙ ap (line_count fresh) (text_placed step p w)

pub text_length : (ws : List Written) → length (text_of ws) ≡ length ws
unfolding text_of
text_length [] = refl
text_length (put b p ∷ ws) = ap suc (text_length ws)

-- ---- one list behind another

pub text_append : (xs ys : List Written) → text_of (xs ++ ys) ≡ text_of xs ++ text_of ys
unfolding text_of
text_append [] ys = refl
text_append (put b p ∷ xs) ys = ap (λ (l : List ℕ). b ∷ l) (text_append xs ys)

pub fresh_append : (fresh : Bool) (xs ys : List Written) → fresh_after fresh (xs ++ ys) ≡ fresh_after (fresh_after fresh xs) ys
unfolding fresh_after
fresh_append fresh [] ys = refl
fresh_append fresh (put b p ∷ xs) ys = fresh_append (eqb b 10) xs ys

pub map_append : (fresh : Bool) (xs ys : List Written) → map_of fresh (xs ++ ys) ≡ map_of fresh xs ++ map_of (fresh_after fresh xs) ys
unfolding map_of fresh_after
map_append fresh [] ys = refl
map_append true (put b p ∷ xs) ys = ap (λ (l : List ℕ). p ∷ l) (map_append (eqb b 10) xs ys)
map_append false (put b p ∷ xs) ys = map_append (eqb b 10) xs ys

pub sets_append : (l : List ℕ) (n : ℕ) (xs ys : List ℕ) → sets l n (xs ++ ys) ≡ sets (sets l n xs) (n + length xs) ys
sets_append l n [] ys = rw (add-zero n)
sets_append l n (x ∷ xs) ys = sets_append (set l n x) (suc n) xs ys ∙ ap (λ (k : ℕ). sets (sets (set l n x) (suc n) xs) k ys) (omega arith)

-- ---- what was written from a spot on

pub puts_none : (text map : List ℕ) (z : Spot) → Puts [] text text map map z z
unfolding text_of map_of fresh_after
puts_none text map z = record { spot = rw (add-zero z.written, add-zero z.lines); bytes = refl; lines = refl }

pub puts_append : {ws ws' : List Written} {text text' text'' map map' map'' : List ℕ} {z z' z'' : Spot} → Puts ws text text' map map' z z'
    → Puts ws' text' text'' map' map'' z' z'' → Puts (ws ++ ws') text text'' map map'' z z''
puts_append {ws} {ws'} {text} {z = z} a b =
    record {
      spot = b.spot ∙ ap (λ (y : Spot). spot_after y ws') a.spot ∙ simp (length-append, map_append, fresh_append, add_assoc);
      bytes = b.bytes ∙ rw (a.bytes, a.spot, text_append ws ws', sets_append text z.written, text_length ws);
      lines = b.lines ∙ rw (a.lines, a.spot, map_append z.fresh ws ws', sets_append);
    }

-- a text and a map keep their lengths
module _ {ws : List Written} {text text' map map' : List ℕ} {z z' : Spot} (a : Puts ws text text' map map' z z') where
  pub puts_text : length text' ≡ length text
  puts_text = ap length a.bytes ∙ simp length-sets

  pub puts_map : length map' ≡ length map
  puts_map = ap length a.lines ∙ simp length-sets

-- one byte, with a map entry or with none
module _ (b p : ℕ) (text map : List ℕ) (z : Spot) where
  pub puts_line : z.fresh ≡ true → Puts (put b p ∷ []) text (set text z.written b) map (set map z.lines p) z (record { written = z.written + 1; lines = z.lines + 1; fresh = eqb b 10 })
  unfolding text_of map_of fresh_after
  puts_line e = record { spot = rw e; bytes = refl; lines = rw e }

  pub puts_byte : z.fresh ≡ false → Puts (put b p ∷ []) text (set text z.written b) map map z (record { written = z.written + 1; lines = z.lines; fresh = eqb b 10 })
  unfolding text_of map_of fresh_after
  puts_byte e = record { spot = rw (e, add-zero z.lines); bytes = refl; lines = rw e }
