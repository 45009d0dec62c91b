-- A string: what is read of it byte by byte is what judging it has.
-- Assumes nothing.
use Prim.Native.Nat.{ℕ, suc, ◌+◌, ◌≤◌}
use mathlib.Core.Bool.{Bool, true, false, ◌||◌}
use mathlib.Core.List.{List, [], ◌∷◌}
use mathlib.Core.Path.{◌≡◌, refl, ap, sym, ◌∙◌}
use native.Mathlib.Omega.{arith}
use lib.Dec.{eqb}
use lib.ListN.{get_or, drop}
use borrow.Author.Tests.{eqb-true}
use Rattle.text.specs.Bytes.{holds, part}
use Rattle.lex.specs.Scans.{scan, string_from, string_end}
use Rattle.lex.specs.Tokens.{String, plain, scanned, string_token}
use Rattle.lex.specs.declared.Scan.{Scan}
use Rattle.afresh.specs.Unfit.{is_open}
use Rattle.afresh.specs.States.{Start, Open, Within, Pair, fresh, in_string, in_short, outside, next, reading, leaves, ended}
use Rattle.afresh.proofs.Sorts.{or_true}
use Rattle.afresh.proofs.Going.{Hold, marks_of, due_of, bare, start, verdict, fresh_alike, goes, passed, spoilt_next, alike, clear}
use Rattle.afresh.proofs.Placing.{byte_at, rest_at, part_one}
use Rattle.afresh.proofs.Quoting.{string_past, string_reads}
use Rattle.afresh.proofs.Telling.{told, told_bad, rest_one, rest_two, part_first, told_string}

module _ (h : Hold) where
  -- past a string of no bytes
  pair_reads : (xs : List ℕ) → verdict (bare Pair h) xs ≡ (eqb (get_or xs 0 0) 34 || verdict (start h) xs)
  unfolding reading ended leaves outside in_short
  pair_reads [] = refl
  pair_reads (x ∷ xs) = go (eqb x 34) refl
    where
      go : (b : Bool) → eqb x 34 ≡ b → verdict (bare Pair h) (x ∷ xs) ≡ (b || verdict (start h) (x ∷ xs))
      go true e = spoilt_next h Pair false [] refl x xs (rw e)
      go false e = alike h Pair Start false false [] [] refl refl x xs (rw e (fresh_alike h Pair false [] x))

  -- past the `"` of a string that is not of no bytes
  open_within : (xs : List ℕ) → eqb (get_or xs 0 0) 34 ≡ false → verdict (bare Open h) xs ≡ verdict (bare Within h) xs
  unfolding reading ended leaves next in_string
  open_within [] e = refl
  open_within (x ∷ xs) e = goes (bare Open h) (next (bare Within h) x) x xs (same e) ∙ sym (goes (bare Within h) (next (bare Within h) x) x xs refl)
    where
      same : eqb x 34 ≡ false → next (bare Open h) x ≡ next (bare Within h) x
      same e = rw e

module _ (w : List ℕ) (h : Hold) (i : ℕ) where
  module _ (y : ℕ) (ys : List ℕ) (d : drop i w ≡ 34 ∷ y ∷ ys) where
    -- a string of no bytes
    empty_meets : y ≡ 34 → verdict (bare Open h) (y ∷ ys) ≡ told w h (string_token w i)
    unfolding string_token string_end string_from next in_string holds
    empty_meets q = goes (bare Open h) (bare Pair h) y ys (rw q) ∙ (pair_reads h ys ∙ go (eqb (get_or ys 0 0) 34) refl)
      where
        r1 : drop (i + 1) w ≡ 34 ∷ ys
        r1 = rest_one w i 34 (y ∷ ys) d ∙ rw q

        r2 : drop (suc (i + 1)) w ≡ ys
        r2 = rest_at w (i + 1) 34 ys r1

        b2 : get_or w (i + 2) 0 ≡ get_or ys 0 0
        b2 = byte_at w (i + 2) ys (rest_two w i 34 y ys d)

        none : holds 10 (part w i (suc (i + 1))) ≡ false
        none = rw (part_first w i 34 (y ∷ ys) d (suc (i + 1)) (omega arith), part_one w (i + 1) 34 ys r1)

        go : (b : Bool) → eqb (get_or ys 0 0) 34 ≡ b → (b || verdict (start h) ys) ≡ told w h (string_token w i)
        go true e =
            let t : string_token w i ≡ plain String i (i + 3) 5 = rw (byte_at w (i + 1) (34 ∷ ys) r1, b2, e) in
            sym (ap (told w h) t ∙ told_bad w h (plain String i (i + 3) 5) refl)
        go false e =
            let t : string_token w i ≡ scanned String i (scan (suc (i + 1)) true 0) = rw (byte_at w (i + 1) (34 ∷ ys) r1, b2, e, r1) in
            sym (ap (told w h) t ∙ (told_string w i 34 (y ∷ ys) d h (scan (suc (i + 1)) true 0) ∙ rw (none, r2)))

    filled_meets : eqb y 34 ≡ false → verdict (bare Open h) (y ∷ ys) ≡ told w h (string_token w i)
    unfolding string_token string_end holds
    filled_meets e =
        let r : Scan = string_from false true (i + 1) (y ∷ ys) in
        let r1 : drop (i + 1) w ≡ y ∷ ys = rest_one w i 34 (y ∷ ys) d in
        let t : string_token w i ≡ scanned String i r = rw (byte_at w (i + 1) (y ∷ ys) r1, e, r1) in
        let p : i + 1 ≤ r.end = string_past false true (i + 1) (y ∷ ys) in
        open_within h (y ∷ ys) e ∙ (string_reads w h false (i + 1) (y ∷ ys) r1
        ∙ sym (ap (told w h) t ∙ (told_string w i 34 (y ∷ ys) d h r ∙ rw (part_first w i 34 (y ∷ ys) d r.end (omega arith)))))

  open_meets : (xs : List ℕ) → drop i w ≡ 34 ∷ xs → verdict (bare Open h) xs ≡ told w h (string_token w i)
  unfolding string_token string_end string_from reading ended leaves
  open_meets [] d =
      let r1 : drop (i + 1) w ≡ [] = rest_one w i 34 [] d in
      let t : string_token w i ≡ scanned String i (scan (i + 1) true 3) = rw (byte_at w (i + 1) [] r1, r1) in
      rw (or_true (is_open (due_of h))) (or_true (marks_of h)) ∙ sym (ap (told w h) t ∙ told_bad w h (scanned String i (scan (i + 1) true 3)) refl)
  open_meets (y ∷ ys) d = go (eqb y 34) refl
    where
      go : (b : Bool) → eqb y 34 ≡ b → verdict (bare Open h) (y ∷ ys) ≡ told w h (string_token w i)
      go true e = empty_meets y ys d (eqb-true y 34 e)
      go false e = filled_meets y ys d e

  pub string_meets : (xs : List ℕ) → drop i w ≡ 34 ∷ xs → verdict (start h) (34 ∷ xs) ≡ told w h (string_token w i)
  unfolding outside fresh
  string_meets xs d = goes (start h) (bare Open h) 34 xs (passed h Start false [] refl 34 (clear h 34 refl refl)) ∙ open_meets xs d
