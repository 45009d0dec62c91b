-- The scans of a text and of its spelling end alike; but an escaped name's may take in a `\` that stands before a newline.
-- Assumes nothing.
use Prim.Native.Nat.{ℕ, zero, suc, ◌+◌, ◌<◌, ◌≤◌}
use mathlib.Core.Bool.{Bool, true, false, cond, not, ◌&&◌}
use mathlib.Core.List.{List}
use mathlib.Core.Path.{◌≡◌, refl, ap, ◌∙◌}
use native.Mathlib.Nat.{le_refl}
use native.Mathlib.Omega.{arith}
use lib.Dec.{eqb, leb}
use lib.ListN.{length, get_or, drop, get_or-eq_default}
use borrow.Author.Tests.{eqb-true, eq-eqb, leb-true, leb-false}
use Rattle.lex.specs.Classes.{is_run, is_span, is_legal}
use Rattle.lex.specs.Scans.{scan, run_end, span_from, span_end}
use Rattle.lex.specs.declared.Scan.{Scan}
use Rattle.lex.proofs.Tests.{and_left, and_right, read_within}
use Rattle.lex.proofs.Scanning.{run_step, run_out, span_step, span_out}
use Rattle.genuine.proofs.Tests.{and_false}
use Rattle.genuine.proofs.Aligning.{Aligned, Clear, clear_end, clear_newline, test_alike, never_newline, Along, along_none, along_one, along_passed, along_join, byte_alike, byte_within, newline_within, newline_slash, newline_next, end_space}

-- a run
run_none : (more : ℕ) (s : List ℕ) (i : ℕ) → is_run more (get_or s i 0) ≡ false → run_end more s i ≡ i
run_none more s i e = go (leb (length s) i) refl
  where
    go : (b : Bool) → leb (length s) i ≡ b → run_end more s i ≡ i
    go true q = run_out more s i (leb-true (length s) i q)
    go false q = run_step more s i (leb-false (length s) i q) ∙ rw e

run_on : (more : ℕ) (s : List ℕ) (i : ℕ) → is_run more 0 ≡ false → is_run more (get_or s i 0) ≡ true → run_end more s i ≡ run_end more s (i + 1)
run_on more s i z e = run_step more s i (read_within (λ b. is_run more b) z s i e) ∙ rw e

module _ {s w tail : List ℕ} (more : ℕ) (c : Clear (is_run more)) where
  run_turn : (i j : ℕ) → i ≤ length w → (a : Aligned s w tail i j) (b : Bool) → is_run more (get_or w i 0) ≡ b
      → (i < length w → Aligned s w tail (i + 1) (j + 1) → Along s w tail (i + 1) (j + 1) (run_end more w (i + 1)) (run_end more s (j + 1)))
      → Along s w tail i j (run_end more w i) (run_end more s j)
  run_turn i j l a true e f =
      let z : is_run more 0 ≡ false = clear_end (is_run more) c in
      let h : i < length w = read_within (is_run more) z w i e in
      let o : Along s w tail i j (i + 1) (j + 1) = along_passed a (is_run more) z (clear_newline (is_run more) c) e in
      rw (run_on more w i z e, run_on more s j z (test_alike a (is_run more) c ∙ e)) (along_join o (f h o.aligned))
  run_turn i j l a false e f =
      rw (run_none more w i e, run_none more s j (test_alike a (is_run more) c ∙ e)) (along_none a l)

  run_walk : (n i j : ℕ) → length w ≤ n + i → i ≤ length w → Aligned s w tail i j → Along s w tail i j (run_end more w i) (run_end more s j)
  run_walk zero i j h l a =
      let k : length w ≤ i = omega arith in
      run_turn i j l a false (ap (is_run more) (get_or-eq_default w 0 k) ∙ clear_end (is_run more) c) (λ g b. absurd (omega arith))
  run_walk (suc n) i j h l a =
      run_turn i j l a (is_run more (get_or w i 0)) refl (λ g b. run_walk n (i + 1) (j + 1) (omega arith) (omega arith) b)

  pub run_along : {i j : ℕ} → i ≤ length w → Aligned s w tail i j → Along s w tail i j (run_end more w i) (run_end more s j)
  run_along {i} {j} l a = run_walk (length w) i j (omega arith) l a

-- an escaped name
pub data Spanned (s w tail : List ℕ) (i j : ℕ) (r q : Scan) : Type 0 where
  level : Along s w tail i j r.end q.end → q.bar ≡ r.bar → Spanned s w tail i j r q
  over : i ≤ r.end → get_or w r.end 0 ≡ 92 → get_or w (r.end + 1) 0 ≡ 10 → Along s w tail i j (r.end + 1) q.end → q.bar ≡ r.bar → Spanned s w tail i j r q

-- at an end, at a white byte or newline
span_none : (ok : Bool) (s : List ℕ) (i : ℕ) → (i < length s → not (is_span true (get_or s i 0)) ≡ true) → span_from true true ok i (drop i s) ≡ scan i ok 0
span_none ok s i e = go (leb (length s) i) refl
  where
    go : (b : Bool) → leb (length s) i ≡ b → span_from true true ok i (drop i s) ≡ scan i ok 0
    go true q = span_out true true ok s i (leb-true (length s) i q)
    go false q = let l : i < length s = leb-false (length s) i q in span_step true true ok s i l ∙ rw (e l)

-- at a `\` before a newline
span_halt : (ok : Bool) (s : List ℕ) (i : ℕ) → i < length s → get_or s i 0 ≡ 92 → get_or s (i + 1) 0 ≡ 10 → span_from true true ok i (drop i s) ≡ scan i ok 0
span_halt ok s i l p q = span_step true true ok s i l ∙ rw (p, q)

span_on : (ok : Bool) (s : List ℕ) (i : ℕ) → i < length s → not (is_span true (get_or s i 0)) ≡ false → (eqb (get_or s i 0) 92 && eqb (get_or s (i + 1) 0) 10) ≡ false
    → span_from true true ok i (drop i s) ≡ span_from true true (ok && is_legal (get_or s i 0)) (i + 1) (drop (i + 1) s)
span_on ok s i l p q = span_step true true ok s i l ∙ rw (p, q)

-- one more byte is legal
still : (ok : Bool) (b : ℕ) → is_legal b ≡ true → ◌≡◌ {A = ℕ} (cond (ok && is_legal b) 0 2) (cond ok 0 2)
still true b e = rw e
still false b e = refl

module _ {s w tail : List ℕ} where
  span_join : {i j e f : ℕ} {r q : Scan} → Along s w tail i j e f → Spanned s w tail e f r q → Spanned s w tail i j r q
  span_join a (level b e) = level (along_join a b) e
  span_join a (over h p n b e) = over (omega (arith, a.past)) p n (along_join a b) e

  module _ (ok : Bool) (i j : ℕ) (a : Aligned s w tail i j) (l : i < length w) where
    abbrev Here : Type 0
    Here = Spanned s w tail i j (span_from true true ok i (drop i w)) (span_from true true ok j (drop j s))

    span_newline : get_or w i 0 ≡ 10 → Here
    span_newline n =
        rw (span_none ok w i (λ h. rw n), span_halt ok s j (newline_within a l n) (newline_slash a l n) (newline_next a l n))
        (level (along_none a (omega arith)) refl)

    module _ (n : eqb (get_or w i 0) 10 ≡ false) where
      span_white : not (is_span true (get_or w i 0)) ≡ true → Here
      span_white e =
          rw (span_none ok w i (λ h. e), span_none ok s j (λ h. rw (byte_alike a l n) e))
          (level (along_none a (omega arith)) refl)

      module _ (e : not (is_span true (get_or w i 0)) ≡ false) where
        next : Aligned s w tail (i + 1) (j + 1)
        next = (along_one a l n).aligned

        spelled_on : span_from true true ok j (drop j s) ≡ span_from true true (ok && is_legal (get_or s j 0)) (j + 1) (drop (j + 1) s)
        spelled_on =
            span_on ok s j (byte_within a l n) (rw (byte_alike a l n) e)
            (and_false (eqb (get_or s j 0) 92) (eqb (get_or s (j + 1) 0) 10) (never_newline next))

        span_over : get_or w i 0 ≡ 92 → get_or w (i + 1) 0 ≡ 10 → Here
        span_over p q =
            let h : i + 1 < length w = read_within (λ b. eqb b 10) refl w (i + 1) (eq-eqb (get_or w (i + 1) 0) 10 q) in
            let o = ok && is_legal (get_or s j 0) in
            let g : is_legal (get_or s j 0) ≡ true = rw (byte_alike a l n, p) in
            rw (span_halt ok w i l p q, spelled_on, span_halt o s (j + 1) (newline_within next h q) (newline_slash next h q) (newline_next next h q))
            (over (le_refl i) p q (along_one a l n) (still ok (get_or s j 0) g))

        span_more : (eqb (get_or w i 0) 92 && eqb (get_or w (i + 1) 0) 10) ≡ false
            → Spanned s w tail (i + 1) (j + 1) (span_from true true (ok && is_legal (get_or w i 0)) (i + 1) (drop (i + 1) w)) (span_from true true (ok && is_legal (get_or w i 0)) (j + 1) (drop (j + 1) s))
            → Here
        span_more q r = rw (span_on ok w i l e q, spelled_on, byte_alike a l n) (span_join (along_one a l n) r)

    span_turn : (b c d : Bool) → eqb (get_or w i 0) 10 ≡ b → not (is_span true (get_or w i 0)) ≡ c → (eqb (get_or w i 0) 92 && eqb (get_or w (i + 1) 0) 10) ≡ d
        → (Aligned s w tail (i + 1) (j + 1) → Spanned s w tail (i + 1) (j + 1) (span_from true true (ok && is_legal (get_or w i 0)) (i + 1) (drop (i + 1) w)) (span_from true true (ok && is_legal (get_or w i 0)) (j + 1) (drop (j + 1) s)))
        → Here
    span_turn true c d p q r f = span_newline (eqb-true (get_or w i 0) 10 p)
    span_turn false true d p q r f = span_white p q
    span_turn false false true p q r f =
        span_over p q (eqb-true (get_or w i 0) 92 (and_left (eqb (get_or w i 0) 92) (eqb (get_or w (i + 1) 0) 10) r))
        (eqb-true (get_or w (i + 1) 0) 10 (and_right (eqb (get_or w i 0) 92) (eqb (get_or w (i + 1) 0) 10) r))
    span_turn false false false p q r f = span_more p q r (f (next p q))

  span_out_both : (ok : Bool) (i j : ℕ) → length w ≤ i → i ≤ length w → Aligned s w tail i j
      → Spanned s w tail i j (span_from true true ok i (drop i w)) (span_from true true ok j (drop j s))
  span_out_both ok i j h l a =
      rw (span_none ok w i (λ g. absurd (omega arith)), span_none ok s j (λ g. rw (end_space a h g)))
      (level (along_none a l) refl)

  span_walk : (n : ℕ) (ok : Bool) (i j : ℕ) → length w ≤ n + i → i ≤ length w → Aligned s w tail i j
      → Spanned s w tail i j (span_from true true ok i (drop i w)) (span_from true true ok j (drop j s))
  span_walk zero ok i j h l a = span_out_both ok i j (omega arith) l a
  span_walk (suc n) ok i j h l a = go (leb (length w) i) refl (λ o b k m. span_walk n o (i + 1) (j + 1) k m b)
    where
      go : (b : Bool) → leb (length w) i ≡ b
          → ((o : Bool) → Aligned s w tail (i + 1) (j + 1) → length w ≤ n + (i + 1) → i + 1 ≤ length w → Spanned s w tail (i + 1) (j + 1) (span_from true true o (i + 1) (drop (i + 1) w)) (span_from true true o (j + 1) (drop (j + 1) s)))
          → Spanned s w tail i j (span_from true true ok i (drop i w)) (span_from true true ok j (drop j s))
      go true e f = span_out_both ok i j (leb-true (length w) i e) l a
      go false e f =
          let g : i < length w = leb-false (length w) i e in
          span_turn ok i j a g (eqb (get_or w i 0) 10) (not (is_span true (get_or w i 0))) (eqb (get_or w i 0) 92 && eqb (get_or w (i + 1) 0) 10) refl refl refl
          (λ b. f (ok && is_legal (get_or w i 0)) b (omega arith) (omega arith))

  pub span_along : {i j : ℕ} → i ≤ length w → Aligned s w tail i j → Spanned s w tail i j (span_end true true w i) (span_end true true s j)
  unfolding span_end
  span_along {i} {j} l a = span_walk (length w) true i j (omega arith) l a

-- a name of no bytes
pub span_newline_end : (s : List ℕ) (i : ℕ) → get_or s i 0 ≡ 10 → span_end true true s i ≡ scan i true 0
unfolding span_end
span_newline_end s i n = span_none true s i (λ l. rw n)

pub span_slash_end : (s : List ℕ) (i : ℕ) → get_or s i 0 ≡ 92 → get_or s (i + 1) 0 ≡ 10 → span_end true true s i ≡ scan i true 0
unfolding span_end
span_slash_end s i p q = span_halt true s i (read_within (λ b. eqb b 92) refl s i (eq-eqb (get_or s i 0) 92 p)) p q
