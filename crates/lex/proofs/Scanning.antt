-- How each scan goes on at an index: its step, which is its definition there, and its end; then the step by what the
-- code knows, where `t`, `l` and `p` are what it got of the byte's class, of `is_legal` and of the byte ahead.
-- Assumes nothing.
use Prim.Native.Nat.{ℕ, ◌+◌, ◌<◌, ◌≤◌}
use mathlib.Core.Bool.{Bool, true, false, cond, not, ◌&&◌}
use mathlib.Core.List.{List}
use mathlib.Core.Path.{◌≡◌, sym, ap, ◌∙◌}
use native.Mathlib.Numerals.{add-one}
use native.Mathlib.Omega.{arith}
use lib.Dec.{eqb}
use lib.ListN.{length, get_or, drop, drop_of_length-le}
use lib.Seq.{drop-cons, get_or-drop}
use borrow.Author.Tests.{eq-eqb, ne_eqb, not-true, not-false}
use Rattle.lex.specs.Classes.{is_run, is_span, is_legal}
use Rattle.lex.specs.Scans.{scan, run_from, run_end, span_from, string_from, block_from}

module _ (more : ℕ) (s : List ℕ) (i : ℕ) where
  pub run_step : i < length s → run_end more s i ≡ cond (is_run more (get_or s i 0)) (run_end more s (i + 1)) i
  unfolding run_end run_from
  run_step h = rw (add-one, drop-cons s i 0)

  pub run_out : length s ≤ i → run_end more s i ≡ i
  unfolding run_end run_from
  run_out h = rw (drop_of_length-le s h)

  pub run_stop : {t : Bool} → i < length s → t ≡ is_run more (get_or s i 0) → not t ≡ true → run_end more s i ≡ i
  run_stop h e n = run_step h ∙ rw (sym e ∙ not-true _ n)

  pub run_more : {t : Bool} → i < length s → t ≡ is_run more (get_or s i 0) → not t ≡ false → run_end more s i ≡ run_end more s (i + 1)
  run_more h e n = run_step h ∙ rw (sym e ∙ not-false _ n)

ahead : (s : List ℕ) (i : ℕ) → get_or (drop (i + 1) s) 0 0 ≡ get_or s (i + 1) 0
ahead s i =
    let q : i + 1 + 0 ≡ i + 1 = omega arith in
    get_or-drop (i + 1) s 0 0 ∙ ap (λ (n : ℕ). get_or s n 0) q

module _ (solid stops ok : Bool) (s : List ℕ) (i : ℕ) where
  pub span_step : i < length s →
      span_from solid stops ok i (drop i s) ≡ cond (not (is_span solid (get_or s i 0))) (scan i ok 0) (cond (stops && (eqb (get_or s i 0) 92 && eqb (get_or s (i + 1) 0) 10)) (scan i ok 0) (span_from solid stops (ok && is_legal (get_or s i 0)) (i + 1) (drop (i + 1) s)))
  unfolding span_from
  span_step h = rw (sym (ahead s i), add-one, drop-cons s i 0)

  pub span_out : length s ≤ i → span_from solid stops ok i (drop i s) ≡ scan i ok 0
  unfolding span_from
  span_out h = rw (drop_of_length-le s h)

  pub span_stop : {t : Bool} → i < length s → t ≡ is_span solid (get_or s i 0) → not t ≡ true → span_from solid stops ok i (drop i s) ≡ scan i ok 0
  span_stop h e n = span_step h ∙ rw (sym e, n)

  pub span_halt : {t : Bool} {p : ℕ} → i < length s → t ≡ is_span solid (get_or s i 0) → not t ≡ false → p ≡ get_or s (i + 1) 0 → (stops && (eqb (get_or s i 0) 92 && eqb p 10)) ≡ true → span_from solid stops ok i (drop i s) ≡ scan i ok 0
  span_halt h e n q f = span_step h ∙ rw (sym e, n, sym q, f)

  pub span_more : {t l : Bool} {p : ℕ} → i < length s → t ≡ is_span solid (get_or s i 0) → not t ≡ false → p ≡ get_or s (i + 1) 0 → (stops && (eqb (get_or s i 0) 92 && eqb p 10)) ≡ false → l ≡ is_legal (get_or s i 0) → span_from solid stops ok i (drop i s) ≡ span_from solid stops (ok && l) (i + 1) (drop (i + 1) s)
  span_more h e n q f g = span_step h ∙ rw (sym e, n, sym q, f, sym g)

module _ (ok : Bool) (s : List ℕ) (i : ℕ) where
  pub string_jump : i < length s → string_from true ok i (drop i s) ≡ string_from false (ok && is_legal (get_or s i 0)) (i + 1) (drop (i + 1) s)
  unfolding string_from
  string_jump h = rw (add-one, drop-cons s i 0)

  pub string_step : i < length s →
      string_from false ok i (drop i s) ≡ cond (eqb (get_or s i 0) 34) (scan (i + 1) ok 0) (cond (eqb (get_or s i 0) 10) (scan i ok 3) (string_from (eqb (get_or s i 0) 92) (ok && is_legal (get_or s i 0)) (i + 1) (drop (i + 1) s)))
  unfolding string_from
  string_step h = rw (add-one, drop-cons s i 0)

module _ (esc ok : Bool) (s : List ℕ) (i : ℕ) where
  pub string_escaped : {l : Bool} → i < length s → esc ≡ true → l ≡ is_legal (get_or s i 0) → string_from esc ok i (drop i s) ≡ string_from false (ok && l) (i + 1) (drop (i + 1) s)
  string_escaped h e g = rw (e, g) (string_jump ok s i h)

  pub string_close : i < length s → esc ≡ false → get_or s i 0 ≡ 34 → string_from esc ok i (drop i s) ≡ scan (i + 1) ok 0
  string_close h e q = rw e (string_step ok s i h ∙ rw (eq-eqb _ _ q))

  pub string_newline : i < length s → esc ≡ false → (get_or s i 0 ≡ 34 → ⊥) → get_or s i 0 ≡ 10 → string_from esc ok i (drop i s) ≡ scan i ok 3
  string_newline h e n q = rw e (string_step ok s i h ∙ rw (ne_eqb _ _ n, eq-eqb _ _ q))

  pub string_more : {l : Bool} → i < length s → esc ≡ false → (get_or s i 0 ≡ 34 → ⊥) → (get_or s i 0 ≡ 10 → ⊥) → l ≡ is_legal (get_or s i 0) →
      string_from esc ok i (drop i s) ≡ string_from (eqb (get_or s i 0) 92) (ok && l) (i + 1) (drop (i + 1) s)
  string_more h e n k g = rw (e, g) (string_step ok s i h ∙ rw (ne_eqb _ _ n, ne_eqb _ _ k))

pub string_out : (esc ok : Bool) (s : List ℕ) (i : ℕ) → length s ≤ i → string_from esc ok i (drop i s) ≡ scan i ok 3
unfolding string_from
string_out true ok s i h = rw (drop_of_length-le s h)
string_out false ok s i h = rw (drop_of_length-le s h)

module _ (star ok : Bool) (s : List ℕ) (i : ℕ) where
  pub block_step : i < length s →
      block_from star ok i (drop i s) ≡ cond (star && eqb (get_or s i 0) 47) (scan (i + 1) ok 0) (block_from (eqb (get_or s i 0) 42) (ok && is_legal (get_or s i 0)) (i + 1) (drop (i + 1) s))
  unfolding block_from
  block_step h = rw (add-one, drop-cons s i 0)

  pub block_out : length s ≤ i → block_from star ok i (drop i s) ≡ scan i ok 3
  unfolding block_from
  block_out h = rw (drop_of_length-le s h)

  pub block_close : i < length s → (star && eqb (get_or s i 0) 47) ≡ true → block_from star ok i (drop i s) ≡ scan (i + 1) ok 0
  block_close h e = block_step h ∙ rw e

  pub block_more : {l : Bool} → i < length s → (star && eqb (get_or s i 0) 47) ≡ false → l ≡ is_legal (get_or s i 0) →
      block_from star ok i (drop i s) ≡ block_from (eqb (get_or s i 0) 42) (ok && l) (i + 1) (drop (i + 1) s)
  block_more h e g = rw g (block_step h ∙ rw e)
