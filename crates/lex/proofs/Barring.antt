-- What bars a token: nothing, or one of 2 to 6.
-- Assumes nothing.
use Prim.Native.Nat.{ℕ, suc, ◌+◌, ◌-◌, ◌≤◌}
use mathlib.Core.Bool.{Bool, true, false, cond, not, ◌&&◌}
use mathlib.Core.List.{List, [], ◌∷◌}
use mathlib.Core.Path.{◌≡◌, refl}
use native.Mathlib.Omega.{arith}
use lib.Dec.{eqb, leb, ltb}
use lib.ListN.{length, get_or, drop}
use Rattle.lex.specs.declared.Mode.{Mode}
use Rattle.lex.specs.declared.Scan.{Scan}
use Rattle.lex.specs.declared.Token.{Token}
use Rattle.lex.specs.Classes.{is_white, is_digit, is_start, is_sign, is_base, is_legal, is_span}
use Rattle.lex.specs.Scans.{scan, run_end, span_from, span_end, string_from, string_end, block_from, block_end}
use Rattle.lex.specs.Tokens.{Name, Escaped, Grave, mark_bar, named, escaped_or, string_token, slash_token, backslash_token, digits_token, based_token, escaped_grave, grave_token, sign_token, token_at}
use Rattle.lex.proofs.Tests.{by_test, true_false}

-- no refusal, or one of 2 to `top`
pub record Numbered (top n : ℕ) : Type 0 where
  pub least : eqb n 0 ≡ false → 2 ≤ n
  pub most : n ≤ top

pub numbered_none : (top : ℕ) → Numbered top 0
numbered_none top = record { least = λ e. true_false true refl e; most = omega arith }

pub numbered_some : (top n : ℕ) → 2 ≤ n → n ≤ top → Numbered top n
numbered_some top n a b = record { least = λ e. a; most = b }

abbrev pub Barring : ℕ → Type 0
Barring n = Numbered 6 n

bar_none : Barring 0
bar_none = numbered_none 6

bar_some : (n : ℕ) → 2 ≤ n → n ≤ 6 → Barring n
bar_some n a b = numbered_some 6 n a b

-- 2 where a byte is illegal
pub illegal_bar : (ok : Bool) (n : ℕ) → Barring n → Barring (cond ok n 2)
illegal_bar ok n h = by_test Barring ok (λ e. h) (λ e. bar_some 2 (omega arith) (omega arith))

-- ---- scans

abbrev ScanBars : Scan → Type 0
ScanBars r = Barring r.bar

closed_scan : (e : ℕ) (ok : Bool) → ScanBars (scan e ok 0)
closed_scan e ok = illegal_bar ok 0 bar_none

open_scan : (e : ℕ) (ok : Bool) → ScanBars (scan e ok 3)
open_scan e ok = illegal_bar ok 3 (bar_some 3 (omega arith) (omega arith))

span-from : (solid stops ok : Bool) (i : ℕ) (xs : List ℕ) → ScanBars (span_from solid stops ok i xs)
unfolding span_from
span-from solid stops ok i [] = closed_scan i ok
span-from solid stops ok i (x ∷ xs) =
    by_test ScanBars (not (is_span solid x)) (λ e. closed_scan i ok)
    (λ e. by_test ScanBars (stops && (eqb x 92 && eqb (get_or xs 0 0) 10)) (λ e. closed_scan i ok)
    (λ e. span-from solid stops (ok && is_legal x) (suc i) xs))

string-from : (esc ok : Bool) (i : ℕ) (xs : List ℕ) → ScanBars (string_from esc ok i xs)
unfolding string_from
string-from true ok i [] = open_scan i ok
string-from false ok i [] = open_scan i ok
string-from true ok i (x ∷ xs) = string-from false (ok && is_legal x) (suc i) xs
string-from false ok i (x ∷ xs) =
    by_test ScanBars (eqb x 34) (λ e. closed_scan (suc i) ok)
    (λ e. by_test ScanBars (eqb x 10) (λ e. open_scan i ok) (λ e. string-from (eqb x 92) (ok && is_legal x) (suc i) xs))

block-from : (star ok : Bool) (i : ℕ) (xs : List ℕ) → ScanBars (block_from star ok i xs)
unfolding block_from
block-from star ok i [] = open_scan i ok
block-from star ok i (x ∷ xs) =
    by_test ScanBars (star && eqb x 47) (λ e. closed_scan (suc i) ok)
    (λ e. block-from (eqb x 42) (ok && is_legal x) (suc i) xs)

-- ---- tokens

abbrev pub TokenBars : Token → Type 0
TokenBars t = Barring t.bar

named_bars : (k i from e n : ℕ) → Barring n → TokenBars (named k i from e n)
named_bars k i from e n h =
    by_test Barring (eqb n 0)
    (λ q. by_test Barring (ltb 1024 (e - from)) (λ q. bar_some 6 (omega arith) (omega arith)) (λ q. bar_none)) (λ q. h)

escaped_bars : (k i from n : ℕ) (r : Scan) → Barring n → ScanBars r → TokenBars (escaped_or k i from n r)
escaped_bars k i from n r h g =
    by_test TokenBars (eqb r.end from) (λ e. h) (λ e. named_bars k i from r.end r.bar g)

mark_bars : (m : Mode) → Barring (mark_bar m)
mark_bars m = by_test Barring m.text (λ e. bar_none) (λ e. bar_some 4 (omega arith) (omega arith))

four_bars : Barring 4
four_bars = bar_some 4 (omega arith) (omega arith)

module _ (s : List ℕ) (i : ℕ) where
  string_bars : TokenBars (string_token s i)
  unfolding string_token string_end
  string_bars =
      by_test TokenBars (eqb (get_or s (i + 1) 0) 34 && eqb (get_or s (i + 2) 0) 34) (λ e. bar_some 5 (omega arith) (omega arith))
      (λ e. string-from false true (i + 1) (drop (i + 1) s))

  slash_bars : (m : Mode) → TokenBars (slash_token m s i)
  unfolding slash_token span_end block_end
  slash_bars m =
      by_test TokenBars m.marks (λ e. bar_none)
      (λ e. by_test TokenBars (eqb (get_or s (i + 1) 0) 47) (λ e. span-from false m.define true (i + 2) (drop (i + 2) s))
      (λ e. by_test TokenBars (eqb (get_or s (i + 1) 0) 42) (λ e. block-from false true (i + 2) (drop (i + 2) s)) (λ e. bar_none)))

  backslash_bars : (m : Mode) → TokenBars (backslash_token m s i)
  unfolding backslash_token span_end
  backslash_bars m =
      by_test TokenBars (m.define && eqb (get_or s (i + 1) 0) 10) (λ e. bar_none)
      (λ e. by_test TokenBars m.marks (λ e. bar_none)
      (λ e. escaped_bars Escaped i (i + 1) 0 (span_end true true s (i + 1)) bar_none (span-from true true true (i + 1) (drop (i + 1) s))))

  digits_bars : (j : ℕ) → TokenBars (digits_token s i j)
  unfolding digits_token
  digits_bars j = by_test TokenBars (is_base (get_or s j 0)) (λ e. bar_none) (λ e. bar_none)

  based_bars : TokenBars (based_token s i)
  unfolding based_token
  based_bars = by_test TokenBars (is_sign (get_or s (i + 1) 0)) (λ e. digits_bars (i + 2)) (λ e. digits_bars (i + 1))

  escaped_grave_bars : (m : Mode) → TokenBars (escaped_grave m s i)
  unfolding escaped_grave span_end
  escaped_grave_bars m =
      by_test TokenBars (eqb (get_or s (i + 2) 0) 96 && eqb (get_or s (i + 3) 0) 34) (λ e. mark_bars m)
      (λ e. by_test TokenBars m.marks (λ e. four_bars)
      (λ e. escaped_bars Grave i (i + 2) 4 (span_end true true s (i + 2)) four_bars (span-from true true true (i + 2) (drop (i + 2) s))))

  grave_bars : (m : Mode) → TokenBars (grave_token m s i)
  unfolding grave_token
  grave_bars m =
      by_test TokenBars (is_start (get_or s (i + 1) 0)) (λ e. named_bars Grave i (i + 1) (run_end 36 s (i + 2)) 0 bar_none)
      (λ e. by_test TokenBars (eqb (get_or s (i + 1) 0) 34) (λ e. mark_bars m)
      (λ e. by_test TokenBars (eqb (get_or s (i + 1) 0) 96) (λ e. mark_bars m)
      (λ e. by_test TokenBars (eqb (get_or s (i + 1) 0) 92) (λ e. escaped_grave_bars m) (λ e. four_bars))))

  sign_bars : (m : Mode) (b : ℕ) → TokenBars (sign_token m s i b)
  unfolding sign_token
  sign_bars m b =
      by_test TokenBars (eqb b 34) (λ e. string_bars)
      (λ e. by_test TokenBars (eqb b 47) (λ e. slash_bars m)
      (λ e. by_test TokenBars (eqb b 92) (λ e. backslash_bars m)
      (λ e. by_test TokenBars (eqb b 39) (λ e. based_bars)
      (λ e. by_test TokenBars (eqb b 96) (λ e. grave_bars m) (λ e. illegal_bar (is_legal b) 0 bar_none)))))

  pub token_bars : (m : Mode) → TokenBars (token_at m s i)
  unfolding token_at
  token_bars m =
      by_test TokenBars (leb (length s) i) (λ e. bar_none)
      (λ e. by_test TokenBars (is_white (get_or s i 0)) (λ e. bar_none)
      (λ e. by_test TokenBars (is_start (get_or s i 0)) (λ e. named_bars Name i i (run_end 36 s (i + 1)) 0 bar_none)
      (λ e. by_test TokenBars (is_digit (get_or s i 0)) (λ e. bar_none)
      (λ e. by_test TokenBars (eqb (get_or s i 0) 10) (λ e. bar_none)
      (λ e. by_test TokenBars (eqb (get_or s i 0) 36) (λ e. bar_none) (λ e. sign_bars m (get_or s i 0)))))))
