-- Bytes that are always tokens of their own: the token at a white byte, a newline or a mark.
-- Assumes nothing.
use Prim.Native.Nat.{ℕ, zero, suc, ◌+◌, ◌-◌, ◌<◌, ◌≤◌}
use mathlib.Core.Bool.{Bool, true, false, not, ◌&&◌, ◌||◌, and-false}
use mathlib.Core.List.{List, [], ◌∷◌}
use mathlib.Core.Path.{◌≡◌, refl, sym, ap, ◌∙◌}
use native.Mathlib.Omega.{arith}
use lib.Dec.{eqb, leb}
use lib.ListN.{length, get_or}
use lib.Seq.{drop-cons}
use borrow.Author.Tests.{eq-eqb, ne_eqb, eqb-true, eqb-false, lt-leb, leb-true, leb-false, not-true}
use Rattle.text.specs.Bytes.{part}
use Rattle.lex.specs.Classes.{is_white, is_start, is_digit}
use Rattle.lex.specs.Tokens.{White, Newline, Byte, in_file, plain, sign_token, token_at}
use Rattle.lex.specs.declared.Token.{Token}
use Rattle.lex.proofs.Tests.{and_left, and_right, true_false, read_within}
use Rattle.copying.specs.Cursors.{is_mark, is_single}

-- ---- tests on all bytes below a bound

unfoldable below : (ℕ → Bool) → ℕ → Bool
below p zero = true
below p (suc n) = below p n && p n

below_each : (p : ℕ → Bool) (n : ℕ) → below p n ≡ true → (b : ℕ) → b < n → p b ≡ true
unfolding below
below_each p zero e b h = absurd (omega arith)
below_each p (suc n) e b h = go (below_each p n (and_left (below p n) (p n) e) b) (eqb b n) refl
  where
    go : (b < n → p b ≡ true) → (t : Bool) → eqb b n ≡ t → p b ≡ true
    go f true q = ap p (eqb-true b n q) ∙ and_right (below p n) (p n) e
    go f false q = f (omega (arith, eqb-false b n q))

-- ---- marks

-- a byte that begins no longer token, and that is legal
abbrev apart : ℕ → Bool
apart b =
    not (is_white b) && (not (is_start b) && (not (is_digit b) && (not (eqb b 10) && (not (eqb b 36) && (not (eqb b 34) && (not (eqb b 47) && (not (eqb b 92) && (not (eqb b 39) && (not (eqb b 96) && (leb 32 b && leb b 126))))))))))

-- marks lie below 95
mark_small : (b : ℕ) → is_mark b ≡ true → b < 95
mark_small b e = go (leb 95 b) refl
  where
    go : (t : Bool) → leb 95 b ≡ t → b < 95
    go false q = leb-false 95 b q
    go true q =
        let h : 95 ≤ b = leb-true 95 b q in
        true_false (is_mark b) e
        (simp (lt-leb b 38 (omega arith), lt-leb b 46 (omega arith), lt-leb b 64 (omega arith), ne_eqb b 91 (λ z. omega arith), lt-leb b 94 (omega arith), and-false))

mark_apart : (b : ℕ) → is_mark b ≡ true → apart b ≡ true
unfolding below
mark_apart b e = rw e at (below_each (λ b. not (is_mark b) || apart b) 95 refl b (mark_small b e))

-- where no test of a row passes, the first does not
off : (t r : Bool) → (not t && r) ≡ true → t ≡ false
off t r e = not-true t (and_left (not t) r e)

mark_token : (s : List ℕ) (i : ℕ) → is_mark (get_or s i 0) ≡ true → token_at in_file s i ≡ plain Byte i (i + 1) 0
unfolding token_at sign_token
mark_token s i e =
    let h : i < length s = read_within (λ b. is_mark b) refl s i e in
    let b : ℕ = get_or s i 0 in
    let e1 = mark_apart b e in
    let e2 = and_right (not (is_white b)) _ e1 in
    let e3 = and_right (not (is_start b)) _ e2 in
    let e4 = and_right (not (is_digit b)) _ e3 in
    let e5 = and_right (not (eqb b 10)) _ e4 in
    let e6 = and_right (not (eqb b 36)) _ e5 in
    let e7 = and_right (not (eqb b 34)) _ e6 in
    let e8 = and_right (not (eqb b 47)) _ e7 in
    let e9 = and_right (not (eqb b 92)) _ e8 in
    let e10 = and_right (not (eqb b 39)) _ e9 in
    let legal : (leb 32 b && leb b 126) ≡ true = and_right (not (eqb b 96)) _ e10 in
    rw (lt-leb (length s) i h, off (is_white b) _ e1, off (is_start b) _ e2, off (is_digit b) _ e3, off (eqb b 10) _ e4, off (eqb b 36) _ e5, off (eqb b 34) _ e6, off (eqb b 47) _ e7, off (eqb b 92) _ e8, off (eqb b 39) _ e9, off (eqb b 96) _ e10, legal)

-- ---- white bytes and newlines

white_token : (s : List ℕ) (i : ℕ) → is_white (get_or s i 0) ≡ true → token_at in_file s i ≡ plain White i (i + 1) 0
unfolding token_at
white_token s i e =
    let h : i < length s = read_within (λ b. is_white b) refl s i e in
    simp (lt-leb (length s) i h, e)

newline_here : (s : List ℕ) (i : ℕ) → get_or s i 0 ≡ 10 → token_at in_file s i ≡ plain Newline i (i + 1) 0
unfolding token_at
newline_here s i e =
    let h : i < length s = read_within (λ b. eqb b 10) refl s i (eq-eqb _ _ e) in
    simp (lt-leb (length s) i h, e)

-- a white byte is no newline
pub white_line : (b : ℕ) → is_white b ≡ true → eqb b 10 ≡ false
white_line b e = ne_eqb b 10 (λ q. true_false (is_white 10) (ap (λ (b : ℕ). is_white b) (sym q) ∙ e) refl)

-- ---- all three

-- what holds of each holds of the token at one
pub by_single : (P : Token → Type 0) (s : List ℕ) (i b : ℕ) → b ≡ get_or s i 0 → is_single b ≡ true
    → (is_white b ≡ true → P (plain White i (i + 1) 0)) → (eqb b 10 ≡ true → P (plain Newline i (i + 1) 0))
    → (is_white b ≡ false → eqb b 10 ≡ false → P (plain Byte i (i + 1) 0)) → P (token_at in_file s i)
by_single P s i b q e x y z = first (is_white b) refl
  where
    second : (t : Bool) → eqb b 10 ≡ t → is_white b ≡ false → P (token_at in_file s i)
    second true n w = rw (newline_here s i (sym q ∙ eqb-true b 10 n)) (y n)
    second false n w = rw (mark_token s i (rw q at (rw (w, n) at e))) (z w n)

    first : (t : Bool) → is_white b ≡ t → P (token_at in_file s i)
    first true w = rw (white_token s i (rw q at w)) (x w)
    first false w = second (eqb b 10) refl w

pub part_one : (s : List ℕ) (i : ℕ) → i < length s → part s i (i + 1) ≡ get_or s i 0 ∷ []
part_one s i h =
    let z : i + 1 - i ≡ 1 = omega arith in
    rw (z, drop-cons s i 0 h)
