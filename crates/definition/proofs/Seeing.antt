-- What a token is, told by its kind: one byte, a plain name or an escaped one.
-- Assumes nothing.
use Prim.Native.Nat.{ℕ, ◌+◌, ◌<◌}
use mathlib.Core.Bool.{true, false, ◌&&◌}
use mathlib.Core.List.{List}
use mathlib.Core.Path.{◌≡◌, refl}
use lib.Dec.{eqb}
use lib.ListN.{length, get_or}
use borrow.Author.Tests.{lt-leb}
use Rattle.lex.specs.Classes.{is_white, is_digit, is_start, is_sign, is_base}
use Rattle.lex.specs.Scans.{run_end, span_end}
use Rattle.lex.specs.Tokens.{White, Name, Escaped, Byte, is, plain, named, string_token, slash_token, backslash_token, digits_token, based_token, escaped_grave, grave_token, sign_token, token_at}
use Rattle.lex.specs.declared.Mode.{Mode}
use Rattle.lex.specs.declared.Token.{Token}
use Rattle.lex.proofs.Tests.{by_test}

pub data Seen (s : List ℕ) (i : ℕ) : Token → Type 0 where
  one : (k n : ℕ) → eqb k Name ≡ false → eqb k Escaped ≡ false → Seen s i (plain k i (i + 1) n)
  word : is_start (get_or s i 0) ≡ true → Seen s i (named Name i i (run_end 36 s (i + 1)) 0)
  slanted : eqb (span_end true true s (i + 1)).end (i + 1) ≡ false
      → Seen s i (named Escaped i (i + 1) (span_end true true s (i + 1)).end (span_end true true s (i + 1)).bar)
  other : (t : Token) → is White t ≡ false → is Byte t ≡ false → is Name t ≡ false → is Escaped t ≡ false → Seen s i t

module _ (s : List ℕ) (i : ℕ) where
  string_seen : Seen s i (string_token s i)
  unfolding string_token
  string_seen =
      by_test (Seen s i) (eqb (get_or s (i + 1) 0) 34 && eqb (get_or s (i + 2) 0) 34) (λ e. other _ refl refl refl refl) (λ e. other _ refl refl refl refl)

  slash_seen : (m : Mode) → Seen s i (slash_token m s i)
  unfolding slash_token
  slash_seen m =
      by_test (Seen s i) m.marks (λ e. one Byte 0 refl refl)
      (λ e. by_test (Seen s i) (eqb (get_or s (i + 1) 0) 47) (λ e. other _ refl refl refl refl)
      (λ e. by_test (Seen s i) (eqb (get_or s (i + 1) 0) 42) (λ e. other _ refl refl refl refl) (λ e. one Byte 0 refl refl)))

  backslash_seen : (m : Mode) → Seen s i (backslash_token m s i)
  unfolding backslash_token
  backslash_seen m =
      by_test (Seen s i) (m.define && eqb (get_or s (i + 1) 0) 10) (λ e. other _ refl refl refl refl)
      (λ e. by_test (Seen s i) m.marks (λ e. one Byte 0 refl refl)
      (λ e. by_test (Seen s i) (eqb (span_end true true s (i + 1)).end (i + 1)) (λ e. one Byte 0 refl refl) (λ e. slanted e)))

  digits_seen : (j : ℕ) → Seen s i (digits_token s i j)
  unfolding digits_token
  digits_seen j = by_test (Seen s i) (is_base (get_or s j 0)) (λ e. other _ refl refl refl refl) (λ e. one Byte 0 refl refl)

  based_seen : Seen s i (based_token s i)
  unfolding based_token
  based_seen = by_test (Seen s i) (is_sign (get_or s (i + 1) 0)) (λ e. digits_seen (i + 2)) (λ e. digits_seen (i + 1))

  escaped_grave_seen : (m : Mode) → Seen s i (escaped_grave m s i)
  unfolding escaped_grave
  escaped_grave_seen m =
      by_test (Seen s i) (eqb (get_or s (i + 2) 0) 96 && eqb (get_or s (i + 3) 0) 34) (λ e. other _ refl refl refl refl)
      (λ e. by_test (Seen s i) m.marks (λ e. one Byte 4 refl refl)
      (λ e. by_test (Seen s i) (eqb (span_end true true s (i + 2)).end (i + 2)) (λ e. one Byte 4 refl refl) (λ e. other _ refl refl refl refl)))

  grave_seen : (m : Mode) → Seen s i (grave_token m s i)
  unfolding grave_token
  grave_seen m =
      by_test (Seen s i) (is_start (get_or s (i + 1) 0)) (λ e. other _ refl refl refl refl)
      (λ e. by_test (Seen s i) (eqb (get_or s (i + 1) 0) 34) (λ e. other _ refl refl refl refl)
      (λ e. by_test (Seen s i) (eqb (get_or s (i + 1) 0) 96) (λ e. other _ refl refl refl refl)
      (λ e. by_test (Seen s i) (eqb (get_or s (i + 1) 0) 92) (λ e. escaped_grave_seen m) (λ e. one Byte 4 refl refl))))

  sign_seen : (m : Mode) (b : ℕ) → Seen s i (sign_token m s i b)
  unfolding sign_token
  sign_seen m b =
      by_test (Seen s i) (eqb b 34) (λ e. string_seen)
      (λ e. by_test (Seen s i) (eqb b 47) (λ e. slash_seen m)
      (λ e. by_test (Seen s i) (eqb b 92) (λ e. backslash_seen m)
      (λ e. by_test (Seen s i) (eqb b 39) (λ e. based_seen)
      (λ e. by_test (Seen s i) (eqb b 96) (λ e. grave_seen m) (λ e. one Byte _ refl refl)))))

  pub token_seen : (m : Mode) → i < length s → Seen s i (token_at m s i)
  unfolding token_at
  token_seen m h =
      rw (lt-leb (length s) i h)
      (by_test (Seen s i) (is_white (get_or s i 0)) (λ e. one White 0 refl refl)
      (λ e. by_test (Seen s i) (is_start (get_or s i 0)) (λ e. word e)
      (λ e. by_test (Seen s i) (is_digit (get_or s i 0)) (λ e. other _ refl refl refl refl)
      (λ e. by_test (Seen s i) (eqb (get_or s i 0) 10) (λ e. other _ refl refl refl refl)
      (λ e. by_test (Seen s i) (eqb (get_or s i 0) 36) (λ e. other _ refl refl refl refl) (λ e. sign_seen m (get_or s i 0)))))))

-- a white byte is one byte, and so is a token of the kind Byte
pub white_one : {s : List ℕ} {i : ℕ} {t : Token} → Seen s i t → is White t ≡ true → t.end ≡ i + 1
white_one (one k n p q) e = refl
white_one (word h) e = cc
white_one (slanted h) e = cc
white_one (other t g h k l) e = cc

pub byte_one : {s : List ℕ} {i : ℕ} {t : Token} → Seen s i t → is Byte t ≡ true → t.end ≡ i + 1
byte_one (one k n p q) e = refl
byte_one (word h) e = cc
byte_one (slanted h) e = cc
byte_one (other t g h k l) e = cc
