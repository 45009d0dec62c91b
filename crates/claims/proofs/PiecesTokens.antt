-- Which tokens begin with a grave accent: of those that nothing bars the names behind one, quote marks and joiners; in a file the
-- names alone.
-- Assumes nothing.
use Prim.Native.Nat.{ℕ, ◌+◌, ◌<◌}
use mathlib.Core.Bool.{Bool, true, false, cond, ◌&&◌, ◌||◌}
use mathlib.Core.List.{List}
use mathlib.Core.Path.{◌≡◌, refl, sym, ap, subst, ◌∙◌}
use lib.Dec.{eqb}
use lib.ListN.{length, get_or}
use borrow.Author.Tests.{lt-leb}
use Rattle.text.specs.Bytes.{part}
use Rattle.text.proofs.Matching.{part_more}
use Rattle.lex.specs.Classes.{is_white, is_digit, is_start, is_sign, is_base}
use Rattle.lex.specs.Scans.{span_end}
use Rattle.lex.specs.Tokens.{String, Quote, EscapedQuote, Joiner, Grave, mark_bar, string_token, slash_token, backslash_token, digits_token, based_token, escaped_grave, grave_token, sign_token, token_at}
use Rattle.lex.specs.declared.Mode.{Mode}
use Rattle.lex.specs.declared.Token.{Token}
use Rattle.lex.proofs.Tests.{by_test, true_false}
use Rattle.lex.proofs.Progress.{token-at, token_ends}
use Rattle.afresh.proofs.Sorts.{apart}

-- the kinds that begin with a grave accent
abbrev pub is_accent : ℕ → Bool
is_accent k = eqb k Grave || (eqb k Quote || (eqb k EscapedQuote || eqb k Joiner))

-- a token's kind, by its first byte b
pub record Begins (m : Mode) (b : ℕ) (t : Token) : Type 0 where
  pub accent : is_accent t.kind ≡ eqb b 96
  pub in-file : m.text ≡ false → eqb t.kind Grave ≡ eqb b 96
  pub string : eqb t.kind String ≡ true → eqb b 34 ≡ true

module _ (m : Mode) (s : List ℕ) (i b : ℕ) where
  -- unless it is barred
  abbrev Told : Token → Type 0
  Told t = eqb t.bar 0 ≡ true → Begins m b t

  -- none of those kinds, and no string
  other : (t : Token) → is_accent t.kind ≡ false → eqb t.kind Grave ≡ false → eqb t.kind String ≡ false → eqb b 96 ≡ false → Told t
  other t p q r n e =
      record { accent = p ∙ sym n; in-file = λ z. q ∙ sym n; string = λ z. true_false (eqb t.kind String) z r }

  module _ (n : eqb b 96 ≡ false) where
    string_told : eqb b 34 ≡ true → Told (string_token s i)
    unfolding string_token
    string_told h =
        by_test Told (eqb (get_or s (i + 1) 0) 34 && eqb (get_or s (i + 2) 0) 34)
        (λ q e. record { accent = sym n; in-file = λ z. sym n; string = λ z. h })
        (λ q e. record { accent = sym n; in-file = λ z. sym n; string = λ z. h })

    slash_told : Told (slash_token m s i)
    unfolding slash_token
    slash_told =
        by_test Told m.marks (λ q. other _ refl refl refl n)
        (λ q. by_test Told (eqb (get_or s (i + 1) 0) 47) (λ q. other _ refl refl refl n)
        (λ q. by_test Told (eqb (get_or s (i + 1) 0) 42) (λ q. other _ refl refl refl n) (λ q. other _ refl refl refl n)))

    backslash_told : Told (backslash_token m s i)
    unfolding backslash_token
    backslash_told =
        by_test Told (m.define && eqb (get_or s (i + 1) 0) 10) (λ q. other _ refl refl refl n)
        (λ q. by_test Told m.marks (λ q. other _ refl refl refl n)
        (λ q. by_test Told (eqb (span_end true true s (i + 1)).end (i + 1)) (λ q. other _ refl refl refl n) (λ q. other _ refl refl refl n)))

    digits_told : (j : ℕ) → Told (digits_token s i j)
    unfolding digits_token
    digits_told j = by_test Told (is_base (get_or s j 0)) (λ q. other _ refl refl refl n) (λ q. other _ refl refl refl n)

    based_told : Told (based_token s i)
    unfolding based_token
    based_told = by_test Told (is_sign (get_or s (i + 1) 0)) (λ q. digits_told (i + 2)) (λ q. digits_told (i + 1))

  module _ (a : eqb b 96 ≡ true) where
    name_told : (t : Token) → eqb t.kind Grave ≡ true → is_accent t.kind ≡ true → eqb t.kind String ≡ false → Told t
    name_told t g k r e =
        record { accent = k ∙ sym a; in-file = λ z. g ∙ sym a; string = λ z. true_false (eqb t.kind String) z r }

    -- a mark is barred in a file
    mark_told : (t : Token) → is_accent t.kind ≡ true → eqb t.kind String ≡ false → t.bar ≡ mark_bar m → Told t
    mark_told t k r q e =
        record {
          accent = k ∙ sym a;
          in-file = λ z. true_false (eqb t.bar 0) e (ap (λ (n : ℕ). eqb n 0) q ∙ ap (λ (c : Bool). eqb (cond c 0 4) 0) z);
          string = λ z. true_false (eqb t.kind String) z r;
        }

    barred_told : (t : Token) → eqb t.bar 0 ≡ false → Told t
    barred_told t h e = true_false (eqb t.bar 0) e h

    escaped_told : Told (escaped_grave m s i)
    unfolding escaped_grave
    escaped_told =
        by_test Told (eqb (get_or s (i + 2) 0) 96 && eqb (get_or s (i + 3) 0) 34) (λ q. mark_told _ refl refl refl)
        (λ q. by_test Told m.marks (λ q. barred_told _ refl)
        (λ q. by_test Told (eqb (span_end true true s (i + 2)).end (i + 2)) (λ q. barred_told _ refl) (λ q. name_told _ refl refl refl)))

    grave_told : Told (grave_token m s i)
    unfolding grave_token
    grave_told =
        by_test Told (is_start (get_or s (i + 1) 0)) (λ q. name_told _ refl refl refl)
        (λ q. by_test Told (eqb (get_or s (i + 1) 0) 34) (λ q. mark_told _ refl refl refl)
        (λ q. by_test Told (eqb (get_or s (i + 1) 0) 96) (λ q. mark_told _ refl refl refl)
        (λ q. by_test Told (eqb (get_or s (i + 1) 0) 92) (λ q. escaped_told) (λ q. barred_told _ refl))))

  sign_told : Told (sign_token m s i b)
  unfolding sign_token
  sign_told =
      by_test Told (eqb b 34) (λ q. string_told (apart (λ x. eqb x 34) b 96 q refl) q)
      (λ q. by_test Told (eqb b 47) (λ q. slash_told (apart (λ x. eqb x 47) b 96 q refl))
      (λ q. by_test Told (eqb b 92) (λ q. backslash_told (apart (λ x. eqb x 92) b 96 q refl))
      (λ q. by_test Told (eqb b 39) (λ q. based_told (apart (λ x. eqb x 39) b 96 q refl))
      (λ q. by_test Told (eqb b 96) (λ q. grave_told q) (λ q. other _ refl refl refl q)))))

module _ (m : Mode) (s : List ℕ) (i : ℕ) (l : i < length s) where
  abbrev b : ℕ
  b = get_or s i 0

  token_told : Told m s i b (token_at m s i)
  unfolding token_at
  token_told =
      rw (lt-leb (length s) i l)
      (by_test (Told m s i b) (is_white b) (λ q. other m s i b _ refl refl refl (apart (λ x. is_white x) b 96 q refl))
      (λ q. by_test (Told m s i b) (is_start b) (λ q. other m s i b _ refl refl refl (apart (λ x. is_start x) b 96 q refl))
      (λ q. by_test (Told m s i b) (is_digit b) (λ q. other m s i b _ refl refl refl (apart (λ x. is_digit x) b 96 q refl))
      (λ q. by_test (Told m s i b) (eqb b 10) (λ q. other m s i b _ refl refl refl (apart (λ x. eqb x 10) b 96 q refl))
      (λ q. by_test (Told m s i b) (eqb b 36) (λ q. other m s i b _ refl refl refl (apart (λ x. eqb x 36) b 96 q refl))
      (λ q. sign_told m s i b))))))

  -- the first byte of what it holds
  pub first_byte : get_or (part s (token_at m s i).at (token_at m s i).end) 0 0 ≡ b
  first_byte = rw (token-at m s i, part_more s i (token_at m s i).end (token_ends m s i l) l)

  pub token_begins : eqb (token_at m s i).bar 0 ≡ true → Begins m (get_or (part s (token_at m s i).at (token_at m s i).end) 0 0) (token_at m s i)
  token_begins e = subst (λ (c : ℕ). Begins m c (token_at m s i)) (sym first_byte) (token_told e)
