-- Where the next word starts, by the byte or token at i; and where a word that is found lies.
-- Assumes nothing.
use Prim.Native.Nat.{ℕ, ◌+◌, ◌<◌, ◌≤◌}
use mathlib.Core.Bool.{Bool, true, false, not, ◌&&◌, ◌||◌, and-false}
use mathlib.Core.List.{List, ◌∷◌}
use mathlib.Core.Path.{◌≡◌, refl, sym, subst}
use native.Mathlib.Omega.{arith}
use lib.Dec.{eqb, leb}
use lib.ListN.{length, get_or}
use borrow.Author.Tests.{leb-true, leb-false, lt-leb, ne_eqb, not-true}
use Rattle.lex.specs.declared.Mode.{Mode}
use Rattle.lex.specs.declared.Token.{Token}
use Rattle.lex.specs.Classes.{is_white, is_digit, is_start, is_sign, is_base}
use Rattle.lex.specs.Scans.{span_end}
use Rattle.lex.specs.Tokens.{in_file, White, Newline, End, is, is_gap, plain, string_token, backslash_token, digits_token, based_token, escaped_grave, grave_token, sign_token, token_at, tokens}
use Rattle.lex.proofs.Tests.{by_test, true_false}
use Rattle.lex.proofs.Progress.{token_past, token-at, token_ends, token_within}
use Rattle.lex.proofs.Listing.{tokens_out, file_mode, file-tokens, by_tokens}
use Rattle.directive.specs.declared.Word.{Word}
use Rattle.directive.specs.declared.Word.TheVariants.{Found, Missing, Barred}
use Rattle.directive.specs.Words.{is_between, start_in, word_start, word_at}

-- ---- the byte at i

-- no spacing
abbrev Solid : Token → Type 0
Solid t = is_gap t ≡ false

module _ (s : List ℕ) (i : ℕ) where
  string_solid : Solid (string_token s i)
  unfolding string_token
  string_solid = by_test Solid (eqb (get_or s (i + 1) 0) 34 && eqb (get_or s (i + 2) 0) 34) (λ e. refl) (λ e. refl)

  backslash_solid : Solid (backslash_token in_file s i)
  unfolding backslash_token
  backslash_solid = by_test Solid (eqb (span_end true true s (i + 1)).end (i + 1)) (λ e. refl) (λ e. refl)

  digits_solid : (j : ℕ) → Solid (digits_token s i j)
  unfolding digits_token
  digits_solid j = by_test Solid (is_base (get_or s j 0)) (λ e. refl) (λ e. refl)

  based_solid : Solid (based_token s i)
  unfolding based_token
  based_solid = by_test Solid (is_sign (get_or s (i + 1) 0)) (λ e. digits_solid (i + 2)) (λ e. digits_solid (i + 1))

  escaped_grave_solid : Solid (escaped_grave in_file s i)
  unfolding escaped_grave
  escaped_grave_solid =
      by_test Solid (eqb (get_or s (i + 2) 0) 96 && eqb (get_or s (i + 3) 0) 34) (λ e. refl)
      (λ e. by_test Solid (eqb (span_end true true s (i + 2)).end (i + 2)) (λ e. refl) (λ e. refl))

  grave_solid : Solid (grave_token in_file s i)
  unfolding grave_token
  grave_solid =
      by_test Solid (is_start (get_or s (i + 1) 0)) (λ e. refl)
      (λ e. by_test Solid (eqb (get_or s (i + 1) 0) 34) (λ e. refl)
      (λ e. by_test Solid (eqb (get_or s (i + 1) 0) 96) (λ e. refl)
      (λ e. by_test Solid (eqb (get_or s (i + 1) 0) 92) (λ e. escaped_grave_solid) (λ e. refl))))

  sign_solid : (b : ℕ) → eqb b 47 ≡ false → Solid (sign_token in_file s i b)
  unfolding sign_token
  sign_solid b n =
      by_test Solid (eqb b 34) (λ e. string_solid)
      (λ e. by_test Solid (eqb b 47) (λ e. true_false (eqb b 47) e n)
      (λ e. by_test Solid (eqb b 92) (λ e. backslash_solid)
      (λ e. by_test Solid (eqb b 39) (λ e. based_solid)
      (λ e. by_test Solid (eqb b 96) (λ e. grave_solid) (λ e. refl)))))

  -- a byte other than white ones and `/` begins no spacing
  token_solid : is_white (get_or s i 0) ≡ false → eqb (get_or s i 0) 47 ≡ false → Solid (token_at in_file s i)
  unfolding token_at
  token_solid w n =
      let b : ℕ = get_or s i 0 in
      by_test Solid (leb (length s) i) (λ e. refl)
      (λ e. by_test Solid (is_white b) (λ e. true_false (is_white b) e w)
      (λ e. by_test Solid (is_start b) (λ e. refl)
      (λ e. by_test Solid (is_digit b) (λ e. refl)
      (λ e. by_test Solid (eqb b 10) (λ e. refl)
      (λ e. by_test Solid (eqb b 36) (λ e. refl) (λ e. sign_solid b n))))))

  white_token : i < length s → is_white (get_or s i 0) ≡ true → token_at in_file s i ≡ plain White i (i + 1) 0
  unfolding token_at
  white_token h e = simp (lt-leb (length s) i h, e)

-- ---- the token at i

module _ (s : List ℕ) (i : ℕ) where
  pub start_out : length s ≤ i → word_start s i ≡ i
  unfolding word_start start_in
  start_out h = rw (tokens_out in_file s i h)

  -- t: the token at i, as the code reads it
  module _ (m : Mode) (t : Token) (h : i < length s) (f : m ≡ in_file) (e : t ≡ token_at m s i) where
    pub token_first : tokens in_file s i ≡ t ∷ tokens in_file s t.end
    token_first = rw (e, f) (file-tokens s i h)

    pub token_goes : i < t.end
    token_goes = rw (e, f) (token_ends in_file s i h)

    pub token_lies : (t.at < t.end) × (t.end < length s + 1)
    token_lies =
        let a : t.at ≡ i = rw (e, f) (token-at in_file s i) in
        let p : i < t.end = token_goes in
        let w : t.end ≤ length s = rw (e, f) (token_within in_file s i h) in
        (omega arith, omega arith)

    pub start_on : is_between s t ≡ true → word_start s i ≡ word_start s t.end
    unfolding word_start start_in
    start_on b = rw (token_first, b)

    pub start_here : is_between s t ≡ false → word_start s i ≡ i
    unfolding word_start start_in
    start_here b = rw (token_first, b)

  module _ (h : i < length s) where
    pub start_white : is_white (get_or s i 0) ≡ true → word_start s i ≡ word_start s (i + 1)
    start_white w = start_on in_file (plain White i (i + 1) 0) h refl (sym (white_token s i h w)) refl

    pub start_solid : is_white (get_or s i 0) ≡ false → (get_or s i 0 ≡ 47 → ⊥) → word_start s i ≡ i
    start_solid w n =
        let t : Token = token_at in_file s i in
        start_here in_file t h refl refl (rw (token_solid s i w (ne_eqb (get_or s i 0) 47 n)) (and-false (eqb t.bar 0)))

-- ---- where the next word starts

-- What holds at i, and past a token that may stand between words if it holds where that token starts, holds where the
-- next word from i on starts.
module _ (s : List ℕ) (P : ℕ → Type 0)
    (next : (j : ℕ) → j < length s → is_between s (token_at in_file s j) ≡ true → P j → P (token_at in_file s j).end) where
  pub by_start : (i : ℕ) → P i → P (word_start s i)
  unfolding word_start start_in
  by_start i =
      by_tokens s (λ (m : Mode) (j : ℕ) (ts : List Token). m ≡ in_file → P j → P (start_in s j ts)) (λ m j l f p. p)
      (λ m j l q f p. p)
      (λ m j l q r f p. by_test P (is_between s (token_at m s j))
      (λ e. r (rw f (file_mode (token_at in_file s j))) (rw f (next j l (rw f at e) p))) (λ e. p)) in_file i refl

pub start_past : (s : List ℕ) (i : ℕ) → i ≤ word_start s i
start_past s i = by_start s (λ (j : ℕ). i ≤ j) (λ j l e p. omega (arith, token_ends in_file s j l)) i (omega arith)

-- ---- the next word

module _ (s : List ℕ) (i : ℕ) where
  -- what holds of none, and of the token where it starts, if that is in the text, holds of the next word
  pub by_next : (P : Word → Type 0) → P Missing
      → (word_start s i < length s → eqb (token_at in_file s (word_start s i)).bar 0 ≡ false
      → P (Barred (token_at in_file s (word_start s i)).bar (token_at in_file s (word_start s i)).at))
      → (word_start s i < length s → P (Found (token_at in_file s (word_start s i)))) → P (word_at s i)
  unfolding word_at
  by_next P missing barred found = go (leb (length s) (word_start s i)) refl
    where
      t : Token
      t = token_at in_file s (word_start s i)

      go : (b : Bool) → leb (length s) (word_start s i) ≡ b → P (word_at s i)
      go true e = rw (token_past in_file s (word_start s i) (leb-true (length s) (word_start s i) e)) missing
      go false e =
          let l : word_start s i < length s = leb-false (length s) (word_start s i) e in
          by_test P (not (eqb t.bar 0)) (λ n. barred l (not-true (eqb t.bar 0) n))
          (λ n. by_test P (is Newline t || (is_gap t || is End t)) (λ n. missing) (λ n. found l))

-- a word that is found starts in the text
FoundIn : List ℕ → Word → Type 0
FoundIn s (Found t) = t.at < length s
FoundIn s Missing = Unit {0}
FoundIn s (Barred n p) = Unit {0}

pub found_inside : (s : List ℕ) (i : ℕ) (t : Token) → word_at s i ≡ Found t → t.at < length s
unfolding FoundIn
found_inside s i t e =
    subst (FoundIn s) e (by_next s i (FoundIn s) tt (λ l n. tt) (λ l. omega (arith, token-at in_file s (word_start s i))))
