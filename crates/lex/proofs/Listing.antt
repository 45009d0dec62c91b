-- The tokens from a position on, one at a time and without fuel.
-- Assumes nothing.
use Prim.Native.Nat.{ℕ, zero, suc, ◌+◌, ◌-◌, ◌<◌, ◌≤◌}
use mathlib.Core.Bool.{Bool, true, false, cond, ◌&&◌, ◌||◌}
use mathlib.Core.List.{List, [], ◌∷◌}
use mathlib.Core.Path.{◌≡◌, refl, sym, ap, ◌∙◌}
use native.Mathlib.Omega.{arith}
use lib.Dec.{leb}
use lib.ListN.{length}
use borrow.Author.Tests.{le-leb, lt-leb, leb-true, leb-false}
use Rattle.lex.specs.declared.Mode.{Mode}
use Rattle.lex.specs.declared.Token.{Token}
use Rattle.lex.specs.Tokens.{in_file, Newline, Quote, is, token_at, mode_after, tokens_from, tokens}
use Rattle.lex.proofs.Tests.{by_test}
use Rattle.lex.proofs.Progress.{token_ends}

-- a quote mark does not change what is read
pub mode_define : (m : Mode) (t : Token) → (mode_after m t).define ≡ m.define
mode_define m t = by_test (λ (r : Mode). r.define ≡ m.define) (is Quote t) (λ e. refl) (λ e. refl)

pub mode_text : (m : Mode) (t : Token) → (mode_after m t).text ≡ m.text
mode_text m t = by_test (λ (r : Mode). r.text ≡ m.text) (is Quote t) (λ e. refl) (λ e. refl)

-- in a file a quote mark does not change the mode
pub file_mode : (t : Token) → mode_after in_file t ≡ in_file
file_mode t = by_test (λ (m : Mode). m ≡ in_file) (is Quote t) (λ e. refl) (λ e. refl)

-- the tokens with fuel to spare
out : (n : ℕ) (m : Mode) (s : List ℕ) (i : ℕ) → length s ≤ i → tokens_from n m s i ≡ []
unfolding tokens_from
out zero m s i h = refl
out (suc n) m s i h = rw (le-leb (length s) i h)

alike : (n k : ℕ) (m : Mode) (s : List ℕ) (i : ℕ) (b : Bool) → leb (length s) i ≡ b
    → (i < length s → tokens_from n (mode_after m (token_at m s i)) s (token_at m s i).end ≡ tokens_from k (mode_after m (token_at m s i)) s (token_at m s i).end)
    → tokens_from (suc n) m s i ≡ tokens_from (suc k) m s i
unfolding tokens_from
alike n k m s i true e f = let l : length s ≤ i = leb-true (length s) i e in out (suc n) m s i l ∙ sym (out (suc k) m s i l)
alike n k m s i false e f =
    let t = token_at m s i in
    ap (λ (r : List Token). cond (leb (length s) i || (m.define && is Newline t)) [] (t ∷ r)) (f (leb-false (length s) i e))

enough : (n k : ℕ) (m : Mode) (s : List ℕ) (i : ℕ) → length s - i ≤ n → length s - i ≤ k → tokens_from n m s i ≡ tokens_from k m s i
enough zero k m s i h g = let l : length s ≤ i = omega arith in out zero m s i l ∙ sym (out k m s i l)
enough (suc n) zero m s i h g = let l : length s ≤ i = omega arith in out (suc n) m s i l ∙ sym (out zero m s i l)
enough (suc n) (suc k) m s i h g =
    alike n k m s i (leb (length s) i) refl
    (λ l. let p : i < (token_at m s i).end = token_ends m s i l in
    enough n k (mode_after m (token_at m s i)) s (token_at m s i).end (omega arith) (omega arith))

module _ (m : Mode) (s : List ℕ) (i : ℕ) where
  pub tokens_out : length s ≤ i → tokens m s i ≡ []
  unfolding tokens
  tokens_out h = out (length s - i) m s i h

  module _ (h : i < length s) where
    tokens_more : tokens m s i ≡ cond (m.define && is Newline (token_at m s i)) [] (token_at m s i ∷ tokens (mode_after m (token_at m s i)) s (token_at m s i).end)
    unfolding tokens tokens_from
    tokens_more =
        let q : length s - i ≡ suc (length s - suc i) = omega arith in
        let t = token_at m s i in
        let p : i < t.end = token_ends m s i h in
        rw (q, lt-leb (length s) i h) (ap (λ (r : List Token). cond (m.define && is Newline t) [] (t ∷ r)) (enough (length s - suc i) (length s - t.end) (mode_after m t) s t.end (omega arith) (omega arith)))

    -- a definition stops at its newline
    pub tokens_stop : (m.define && is Newline (token_at m s i)) ≡ true → tokens m s i ≡ []
    tokens_stop e = tokens_more ∙ rw e

    -- the token at i, and those past it
    pub tokens_next : (m.define && is Newline (token_at m s i)) ≡ false
        → tokens m s i ≡ token_at m s i ∷ tokens (mode_after m (token_at m s i)) s (token_at m s i).end
    tokens_next e = tokens_more ∙ rw e

    -- outside a definition a newline is a token like others
    pub tokens_on : m.define ≡ false → tokens m s i ≡ token_at m s i ∷ tokens (mode_after m (token_at m s i)) s (token_at m s i).end
    tokens_on e = tokens_next (rw e)

pub file-tokens : (s : List ℕ) (i : ℕ) → i < length s → tokens in_file s i ≡ token_at in_file s i ∷ tokens in_file s (token_at in_file s i).end
file-tokens s i h =
    tokens_on in_file s i h refl ∙ ap (λ (m : Mode). token_at in_file s i ∷ tokens m s (token_at in_file s i).end) (file_mode (token_at in_file s i))

-- What holds of no tokens at the text's end and at a definition's newline, and of the token at i with those past it if
-- it holds of those past it, holds of the tokens from any i on.
module _ (s : List ℕ) (P : Mode → ℕ → List Token → Type 0)
    (at_end : (m : Mode) (i : ℕ) → length s ≤ i → P m i [])
    (at-stop : (m : Mode) (i : ℕ) → i < length s → (m.define && is Newline (token_at m s i)) ≡ true → P m i [])
    (at_next : (m : Mode) (i : ℕ) → i < length s → (m.define && is Newline (token_at m s i)) ≡ false
    → P (mode_after m (token_at m s i)) (token_at m s i).end (tokens (mode_after m (token_at m s i)) s (token_at m s i).end)
    → P m i (token_at m s i ∷ tokens (mode_after m (token_at m s i)) s (token_at m s i).end)) where
  step : (m : Mode) (i : ℕ) (a b : Bool) → leb (length s) i ≡ a → (m.define && is Newline (token_at m s i)) ≡ b
      → (i < length s → P (mode_after m (token_at m s i)) (token_at m s i).end (tokens (mode_after m (token_at m s i)) s (token_at m s i).end))
      → P m i (tokens m s i)
  step m i true b p q f = let l : length s ≤ i = leb-true (length s) i p in rw (tokens_out m s i l) (at_end m i l)
  step m i false true p q f = let l : i < length s = leb-false (length s) i p in rw (tokens_stop m s i l q) (at-stop m i l q)
  step m i false false p q f = let l : i < length s = leb-false (length s) i p in rw (tokens_next m s i l q) (at_next m i l q (f l))

  walk : (n : ℕ) (m : Mode) (i : ℕ) → length s ≤ n + i → P m i (tokens m s i)
  walk zero m i h = let l : length s ≤ i = omega arith in rw (tokens_out m s i l) (at_end m i l)
  walk (suc n) m i h =
      step m i (leb (length s) i) (m.define && is Newline (token_at m s i)) refl refl
      (λ l. let e : i < (token_at m s i).end = token_ends m s i l in walk n (mode_after m (token_at m s i)) (token_at m s i).end (omega arith))

  pub by_tokens : (m : Mode) (i : ℕ) → P m i (tokens m s i)
  by_tokens m i = walk (length s) m i (omega arith)
