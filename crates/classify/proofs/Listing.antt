-- The words from a position on, one token at a time and without fuel; and the lent list as it is written.
-- Assumes nothing.
use Prim.Native.Nat.{ℕ, zero, suc, ◌-◌, ◌<◌, ◌≤◌}
use mathlib.Core.Bool.{Bool, true, false, cond, not}
use mathlib.Core.List.{List}
use mathlib.Core.Path.{◌≡◌, refl, sym, ap, ◌∙◌}
use native.Mathlib.Omega.{arith}
use lib.Dec.{eqb, leb}
use lib.ListN.{length}
use Rattle.std.specs.Prelude.{Ok, Err}
use borrow.Author.Tests.{eq-eqb, ne_eqb, le-leb, lt-leb, leb-true, leb-false}
use Rattle.lex.specs.Faults.{fault}
use Rattle.lex.specs.Tokens.{in_file, Name, Grave, is, token_at}
use Rattle.lex.specs.declared.Mode.{Mode}
use Rattle.lex.specs.declared.Token.{Token}
use Rattle.lex.proofs.Progress.{token_ends}
use Rattle.classify.specs.Words.{Past, past_grave, word_of, Words, ends, word_then, onward, with_room, words_from, words_of}
use Rattle.classify.proofs.Passing.{OnPast, grave_on}

-- one turn by the token t at i; go v k j: what follows from j on, in the set v, with room for k words
abbrev turn : ℕ → ℕ → List ℕ → ℕ → ℕ → Token → (ℕ → ℕ → ℕ → Words) → Words
turn v₀ v s k i t go =
    cond (not (eqb t.bar 0)) (ends t.bar i)
    (cond (is Name t) (with_room k i (word_of s v t) (λ k'. go v k' t.end))
    (cond (is Grave t) (onward (past_grave v₀ v s t) (λ e v'. go v' k e))
    (go v k t.end)))

room_alike : (k p : ℕ) (w : List ℕ) (f g : ℕ → Words) → ((k' : ℕ) → f k' ≡ g k') → with_room k p w f ≡ with_room k p w g
room_alike zero p w f g h = refl
room_alike (suc k) p w f g h = ap (word_then w) (h k)

onward_alike : (i : ℕ) (p : Past) (f g : ℕ → ℕ → Words) → OnPast i p → ((e v : ℕ) → i ≤ e → f e v ≡ g e v) → onward p f ≡ onward p g
unfolding OnPast
onward_alike i (Ok x) f g o h = h x.0 x.1 o
onward_alike i (Err u) f g o h = refl

-- a turn looks only at what follows past the token
turn_alike : (v₀ v : ℕ) (s : List ℕ) (k i : ℕ) (t : Token) (f g : ℕ → ℕ → ℕ → Words)
    → ((v k j : ℕ) → t.end ≤ j → f v k j ≡ g v k j) → turn v₀ v s k i t f ≡ turn v₀ v s k i t g
turn_alike v₀ v s k i t f g h =
    let l : t.end ≤ t.end = omega arith in
    let a = room_alike k i (word_of s v t) (λ k'. f v k' t.end) (λ k'. g v k' t.end) (λ k'. h v k' t.end l) in
    let b = onward_alike t.end (past_grave v₀ v s t) (λ e v'. f v' k e) (λ e v'. g v' k e) (grave_on v₀ v s t) (λ e v' q. h v' k e q) in
    let c = h v k t.end l in
    rw (a, b, c)

module _ (v₀ : ℕ) (s : List ℕ) where
  out : (n v k i : ℕ) → length s ≤ i → words_from n v₀ v s k i ≡ ends 0 0
  unfolding words_from
  out zero v k i h = refl
  out (suc n) v k i h = rw (le-leb (length s) i h)

  within : (n v k i : ℕ) → i < length s → words_from (suc n) v₀ v s k i ≡ turn v₀ v s k i (token_at in_file s i) (λ v k j. words_from n v₀ v s k j)
  unfolding words_from
  within n v k i h = rw (lt-leb (length s) i h)

  alike : (n m v k i : ℕ) (b : Bool) → leb (length s) i ≡ b
      → (i < length s → (v k j : ℕ) → (token_at in_file s i).end ≤ j → words_from n v₀ v s k j ≡ words_from m v₀ v s k j)
      → words_from (suc n) v₀ v s k i ≡ words_from (suc m) v₀ v s k i
  alike n m v k i true q f =
      let l : length s ≤ i = leb-true (length s) i q in
      out (suc n) v k i l ∙ sym (out (suc m) v k i l)
  alike n m v k i false q f =
      let l : i < length s = leb-false (length s) i q in
      within n v k i l ∙ turn_alike v₀ v s k i (token_at in_file s i) (λ v k j. words_from n v₀ v s k j) (λ v k j. words_from m v₀ v s k j) (f l) ∙ sym (within m v k i l)

  -- any two fuels of at least what is left of the text
  enough : (n m v k i : ℕ) → length s - i ≤ n → length s - i ≤ m → words_from n v₀ v s k i ≡ words_from m v₀ v s k i
  enough zero m v k i h g = let l : length s ≤ i = omega arith in out zero v k i l ∙ sym (out m v k i l)
  enough (suc n) zero v k i h g = let l : length s ≤ i = omega arith in out (suc n) v k i l ∙ sym (out zero v k i l)
  enough (suc n) (suc m) v k i h g =
      alike n m v k i (leb (length s) i) refl
      (λ l v k j q. let p : i < (token_at in_file s i).end = token_ends in_file s i l in
      enough n m v k j (omega arith) (omega arith))

-- the words from i on
unfoldable pub rest : ℕ → ℕ → List ℕ → ℕ → ℕ → Words
rest v₀ v s k i = words_from (length s - i) v₀ v s k i

-- those of a text
pub rest_whole : (v : ℕ) (s : List ℕ) (k : ℕ) → words_of v s k ≡ rest v v s (k - 0) 0
unfolding words_of rest
rest_whole v s k =
    let a : length s - 0 ≡ length s = omega arith in
    let b : k - 0 ≡ k = omega arith in
    rw (a, b)

module _ (v₀ v : ℕ) (s : List ℕ) (k i : ℕ) where
  pub rest_out : length s ≤ i → rest v₀ v s k i ≡ ends 0 0
  unfolding rest
  rest_out h = out v₀ s (length s - i) v k i h

  -- t: the token at i, as the code reads it
  module _ (m : Mode) (t : Token) (h : i < length s) (f : m ≡ in_file) (e : t ≡ token_at m s i) where
    rest_turn : rest v₀ v s k i ≡ turn v₀ v s k i t (λ v k j. rest v₀ v s k j)
    unfolding rest
    rest_turn =
        let u = token_at in_file s i in
        let p : i < u.end = token_ends in_file s i h in
        let q : length s - i ≡ suc (length s - suc i) = omega arith in
        rw (e, f, q) (within v₀ s (length s - suc i) v k i h ∙ turn_alike v₀ v s k i u (λ v k j. words_from (length s - suc i) v₀ v s k j) (λ v k j. words_from (length s - j) v₀ v s k j) (λ v k j l. enough v₀ s (length s - suc i) (length s - j) v k j (omega arith) (omega arith)))

    pub rest_barred : (t.bar ≡ 0 → ⊥) → rest v₀ v s k i ≡ ends t.bar i
    rest_barred b = rest_turn ∙ rw (ne_eqb t.bar 0 b)

    module _ (b : t.bar ≡ 0) where
      module _ (n : t.kind ≡ Name) where
        pub rest_full : k ≡ 0 → rest v₀ v s k i ≡ ends 21 i
        rest_full z = rest_turn ∙ rw (eq-eqb t.bar 0 b, eq-eqb t.kind Name n, z)

        pub rest_word : (k' : ℕ) → k ≡ suc k' → rest v₀ v s k i ≡ word_then (word_of s v t) (rest v₀ v s k' t.end)
        rest_word k' z = rest_turn ∙ rw (eq-eqb t.bar 0 b, eq-eqb t.kind Name n, z)

      module _ (n : t.kind ≡ Name → ⊥) where
        pub rest_other : (t.kind ≡ Grave → ⊥) → rest v₀ v s k i ≡ rest v₀ v s k t.end
        rest_other g = rest_turn ∙ rw (eq-eqb t.bar 0 b, ne_eqb t.kind Name n, ne_eqb t.kind Grave g)

        module _ (g : t.kind ≡ Grave) (p : Past) (q : p ≡ past_grave v₀ v s t) where
          pub rest_on : (e v' : ℕ) → p ≡ Ok (e, v') → rest v₀ v s k i ≡ rest v₀ v' s k e
          rest_on e v' o = rest_turn ∙ rw (eq-eqb t.bar 0 b, ne_eqb t.kind Name n, eq-eqb t.kind Grave g, ← q, o)

          pub rest_stop : (x y : ℕ) → p ≡ Err (fault x y) → rest v₀ v s k i ≡ ends x y
          rest_stop x y o = rest_turn ∙ rw (eq-eqb t.bar 0 b, ne_eqb t.kind Name n, eq-eqb t.kind Grave g, ← q, o)
