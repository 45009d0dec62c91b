-- The lent list while the words of a text are written to its front.
-- Assumes nothing.
use Prim.Native.Nat.{ℕ, suc, ◌+◌, ◌-◌, ◌<◌, ◌≤◌}
use mathlib.Core.List.{List, [], ◌∷◌, ◌++◌, append_assoc, append-nil}
use mathlib.Core.Path.{◌≡◌, refl, sym, ap, ◌∙◌}
use native.Mathlib.Omega.{arith}
use lib.ListN.{length, set, drop, length-drop, length-append}
use lib.Seq.{drop-cons, set_at}
use Rattle.std.specs.Prelude.{Ok, Err}
use Rattle.lex.specs.Faults.{fault}
use Rattle.lex.specs.Tokens.{in_file, Name, Grave, token_at}
use Rattle.lex.specs.declared.Mode.{Mode}
use Rattle.lex.specs.declared.Token.{Token}
use Rattle.classify.specs.declared.Ended.{Ended}
use Rattle.classify.specs.Words.{Past, past_grave, word_of, Words, ends, words_of}
use Rattle.classify.specs.Answer.{overwritten, Listed}
use Rattle.classify.proofs.Listing.{rest, rest_whole, rest_out, rest_barred, rest_full, rest_word, rest_other, rest_on, rest_stop}

-- words in front of those to come
abbrev before : List (List ℕ) → Words → Words
before ws w = record { words = ws ++ w.words; number = w.number; place = w.place }

-- n words are written, and those from i on, in the set v, are to come
pub record Written (v₀ : ℕ) (s : List ℕ) (lent words : List (List ℕ)) (v i n : ℕ) : Type 0 where
  pub done : List (List ℕ)
  pub list : words ≡ overwritten done lent
  pub count : n ≡ length done
  pub fits : n ≤ length lent
  pub whole : words_of v₀ s (length lent) ≡ before done (rest v₀ v s (length lent - n) i)

pub written_none : (v₀ : ℕ) (s : List ℕ) (lent : List (List ℕ)) → Written v₀ s lent lent v₀ 0 0
written_none v₀ s lent =
    record { done = []; list = refl; count = refl; fits = omega arith; whole = rest_whole v₀ s (length lent) }

overwritten_length : (ws lent : List (List ℕ)) → length ws ≤ length lent → length (overwritten ws lent) ≡ length lent
overwritten_length ws lent h =
    length-append ws (drop (length ws) lent) ∙ omega (arith, length-drop (length ws) lent)

-- one word more
overwritten_next : (ws lent : List (List ℕ)) (w : List ℕ) (n : ℕ) → n ≡ length ws → n < length lent → set (overwritten ws lent) n w ≡ overwritten (ws ++ (w ∷ [])) lent
overwritten_next ws lent w n e h =
    let l : length ws < length lent = omega arith in
    let k : length (ws ++ (w ∷ [])) ≡ suc (length ws) = length-append ws (w ∷ []) ∙ omega arith in
    rw (k, drop-cons lent (length ws) [] l, append_assoc ws (w ∷ [])) (set_at ws _ _ w n (sym e))

module _ (v₀ : ℕ) (s : List ℕ) (lent words : List (List ℕ)) (v i n : ℕ) (r : Written v₀ s lent words v i n) where
  pub written_length : length words ≡ length lent
  written_length = ap length r.list ∙ overwritten_length r.done lent (omega (arith, r.count))

  -- nothing is to come but a refusal, or the end
  stop : (x y : ℕ) (e : Ended) → rest v₀ v s (length lent - n) i ≡ ends x y → e ≡ record { number = x; place = y; words = n } → Listed v₀ s lent words e
  stop x y e q a =
      let w : words_of v₀ s (length lent) ≡ before r.done (ends x y) = r.whole ∙ ap (before r.done) q in
      record { ended = a ∙ rw (w, append-nil r.done, r.count); list = rw (w, append-nil r.done) r.list }

  -- nothing is written at i, and what follows lies from j on
  on : (v' j : ℕ) → rest v₀ v s (length lent - n) i ≡ rest v₀ v' s (length lent - n) j → Written v₀ s lent words v' j n
  on v' j q =
      record { done = r.done; list = r.list; count = r.count; fits = r.fits; whole = r.whole ∙ ap (before r.done) q }

  pub listed_out : (e : Ended) → length s ≤ i → e ≡ record { number = 0; place = 0; words = n } → Listed v₀ s lent words e
  listed_out e h = stop 0 0 e (rest_out v₀ v s _ i h)

  -- t: the token at i, as the code reads it
  module _ (m : Mode) (t : Token) (h : i < length s) (f : m ≡ in_file) (e : t ≡ token_at m s i) where
    pub listed_barred : (a : Ended) → (t.bar ≡ 0 → ⊥) → a ≡ record { number = t.bar; place = i; words = n } → Listed v₀ s lent words a
    listed_barred a b = stop t.bar i a (rest_barred v₀ v s _ i m t h f e b)

    module _ (b : t.bar ≡ 0) where
      module _ (k : t.kind ≡ Name) where
        pub listed_full : (a : Ended) → length words ≤ n → a ≡ record { number = 21; place = i; words = n } → Listed v₀ s lent words a
        listed_full a l =
            stop 21 i a (rest_full v₀ v s _ i m t h f e b k (omega (arith, written_length)))

        pub written_word : (w : List ℕ) → n < length words → w ≡ word_of s v t → Written v₀ s lent (set words n w) v t.end (n + 1)
        written_word w l a =
            let g : n < length lent = omega (arith, written_length) in
            let q = rest_word v₀ v s (length lent - n) i m t h f e b k (length lent - (n + 1)) (omega arith) in
            record { done = r.done ++ (w ∷ []); list = ap (λ (x : List (List ℕ)). set x n w) r.list ∙ overwritten_next r.done lent w n r.count g; count = sym (length-append r.done (w ∷ []) ∙ omega (arith, r.count)); fits = omega arith; whole = r.whole ∙ rw (q, ← a, append_assoc r.done (w ∷ [])) }

      module _ (k : t.kind ≡ Name → ⊥) where
        pub written_other : (t.kind ≡ Grave → ⊥) → Written v₀ s lent words v t.end n
        written_other g = on v t.end (rest_other v₀ v s _ i m t h f e b k g)

        module _ (g : t.kind ≡ Grave) (p : Past) (q : p ≡ past_grave v₀ v s t) where
          pub written_on : (j v' : ℕ) → p ≡ Ok (j, v') → Written v₀ s lent words v' j n
          written_on j v' o = on v' j (rest_on v₀ v s _ i m t h f e b k g p q j v' o)

          pub listed_stop : (a : Ended) (x y : ℕ) → p ≡ Err (fault x y) → a ≡ record { number = x; place = y; words = n } → Listed v₀ s lent words a
          listed_stop a x y o = stop x y a (rest_stop v₀ v s _ i m t h f e b k g p q x y o)
