-- The formals of a list, one at a time and without fuel: each ends past where it starts and within the text.
-- Assumes nothing.
use Prim.Native.Nat.{ℕ, zero, suc, ◌-◌, ◌<◌, ◌≤◌}
use mathlib.Core.Bool.{Bool, true, false, cond, ◌&&◌, ◌||◌}
use mathlib.Core.List.{List, [], ◌∷◌}
use mathlib.Core.Path.{◌≡◌, refl, sym, ap, subst, ◌∙◌}
use native.Mathlib.Omega.{arith}
use lib.Dec.{eqb, leb}
use lib.ListN.{length, get_or}
use borrow.Author.Tests.{leb-true, leb-false}
use Rattle.std.specs.Prelude.{Result, Ok, Err}
use Rattle.lex.specs.declared.Mode.{Mode}
use Rattle.lex.specs.declared.Token.{Token}
use Rattle.lex.specs.Tokens.{in_definition, Name, Byte, End, is, is_byte, is_gap, token_at, mode_after, tokens}
use Rattle.lex.proofs.Tests.{by_test, and_left, true_false}
use Rattle.lex.proofs.Progress.{Inside, token-at, token_past, token_ends, token_within}
use Rattle.lex.proofs.Listing.{tokens_out, by_tokens}
use Rattle.brackets.specs.Steps.{Step, on, done, torn}
use Rattle.definition.specs.Heads.{gap_in, gap_end, next_at}
use Rattle.definition.specs.Lists.{Ending, step_at, by_step, default_in, default_end, given_formal, formal_by, formal_at, Formals, ill, whole, also, formals_from, formals_at, behind}
use Rattle.definition.specs.declared.Formal.{Formal}
use Rattle.definition.specs.declared.ReadError.{ReadError}
use Rattle.definition.specs.declared.ReadError.TheVariants.{IllFormed, NoRoom}

-- a token of a kind other than End starts in the text
pub kind_inside : (m : Mode) (s : List ℕ) (i k : ℕ) → eqb End k ≡ false → is k (token_at m s i) ≡ true → i < length s
kind_inside m s i k z e = go (leb (length s) i) refl
  where
    go : (b : Bool) → leb (length s) i ≡ b → i < length s
    go true q = true_false (eqb End k) (ap (λ (t : Token). is k t) (sym (token_past m s i (leb-true (length s) i q))) ∙ e) z
    go false q = leb-false (length s) i q

either_left : (a b d : Bool) → ((a && b) || (a && d)) ≡ true → a ≡ true
either_left true b d e = refl
either_left false b d e = e

-- spacing ends within the text
gap-in : (s : List ℕ) (m : Mode) (i : ℕ) → i ≤ length s → Inside s i (gap_in i (tokens m s i))
unfolding gap_in
gap-in s m i =
    by_tokens s (λ (m : Mode) (i : ℕ) (ts : List Token). i ≤ length s → Inside s i (gap_in i ts))
    (λ m i l h. record { past = omega arith; within = h }) (λ m i l q h. record { past = omega arith; within = h })
    (λ m i l q r h. let t = token_at m s i in
    by_test (Inside s i) (is_gap t)
    (λ e. let f = r (token_within m s i l) in record { past = omega (arith, f.past, token_ends m s i l); within = f.within })
    (λ e. record { past = omega arith; within = h })) m i

pub gap_inside : (s : List ℕ) (i : ℕ) → i ≤ length s → Inside s i (gap_end s i)
unfolding gap_end
gap_inside s i h = gap-in s in_definition i h

-- a default from i on ends in the text
EndsIn : List ℕ → ℕ → Ending → Type 0
EndsIn s i (Ok (e, x)) = (i ≤ e) × (e < x) × (x ≤ length s)
EndsIn s i (Err IllFormed) = Unit {0}
EndsIn s i (Err NoRoom) = ⊥

earlier : (s : List ℕ) (i j : ℕ) → i ≤ j → (r : Ending) → EndsIn s j r → EndsIn s i r
unfolding EndsIn
earlier s i j h (Ok (e, x)) p = (omega arith, p.1, p.2)
earlier s i j h (Err IllFormed) p = tt
earlier s i j h (Err NoRoom) p = p

by-step : (P : Ending → Type 0) (p : Step) (t : Token) (go : List ℕ → Ending) → ((ks : List ℕ) → P (go ks)) → P (Ok (t.at, t.end))
    → P (Err IllFormed) → P (by_step p t go)
by-step P (on ks) t go f d n = f ks
by-step P done t go f d n = d
by-step P torn t go f d n = n

default-in : (s : List ℕ) (m : Mode) (i : ℕ) (ks : List ℕ) → EndsIn s i (default_in s ks (tokens m s i))
unfolding EndsIn default_in
default-in s m i =
    by_tokens s (λ (m : Mode) (i : ℕ) (ts : List Token). (ks : List ℕ) → EndsIn s i (default_in s ks ts))
    (λ m i l ks. tt) (λ m i l q ks. tt)
    (λ m i l q r ks. let t = token_at m s i in
    let g : i < t.end = token_ends m s i l in
    let a : t.at ≡ i = token-at m s i in
    let rest = tokens (mode_after m t) s t.end in
    by-step (EndsIn s i) (step_at s t ks) t (λ ks'. default_in s ks' rest) (λ ks'. earlier s i t.end (omega arith) (default_in s ks' rest) (r ks'))
    (omega arith, omega arith, token_within m s i l) tt) m i

-- a formal from i on ends in the text
FormalIn : List ℕ → ℕ → Result Formal ReadError → Type 0
FormalIn s i (Ok f) = (i < f.next) × (f.next ≤ length s)
FormalIn s i (Err IllFormed) = Unit {0}
FormalIn s i (Err NoRoom) = ⊥

given_in : (s : List ℕ) (t : Token) (i a : ℕ) → i ≤ a → (r : Ending) → EndsIn s a r → FormalIn s i (given_formal s t a r)
unfolding EndsIn FormalIn
given_in s t i a h (Ok (e, x)) p = (omega arith, p.2)
given_in s t i a h (Err IllFormed) p = tt
given_in s t i a h (Err NoRoom) p = p

-- no formal starts past the text
pub formal_out : (s : List ℕ) (i : ℕ) → length s ≤ i → formal_at s i ≡ Err IllFormed
unfolding formal_at gap_end gap_in
formal_out s i h = rw (tokens_out in_definition s i h, token_past in_definition s i h)

-- by the token u behind its name t
name_in : (s : List ℕ) (i : ℕ) (t u : Token) → (is Byte u ≡ true → (i < u.end) × (u.end ≤ length s)) → FormalIn s i (formal_by s t u)
unfolding FormalIn default_end
name_in s i t u f =
    by_test (FormalIn s i) (is_byte s 61 u)
    (λ d. let g = f (and_left (is Byte u) (eqb (get_or s u.at 0) 61) d) in given_in s t i u.end (omega arith) (default_end s u.end) (default-in s in_definition u.end []))
    (λ d. by_test (FormalIn s i) (is_byte s 44 u || is_byte s 41 u)
    (λ d. f (either_left (is Byte u) (eqb (get_or s u.at 0) 44) (eqb (get_or s u.at 0) 41) d)) (λ d. tt))

formal_in : (s : List ℕ) (i : ℕ) → FormalIn s i (formal_at s i)
unfolding FormalIn formal_at
formal_in s i = go (leb (length s) i) refl
  where
    go : (b : Bool) → leb (length s) i ≡ b → FormalIn s i (formal_at s i)
    go true q = rw (formal_out s i (leb-true (length s) i q)) tt
    go false q =
        let l : i < length s = leb-false (length s) i q in
        by_test (FormalIn s i) (is Name (next_at s i))
        (λ e. let a = gap_end s i in
        let ai = gap_inside s i (omega arith) in
        let al : a < length s = kind_inside in_definition s a Name refl e in
        let t = token_at in_definition s a in
        let te : a < t.end = token_ends in_definition s a al in
        let bi = gap_inside s t.end (token_within in_definition s a al) in
        let b = gap_end s t.end in
        name_in s i t (token_at in_definition s b)
        (λ d. let bl : b < length s = kind_inside in_definition s b Byte refl d in
        (omega (arith, ai.past, bi.past, token_ends in_definition s b bl), token_within in_definition s b bl)))
        (λ e. tt)

module _ (s : List ℕ) (i : ℕ) where
  -- a formal is not empty, and ends within the text
  pub formal_inside : (f : Formal) → formal_at s i ≡ Ok f → (i < f.next) × (f.next ≤ length s)
  unfolding FormalIn
  formal_inside f q = subst (FormalIn s i) q (formal_in s i)

  -- the definition of a formal is never short of bytes
  pub formal_full : formal_at s i ≡ Err NoRoom → ⊥
  unfolding FormalIn
  formal_full q = subst (FormalIn s i) q (formal_in s i)

-- the formals with fuel to spare
module _ (s : List ℕ) where
  abbrev Alike : ℕ → ℕ → ℕ → Type 0
  Alike n k i = formals_from n s i ≡ formals_from k s i

  alike : (n k i : ℕ) (r : Result Formal ReadError) → formal_at s i ≡ r → ((f : Formal) → formal_at s i ≡ Ok f → Alike n k f.next) → Alike (suc n) (suc k) i
  unfolding formals_from
  alike n k i (Ok f) e g = rw (e, g f e)
  alike n k i (Err x) e g = rw e

  enough : (n k i : ℕ) → length s - i < n → length s - i < k → Alike n k i
  enough zero k i h g = absurd (omega arith)
  enough (suc n) zero i h g = absurd (omega arith)
  enough (suc n) (suc k) i h g =
      alike n k i (formal_at s i) refl
      (λ f e. let p = formal_inside s i f e in enough n k f.next (omega arith) (omega arith))

module _ (s : List ℕ) (i : ℕ) where
  pub formals_ill : formal_at s i ≡ Err IllFormed → formals_at s i ≡ ill
  unfolding formals_at formals_from
  formals_ill e = rw e

  pub formals_out : length s ≤ i → formals_at s i ≡ ill
  formals_out h = formals_ill (formal_out s i h)

  -- the formal at i, and those behind it
  pub formals_next : (f : Formal) → formal_at s i ≡ Ok f → formals_at s i ≡ also f (behind s f)
  unfolding formals_at formals_from behind
  formals_next f e =
      let p = formal_inside s i f e in
      rw e (ap (λ (r : Formals). also f (cond f.last (whole [] f.next) r)) (enough s (length s - i) (suc (length s - f.next)) f.next (omega arith) (omega arith)))

-- of a list that is whole: the formals behind its first
pub record Rest (s : List ℕ) (f : Formal) (fs : List Formal) (e : ℕ) : Type 0 where
  pub rest : List Formal
  pub first : fs ≡ f ∷ rest
  pub others : behind s f ≡ whole rest e

pub formals_rest : (s : List ℕ) (i : ℕ) (f : Formal) (fs : List Formal) (e : ℕ) → formal_at s i ≡ Ok f → formals_at s i ≡ whole fs e → Rest s f fs e
formals_rest s i f fs e q p = go (behind s f) refl
  where
    go : (r : Formals) → behind s f ≡ r → Rest s f fs e
    go ill b = let z : ◌≡◌ {A = Formals} ill (whole fs e) = rw b at (sym (formals_next s i f q) ∙ p) in absurd (let y : ◌≡◌ {A = ℕ} 0 1 = cc in omega arith)
    go (whole gs x) b =
        let z : ◌≡◌ {A = Formals} (whole (f ∷ gs) x) (whole fs e) = rw b at (sym (formals_next s i f q) ∙ p) in
        record { rest = gs; first = cc; others = let y : x ≡ e = cc in b ∙ ap (whole gs) y }

-- those behind a formal that is not the last
pub behind_last : (s : List ℕ) (f : Formal) → f.last ≡ true → behind s f ≡ whole [] f.next
unfolding behind
behind_last s f e = rw e

pub behind_more : (s : List ℕ) (f : Formal) → f.last ≡ false → behind s f ≡ formals_at s f.next
unfolding behind
behind_more s f e = rw e
