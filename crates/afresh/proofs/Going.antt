-- A reading from a state on, and its next byte: what makes it bad at once, and what two states do alike.
-- Assumes nothing.
use Prim.Native.Nat.{ℕ}
use mathlib.Core.Bool.{Bool, true, false, not, ◌&&◌, ◌||◌}
use mathlib.Core.List.{List, [], ◌∷◌}
use mathlib.Core.Path.{◌≡◌, refl, ap, sym, ◌∙◌}
use lib.Dec.{eqb}
use Rattle.lex.specs.Classes.{is_legal}
use Rattle.lex.proofs.Tests.{by_test}
use Rattle.names.specs.Names.{bars_text}
use Rattle.brackets.specs.Steps.{Step, on, done, torn, step_of}
use Rattle.afresh.specs.Unfit.{is_open}
use Rattle.afresh.specs.States.{Start, Bad, State, state, is_string, by_bracket, sign, fresh, closed, in_short, in_marked, outside, next, reading, leaves, ended}
use Rattle.afresh.proofs.Sorts.{or_true, and_false}

-- what a reading holds between two tokens: of a text, whether it stands between quote marks; of a default, the brackets due
pub data Hold : Type 0 where
  quoted : Bool → Hold
  under : List ℕ → Hold

abbrev pub is_text : Hold → Bool
is_text (quoted b) = true
is_text (under ks) = false

abbrev pub marks_of : Hold → Bool
marks_of (quoted b) = b
marks_of (under ks) = false

abbrev pub due_of : Hold → List ℕ
due_of (quoted b) = []
due_of (under ks) = ks

abbrev pub standing : ℕ → Hold → Bool → List ℕ → State
standing k h g n = state k (is_text h) (marks_of h) g n (due_of h)

-- in a state without a name
abbrev pub bare : ℕ → Hold → State
bare k h = standing k h false []

abbrev pub start : Hold → State
start h = bare Start h

-- what comes of the bytes xs from a state on
abbrev pub verdict : State → List ℕ → Bool
verdict q xs = ended (reading q xs)

-- a byte that is bad outside strings, wherever it stands
abbrev pub is_barred : Hold → ℕ → Bool
is_barred h x = not (is_legal x) || (not (is_text h) && eqb x 96)

-- whether a name, behind a grave accent or not, is bad
abbrev pub spoils : Bool → List ℕ → Bool
spoils g n = g && (not (is_open n) || bars_text n)

bracket_alike : (k : ℕ) (g : Bool) (n ks : List ℕ) (s : Step) → by_bracket (standing k (under ks) g n) s ≡ by_bracket (start (under ks)) s
bracket_alike k g n ks (on js) = refl
bracket_alike k g n ks done = refl
bracket_alike k g n ks torn = refl

-- the first byte of a token is read alike, whatever stood before it
pub fresh_alike : (h : Hold) (k : ℕ) (g : Bool) (n : List ℕ) (x : ℕ) → fresh (standing k h g n) x ≡ outside (start h) x
unfolding fresh sign outside
fresh_alike (quoted b) k g n x = refl
fresh_alike (under ks) k g n x = rw (bracket_alike k g n ks (step_of x ks))

-- by its next state
pub goes : (q r : State) (x : ℕ) (xs : List ℕ) → next q x ≡ r → verdict q (x ∷ xs) ≡ verdict r xs
unfolding reading
goes q r x xs e = ap (λ (p : State). verdict p xs) e

module _ (h : Hold) where
  stays : (x : ℕ) → next (bare Bad h) x ≡ bare Bad h
  unfolding next outside in_short in_marked
  stays x =
      by_test (λ (q : State). q ≡ bare Bad h) (not (is_legal x)) (λ e. refl)
      (λ e. by_test (λ (q : State). q ≡ bare Bad h) (not (is_text h) && eqb x 96) (λ d. refl) (λ d. refl))

  -- what is bad stays bad
  pub bad_stays : (xs : List ℕ) → verdict (bare Bad h) xs ≡ true
  unfolding reading ended leaves
  bad_stays [] = rw (or_true (is_open (due_of h))) (or_true (marks_of h))
  bad_stays (x ∷ xs) = goes (bare Bad h) (bare Bad h) x xs (stays x) ∙ bad_stays xs

  module _ (k : ℕ) (g : Bool) (n : List ℕ) (s : is_string (standing k h g n) ≡ false) (x : ℕ) where
    pub barred : is_barred h x ≡ true → next (standing k h g n) x ≡ bare Bad h
    unfolding next
    barred e = go (is_legal x) (not (is_text h) && eqb x 96) refl refl e
      where
        go : (a b : Bool) → is_legal x ≡ a → (not (is_text h) && eqb x 96) ≡ b → (not a || b) ≡ true → next (standing k h g n) x ≡ bare Bad h
        go true true p q e = rw (p, s, q)
        go true false p q e = cc
        go false b p q e = rw p

    pub passed : is_barred h x ≡ false → next (standing k h g n) x ≡ outside (standing k h g n) x
    unfolding next
    passed e = go (is_legal x) (not (is_text h) && eqb x 96) refl refl e
      where
        go : (a b : Bool) → is_legal x ≡ a → (not (is_text h) && eqb x 96) ≡ b → (not a || b) ≡ false → next (standing k h g n) x ≡ outside (standing k h g n) x
        go true true p q e = cc
        go true false p q e = rw (p, s, q)
        go false b p q e = cc

  -- two states that go on alike outside strings go on alike
  pub alike : (k j : ℕ) (g f : Bool) (n m : List ℕ) → is_string (standing k h g n) ≡ false → is_string (standing j h f m) ≡ false
      → (x : ℕ) (xs : List ℕ) → outside (standing k h g n) x ≡ outside (standing j h f m) x
      → verdict (standing k h g n) (x ∷ xs) ≡ verdict (standing j h f m) (x ∷ xs)
  unfolding reading next
  alike k j g f n m s t x xs e = rw (s, t, e)

  -- a byte that a state takes as bad
  pub spoilt_next : (k : ℕ) (g : Bool) (n : List ℕ) → is_string (standing k h g n) ≡ false
      → (x : ℕ) (xs : List ℕ) → outside (standing k h g n) x ≡ bare Bad h → verdict (standing k h g n) (x ∷ xs) ≡ true
  spoilt_next k g n s x xs e = go (is_barred h x) refl
    where
      go : (b : Bool) → is_barred h x ≡ b → verdict (standing k h g n) (x ∷ xs) ≡ true
      go true p = goes (standing k h g n) (bare Bad h) x xs (barred k g n s x p) ∙ bad_stays xs
      go false p = goes (standing k h g n) (bare Bad h) x xs (passed k g n s x p ∙ e) ∙ bad_stays xs

  pub clear : (x : ℕ) → is_legal x ≡ true → eqb x 96 ≡ false → is_barred h x ≡ false
  clear x l e = rw (l, e) (and_false (not (is_text h)))

  -- where a name is whole and the next byte begins a token
  pub closes : (k j : ℕ) (g : Bool) (n m : List ℕ) → is_string (standing k h g n) ≡ false
      → (x : ℕ) (xs : List ℕ) → outside (standing k h g n) x ≡ closed (standing j h g m) x
      → verdict (standing k h g n) (x ∷ xs) ≡ (spoils g m || verdict (start h) (x ∷ xs))
  unfolding closed
  closes k j g n m s x xs e = go (is_barred h x) (spoils g m) refl refl
    where
      go : (a b : Bool) → is_barred h x ≡ a → spoils g m ≡ b → verdict (standing k h g n) (x ∷ xs) ≡ (b || verdict (start h) (x ∷ xs))
      go true b p q =
          goes (standing k h g n) (bare Bad h) x xs (barred k g n s x p) ∙ (bad_stays xs
          ∙ sym (ap (λ (c : Bool). b || c) (goes (start h) (bare Bad h) x xs (barred Start false [] refl x p) ∙ bad_stays xs) ∙ or_true b))
      go false true p q = goes (standing k h g n) (bare Bad h) x xs (passed k g n s x p ∙ (e ∙ rw q)) ∙ bad_stays xs
      go false false p q =
          goes (standing k h g n) (outside (start h) x) x xs (passed k g n s x p ∙ (e ∙ rw q (fresh_alike h j g m x)))
          ∙ sym (goes (start h) (outside (start h) x) x xs (passed Start false [] refl x p))
