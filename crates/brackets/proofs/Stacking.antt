-- Closing brackets due, four in a byte: what a byte does in a default, and the step that a reader took.
-- Assumes nothing.
use Prim.Native.Nat.{ℕ, zero, suc, ◌+◌, ◌-◌, ◌*◌, ◌/◌, ◌%◌, ◌<◌, ◌≤◌}
use mathlib.Core.List.{List, [], ◌∷◌}
use mathlib.Core.Logic.{◌⊎◌, inl, inr}
use mathlib.Core.Path.{◌≡◌, refl, sym, ap, ◌∙◌, subst}
use native.Mathlib.Nat.{eq-or-lt_of_le, le_trans}
use native.Mathlib.Numerals.{add-one}
use native.Mathlib.Omega.{arith}
use lib.ListN.{length, get_or, set}
use lib.Seq.{get_or-set_same, get_or-set_other}
use borrow.Author.Tests.{eq-eqb, ne_eqb}
use Rattle.brackets.specs.Steps.{Step, on, done, torn, closing, ending_list, separating, step_of}
use Rattle.brackets.specs.Stacks.{weight, digit_of, bracket_of, level_of, stack_of, Full, SteppedBy}
use Rattle.brackets.specs.declared.Stepped.{Stepped}
use Rattle.brackets.specs.declared.Stepped.TheVariants as stepped
use Rattle.brackets.proofs.Digits.{digit_small, with_digit, digit_set, digit_kept}

-- the buffer with digit k at depth d
abbrev pub placed : List ℕ → ℕ → ℕ → List ℕ
placed w d k = set w (d / 4) (with_digit (get_or w (d / 4) 0) k (d % 4))

module _ (w : List ℕ) (d k : ℕ) (r : d / 4 < length w) where
  pub level_placed : k < 4 → level_of (placed w d k) d ≡ bracket_of k
  unfolding level_of
  level_placed h =
      ap (λ (a : ℕ). bracket_of (a / weight (d % 4) % 4)) (get_or-set_same w (d / 4) (with_digit (get_or w (d / 4) 0) k (d % 4)) 0 r)
      ∙ ap bracket_of (digit_set (get_or w (d / 4) 0) k (d % 4) h)

  -- those below the depth stay
  pub level_kept : (n : ℕ) → n < d → level_of (placed w d k) n ≡ level_of w n
  unfolding level_of
  level_kept n h = by (eq-or-lt_of_le (omega arith))
    where
      a : ℕ
      a = get_or w (d / 4) 0

      same : n / 4 ≡ d / 4 → level_of (placed w d k) n ≡ level_of w n
      same e =
          rw e
          (ap (λ (x : ℕ). bracket_of (x / weight (n % 4) % 4)) (get_or-set_same w (d / 4) (with_digit a k (d % 4)) 0 r)
          ∙ ap bracket_of (digit_kept a k (d % 4) (n % 4) (omega arith) (omega arith)))

      by : (n / 4 ≡ d / 4) ⊎ (n / 4 < d / 4) → level_of (placed w d k) n ≡ level_of w n
      by (inl e) = same e
      by (inr l) = rw (get_or-set_other w (d / 4) (n / 4) (with_digit (get_or w (d / 4) 0) k (d % 4)) 0 (λ e. omega arith))

  pub stack_kept : (n : ℕ) → n ≤ d → stack_of (placed w d k) n ≡ stack_of w n
  unfolding stack_of
  stack_kept zero h = refl
  stack_kept (suc n) h = rw (level_kept n h, stack_kept n (omega arith))

  pub stack_push : k < 4 → stack_of (placed w d k) (d + 1) ≡ bracket_of k ∷ stack_of w d
  unfolding stack_of
  stack_push h = rw (add-one d, level_placed h, stack_kept d (omega arith))

-- the bracket b, by the weight and the digit that were found
pub pushed : (w : List ℕ) (d b u k : ℕ) → d / 4 < length w → b ≡ bracket_of (digit_of b) → u ≡ weight (d % 4) → k ≡ digit_of b
    → on (b ∷ stack_of w d) ≡ on (stack_of (set w (d / 4) (get_or w (d / 4) 0 % u + k * u)) (d + 1))
pushed w d b u k r e eu ek =
    ap (λ (c : ℕ). on (c ∷ stack_of w d)) e
    ∙ ap on (sym (stack_push w d (digit_of b) r (digit_small b)))
    ∙ rw (eu, ek)

module _ (w : List ℕ) (n : ℕ) where
  pub stack_none : n ≡ 0 → stack_of w n ≡ []
  unfolding stack_of
  stack_none e = rw e

  pub stack_some : (n ≡ 0 → ⊥) → stack_of w n ≡ level_of w (n - 1) ∷ stack_of w (n - 1)
  unfolding stack_of
  stack_some h = let q : n ≡ suc (n - 1) = omega arith in ap (stack_of w) q

  module _ (b : ℕ) where
    -- a closing bracket
    pub close_none : n ≡ 0 → closing b (stack_of w n) ≡ torn
    close_none e = ap (closing b) (stack_none e)

    module _ (h : n ≡ 0 → ⊥) where
      pub close_due : level_of w (n - 1) ≡ b → closing b (stack_of w n) ≡ on (stack_of w (n - 1))
      close_due e = ap (closing b) (stack_some h) ∙ rw (eq-eqb b (level_of w (n - 1)) (sym e))

      pub close_other : (level_of w (n - 1) ≡ b → ⊥) → closing b (stack_of w n) ≡ torn
      close_other e = ap (closing b) (stack_some h) ∙ rw (ne_eqb b (level_of w (n - 1)) (λ q. e (sym q)))

    -- the byte b as a token of its own
    pub step_comma_ends : b ≡ 44 → n ≡ 0 → step_of b (stack_of w n) ≡ done
    unfolding step_of
    step_comma_ends e z = rw e (ap separating (stack_none z))

    pub step_comma : b ≡ 44 → (n ≡ 0 → ⊥) → step_of b (stack_of w n) ≡ on (stack_of w n)
    unfolding step_of
    step_comma e z = rw e (subst (λ (ks : List ℕ). separating ks ≡ on ks) (sym (stack_some z)) refl)

    pub step_ends : b ≡ 41 → n ≡ 0 → step_of b (stack_of w n) ≡ done
    unfolding step_of
    step_ends e z = rw e (ap ending_list (stack_none z))

    pub step_paren : b ≡ 41 → (n ≡ 0 → ⊥) → step_of b (stack_of w n) ≡ closing 41 (stack_of w n)
    unfolding step_of
    step_paren e z = rw e (subst (λ (ks : List ℕ). ending_list ks ≡ closing 41 ks) (sym (stack_some z)) refl)

-- no room is left at a greater depth
pub full_more : (w : List ℕ) (n m : ℕ) → Full w n → n ≤ m → Full w m
full_more w n m (inl h) l = inl (le_trans h l)
full_more w n m (inr h) l = inr (le_trans h l)

-- the step taken from depth n, told by its answer
module _ (r : Stepped) (p : Step) (w w' : List ℕ) (n : ℕ) (h : SteppedBy r p w w' n) where
  pub stepped_on : (d : ℕ) → r ≡ stepped.On d → (p ≡ on (stack_of w' d)) × (d ≤ n + 1) × (d ≤ 4 * length w)
  stepped_on d e = subst (λ (r : Stepped). SteppedBy r p w w' n) e h

  pub stepped_done : r ≡ stepped.Done → (p ≡ done) × (w' ≡ w)
  stepped_done e = subst (λ (r : Stepped). SteppedBy r p w w' n) e h

  pub stepped_torn : r ≡ stepped.Torn → (p ≡ torn) × (w' ≡ w)
  stepped_torn e = subst (λ (r : Stepped). SteppedBy r p w w' n) e h

  pub stepped_short : r ≡ stepped.Short → Full w n
  stepped_short e = subst (λ (r : Stepped). SteppedBy r p w w' n) e h
