-- A stored text or default that fits: trimmed, not unfit and so not bad, and stored as it is with a space behind it.
-- Assumes nothing.
use Prim.Native.Nat.{ℕ}
use mathlib.Core.Bool.{Bool, true, false, cond, not, ◌||◌}
use mathlib.Core.List.{List, [], ◌∷◌, ◌++◌}
use mathlib.Core.Path.{◌≡◌, refl, ap}
use borrow.Author.Tests.{not-true}
use Rattle.text.proofs.Matching.{same_equal}
use Rattle.lex.specs.Classes.{is_space}
use Rattle.lex.specs.Tokens.{in_file, in_text, marks_after, tokens}
use Rattle.lex.specs.declared.Token.{Token}
use Rattle.lex.proofs.Tests.{and_left, and_right, true_false}
use Rattle.brackets.specs.Steps.{Step, on, done, torn}
use Rattle.storing.specs.Stored.{keep, trim_left, trim_right}
use Rattle.afresh.specs.Judging.{is_barred, barred_grave, bad_in, bad_text, barred_in, bad_default}
use Rattle.afresh.specs.Unfit.{is_accented, held_by, unless, is_stray, unfit_in, unfit_text, unfit_held, unfit_default, is_unfit_as}
use Rattle.genuine.specs.Fitness.{is_trimmed, fit_stored}

-- what fits as a stored text or default is trimmed and not unfit
pub record Kept (text : Bool) (w : List ℕ) : Type 0 where
  pub trimmed : trim_right (trim_left w) ≡ w
  pub fit : is_unfit_as text w ≡ false

pub kept : (text : Bool) (w : List ℕ) → fit_stored text w ≡ true → Kept text w
unfolding fit_stored
kept text w h =
    record {
      trimmed = same_equal (trim_right (trim_left w)) w (and_left (is_trimmed w) (not (is_unfit_as text w)) h);
      fit = not-true (is_unfit_as text w) (and_right (is_trimmed w) (not (is_unfit_as text w)) h);
    }

-- what is not unfit is not bad
less : (a b c : Bool) {p q : Bool} → cond ((a || b) || c) true p ≡ false → (p ≡ false → q ≡ false) → cond (a || c) true q ≡ false
less true b c e f = e
less false true c e f = true_false true refl e
less false false true e f = e
less false false false e f = f e

text_good : (w : List ℕ) (odd : Bool) (ts : List Token) → unfit_in w odd ts ≡ false → bad_in w odd ts ≡ false
unfolding unfit_in bad_in
text_good w odd [] e = e
text_good w odd (t ∷ ts) e = less (is_barred t) (is_stray w odd t) (barred_grave w t) e (text_good w (marks_after odd t) ts)

pub fit_text : (w : List ℕ) → unfit_text w ≡ false → bad_text w ≡ false
unfolding unfit_text bad_text
fit_text w e = text_good w false (tokens in_text w 0) e

default_good : (w ks : List ℕ) (ts : List Token) → unfit_held w ks ts ≡ false → barred_in ts ≡ false
unfolding unfit_held barred_in
default_good w ks [] e = refl
default_good w ks (t ∷ ts) e = go (is_barred t) (is_stray w false t) (is_accented w t) (held_by w t ks) e (λ js. default_good w js ts)
  where
    go : (a b c : Bool) (k : Step) → cond ((a || b) || c) true (unless k (λ js. unfit_held w js ts)) ≡ false → ((js : List ℕ) → unfit_held w js ts ≡ false → barred_in ts ≡ false)
        → cond a true (barred_in ts) ≡ false
    go true b c k e f = e
    go false true c k e f = true_false true refl e
    go false false true k e f = true_false true refl e
    go false false false (on js) e f = f js e
    go false false false done e f = true_false true refl e
    go false false false torn e f = true_false true refl e

pub fit-default : (w : List ℕ) → unfit_default w ≡ false → bad_default w ≡ false
unfolding unfit_default bad_default
fit-default w e = default_good w [] (tokens in_file w 0) e

right_behind : (w : List ℕ) → trim_right (w ++ (32 ∷ [])) ≡ trim_right w
unfolding trim_right
right_behind [] = refl
right_behind (x ∷ w) = ap (keep x) (right_behind w)

-- a space behind
pub trim_behind : (w : List ℕ) → trim_right (trim_left (w ++ (32 ∷ []))) ≡ trim_right (trim_left w)
unfolding trim_left trim_right
trim_behind [] = refl
trim_behind (x ∷ w) = go (is_space x) (trim_behind w)
  where
    go : (b : Bool) → trim_right (trim_left (w ++ (32 ∷ []))) ≡ trim_right (trim_left w)
        → trim_right (cond b (trim_left (w ++ (32 ∷ []))) (x ∷ (w ++ (32 ∷ [])))) ≡ trim_right (cond b (trim_left w) (x ∷ w))
    go true h = h
    go false h = ap (keep x) (right_behind w)
