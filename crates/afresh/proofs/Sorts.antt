-- What one class of bytes says of another, and tests joined.
-- Assumes nothing.
use Prim.Native.Nat.{ℕ, ◌≤◌}
use mathlib.Core.Bool.{Bool, true, false, ◌&&◌, ◌||◌}
use mathlib.Core.Path.{◌≡◌, refl, ap, sym, ◌∙◌}
use native.Mathlib.Omega.{arith}
use lib.Dec.{eqb, leb}
use borrow.Author.Tests.{leb-true, le-leb, eqb-true, ne_eqb}
use Rattle.lex.specs.Classes.{is_white, is_space, is_digit, is_start, is_run, is_sign, is_base, is_legal}
use Rattle.lex.proofs.Tests.{and_left, and_right, true_false}

pub or_true : (a : Bool) → (a || true) ≡ true
or_true true = refl
or_true false = refl

pub or_false : (a : Bool) → (a || false) ≡ a
or_false true = refl
or_false false = refl

pub and_false : (a : Bool) → (a && false) ≡ false
and_false true = refl
and_false false = refl

or_cases : {A : Type 0} (a b : Bool) → (a || b) ≡ true → (a ≡ true → A) → (b ≡ true → A) → A
or_cases true b e f g = f refl
or_cases false b e f g = g e

-- a byte that passes a test is none that fails it
pub apart : (p : ℕ → Bool) (x c : ℕ) → p x ≡ true → p c ≡ false → eqb x c ≡ false
apart p x c h k = ne_eqb x c (λ e. true_false (p c) (ap p (sym e) ∙ h) k)

unlike : (p : ℕ → Bool) (x c : ℕ) → p x ≡ false → p c ≡ true → eqb x c ≡ false
unlike p x c h k = ne_eqb x c (λ e. true_false (p c) k (ap p (sym e) ∙ h))

visible : (x : ℕ) → 32 ≤ x → x ≤ 126 → is_legal x ≡ true
visible x h g = rw (le-leb 32 x h, le-leb x 126 g) (or_true (is_space x))

between : (lo hi x : ℕ) → 32 ≤ lo → hi ≤ 126 → (leb lo x && leb x hi) ≡ true → is_legal x ≡ true
between lo hi x l u e =
    let p : lo ≤ x = leb-true lo x (and_left (leb lo x) (leb x hi) e) in
    let q : x ≤ hi = leb-true x hi (and_right (leb lo x) (leb x hi) e) in
    visible x (omega arith) (omega arith)

start_legal : (x : ℕ) → is_start x ≡ true → is_legal x ≡ true
start_legal x e =
    or_cases ((leb 65 x && leb x 90) || (leb 97 x && leb x 122)) (eqb x 95) e
    (λ d. or_cases (leb 65 x && leb x 90) (leb 97 x && leb x 122) d
    (between 65 90 x (omega arith) (omega arith)) (between 97 122 x (omega arith) (omega arith)))
    (λ d. ap is_legal (eqb-true x 95 d))

digit_legal : (x : ℕ) → is_digit x ≡ true → is_legal x ≡ true
digit_legal x e = between 48 57 x (omega arith) (omega arith) e

-- the bytes of a run are legal
pub run_legal : (more x : ℕ) → is_legal more ≡ true → is_run more x ≡ true → is_legal x ≡ true
run_legal more x l e =
    or_cases (is_start x) (is_digit x || eqb x more) e (start_legal x)
    (λ d. or_cases (is_digit x) (eqb x more) d (digit_legal x) (λ q. ap is_legal (eqb-true x more q) ∙ l))

pub space_legal : (x : ℕ) → is_space x ≡ true → is_legal x ≡ true
space_legal x e = rw e

pub start_white : (x : ℕ) → is_start x ≡ true → is_white x ≡ false
start_white x e = rw (apart is_start x 9 e refl, apart is_start x 12 e refl, apart is_start x 32 e refl)

pub sign_start : (x : ℕ) → is_sign x ≡ true → is_start x ≡ true
sign_start x e = or_cases (eqb x 115) (eqb x 83) e (λ d. ap is_start (eqb-true x 115 d)) (λ d. ap is_start (eqb-true x 83 d))

pub sign_base : (x : ℕ) → is_sign x ≡ true → is_base x ≡ false
sign_base x e = or_cases (eqb x 115) (eqb x 83) e (λ d. ap is_base (eqb-true x 115 d)) (λ d. ap is_base (eqb-true x 83 d))

pub base_start : (x : ℕ) → is_base x ≡ true → is_start x ≡ true
base_start x e = go (is_start x) refl
  where
    go : (b : Bool) → is_start x ≡ b → is_start x ≡ true
    go true p = p
    go false p =
        true_false (is_base x) e
        (rw (
          unlike is_start x 98 p refl,
          unlike is_start x 66 p refl,
          unlike is_start x 111 p refl,
          unlike is_start x 79 p refl,
          unlike is_start x 100 p refl,
          unlike is_start x 68 p refl,
          unlike is_start x 104 p refl,
          unlike is_start x 72 p refl,
        ))
