-- What holds of each of a list; of each macro, after a definition, after an `undef` and of the start macros; that each is fit.
-- Assumes nothing.
use Prim.Native.Nat.{ℕ, zero, suc, ◌<◌}
use native.Mathlib.Nat.{not-suc-le-zero, le_of_suc-le-suc}
use mathlib.Core.Bool.{true}
use mathlib.Core.List.{List, [], ◌∷◌, ◌++◌}
use mathlib.Core.Path.{◌≡◌, refl}
use lib.ListN.{length, take, drop, get_or}
use Rattle.lex.proofs.Tests.{and_left, and_right}
use Rattle.definition.specs.Definitions.{Macro}
use Rattle.store.specs.Stores.{macro_name, find, define_by, define, undefine_by, undefine}
use Rattle.std.proofs.Common.{Result, Ok, Err}
use Rattle.genuine.specs.Fitness.{fit_macro, all_fit}
use Rattle.macros.specs.Starting.{empty_macro, range_of, started_from}

unfoldable pub Each : {A : Type 0} → (A → Type 0) → List A → Type 0
Each P [] = Unit {0}
Each P (a ∷ l) = P a × Each P l

module _ {A : Type 0} (P : A → Type 0) where
  pub each_none : Each P []
  unfolding Each
  each_none = tt

  pub each_with : (a : A) (l : List A) → P a → Each P l → Each P (a ∷ l)
  unfolding Each
  each_with a l h g = (h, g)

  pub each_append : (l k : List A) → Each P l → Each P k → Each P (l ++ k)
  unfolding Each
  each_append [] k h g = g
  each_append (a ∷ l) k h g = (h.0, each_append l k h.1 g)

  each_take : (n : ℕ) (l : List A) → Each P l → Each P (take n l)
  unfolding Each
  each_take zero l h = tt
  each_take (suc n) [] h = tt
  each_take (suc n) (a ∷ l) h = (h.0, each_take n l h.1)

  each_drop : (n : ℕ) (l : List A) → Each P l → Each P (drop n l)
  unfolding Each
  each_drop zero l h = h
  each_drop (suc n) [] h = tt
  each_drop (suc n) (a ∷ l) h = each_drop n l h.1

  pub each_get : (l : List A) (n : ℕ) (d : A) → Each P l → P d → P (get_or l n d)
  unfolding Each
  each_get [] n d h g = g
  each_get (a ∷ l) zero d h g = h.0
  each_get (a ∷ l) (suc n) d h g = each_get l n d h.1 g

  pub each_at : (l : List A) (n : ℕ) (d : A) → n < length l → Each P l → P (get_or l n d)
  unfolding Each
  each_at [] n d k h = absurd (not-suc-le-zero k)
  each_at (a ∷ l) zero d k h = h.0
  each_at (a ∷ l) (suc n) d k h = each_at l n d (le_of_suc-le-suc k) h.1

-- what follows for each
pub each_so : {A : Type 0} (P Q : A → Type 0) → ((a : A) → P a → Q a) → (l : List A) → Each P l → Each Q l
unfolding Each
each_so P Q f [] h = tt
each_so P Q f (a ∷ l) h = (f a h.0, each_so P Q f l h.1)

-- ---- macros

module _ (P : Macro → Type 0) where
  define-by : (f : Result ℕ ℕ) (m : Macro) (ms : List Macro) → P m → Each P ms → Each P (define_by f m ms)
  define-by (Ok i) m ms g h =
      each_append P (take i ms) (m ∷ drop (suc i) ms) (each_take P i ms h) (each_with P m (drop (suc i) ms) g (each_drop P (suc i) ms h))
  define-by (Err i) m ms g h =
      each_append P (take i ms) (m ∷ drop i ms) (each_take P i ms h) (each_with P m (drop i ms) g (each_drop P i ms h))

  pub each_define : (m : Macro) (ms : List Macro) → P m → Each P ms → Each P (define m ms)
  unfolding define
  each_define m ms g h = define-by (find (macro_name m) ms) m ms g h

  undefine-by : (f : Result ℕ ℕ) (ms : List Macro) → Each P ms → Each P (undefine_by f ms)
  undefine-by (Ok i) ms h = each_append P (take i ms) (drop (suc i) ms) (each_take P i ms h) (each_drop P (suc i) ms h)
  undefine-by (Err i) ms h = h

  pub each_undefine : (w : List ℕ) (ms : List Macro) → Each P ms → Each P (undefine w ms)
  unfolding undefine
  each_undefine w ms h = undefine-by (find w ms) ms h

  pub each_started : ((w : List ℕ) → P (empty_macro w)) → (s : List ℕ) (vs : List (List ℕ)) (ms : List Macro) → Each P ms → Each P (started_from s vs ms)
  unfolding started_from
  each_started e s [] ms h = h
  each_started e s (v ∷ vs) ms h =
      let m = empty_macro (range_of s v) in each_started e s vs (define m ms) (each_define m ms (e (range_of s v)) h)

-- ---- fit macros

abbrev pub Fit : Macro → Type 0
Fit m = fit_macro m ≡ true

pub fit_each : (ms : List Macro) → all_fit ms ≡ true → Each Fit ms
unfolding Each all_fit
fit_each [] h = tt
fit_each (m ∷ ms) h = (and_left (fit_macro m) (all_fit ms) h, fit_each ms (and_right (fit_macro m) (all_fit ms) h))

pub each_fit : (ms : List Macro) → Each Fit ms → all_fit ms ≡ true
unfolding Each all_fit
each_fit [] h = refl
each_fit (m ∷ ms) h = rw h.0 (each_fit ms h.1)

pub define_fit : (m : Macro) (ms : List Macro) → fit_macro m ≡ true → all_fit ms ≡ true → all_fit (define m ms) ≡ true
define_fit m ms g h = each_fit (define m ms) (each_define Fit m ms g (fit_each ms h))

pub undefine_fit : (w : List ℕ) (ms : List Macro) → all_fit ms ≡ true → all_fit (undefine w ms) ≡ true
undefine_fit w ms h = each_fit (undefine w ms) (each_undefine Fit w ms (fit_each ms h))
