-- What every deed keeps of the macros: byte order, that each is one that a definition stores, and that they are at most 256.
-- Assumes nothing.
use Prim.Native.Nat.{ℕ, ◌≤◌}
use native.Mathlib.Omega.{arith}
use mathlib.Core.Bool.{true, cond, ◌&&◌}
use mathlib.Core.List.{List, [], ◌∷◌}
use mathlib.Core.Path.{◌≡◌, refl, ap}
use lib.Dec.{leb}
use lib.ListN.{length}
use borrow.Author.Tests.{leb-true}
use Rattle.lex.proofs.Tests.{by_test, and_left, and_right}
use Rattle.definition.specs.Definitions.{Macro, Definition, barred, bad, good, definition_at}
use Rattle.store.specs.Stores.{Ascending, find, define, undefine, encode, fits}
use Rattle.std.proofs.Common.{Result, Ok, Err}
use Rattle.store.proofs.Ordering.{define_ascends, undefine_ascends, undefine_length, undefine_missing}
use Rattle.genuine.specs.Fitness.{fit_macro, all_fit}
use Rattle.genuine.proofs.Fitting.{good_fit}
use Rattle.macros.specs.Looking.{plainly}
use Rattle.macros.specs.Defining.{macros_after}
use Rattle.macros.specs.Starting.{all_starts, started, starts_fit}
use Rattle.macros.specs.History.{Deed, defines, undefines, undefines_all, after, after_all}
use Rattle.macros.proofs.Each.{define_fit, undefine_fit}
use Rattle.macros.proofs.Started.{fit_starts, started_ascends, started_fit}

pub record Sound (ms : List Macro) : Type 0 where
  pub order : Ascending ms
  pub fit : all_fit ms ≡ true
  pub few : length ms ≤ 256

none_sound : Sound []
unfolding all_fit
none_sound = record { order = tt; fit = refl; few = omega arith }

pub fits_few : (records bytes : ℕ) (ms : List Macro) → fits records bytes ms ≡ true → length ms ≤ 256
unfolding fits
fits_few records bytes ms h =
    leb-true (length ms) 256 (and_left (leb (length ms) 256) (leb (length ms) records && leb (length (encode ms)) bytes) h)

pub undefine_few : (w : List ℕ) (ms : List Macro) → length (undefine w ms) ≤ length ms
undefine_few w ms = go (find w ms) refl
  where
    go : (f : Result ℕ ℕ) → find w ms ≡ f → length (undefine w ms) ≤ length ms
    go (Ok i) e = let l = undefine_length w ms e in omega arith
    go (Err i) e = let l = ap length (undefine_missing w ms e) in omega arith

module _ (records bytes : ℕ) where
  defined_sound : (m : Macro) (ms : List Macro) → fit_macro m ≡ true → Sound ms → Sound (cond (fits records bytes (define m ms)) (define m ms) ms)
  defined_sound m ms g h =
      by_test Sound (fits records bytes (define m ms))
      (λ e. record { order = define_ascends m ms h.order; fit = define_fit m ms g h.fit; few = fits_few records bytes (define m ms) e })
      (λ e. h)

  after_sound : (s : List ℕ) (i : ℕ) (ms : List Macro) (d : Definition) → definition_at s i ≡ d → Sound ms → Sound (macros_after records bytes ms d)
  after_sound s i ms (barred n p) e h = h
  after_sound s i ms (bad n) e h = h
  after_sound s i ms (good m n) e h = defined_sound m ms (good_fit s i m n e) h

  pub kept : (d : Deed) (ms : List Macro) → Sound ms → Sound (after records bytes d ms)
  kept (defines s i) ms h = after_sound s i ms (definition_at s i) refl h
  kept (undefines w) ms h =
      record {
        order = undefine_ascends (plainly w) ms h.order;
        fit = undefine_fit (plainly w) ms h.fit;
        few = omega (arith, undefine_few (plainly w) ms, h.few);
      }
  kept undefines_all ms h = none_sound

  pub all_kept : (ds : List Deed) (ms : List Macro) → Sound ms → Sound (after_all records bytes ds ms)
  unfolding after_all
  all_kept [] ms h = h
  all_kept (d ∷ ds) ms h = all_kept ds (after records bytes d ms) (kept d ms h)

  -- the start macros
  pub started_sound : (s : List ℕ) (vs : List (List ℕ)) → starts_fit records bytes s vs ≡ true → Sound (started s vs)
  unfolding starts_fit
  started_sound s vs h =
      let a : all_starts s vs ≡ true = fit_starts s records bytes vs h in
      record {
        order = started_ascends s vs;
        fit = started_fit s vs a;
        few = fits_few records bytes (started s vs) (and_right (all_starts s vs) (fits records bytes (started s vs)) h);
      }
