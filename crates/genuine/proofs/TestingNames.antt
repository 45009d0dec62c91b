-- Whether a macro or a formal can have a name, test by test.
-- Assumes nothing.
use Prim.Native.Nat.{ℕ, zero, suc, ◌<◌}
use mathlib.Core.Bool.{Bool, true, false, not, ◌&&◌}
use mathlib.Core.List.{List, [], ◌∷◌}
use mathlib.Core.Path.{◌≡◌, refl}
use native.Mathlib.Nat.{not-suc-le-zero}
use native.Mathlib.Omega.{arith}
use lib.Dec.{eqb, ltb}
use lib.ListN.{length, drop, get_or}
use borrow.Author.Tests.{lt-ltb, ne_eqb}
use Rattle.lex.specs.Classes.{is_start}
use Rattle.names.specs.Names.{directive_of}
use Rattle.genuine.specs.Fitness.{is_short, all_solid, fit_name, all_run, is_plain, fit_formal}
use Rattle.genuine.proofs.Testing.{no, yes}

zero_told : (n : ℕ) → eqb n 0 ≡ not (ltb 0 n)
zero_told zero = refl
zero_told (suc n) = rw (ne_eqb (suc n) 0 (λ e. omega arith), lt-ltb 0 (suc n) (omega arith))

short_some : (w : List ℕ) → is_short w ≡ true → 0 < length w
short_some [] e = absurd (let z : ◌≡◌ {A = ℕ} 0 1 = cc in omega arith)
short_some (x ∷ xs) e = omega arith

plain_at : (w : List ℕ) → 0 < length w → is_plain w ≡ (is_start (get_or w 0 0) && all_run (drop 1 w))
plain_at [] h = absurd (not-suc-le-zero h)
plain_at (x ∷ xs) h = refl

module _ (w : List ℕ) {a : Bool} (s : a ≡ is_short w) where
  pub name_long : not a ≡ true → false ≡ fit_name w
  unfolding fit_name
  name_long n = rw (no s n)

  pub formal_long : not a ≡ true → false ≡ fit_formal w
  unfolding fit_formal
  formal_long n = rw (no s n)

  module _ (y : not a ≡ false) where
    module _ {b : Bool} (t : b ≡ all_solid w) where
      pub name_torn : not b ≡ true → false ≡ fit_name w
      unfolding fit_name
      name_torn n = rw (yes s y, no t n)

      pub name_by : not b ≡ false → {k : ℕ} → k ≡ directive_of w → eqb k 0 ≡ fit_name w
      unfolding fit_name
      name_by z {k} e = rw (yes s y, yes t z, ← e) (zero_told k)

    pub formal_some : 0 < length w
    formal_some = short_some w (yes s y)

    module _ {b : Bool} (t : b ≡ is_start (get_or w 0 0)) where
      pub formal_torn : not b ≡ true → false ≡ fit_formal w
      unfolding fit_formal
      formal_torn n = rw (yes s y, plain_at w formal_some, no t n)

      pub formal-by : not b ≡ false → {r : Bool} → r ≡ all_run (drop 1 w) → r ≡ fit_formal w
      unfolding fit_formal
      formal-by z e = rw (yes s y, plain_at w formal_some, yes t z) e
