-- What the definitions choose by the quote marks, over a state.
-- Assumes nothing.
use Prim.Native.Nat.{ℕ}
use mathlib.Core.Bool.{true, false}
use mathlib.Core.List.{[], ◌∷◌}
use mathlib.Core.Path.{◌≡◌}
use borrow.Author.Tests.{eq-eqb, ne_eqb}
use Rattle.afresh.specs.States.{State, at, single, sign, slant, in_solid, in_slanted, in_twice, Slash, Solid, Bad}

module _ (q : State) (x : ℕ) where
  pub sign_marked : q.marks ≡ true → sign q x ≡ single q x
  unfolding sign
  sign_marked m = rw m

  module _ (m : q.marks ≡ false) where
    pub sign_slash : x ≡ 47 → sign q x ≡ at Slash q
    unfolding sign
    sign_slash e = rw (m, eq-eqb x 47 e)

    module _ (n : x ≡ 47 → ⊥) where
      pub sign_solid : x ≡ 92 → sign q x ≡ at Solid q
      unfolding sign
      sign_solid e = rw (m, ne_eqb x 47 n, eq-eqb x 92 e)

      pub sign_single : (x ≡ 92 → ⊥) → sign q x ≡ single q x
      unfolding sign
      sign_single e = rw (m, ne_eqb x 47 n, ne_eqb x 92 e)

  module _ (n : x ≡ 96 → ⊥) where
    pub slanted_bad : q.marks ≡ true → in_slanted q x ≡ at Bad q
    unfolding in_slanted
    slanted_bad m = rw (ne_eqb x 96 n, m)

    pub slanted_solid : q.marks ≡ false → in_slanted q x ≡ in_solid (slant [] q) x
    unfolding in_slanted
    slanted_solid m = rw (ne_eqb x 96 n, m)

  module _ (n : x ≡ 34 → ⊥) where
    pub twice_bad : q.marks ≡ true → in_twice q x ≡ at Bad q
    unfolding in_twice
    twice_bad m = rw (ne_eqb x 34 n, m)

    pub twice_solid : q.marks ≡ false → in_twice q x ≡ in_solid (slant (96 ∷ []) q) x
    unfolding in_twice
    twice_solid m = rw (ne_eqb x 34 n, m)
